-- `code::rebuild` meets its contract: refused where the test fails, else the data that the weights give.
use mathlib.Core.Path.{sym, subst, ◌∙◌}
use mathlib.Core.List.{List}
use Prim.Native.Nat.{ℕ}
use Rattle.code.specs.Matrix.{Rebuilds}
use Rattle.code.proofs.Rebuilding.{refuses, grants}
use borrow.Author.Rules.{rules}
use Rattle.code.proofs.rebuild.Goals as goal

pub returns-then-not-acceptable : goal.returns-then-not-acceptable
returns-then-not-acceptable c =
    refuses c.args.columns c.args.symbols (sym c.acceptable.ensures ∙ c.if-not-acceptable.true)

pub solve-requires : goal.solve-requires
solve-requires c =
    sym c.acceptable.ensures ∙ c.if-not-acceptable.false

pub returns : goal.returns
returns c =
    subst (λ (l : List ℕ). Rebuilds c.args.columns c.args.symbols 0 l) (sym c.solve.ensures)
    (grants c.args.columns c.args.symbols (search rules) (search rules)
    (sym c.acceptable.ensures ∙ c.if-not-acceptable.false))
