-- `field::inv` meets its contract: the table is the list of the inverses, which the prover computes.
use mathlib.Core.Path.{ap, ◌∙◌, sym, subst}
use Prim.Native.Nat.{ℕ, ◌<◌}
use lib.Dec.{ltb→lt}
use Rattle.algebra.specs.BinaryLaws.{inverse_low}
use Rattle.field.specs.Gf16Laws.{tested}
use native.Mathlib.Nat.{zero-add}
use borrow.Author.Rules.{rules}
use Rattle.algebra.specs.Binary.{times, remainder, product_in}
use Rattle.algebra.specs.BinaryTested.{inverse_in, squares}
use Rattle.field.specs.Inverse.{inverse}
use Rattle.algebra.specs.Every.{values, values_at}
use Rattle.field.proofs.inv.Goals as goal

pub returns : goal.returns
unfolding values product_in remainder times inverse_in squares
returns c =
    let e = values_at 16 0 inverse c.from.result (search rules) ∙ ap inverse (zero-add c.from.result ∙ c.from.ensures) in
    (e, subst (λ (n : ℕ). n < 16) (sym e) (ltb→lt (inverse c.args.a) 16 (inverse_low tested c.args.a (search rules))))
