-- `code::all_within` meets its contract: the test of each entry is that of `within`.
use mathlib.Core.Bool.{Bool, ◌&&◌}
use mathlib.Core.List.{List, [], ◌∷◌}
use mathlib.Core.Path.{◌≡◌, refl, ap, ◌∙◌}
use Prim.Native.Nat.{ℕ}
use lib.Dec.{leb}
use Rattle.std.proofs.Common.{rules, tests}
use Rattle.std.proofs.lemmas.Iterator.{YieldsList-from_slice}
use Rattle.std.proofs.lemmas.Iterator.Search.{all_from_yields_List}
use Rattle.std.specs.List.{list_all}
use Rattle.code.specs.Matrix.{within}
use Rattle.code.proofs.all_within.Goals as goal

within_all : (n : ℕ) (l : List ℕ) → list_all (λ x. leb x n) l ≡ within n l
within_all n [] = refl
within_all n (x ∷ l) = ap (λ (b : Bool). leb x n && b) (within_all n l)

pub returns : goal.returns
returns c =
    all_from_yields_List (λ x. leb x c.args.n) _ _ c.all.result c.all.ensures.ran (YieldsList-from_slice c.args.a cc) (λ x b q k. search (rules, tests))
    ∙ within_all c.args.n c.args.a
