-- `splitting::any_out` meets its contract.
use Prim.Native.Nat.{ℕ, ◌+◌}
use mathlib.Core.Bool.{true, not, ◌&&◌}
use mathlib.Core.List.{List, [], ◌∷◌}
use mathlib.Core.Path.{◌≡◌, ◌∙◌}
use native.Mathlib.Omega.{arith}
use lib.Dec.{eqb, ltb}
use lib.ListN.{length, get_or}
use lib.Pointwise.{pointwise}
use borrow.Author.Rules.{rules}
use Rattle.std.specs.Prelude.{nat_eq}
use Rattle.std.proofs.lemmas.Bool.Decides.{nat_tests}
use Rattle.buffer.specs.Range.{sum}
use Rattle.splitting.proofs.any_out.Goals as goal

any_of : (a b c d : ℕ) → not (nat_eq a 0 && (nat_eq b 0 && (nat_eq c 0 && (nat_eq d 0 && true)))) ≡ ltb 0 (0 + a + b + c + d)
any_of a b c d = grind (arith, nat_tests)

any_is : (outs : List ℕ) → length outs ≡ 4 → not (pointwise nat_eq outs (0 ∷ 0 ∷ 0 ∷ 0 ∷ [])) ≡ ltb 0 (sum 4 (λ g. get_or outs g 0))
unfolding sum
any_is (a ∷ b ∷ c ∷ d ∷ []) e = any_of a b c d
any_is [] e = absurd (omega (arith, e))
any_is (a ∷ []) e = absurd (omega (arith, e))
any_is (a ∷ b ∷ []) e = absurd (omega (arith, e))
any_is (a ∷ b ∷ c ∷ []) e = absurd (omega (arith, e))
any_is (a ∷ b ∷ c ∷ d ∷ x ∷ l) e = absurd (omega (arith, e))

pub returns : goal.returns
returns c =
    let long : length c.args.outs ≡ 4 = search (rules, c.well_formed) in
    c.ne.ensures ∙ any_is c.args.outs long
