-- `soundness::states::unfit` meets its contract.
use Prim.Native.Nat.{ℕ, ◌+◌, ◌/◌}
use mathlib.Core.Bool.{true, ◌||◌}
use mathlib.Core.Path.{◌≡◌, refl, ap, ◌∙◌}
use native.Mathlib.Omega.{arith}
use lib.Dec.{eqb}
use borrow.Author.Tests.{eqb-true, eqb-false, eq-eqb}
use Rattle.buffer.specs.Choice.{pick}
use Rattle.buffer.specs.ChoiceLaws.{by-test}
use Rattle.buffer.specs.TestLaws.{same_test}
use Rattle.model.specs.Sound.{state_fits}
use Rattle.soundness.proofs.Joined.{xor_same}
use Rattle.soundness.proofs.states.unfit.Goals as goal

-- half of a state and one is 1 for the two states of a unit in place, and 0 for the one of a unit that is not
half_one : (x : ℕ) → eqb ((x + 1) / 2) 1 ≡ (eqb x 1 || eqb x 2)
half_one x =
    same_test (eqb ((x + 1) / 2) 1) (eqb x 1 || eqb x 2)
    (λ h.
    let e : (x + 1) / 2 ≡ 1 = eqb-true ((x + 1) / 2) 1 h in
    by-test (λ t. (t || eqb x 2) ≡ true) (eqb x 1) (λ _. refl) (λ n. let d : x ≡ 1 → ⊥ = eqb-false x 1 n in eq-eqb x 2 (omega arith)))
    (λ h.
    by-test (λ t. (t || eqb x 2) ≡ true → eqb ((x + 1) / 2) 1 ≡ true) (eqb x 1)
    (λ y _. let e : x ≡ 1 = eqb-true x 1 y in eq-eqb ((x + 1) / 2) 1 (omega arith))
    (λ _ z. let e : x ≡ 2 = eqb-true x 2 z in eq-eqb ((x + 1) / 2) 1 (omega arith))
    h)

half_none : (x : ℕ) → eqb ((x + 1) / 2) 0 ≡ eqb x 0
half_none x =
    same_test (eqb ((x + 1) / 2) 0) (eqb x 0)
    (λ h. let e : (x + 1) / 2 ≡ 0 = eqb-true ((x + 1) / 2) 0 h in eq-eqb x 0 (omega arith))
    (λ h. let e : x ≡ 0 = eqb-true x 0 h in eq-eqb ((x + 1) / 2) 0 (omega arith))

pub returns-then-placed : goal.returns-then-placed
unfolding state_fits pick
returns-then-placed c =
    let half : ℕ → ℕ = λ x. (x + 1) / 2 in
    rw c.if-placed.true (xor_same (half c.from.result) 1 ∙ ap (λ x. eqb (half x) 1) c.from.ensures ∙ half_one c.args.x)

pub returns : goal.returns
unfolding state_fits pick
returns c =
    rw c.if-placed.false (ap (λ (x : ℕ). eqb ((x + 1) / 2) 0) c.from.ensures ∙ half_none c.args.x)
