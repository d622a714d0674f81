-- The states of check units in the bytes, and the three check places of a group.
use Rattle.std.specs.Prelude.{ℕ, ◌+◌, ◌*◌, ◌/◌, ◌%◌, ◌<◌, ◌≡◌, refl, Bool, true, false, ◌||◌, List, eqb}
use Rattle.std.proofs.Common.{sym, ap, ◌∙◌, arith, eq-eqb, ne_eqb, eqb-true}
use Rattle.std.proofs.lemmas.Bool.{eqb-false}
use Rattle.buffer.specs.Choice.{pick}
use Rattle.buffer.specs.ChoiceLaws.{by-pick, pick_true, pick-false}
use Rattle.buffer.specs.Bytes.{byte}
use Rattle.model.specs.Layout.{view}
use Rattle.encoding.specs.Made.{is_unit, in_group}

pub state_of : (s : List ℕ) (c : ℕ) → byte s (24 + c) ≡ (view s).cstate c
unfolding view
state_of s c = refl

-- by place, and all three
pub by_place : {A : Type 0} (c g : ℕ) (a : ℕ → A) (y : A)
    → pick (eqb c (3 * g + 2)) (a 2) (pick (eqb c (3 * g + 1)) (a 1) (pick (eqb c (3 * g)) (a 0) y)) ≡ pick (eqb (c / 3) g) (a (c % 3)) y
by_place c g a y =
    by-pick (λ x. x ≡ pick (eqb (c / 3) g) (a (c % 3)) y) (eqb c (3 * g + 2)) _ _ (λ e. at 2 (omega arith) (eqb-true c (3 * g + 2) e)) (λ e2.
    by-pick (λ x. x ≡ pick (eqb (c / 3) g) (a (c % 3)) y) (eqb c (3 * g + 1)) _ _ (λ e. at 1 (omega arith) (eqb-true c (3 * g + 1) e)) (λ e1.
    by-pick (λ x. x ≡ pick (eqb (c / 3) g) (a (c % 3)) y) (eqb c (3 * g)) _ _ (λ e. let h = eqb-true c (3 * g) e in at 0 (omega arith) (omega arith)) (λ e0.
    sym (pick-false (ne_eqb (c / 3) g (λ d. none d (eqb-false c (3 * g) e0) (eqb-false c (3 * g + 1) e1) (eqb-false c (3 * g + 2) e2))) (a (c % 3)) y))))
  where
    at : (j : ℕ) → j < 3 → c ≡ 3 * g + j → a j ≡ pick (eqb (c / 3) g) (a (c % 3)) y
    at j l e =
        let place : c % 3 ≡ j = omega arith in
        let group : c / 3 ≡ g = omega arith in
        sym (pick_true (eq-eqb (c / 3) g group) (a (c % 3)) y ∙ ap a place)

    none : c / 3 ≡ g → (c ≡ 3 * g → ⊥) → (c ≡ 3 * g + 1 → ⊥) → (c ≡ 3 * g + 2 → ⊥) → ⊥
    none d n0 n1 n2 = omega arith

-- the tests of the three places together are that of the group
pub three_places : (g c : ℕ) → (is_unit (3 * g) c || is_unit (3 * g + 1) c || is_unit (3 * g + 2) c) ≡ in_group g c
unfolding pick
three_places g c = go (eqb c (3 * g)) (eqb c (3 * g + 1)) (eqb c (3 * g + 2)) (eqb (c / 3) g) (by_place c g (λ _. true) false)
  where
    go : (x y z w : Bool) → pick z true (pick y true (pick x true false)) ≡ pick w true false → (x || y || z) ≡ w
    go true true true true e = refl
    go true true true false e = e
    go true true false true e = refl
    go true true false false e = e
    go true false true true e = refl
    go true false true false e = e
    go true false false true e = refl
    go true false false false e = e
    go false true true true e = refl
    go false true true false e = e
    go false true false true e = refl
    go false true false false e = e
    go false false true true e = refl
    go false false true false e = e
    go false false false true e = e
    go false false false false e = refl
