-- Check units added group by group, and the level raised.
use Prim.Native.Nat.{ℕ, ◌+◌, ◌*◌, ◌/◌, ◌%◌, ◌≤◌, ◌<◌}
use mathlib.Core.Path.{◌≡◌, refl, sym, ap, ◌∙◌}
use mathlib.Core.List.{List}
use mathlib.Core.Bool.{Bool, true, false, ◌&&◌, ◌||◌}
use native.Mathlib.Omega.{arith}
use native.Mathlib.Numerals.{add-one}
use lib.Dec.{eqb, ltb}
use lib.ListN.{set}
use borrow.Author.Tests.{eq-eqb, eqb-true, ltb-true, ltb-false, lt-ltb, le-ltb}
use Rattle.buffer.specs.Choice.{pick}
use Rattle.buffer.specs.ChoiceLaws.{by-test, pick-false, pick-or}
use Rattle.buffer.specs.TestLaws.{not-both, same_test, and-true, and_first, and_second, and_false_first, or_else, or_other}
use Rattle.buffer.specs.Bytes.{byte}
use Rattle.buffer.specs.Table.{upd}
use Rattle.model.specs.Layout.{Store, bytes, view, units_in, level_in}
use Rattle.model.specs.Places.{Long}
use Rattle.model.specs.Parts.{with_front, with_cstates, with_checks}
use Rattle.model.specs.LayoutLaws.{Shaped, Same, bytes_ext, view_shaped}
use Rattle.model.specs.StoreLaws.{units_of, level_of, front_set, cstate_set}
use Rattle.model.specs.Changes.{added, raised}
use Rattle.encoding.specs.Made.{made_record, made_at, is_unit}
use Rattle.encoding.specs.MadeLaws.{made_change}
use Rattle.encoding.specs.Holding.{Holds, Change, holds_start, holds_same, holds_step}
use Rattle.splitting.specs.Raising.{with_units, of_first_groups, of_groups}

-- ---- the check units that a test picks
pub with_change : (p : ℕ → Bool) → Change (with_units p)
unfolding with_units with_cstates made_at with_checks
with_change p =
    let made = made_change (λ c _. p c) in
    record {
      shaped = λ t h. let k = made.shaped t h in record { front = k.front; size = k.size; slot = k.slot; check = k.check };
      same = λ s t h.
          let k = made.same s t h in
          record {
            front = k.front;
            size = k.size;
            dstate = k.dstate;
            cstate = λ c l. ap (pick (p c) 1) (h.cstate c l);
            slot = k.slot;
            check = k.check;
            rest = k.rest;
          };
      size = λ t. refl;
      rest = λ t. refl;
    }

module _ (v : Store) (o : ℕ → Bool) where
  -- those that p picks, by another test
  with_ext : (p : ℕ → Bool) → ((c : ℕ) → p c ≡ o c) → Same (with_units p v) (with_units o v)
  unfolding with_units with_cstates made_at with_checks
  with_ext p e = record {
    front = refl;
    size = refl;
    dstate = λ u l. refl;
    cstate = λ c l. ap (λ t. pick t 1 (v.cstate c)) (e c);
    slot = λ u r l m. refl;
    check = λ c r l m. ap (λ t. pick t (made_record v c r) (v.check c r)) (e c);
    rest = refl;
  }

  with_none : ((c : ℕ) → o c ≡ false) → Same v (with_units o v)
  unfolding with_units with_cstates made_at with_checks
  with_none e = record {
    front = refl;
    size = refl;
    dstate = λ u l. refl;
    cstate = λ c l. sym (pick-false (e c) 1 (v.cstate c));
    slot = λ u r l m. refl;
    check = λ c r l m. sym (pick-false (e c) (made_record v c r) (v.check c r));
    rest = refl;
  }

  -- those that p picks, and then those that q picks
  with_twice : (p q : ℕ → Bool) → ((c : ℕ) → (p c || q c) ≡ o c) → Same (with_units q (with_units p v)) (with_units o v)
  unfolding with_units with_cstates made_at made_record with_checks
  with_twice p q e = record {
    front = refl;
    size = refl;
    dstate = λ u l. refl;
    cstate = λ c l. pick-or (p c) (q c) 1 (v.cstate c) ∙ ap (λ t. pick t 1 (v.cstate c)) (e c);
    slot = λ u r l m. refl;
    check = λ c r l m. pick-or (p c) (q c) (made_record v c r) (v.check c r) ∙ ap (λ t. pick t (made_record v c r) (v.check c r)) (e c);
    rest = refl;
  }

-- ---- the tests: one group more, and the groups in place

module _ (k g c : ℕ) (low : k < 3) where
  at_place : c ≡ 3 * g + k → of_first_groups (g + 1) k c ≡ true
  at_place e = and-true (lt-ltb (c / 3) (g + 1) (omega arith)) (eq-eqb (c % 3) k (omega arith))

  one_more : (of_first_groups g k c || is_unit (3 * g + k) c) ≡ of_first_groups (g + 1) k c
  one_more = same_test (of_first_groups g k c || is_unit (3 * g + k) c) (of_first_groups (g + 1) k c)
      (λ e. by-test (λ _. of_first_groups (g + 1) k c ≡ true) (of_first_groups g k c)
      (λ f. and-true (lt-ltb (c / 3) (g + 1) (omega (arith, ltb-true (c / 3) g (and_first _ (eqb (c % 3) k) f)))) (and_second (ltb (c / 3) g) _ f))
      (λ f. at_place (eqb-true c (3 * g + k) (or_other _ _ f e))))
      (λ e. or_else (of_first_groups g k c) (is_unit (3 * g + k) c) (λ f.
      let place : c % 3 ≡ k = eqb-true (c % 3) k (and_second (ltb (c / 3) (g + 1)) _ e) in
      let below : c / 3 < g + 1 = ltb-true (c / 3) (g + 1) (and_first _ (eqb (c % 3) k) e) in
      let last : g ≤ c / 3 = ltb-false (c / 3) g (by-test (λ t. t ≡ false) (ltb (c / 3) g) (λ q. not-both (and-true q (eq-eqb _ _ place)) f) (λ _. refl)) in
      eq-eqb c (3 * g + k) (omega arith)))

pub in_place : (m k g c : ℕ) → m ≤ 4 * g → 4 * g < m + 4 → of_first_groups g k c ≡ of_groups m k c
in_place m k g c a b = ap (λ t. t && eqb (c % 3) k) (same_test (ltb (c / 3) g) (ltb (4 * (c / 3)) m)
    (λ e. lt-ltb (4 * (c / 3)) m (omega (arith, ltb-true (c / 3) g e)))
    (λ e. lt-ltb (c / 3) g (omega (arith, ltb-true (4 * (c / 3)) m e))))

-- ---- the loop: before turn g the first g groups have their check unit
pub record Adding (s₀ : List ℕ) (m k : ℕ) (s : List ℕ) (g : ℕ) : Type 0 where
  pub holds : Holds s₀ s (with_units (of_first_groups g k) (view s₀))
  pub reached : 4 * g < m + 4

module _ (s₀ : List ℕ) (m k : ℕ) (long : Long s₀) where
  with_shaped : (p : ℕ → Bool) → Shaped (with_units p (view s₀))
  with_shaped p = (with_change p).shaped (view s₀) (view_shaped s₀ long)

  pub adding_start : Adding s₀ m k s₀ 0
  adding_start = record {
    holds = holds_same (holds_start long) (with_shaped _) (with_none (view s₀) (of_first_groups 0 k) (λ c. and_false_first (le-ltb (c / 3) 0 (omega arith)) _));
    reached = omega arith;
  }

  pub adding_turn : {s s' : List ℕ} {g : ℕ} → Adding s₀ m k s g → k < 3 → 4 * g < m → s' ≡ bytes (with_units (is_unit (3 * g + k)) (view s))
      → Adding s₀ m k s' (g + 1)
  adding_turn {g = g} a low l e = record {
    holds = holds_same (holds_step (with_change (is_unit (3 * g + k))) a.holds e) (with_shaped _)
        (with_twice (view s₀) (of_first_groups (g + 1) k) (of_first_groups g k) (is_unit (3 * g + k)) (λ c. one_more k g c low));
    reached = omega arith;
  }

  pub adding_end : {s : List ℕ} {g : ℕ} → Adding s₀ m k s g → m ≤ 4 * g → s ≡ bytes (with_units (of_groups m k) (view s₀))
  adding_end {g = g} a l =
      a.holds.state ∙ bytes_ext _ _ (with_ext (view s₀) (of_groups m k) (of_first_groups g k) (λ c. in_place m k g c l a.reached))

-- ---- a check unit's state written behind its records
pub unit_added : (s s₁ s₂ : List ℕ) (at c : ℕ) → Long s → c < 12 → at ≡ 24 + c → s₁ ≡ bytes (made_at (λ d _. is_unit c d) (view s)) → s₂ ≡ set s₁ at 1
    → s₂ ≡ bytes (with_units (is_unit c) (view s))
unfolding with_units made_at with_checks upd
unit_added s s₁ s₂ at c long low ea e₁ e₂ =
    cstate_set (made_at (λ d _. is_unit c d) (view s)) ((made_change (λ d _. is_unit c d)).shaped (view s) (view_shaped s long)) s₁ e₁ s₂ at c 1 ea low e₂

-- ---- the level behind the check units
pub level_raised : (s s₁ s₂ : List ℕ) (m k : ℕ) → Long s → m ≡ byte s 6 → k ≡ byte s 7 → s₁ ≡ bytes (with_units (of_groups m k) (view s)) → s₂ ≡ set s₁ 7 (k + 1)
    → s₂ ≡ bytes (raised (view s))
unfolding raised added with_units with_front with_cstates made_at made_record with_checks
level_raised s s₁ s₂ m k long em ek e₁ e₂ =
    let v : Store = view s in
    let units : m ≡ units_in v = em ∙ units_of s in
    let level : k ≡ level_in v = ek ∙ level_of s in
    front_set (with_units (of_groups m k) v) ((with_change (of_groups m k)).shaped v (view_shaped s long)) s₁ e₁ s₂ 7 (k + 1) (omega arith) e₂
    ∙ rw (units, level, add-one (level_in v)) refl
