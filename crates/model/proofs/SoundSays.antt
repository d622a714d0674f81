-- What the test of soundness says of a store, clause by clause, as facts.
use Rattle.std.specs.Prelude.{ℕ, ◌+◌, ◌*◌, ◌/◌, ◌≤◌, ◌<◌, ◌≡◌, refl, List, Bool, true, false, not, ◌&&◌, ◌||◌, eqb, ltb, length}
use Rattle.std.proofs.Common.{sym, ◌∙◌, subst, arith}
use borrow.Author.Tests.{eqb-true, leb-true}
use Rattle.buffer.specs.Choice.{pick}
use Rattle.buffer.specs.ChoiceLaws.{pick_true, pick-false, by-test}
use Rattle.buffer.specs.TestLaws.{not-both, and_first, and_second, or_other}
use Rattle.buffer.specs.Range.{all}
use Rattle.buffer.specs.RangeLaws.{all_true}
use Rattle.buffer.specs.Bytes.{byte, be32, zeros, part}
use Rattle.group.specs.Widths.{key_bytes, slot_bytes, check_bytes}
use Rattle.model.specs.Units.{unit_of}
use Rattle.model.specs.Layout.{Store, view, version, store_bytes, units_in, level_in, key_of}
use Rattle.model.specs.StoreLaws.{units_of, level_of}
use Rattle.model.specs.Reads.{fill_in, listed_key, listed_fill, keys_lost_in}
use Rattle.model.specs.Sound.{same, ranges, state_fits, units_placed, check_placed, checks_placed, zeroed, keys_placed, lists_agree, sound}
use Rattle.model.specs.SoundLaws.{same_true}

and_both : (s t : Bool) → (s && t) ≡ true → (s ≡ true) × (t ≡ true)
and_both s t e = (and_first s t e, and_second s t e)

unless_second : (s t : Bool) → (not s || t) ≡ true → s ≡ true → t ≡ true
unless_second true t e f = e
unless_second false t e f = not-both f refl

-- the tests that a slot holds a record of a unit in service or is zero, and that a check record is of a unit in service or is zero
abbrev pub slot_test : Store → ℕ → ℕ → Bool
slot_test v u r = (eqb (v.dstate u) 1 && ltb r (fill_in v u)) || same (v.slot u r) (zeros slot_bytes)

abbrev pub check_test : Store → ℕ → ℕ → Bool
check_test v c r = eqb (v.cstate c) 1 || same (v.check c r) (zeros check_bytes)

-- what they say of every slot and check record
pub record Zeroed (v : Store) : Type 0 where
  pub slots : (u r : ℕ) → u < 16 → r < v.size → slot_test v u r ≡ true
  pub checks : (c r : ℕ) → c < 12 → r < v.size → check_test v c r ≡ true

pub zeroed_says : (v : Store) → zeroed v ≡ true → Zeroed v
unfolding zeroed
zeroed_says v e =
    let s : Bool = all 16 (λ u. all v.size (slot_test v u)) in
    let c : Bool = all 12 (λ c. all v.size (check_test v c)) in
    record {
      slots = λ u r l m. all_true v.size (slot_test v u) (all_true 16 (λ u. all v.size (slot_test v u)) (and_first s c e) u l) r m;
      checks = λ i r l m. all_true v.size (check_test v i) (all_true 12 (λ c. all v.size (check_test v c)) (and_second s c e) i l) r m;
    }

-- the ranges of the header
pub record Ranged (s : List ℕ) : Type 0 where
  pub first : byte s 0 ≡ version
  pub spelled : be32 s 1 ≡ store_bytes (byte s 5)
  pub least : 1 ≤ byte s 5
  pub most : byte s 5 ≤ 64
  pub some : 1 ≤ byte s 6
  pub few : byte s 6 ≤ 16
  pub levelled : 1 ≤ byte s 7
  pub topped : byte s 7 ≤ 3
  pub long : store_bytes (byte s 5) ≤ length s

pub in_range : (s : List ℕ) → ranges s ≡ true → Ranged s
unfolding ranges
in_range s h =
    let p8 = and_both _ _ h in
    let p7 = and_both _ _ p8.0 in
    let p6 = and_both _ _ p7.0 in
    let p5 = and_both _ _ p6.0 in
    let p4 = and_both _ _ p5.0 in
    let p3 = and_both _ _ p4.0 in
    let p2 = and_both _ _ p3.0 in
    let p1 = and_both _ _ p2.0 in
    record {
      first = eqb-true _ _ p1.0;
      spelled = eqb-true _ _ p1.1;
      least = leb-true _ _ p2.1;
      most = leb-true _ _ p3.1;
      some = leb-true _ _ p4.1;
      few = leb-true _ _ p5.1;
      levelled = leb-true _ _ p6.1;
      topped = leb-true _ _ p7.1;
      long = leb-true _ _ p8.1;
    }

-- a state that a unit in place, or not in place, may have
abbrev pub Stateful : Bool → ℕ → Type 0
Stateful p n = state_fits p n ≡ true

pub fits_placed : {p : Bool} (n : ℕ) → Stateful p n → p ≡ true → (eqb n 1 || eqb n 2) ≡ true
unfolding state_fits
fits_placed n e q = sym (pick_true q (eqb n 1 || eqb n 2) (eqb n 0)) ∙ e

pub fits_absent : {p : Bool} (n : ℕ) → Stateful p n → p ≡ false → n ≡ 0
unfolding state_fits
fits_absent n e q = eqb-true n 0 (sym (pick-false q (eqb n 1 || eqb n 2) (eqb n 0)) ∙ e)

-- whether the unit is in place, and its state
pub by-fitting {ℓ} : (P : Bool → ℕ → Type ℓ) (p : Bool) (n : ℕ) → Stateful p n → P true 1 → P true 2 → P false 0 → P p n
by-fitting P true n e serves lost absent =
    by-test (λ (t : Bool). eqb n 1 ≡ t → (t || eqb n 2) ≡ true → P true n) (eqb n 1)
    (λ _ q _. subst (P true) (sym (eqb-true n 1 q)) serves) (λ _ _ z. subst (P true) (sym (eqb-true n 2 z)) lost) refl (fits_placed n e refl)
by-fitting P false n e serves lost absent = subst (P false) (sym (fits_absent n e refl)) absent

module _ (s : List ℕ) (h : sound s ≡ true) where
  abbrev v : Store
  v = view s

  -- ---- the six clauses

  pub record Clauses : Type 0 where
    pub ranges : ranges s ≡ true
    pub units : units_placed (view s) ≡ true
    pub checks : checks_placed (view s) ≡ true
    pub zeros : zeroed (view s) ≡ true
    pub keys : keys_placed (view s) ≡ true
    pub lists : lists_agree (view s) ≡ true

  pub clauses : Clauses
  unfolding sound
  clauses =
      let p5 = and_both _ _ h in
      let p4 = and_both _ _ p5.0 in
      let p3 = and_both _ _ p4.0 in
      let p2 = and_both _ _ p3.0 in
      let p1 = and_both _ _ p2.0 in
      record { ranges = p1.0; units = p1.1; checks = p2.1; zeros = p3.1; keys = p4.1; lists = p5.1 }

  pub ranged : Ranged s
  ranged = in_range s clauses.ranges

  pub units_some : 1 ≤ units_in v
  units_some = rw (← (units_of s)) ranged.some

  pub units_few : units_in v ≤ 16
  units_few = rw (← (units_of s)) ranged.few

  pub level_some : 1 ≤ level_in v
  level_some = rw (← (level_of s)) ranged.levelled

  pub level_few : level_in v ≤ 3
  level_few = rw (← (level_of s)) ranged.topped

  -- ---- states

  pub data_states : (u : ℕ) → u < 16 → Stateful (ltb u (units_in v)) (v.dstate u)
  unfolding units_placed
  data_states u l = all_true 16 _ clauses.units u l

  pub check_states : (c : ℕ) → c < 12 → Stateful (check_placed (units_in v) (level_in v) c) (v.cstate c)
  unfolding checks_placed
  check_states c l = all_true 12 _ clauses.checks c l

  pub states_low : (c : ℕ) → c < 12 → (view s).cstate c ≤ 2
  states_low c l = by-fitting (λ p n. n ≤ 2) _ (v.cstate c) (check_states c l) (omega arith) (omega arith) (omega arith)

  -- ---- zeros

  pub zero_slot : (u r : ℕ) → u < 16 → r < v.size → (eqb (v.dstate u) 1 && ltb r (fill_in v u)) ≡ false → v.slot u r ≡ zeros slot_bytes
  zero_slot u r l m e =
      same_true (v.slot u r) (zeros slot_bytes)
      (or_other (eqb (v.dstate u) 1 && ltb r (fill_in v u)) (same (v.slot u r) (zeros slot_bytes)) e ((zeroed_says v clauses.zeros).slots u r l m))

  pub zero_check : (c r : ℕ) → c < 12 → r < v.size → eqb (v.cstate c) 1 ≡ false → v.check c r ≡ zeros check_bytes
  zero_check c r l m e =
      same_true (v.check c r) (zeros check_bytes)
      (or_other (eqb (v.cstate c) 1) (same (v.check c r) (zeros check_bytes)) e ((zeroed_says v clauses.zeros).checks c r l m))

  -- ---- keys of a unit that are not lost

  module _ (u : ℕ) (hu : u < 16) (kept : keys_lost_in v u ≡ false) where
    key_test : (r : ℕ) → r < v.size
        → pick (ltb r (listed_fill v u))
        (eqb (unit_of (units_in v) (key_of (listed_key v u r))) u && all r (λ q. not (eqb (key_of (listed_key v u q)) (key_of (listed_key v u r)))))
        (eqb (key_of (listed_key v u r)) 0) ≡ true
    unfolding keys_placed
    key_test r m = all_true v.size _ (or_other (keys_lost_in v u) _ kept (all_true 16 _ clauses.keys u hu)) r m

    listed_test : (r : ℕ) → r < v.size → ltb r (listed_fill v u) ≡ true
        → (eqb (unit_of (units_in v) (key_of (listed_key v u r))) u && all r (λ q. not (eqb (key_of (listed_key v u q)) (key_of (listed_key v u r))))) ≡ true
    listed_test r m e = sym (pick_true e _ (eqb (key_of (listed_key v u r)) 0)) ∙ key_test r m

    pub listed_own : (r : ℕ) → r < v.size → ltb r (listed_fill v u) ≡ true → unit_of (units_in v) (key_of (listed_key v u r)) ≡ u
    listed_own r m e = eqb-true (unit_of (units_in v) (key_of (listed_key v u r))) u (and_first _ _ (listed_test r m e))

    pub listed_differ : (r q : ℕ) → r < q → q < v.size → ltb q (listed_fill v u) ≡ true → not (eqb (key_of (listed_key v u r)) (key_of (listed_key v u q))) ≡ true
    listed_differ r q l m e =
        all_true q (λ i. not (eqb (key_of (listed_key v u i)) (key_of (listed_key v u q))))
        (and_second (eqb (unit_of (units_in v) (key_of (listed_key v u q))) u) _ (listed_test q m e)) r l

    pub listed_past : (r : ℕ) → r < v.size → ltb r (listed_fill v u) ≡ false → key_of (listed_key v u r) ≡ 0
    listed_past r m e = eqb-true (key_of (listed_key v u r)) 0 (sym (pick-false e _ (eqb (key_of (listed_key v u r)) 0)) ∙ key_test r m)

  -- a key that a check unit in service lists
  pub lists : (c : ℕ) → c < 12 → eqb (v.cstate c) 1 ≡ true → (r : ℕ) → r < v.size → (p : ℕ) → p < 4
      → key_of (part (key_bytes * p) key_bytes (v.check c r)) ≡ key_of (listed_key v (4 * (c / 3) + p) r)
  unfolding lists_agree
  lists c l e r m p n =
      eqb-true _ _ (all_true 4 _ (all_true v.size _ (unless_second (eqb (v.cstate c) 1) _ (all_true 12 _ clauses.lists c l) e) r m) p n)
