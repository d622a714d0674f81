-- The ledger that a sound store shows by its header, its states and its keys, with empty fields: it is valid. Assumes that the store holds bytes.
use Prim.Native.Nat.{ℕ, ◌+◌, ◌*◌, ◌-◌, ◌/◌, ◌%◌, ◌≤◌, ◌<◌}
use mathlib.Core.Path.{◌≡◌, refl, ap, ◌∙◌}
use mathlib.Core.Logic.{◌≢◌}
use mathlib.Core.List.{List, [], map}
use mathlib.Core.Bool.{Bool, true, false, not, ◌&&◌}
use native.Mathlib.Omega.{arith}
use native.Mathlib.Nat.{not-suc-le-zero}
use lib.Dec.{eqb, ltb}
use lib.ListN.{length, take, drop, get_or, length-map, length-take, get_or-map, get_or-eq_default}
use borrow.Author.Tests.{eqb-false, ltb-true, ltb-false, lt-ltb, le-ltb, not-true}
use Rattle.buffer.specs.Choice.{pick}
use Rattle.buffer.specs.ChoiceLaws.{by-test, by-pick, pick_true, pick-false}
use Rattle.buffer.specs.TestLaws.{and_first, and_second, and_false_first}
use Rattle.buffer.specs.Loops.{entries}
use Rattle.buffer.specs.RangeLaws.{length_entries, get_or_entries}
use Rattle.buffer.specs.Bytes.{byte, zeros, part}
use Rattle.buffer.specs.ByteLaws.{byte_past, byte_part, be32_lt}
use Rattle.group.specs.Widths.{key_bytes, field_bytes, slot_bytes, check_bytes}
use Rattle.group.specs.BodyLaws.{zeros_is}
use Rattle.model.specs.Units.{unit_of}
use Rattle.model.specs.Layout.{Store, view, slot_at, check_at, units_in, level_in, key_of}
use Rattle.model.specs.Reads.{state_in, first_check, listed_key, listed_fill, keys_lost_in}
use Rattle.model.proofs.ReadLaws.{listed_le, listed_some}
use Rattle.model.specs.Sound.{check_placed, sound}
use Rattle.model.proofs.SoundSays.{ranged, units_some, units_few, level_some, level_few, Stateful, fits_absent, by-fitting, data_states, check_states}
use Rattle.model.proofs.SoundSays.{listed_own, listed_differ}
use Rattle.model.specs.history.Ledger.{Rec, Ledger, empty, record_at, placed, state}
use Rattle.model.specs.history.Typed.{Bytes}
use Rattle.model.proofs.history.ledger.Valid.{Good, Valid}
use Rattle.model.proofs.history.ledger.States.{placed_unit, placed_check}

-- a record of a key alone
abbrev pub key_record : ℕ → Rec
key_record k = record { key = k; field = zeros field_bytes }

-- the records of a unit by its listed keys
unfoldable pub listed_records : Store → ℕ → List Rec
listed_records v u = map key_record (entries (listed_fill v u) (λ r. key_of (listed_key v u r)))

-- a unit in place whose keys are not lost
abbrev pub readable : Store → ℕ → Bool
readable v u = ltb u (units_in v) && not (keys_lost_in v u)

-- a unit whose keys are lost counts as one without records
unfoldable pub ledger_of : Store → Ledger
ledger_of v = record {
  size = v.size;
  units = units_in v;
  level = level_in v;
  records = λ u. pick (readable v u) (listed_records v u) [];
  out = λ w. ltb w 28 && eqb (state_in v w) 2;
}

-- ---- bytes of a part

pub bytes_part : (at n : ℕ) (s : List ℕ) → Bytes s → Bytes (part at n s)
bytes_part at n s h i =
    by-test (λ (t : Bool). byte (part at n s) i < 256) (ltb i n)
    (λ e. rw (byte_part at n s i (ltb-true i n e)) (h (at + i)))
    (λ e. rw (byte_past (part at n s) i (short (ltb-false i n e))) (omega arith))
  where
    short : n ≤ i → length (part at n s) ≤ i
    short l = unfold part in omega (arith, length-take n (drop at s))

-- ---- a state by two tests, in place and out

state_of : (p : Bool) (n : ℕ) → Stateful p n → pick p (pick (eqb n 2) 2 1) 0 ≡ n
unfolding pick
state_of p n e = by-fitting (λ p n. pick p (pick (eqb n 2) 2 1) 0 ≡ n) p n e refl refl refl

-- a unit that is not in place is not out
state_absent : (p : Bool) (n : ℕ) → Stateful p n → p ≡ false → eqb n 2 ≡ false
state_absent p n e q = ap (λ (k : ℕ). eqb k 2) (fits_absent n e q)

-- ---- a list of records

module _ (v : Store) (u : ℕ) where
  pub length_listed : length (listed_records v u) ≡ listed_fill v u
  unfolding listed_records
  length_listed =
      length-map (entries (listed_fill v u) (λ r. key_of (listed_key v u r))) key_record ∙ length_entries (listed_fill v u) (λ r. key_of (listed_key v u r))

  listed_at : (r : ℕ) → get_or (listed_records v u) r empty ≡ key_record (get_or (entries (listed_fill v u) (λ q. key_of (listed_key v u q))) r 0)
  unfolding listed_records empty
  listed_at r = get_or-map key_record (entries (listed_fill v u) (λ q. key_of (listed_key v u q))) r 0

  -- the record at a rank that is listed
  pub listed_record : (r : ℕ) → r < listed_fill v u → get_or (listed_records v u) r empty ≡ key_record (key_of (listed_key v u r))
  listed_record r l = listed_at r ∙ ap key_record (get_or_entries (listed_fill v u) (λ q. key_of (listed_key v u q)) r 0 l)

-- ---- the ledger of a sound store

module _ (s : List ℕ) (b : Bytes s) (h : sound s ≡ true) where
  abbrev v : Store
  v = view s

  abbrev l : Ledger
  l = ledger_of (view s)

  -- ---- keys are bytes

  listed_bytes : (u r : ℕ) → Bytes (listed_key v u r)
  unfolding listed_key view
  listed_bytes u r =
      by-pick Bytes (eqb (v.dstate u) 2) (part (key_bytes * (u % 4)) key_bytes (v.check (first_check v (u / 4)) r)) (take key_bytes (v.slot u r))
      (λ _. bytes_part (key_bytes * (u % 4)) key_bytes (v.check (first_check v (u / 4)) r)
      (bytes_part (check_at (byte s 5) (first_check v (u / 4)) r) check_bytes s b))
      (λ _. unfold part in bytes_part 0 key_bytes (v.slot u r) (bytes_part (slot_at (byte s 5) u r) slot_bytes s b))

  listed_low : (u r : ℕ) → key_of (listed_key v u r) < 4294967296
  unfolding key_of
  listed_low u r = be32_lt (listed_key v u r) 0 (listed_bytes u r)

  -- ---- states

  check_placed_lem : (c : ℕ) → placed l (16 + c) ≡ check_placed (units_in v) (level_in v) c
  unfolding ledger_of check_placed
  check_placed_lem c = placed_check l c

  unit_placed : (u : ℕ) → u < 16 → placed l u ≡ ltb u (units_in v)
  unfolding ledger_of
  unit_placed u a = placed_unit l u a

  stateful : (w : ℕ) → w < 28 → Stateful (placed l w) (state_in v w)
  stateful w a =
      by-test (λ (t : Bool). Stateful (placed l w) (state_in v w)) (ltb w 16)
      (λ e. let i : w < 16 = ltb-true w 16 e in rw (unit_placed w i, low e) (data_states s h w i))
      (λ e.
      let i : 16 ≤ w = ltb-false w 16 e in
      let k : w ≡ 16 + (w - 16) = omega arith in
      rw (ap (placed l) k ∙ check_placed_lem (w - 16), high e) (check_states s h (w - 16) (omega arith)))
    where
      low : ltb w 16 ≡ true → state_in v w ≡ v.dstate w
      low e = unfold state_in in pick_true e (v.dstate w) (v.cstate (w - 16))

      high : ltb w 16 ≡ false → state_in v w ≡ v.cstate (w - 16)
      high e = unfold state_in in pick-false e (v.dstate w) (v.cstate (w - 16))

  state_is : (w : ℕ) → w < 28 → state l w ≡ state_in v w
  unfolding state ledger_of
  state_is w a = rw (lt-ltb w 28 a) (state_of (placed l w) (state_in v w) (stateful w a))

  pub dstate_shown : (u : ℕ) → u < 16 → state l u ≡ v.dstate u
  unfolding state_in
  dstate_shown u a = state_is u (omega arith) ∙ pick_true (lt-ltb u 16 a) (v.dstate u) (v.cstate (u - 16))

  pub cstate_shown : (c : ℕ) → c < 12 → state l (16 + c) ≡ v.cstate c
  unfolding state_in
  cstate_shown c a =
      let e : 16 + c - 16 ≡ c = omega arith in
      state_is (16 + c) (omega arith)
      ∙ pick-false (le-ltb (16 + c) 16 (omega arith)) (v.dstate (16 + c)) (v.cstate (16 + c - 16))
      ∙ ap (λ (n : ℕ). v.cstate n) e

  out_calm : (w : ℕ) → placed l w ≡ false → (ltb w 28 && eqb (state_in v w) 2) ≡ false
  out_calm w e =
      by-test (λ (t : Bool). (t && eqb (state_in v w) 2) ≡ false) (ltb w 28)
      (λ q. state_absent (placed l w) (state_in v w) (stateful w (ltb-true w 28 q)) e)
      (λ q. refl)

  -- ---- records

  unit_low : (u : ℕ) → readable v u ≡ true → u < 16
  unit_low u e = omega (arith, ltb-true u (units_in v) (and_first (ltb u (units_in v)) _ e), units_few s h)

  pub kept : (u : ℕ) → readable v u ≡ true → keys_lost_in v u ≡ false
  kept u e = not-true (keys_lost_in v u) (and_second (ltb u (units_in v)) _ e)

  -- what holds of the records of a unit whose keys are not lost, and of no record
  by-records {ℓ} : (P : List Rec → Type ℓ) (u : ℕ) → (readable v u ≡ true → P (listed_records v u)) → P [] → P (l.records u)
  unfolding ledger_of
  by-records P u k z = by-pick P (readable v u) (listed_records v u) [] k (λ _. z)

  at_listed : (u r : ℕ) → r < length (listed_records v u) → r < listed_fill v u
  at_listed u r a = omega (arith, length_listed v u)

  key_at : (u r : ℕ) → r < length (listed_records v u) → (get_or (listed_records v u) r empty).key ≡ key_of (listed_key v u r)
  key_at u r a = ap (λ (x : Rec). x.key) (listed_record v u r (at_listed u r a))

  good_listed : (u r : ℕ) → Good (get_or (listed_records v u) r empty)
  good_listed u r = rw (listed_at v u r) (record { key = small; field = zeros_is field_bytes })
    where
      keys : List ℕ
      keys = entries (listed_fill v u) (λ q. key_of (listed_key v u q))

      small : get_or keys r 0 < 4294967296
      small = by-test (λ (t : Bool). get_or keys r 0 < 4294967296) (ltb r (listed_fill v u))
          (λ e. rw (get_or_entries (listed_fill v u) (λ q. key_of (listed_key v u q)) r 0 (ltb-true r (listed_fill v u) e)) (listed_low u r))
          (λ e.
          let past : length keys ≤ r = omega (arith, length_entries (listed_fill v u) (λ q. key_of (listed_key v u q)), ltb-false r (listed_fill v u) e) in
          rw (get_or-eq_default keys 0 {n = r} past) (omega arith))

  good_none : (r : ℕ) → Good (get_or [] r empty)
  unfolding empty
  good_none r = record { key = omega arith; field = zeros_is field_bytes }

  -- THE LEDGER IS VALID
  pub ledger_valid : Valid (ledger_of (view s))
  unfolding ledger_of record_at
  ledger_valid = record {
    some = units_some s h;
    few = units_few s h;
    least = unfold view in (ranged s h).least;
    most = unfold view in (ranged s h).most;
    levelled = level_some s h;
    topped = level_few s h;
    fits = λ u. by-records (λ (xs : List Rec). length xs ≤ v.size) u (λ _. omega (arith, length_listed v u, listed_le v u)) (omega arith);
    good = λ u r. by-records (λ (xs : List Rec). Good (get_or xs r empty)) u (λ _. good_listed u r) (good_none r);
    keyed = λ u r. by-records (λ (xs : List Rec). r < length xs → (get_or xs r empty).key ≢ 0) u
        (λ _ a. rw (key_at u r a) (listed_some v u r (at_listed u r a))) (λ a. absurd (not-suc-le-zero a));
    own = λ u r. by-records (λ (xs : List Rec). r < length xs → unit_of (units_in v) (get_or xs r empty).key ≡ u) u
        (λ e a. rw (key_at u r a) (listed_own s h u (unit_low u e) (kept u e) r (omega (arith, at_listed u r a, listed_le v u))
        (lt-ltb r (listed_fill v u) (at_listed u r a))))
        (λ a. absurd (not-suc-le-zero a));
    differ = λ u r q i. by-records (λ (xs : List Rec). q < length xs → (get_or xs r empty).key ≢ (get_or xs q empty).key) u
        (λ e a. rw (key_at u r (omega arith), key_at u q a)
        (eqb-false (key_of (listed_key v u r)) (key_of (listed_key v u q)) (not-true (eqb (key_of (listed_key v u r)) (key_of (listed_key v u q)))
        (listed_differ s h u (unit_low u e) (kept u e) r q i (omega (arith, at_listed u q a, listed_le v u)) (lt-ltb q (listed_fill v u) (at_listed u q a))))))
        (λ a. absurd (not-suc-le-zero a));
    none = λ u a. pick-false (and_false_first (le-ltb u (units_in v) a) _) (listed_records v u) [];
    calm = out_calm;
  }
