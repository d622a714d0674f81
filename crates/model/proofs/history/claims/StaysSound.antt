-- A sound store stays sound under every call: it is alike to the picture of a valid ledger, a granted call leaves alike stores of the two, and what it
-- leaves of the picture is the picture of a valid ledger again.
use Prim.Native.Nat.{ℕ, pred, ◌+◌, ◌*◌, ◌/◌, ◌%◌, ◌≤◌, ◌<◌}
use mathlib.Core.Path.{◌≡◌, sym, ap, ◌∙◌}
use mathlib.Core.List.{List}
use mathlib.Core.Option.{Option, none, some}
use mathlib.Core.Bool.{true, false, not}
use native.Mathlib.Omega.{arith}
use lib.Dec.{eqb, ltb, leb}
use lib.ListN.{length}
use borrow.Author.Tests.{eqb-true, eq-eqb, ltb-false, leb-false}
use Rattle.buffer.specs.ChoiceLaws.{by-pick}
use Rattle.buffer.specs.TestLaws.{and_second}
use Rattle.group.specs.Widths.{field_bytes}
use Rattle.model.specs.Layout.{Store, view, slot_of, units_in, level_in, bytes}
use Rattle.model.specs.LayoutLaws.{bytes_view}
use Rattle.model.specs.Reads.{home_in, fill_in, rank_in}
use Rattle.model.specs.Sound.{sound}
use Rattle.model.proofs.SoundSays.{ranged}
use Rattle.model.specs.Numbers.{Call, teach, correct, erase, read, read_in_place, list, unit_out, repair, grow, shrink, raise, refusals_in, number_in}
use Rattle.model.specs.RowLaws.{Agree, Free, agree_first}
use Rattle.model.specs.Changes.{written, erased, unit_lost, repaired, grown, shrunk, raised}
use Rattle.model.specs.ChangeLaws.{length_args}
use Rattle.model.specs.Perform.{granted_in, after_in, perform}
use Rattle.model.specs.history.Ledger.{Ledger, home, rank_of, outs_of, granted}
use Rattle.model.specs.history.Picture.{picture, image}
use Rattle.model.specs.history.Table.{refusals, number}
use Rattle.model.specs.history.Typed.{Bytes, Typed}
use Rattle.model.specs.history.Steps.{counted_in, store_left, perform_step, CountTyped}
use Rattle.model.specs.history.StaysSound.{StaysSound}
use Rattle.model.proofs.history.ledger.Valid.{Valid}
use Rattle.model.proofs.history.ledger.Granted.{granted_free}
use Rattle.model.proofs.history.ledger.States.{in_place, placed_check}
use Rattle.model.proofs.history.picture.Seen.{size_seen, units_seen, level_seen, cstate_is}
use Rattle.model.proofs.history.picture.Losses.{beyond_seen}
use Rattle.model.proofs.history.picture.Sound.{picture_sound}
use Rattle.model.proofs.history.calls.Simulation.{Simulated, number_agrees}
use Rattle.model.proofs.history.calls.OneList.{fill_home, rank_home}
use Rattle.model.proofs.history.alike.Alike.{Alike, slot_refl, seen_alike, units_alike, home_alike}
use Rattle.model.proofs.history.alike.Sound.{sound_alike}
use Rattle.model.proofs.history.alike.Numbers.{home_inside, fill_same, rank_same, split_inside, split_before, teach_rows, correct_rows, erase_rows}
use Rattle.model.proofs.history.alike.Numbers.{out_rows, repair_rows, grow_rows_lem, shrink_rows_lem, raise_rows}
use Rattle.model.proofs.history.alike.Written.{written_alike, erased_alike, lost_alike}
use Rattle.model.proofs.history.alike.Raised.{raised_alike}
use Rattle.model.proofs.history.alike.Repaired.{repaired_alike}
use Rattle.model.proofs.history.alike.Dealt.{grown_alike, shrunk_alike}
use Rattle.model.proofs.history.alike.LedgerOf.{ledger_of, ledger_valid}
use Rattle.model.proofs.history.alike.LedgerAlike.{ledger_alike}
use Rattle.model.proofs.history.steps.Taken.{counted_typed_in}
use Rattle.model.proofs.history.claims.History.{simulated}

-- ---- a sound store whose parts are alike to those of a valid ledger's picture

module _ (l : Ledger) (rest : List ℕ) (h : Valid l) (s : List ℕ) (ok : sound s ≡ true) (a : Alike (view (picture l rest)) (view s)) where
  abbrev v : Store
  v = view (picture l rest)

  abbrev w : Store
  w = view s

  both_sound : sound (picture l rest) ≡ sound s
  both_sound = picture_sound l rest h ∙ sym ok

  one : 1 ≤ units_in v
  one = omega (arith, units_seen l rest h, h.some)

  few : units_in v ≤ 16
  few = omega (arith, units_seen l rest h, h.few)

  -- ---- a granted call, which the ledger then grants too

  module _ (c : Call) (t : Typed c) (rows : Agree (refusals_in (sound (picture l rest)) (view (picture l rest)) c) (refusals_in (sound s) (view s) c))
      (zero : number_in s c ≡ 0) where
    simulates : Simulated l rest c
    simulates = simulated l rest h c t

    free : Free (refusals l c)
    unfolding number_in
    free = granted_free l c (eq-eqb (number l c) 0 (sym (number_agrees l rest c simulates) ∙ agree_first _ _ rows ∙ zero))

    -- what it leaves of the picture is sound
    left_sound : sound (granted_in (picture l rest) c) ≡ true
    left_sound = ap sound (simulates.bytes free) ∙ picture_sound (granted l c) rest (simulates.valid free)

  -- ---- teach, correct, erase

  -- a slot of the call's arguments written at a rank of the key's unit
  written_sound : (k : ℕ) (x : List ℕ) (r : ℕ) → r < v.size → not (eqb (length x) field_bytes) ≡ false
      → sound (bytes (written v (home_in v k) r (slot_of k x))) ≡ true → sound (bytes (written w (home_in v k) r (slot_of k x))) ≡ true
  written_sound k x r room fits =
      sound_alike (written v (home_in v k) r (slot_of k x)) (written w (home_in v k) r (slot_of k x))
      (written_alike v w a (home_in v k) r (home_inside v w a one few k) room (slot_of k x) (slot_of k x) (slot_refl (slot_of k x) (length_args k x fits)))

  teach_sound : (k : ℕ) (x : List ℕ) → Typed (teach k x) → number_in s (teach k x) ≡ 0 → sound (granted_in s (teach k x)) ≡ true
  unfolding granted_in refusals
  teach_sound k x t e =
      let rows = teach_rows v w a one few both_sound k x in
      let f = free (teach k x) t rows e in
      let below : length (l.records (home l k)) < l.size = leb-false l.size (length (l.records (home l k))) f.1.1.1.1.1.0 in
      let room : fill_in v (home_in v k) < v.size = omega (arith, size_seen l rest h, fill_home l rest h k f.1.1.1.0) in
      rw (← (fill_same v w a one few k), ← (home_alike v w a k))
      (written_sound k x (fill_in v (home_in v k)) room f.1.0 (left_sound (teach k x) t rows e))

  -- the rank of a key that is present
  inside : (k : ℕ) → ltb 0 (outs_of l (home l k / 4)) ≡ false → leb (length (l.records (home l k))) (rank_of (l.records (home l k)) k) ≡ false
      → rank_in v (home_in v k) k < v.size
  inside k q i =
      let present : rank_of (l.records (home l k)) k < length (l.records (home l k)) = leb-false _ _ i in
      omega (arith, size_seen l rest h, rank_home l rest h k q, h.fits (home l k))

  correct_sound : (k : ℕ) (x : List ℕ) → Typed (correct k x) → number_in s (correct k x) ≡ 0 → sound (granted_in s (correct k x)) ≡ true
  unfolding granted_in refusals
  correct_sound k x t e =
      let rows = correct_rows v w a one few both_sound k x in
      let f = free (correct k x) t rows e in
      rw (← (rank_same v w a one few k), ← (home_alike v w a k))
      (written_sound k x (rank_in v (home_in v k) k) (inside k f.1.1.1.0 f.1.1.1.1.0) f.1.0 (left_sound (correct k x) t rows e))

  erase_sound : (k : ℕ) → Typed (erase k) → number_in s (erase k) ≡ 0 → sound (granted_in s (erase k)) ≡ true
  unfolding granted_in refusals
  erase_sound k t e =
      let rows = erase_rows v w a one few both_sound k in
      let f = free (erase k) t rows e in
      let u : ℕ = home_in v k in
      let r : ℕ = rank_in v (home_in v k) k in
      let last : ℕ = pred (fill_in v (home_in v k)) in
      let room : r < v.size = inside k f.1.1.0 f.1.1.1.0 in
      let end : last < v.size = omega (arith, size_seen l rest h, fill_home l rest h k f.1.1.0, h.fits (home l k)) in
      rw (← (rank_same v w a one few k), ← (fill_same v w a one few k), ← (home_alike v w a k))
      (sound_alike (erased v u r last) (erased w u r last) (erased_alike v w a u r last (home_inside v w a one few k) room end)
      (left_sound (erase k) t rows e))

  -- ---- unit out, repair

  out_sound : (n : ℕ) → Typed (unit_out n) → number_in s (unit_out n) ≡ 0 → sound (granted_in s (unit_out n)) ≡ true
  unfolding granted_in
  out_sound n t e =
      sound_alike (unit_lost v n) (unit_lost w n) (lost_alike v w a n)
      (left_sound (unit_out n) t (out_rows v w a one few both_sound n) e)

  repair_sound : (g : ℕ) → Typed (repair g) → number_in s (repair g) ≡ 0 → sound (granted_in s (repair g)) ≡ true
  unfolding granted_in refusals
  repair_sound g t e =
      let rows = repair_rows v w a one few both_sound g in
      let f = free (repair g) t rows e in
      let low : g < 4 = omega (arith, ltb-false 3 g f.0) in
      sound_alike (repaired v g) (repaired w g)
      (repaired_alike v w a g low (beyond_seen l rest h g low ∙ f.1.1.1.0))
      (left_sound (repair g) t rows e)

  -- ---- grow, shrink, raise

  -- a check unit in service stands below the level
  within : (c : ℕ) → c < 12 → eqb (v.cstate c) 1 ≡ true → ltb (c % 3) (level_in v) ≡ true
  within c i e = rw (level_seen l rest h)
      (and_second (ltb (4 * (c / 3)) l.units) _ (sym (placed_check l c) ∙ in_place l (16 + c) (ap (λ (n : ℕ). eqb n 1) (sym (cstate_is l rest h c i)) ∙ e)))

  grow_sound : Typed grow → number_in s grow ≡ 0 → sound (granted_in s grow) ≡ true
  unfolding granted_in refusals
  grow_sound t e =
      let rows = grow_rows_lem v w a one few both_sound in
      let f = free grow t rows e in
      let m : ℕ = units_in v in
      let room : m < 16 = omega (arith, units_seen l rest h, leb-false 16 l.units f.1.0) in
      rw (← (units_alike v w a))
      (sound_alike (grown v m) (grown w m) (grown_alike v w a m room (split_inside v w a one few) within) (left_sound grow t rows e))

  shrink_sound : Typed shrink → number_in s shrink ≡ 0 → sound (granted_in s shrink) ≡ true
  unfolding granted_in refusals
  shrink_sound t e =
      let rows = shrink_rows_lem v w a one few both_sound in
      let f = free shrink t rows e in
      let m : ℕ = pred (units_in v) in
      let two : 2 ≤ units_in v = omega (arith, units_seen l rest h, leb-false l.units 1 f.1.0) in
      rw (← (units_alike v w a))
      (sound_alike (shrunk v m) (shrunk w m) (shrunk_alike v w a m (omega (arith, few)) (split_before v w a one few two)) (left_sound shrink t rows e))

  raise_sound : Typed raise → number_in s raise ≡ 0 → sound (granted_in s raise) ≡ true
  unfolding granted_in
  raise_sound t e =
      sound_alike (raised v) (raised w) (raised_alike v w a) (left_sound raise t (raise_rows v w a one few both_sound) e)

  -- ---- every call that is granted

  granted_sound : (c : Call) → Typed c → number_in s c ≡ 0 → sound (granted_in s c) ≡ true
  unfolding granted_in
  granted_sound (teach k x) t e = teach_sound k x t e
  granted_sound (correct k x) t e = correct_sound k x t e
  granted_sound (erase k) t e = erase_sound k t e
  granted_sound (read k out) t e = ok
  granted_sound (read_in_place k) t e = ok
  granted_sound (list out) t e = ok
  granted_sound (unit_out n) t e = out_sound n t e
  granted_sound (repair g) t e = repair_sound g t e
  granted_sound grow t e = grow_sound t e
  granted_sound shrink t e = shrink_sound t e
  granted_sound raise t e = raise_sound t e

  after_sound : (c : Call) → Typed c → sound (perform s c).store ≡ true
  unfolding perform after_in
  after_sound c t =
      by-pick (λ (x : List ℕ). sound x ≡ true) (eqb (number_in s c) 0) (granted_in s c) s
      (λ e. granted_sound c t (eqb-true (number_in s c) 0 e)) (λ e. ok)

calls_stay_sound : (s : List ℕ) → Bytes s → sound s ≡ true → (c : Call) → Typed c → sound (perform s c).store ≡ true
calls_stay_sound s b ok c t =
    let l : Ledger = ledger_of (view s) in
    let rest : List ℕ = (view s).rest in
    let a : Alike (view (picture l rest)) (view s) = rw (bytes_view s (ranged s ok).long) at (seen_alike (image l rest) (view s) (ledger_alike s b ok)) in
    after_sound l rest (ledger_valid s b ok) s ok a c t

-- ---- every step: it counts as a base call or as nothing

left_sound_by : (s : List ℕ) → Bytes s → sound s ≡ true → (o : Option Call) → CountTyped o → sound (store_left s o) ≡ true
unfolding store_left
left_sound_by s b ok none t = ok
left_sound_by s b ok (some c) t = calls_stay_sound s b ok c t

-- EVERY SOUND STORE
pub stays_sound : StaysSound
unfolding perform_step
stays_sound s b ok x t = left_sound_by s b ok (counted_in s x) (counted_typed_in s x t)
