-- What repair, read and list give of units that are out are the fields that have, by the matrix, what the four members used hold. Assumes that the
-- store holds bytes.
use Prim.Native.Nat.{ℕ, ◌+◌, ◌*◌, ◌/◌, ◌%◌, ◌≤◌, ◌<◌}
use mathlib.Core.Path.{◌≡◌, refl, ap, ap₂, ◌∙◌}
use mathlib.Core.List.{List, [], ◌++◌, append-nil}
use mathlib.Core.Bool.{true, false, ◌&&◌}
use native.Mathlib.Omega.{arith}
use lib.Dec.{eqb}
use lib.ListN.{length, drop, length-append, length-drop, drop_of_length-le}
use lib.Seq.{drop_at}
use borrow.Author.Tests.{eqb-true, eq-eqb, ne_eqb, ltb-false, leb-false, not-false}
use Rattle.buffer.specs.Choice.{pick}
use Rattle.buffer.specs.ChoiceLaws.{by-test, pick_true}
use Rattle.buffer.specs.TestLaws.{and_other, or_false_first, or_false_second}
use Rattle.buffer.specs.RangeLaws.{none_counted}
use Rattle.buffer.specs.Bytes.{zeros}
use Rattle.group.specs.Widths.{key_bytes, field_bytes, slot_bytes}
use Rattle.group.specs.Rebuilding.{rebuilt}
use Rattle.model.specs.Layout.{Store, view, key_of}
use Rattle.model.specs.Reads.{home_in, listed_key, listed_fill, listed_rank, missing_in, serves_in, holds, whole_slot, field_in}
use Rattle.model.specs.Reads.{keys_lost_in, key_beyond_in, beyond_in, lost_in, total_in, listing_in}
use Rattle.model.proofs.ReadLaws.{listed_le, whole_own, listing_long, record_at_lem}
use Rattle.model.proofs.LossLaws.{out_missing, keys_kept, rank_kept, unit_keys_kept, whole_kept}
use Rattle.model.specs.Sound.{sound}
use Rattle.model.specs.Changes.{repaired}
use Rattle.model.specs.Numbers.{read, list, repair, refusals_in, number_in}
use Rattle.model.specs.Perform.{copied, listed, output, reply, given_in, answer_in, perform}
use Rattle.model.specs.MadeAnew.{left_by}
use Rattle.model.specs.Recovered.{Listing, Recovered}
use Rattle.model.specs.history.Typed.{Bytes}
use Rattle.model.proofs.InPlace.{home_low}
use Rattle.model.proofs.Left.{shaped, free, repair_group, repair_sound, repair_near, repair_left}
use Rattle.model.proofs.RebuiltSlots.{Rebuildable, fields_held, key, field, field_long, key_long, whole_missing, whole_long, whole_slot_lem}

-- ---- a granted repair

module _ (s : List ℕ) (b : Bytes s) (g : ℕ) (zero : number_in s (repair g) ≡ 0) (r : ℕ) (hr : r < (view s).size) where
  repair_rebuildable : Rebuildable s g r
  repair_rebuildable = record {
    bytes = b;
    ok = repair_sound s g zero;
    group = repair_group s g zero;
    rank = hr;
    near = rank_kept (view s) g (repair_near s g zero) r hr;
  }

  repaired_slot : (p : ℕ) → p < 4
      → (left_by s (repair g)).slot (4 * g + p) r
      ≡ pick (eqb ((view s).dstate (4 * g + p)) 2 && eqb (key_of (listed_key (view s) (4 * g + p) r)) 0) (zeros slot_bytes)
      (listed_key (view s) (4 * g + p) r ++ rebuilt (serves_in (view s) g r) (holds (view s) g r) p)
  unfolding repaired
  repaired_slot p l =
      let d : (4 * g + p) / 4 ≡ g = omega arith in
      let m : (4 * g + p) % 4 ≡ p = omega arith in
      let h : Rebuildable s ((4 * g + p) / 4) r = rw d repair_rebuildable in
      (repair_left s g zero).slot (4 * g + p) r (omega (arith, repair_group s g zero)) hr
      ∙ pick_true (eq-eqb ((4 * g + p) / 4) g d) (whole_slot (view s) (4 * g + p) r) ((view s).slot (4 * g + p) r)
      ∙ rw (d, m) at (whole_slot_lem (4 * g + p) h (keys_kept (view s) g (repair_near s g zero) p l))

-- ---- a granted read

module _ (s : List ℕ) (b : Bytes s) (k : ℕ) (out : List ℕ) (zero : number_in s (read k out) ≡ 0) (lost : (view s).dstate (home_in (view s) k) ≡ 2) where
  abbrev home : ℕ
  home = home_in (view s) k

  abbrev at : ℕ
  at = listed_rank (view s) (home_in (view s) k) k

  fits : length out ≡ field_bytes
  unfolding refusals_in
  fits = eqb-true (length out) field_bytes (not-false (eqb (length out) field_bytes) (free s (read k out) zero).1.0)

  present : at < listed_fill (view s) home
  unfolding refusals_in
  present = leb-false (listed_fill (view s) home) at (free s (read k out) zero).1.1.1.1.0

  missing : missing_in (view s) home at ≡ true
  missing = out_missing (view s) home at (eq-eqb ((view s).dstate home) 2 lost) present

  read_sound : sound s ≡ true
  unfolding refusals_in
  read_sound = not-false (sound s) (free s (read k out) zero).1.1.0

  -- the key is not beyond recovery
  read_near : key_beyond_in (view s) k ≡ false
  unfolding refusals_in
  read_near = (free s (read k out) zero).1.1.1.0

  read_kept : keys_lost_in (view s) home ≡ false
  unfolding key_beyond_in
  read_kept = or_false_first (keys_lost_in (view s) home) _ read_near

  read_rebuildable : Rebuildable s (home / 4) at
  unfolding key_beyond_in
  read_rebuildable = record {
    bytes = b;
    ok = read_sound;
    group = omega (arith, home_low s read_sound k);
    rank = omega (arith, present, listed_le (view s) home);
    near = not-false _ (and_other (missing_in (view s) home at) _ missing (or_false_second (keys_lost_in (view s) home) _ read_near));
  }

  field_read : field_in (view s) k ≡ field home read_rebuildable
  unfolding field_in
  field_read =
      ap (drop key_bytes) (whole_missing home read_rebuildable missing)
      ∙ drop_at (key home read_rebuildable) (field home read_rebuildable) key_bytes (key_long home read_rebuildable read_kept missing)

  read_answer : (perform s (read k out)).answer ≡ copied 0 (field home read_rebuildable)
  unfolding perform answer_in reply given_in output
  read_answer =
      let filled : drop (length (field home read_rebuildable)) out ≡ [] =
      drop_of_length-le out {i = length (field home read_rebuildable)} (omega (arith, fits, field_long home read_rebuildable)) in
      rw (zero, field_read, filled) (ap (copied 0) (pick_true refl _ out ∙ append-nil _))

-- ---- a granted list

module _ (s : List ℕ) (b : Bytes s) (out : List ℕ) (zero : number_in s (list out) ≡ 0) where
  abbrev t : Store
  t = view s

  list_sound : sound s ≡ true
  unfolding refusals_in
  list_sound = not-false (sound s) (free s (list out) zero).0

  room : slot_bytes * total_in t ≤ length out
  unfolding refusals_in
  room = ltb-false (length out) (slot_bytes * total_in t) (free s (list out) zero).1.1.0

  -- no group is beyond recovery
  list_near : (u : ℕ) → u < 16 → beyond_in t (u / 4) ≡ false
  unfolding refusals_in lost_in
  list_near u l = none_counted 4 (beyond_in t) (free s (list out) zero).1.0 (u / 4) (omega arith)

  list_rebuildable : (u r : ℕ) → u < 16 → r < listed_fill t u → Rebuildable s (u / 4) r
  list_rebuildable u r l m =
      let rank : r < t.size = omega (arith, listed_le t u) in
      record { bytes = b; ok = list_sound; group = omega arith; rank = rank; near = rank_kept t (u / 4) (list_near u l) r rank }

  slot_long : (u r : ℕ) → u < 16 → r < listed_fill t u → length (whole_slot t u r) ≡ slot_bytes
  slot_long u r l m =
      by-test (λ _. length (whole_slot t u r) ≡ slot_bytes) (missing_in t u r)
      (whole_long u (list_rebuildable u r l m) (unit_keys_kept t u (list_near u l)))
      (λ e. ap length (whole_kept t u r e) ∙ (shaped s list_sound).slot u r l (omega (arith, listed_le t u)))

  all_long : length (listing_in t) ≡ slot_bytes * total_in t
  all_long = listing_long t slot_long

  abbrev rest : List ℕ
  rest = drop (slot_bytes * total_in t) out

  list_answer : (perform s (list out)).answer ≡ listed 0 (total_in t) (listing_in t ++ rest)
  unfolding perform answer_in reply given_in output
  list_answer = rw (zero, all_long) (ap₂ (listed 0) (pick_true refl (total_in t) 0) (pick_true refl (listing_in t ++ rest) out))

  listing : Listing s out
  listing = record {
    written = listing_in t ++ rest;
    answered = list_answer;
    long = length-append (listing_in t) rest ∙ simp length-drop (omega (arith, all_long, room));
    own = λ u r l m e. record_at_lem t slot_long rest u r l m ∙ whole_own t u (ne_eqb (t.dstate u) 2 e) r;
    rebuilt = λ u r l m e.
        let h : Rebuildable s (u / 4) r = list_rebuildable u r l m in
        (_, fields_held h, record_at_lem t slot_long rest u r l m ∙ whole_missing u h (out_missing t u r (eq-eqb (t.dstate u) 2 e) m));
    behind = drop_at (listing_in t) rest (slot_bytes * total_in t) all_long;
  }

-- EVERY SOUND STORE
pub recovered : (s : List ℕ) → Bytes s → Recovered s
recovered s b = record {
  by_repair = λ g z r hr. (_, fields_held (repair_rebuildable s b g z r hr), repaired_slot s b g z r hr);
  by_read = λ k out z lost. (_, fields_held (read_rebuildable s b k out z lost), read_answer s b k out z lost);
  by_list = listing s b;
}
