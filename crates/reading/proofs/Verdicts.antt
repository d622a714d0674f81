-- The verdicts of read and list: each way out of the cascade gives the number of the first row that holds.
use Rattle.std.specs.Prelude.{ℕ, ◌+◌, ◌*◌, ◌/◌, ◌≤◌, ◌<◌, ◌≡◌, refl, Bool, true, false, not, ◌&&◌, List, [], ◌∷◌, length, eqb, get_or}
use Rattle.std.specs.List.{fold}
use Rattle.std.proofs.Common.{sym, ap, ◌∙◌, arith}
use mathlib.Core.Bool as bool
use borrow.Author.Tests.{eq-eqb, ne_eqb, lt-ltb, le-ltb, le-leb, lt-leb, not-false}
use Rattle.buffer.specs.Choice.{pick}
use Rattle.buffer.specs.TestLaws.{and_first, and_other}
use Rattle.buffer.specs.Range.{sum}
use Rattle.buffer.specs.RangeLaws.{sum_none, sum_front, sum_ext, sum_le, length_entries}
use Rattle.buffer.specs.Bytes.{byte}
use Rattle.group.specs.Widths.{field_bytes, slot_bytes}
use Rattle.model.specs.Layout.{view}
use Rattle.model.specs.Reads.{home_in, listed_fill, listed_rank, missing_in, rebuildable_in, keys_lost_in, key_beyond_in, lost_in, total_in}
use Rattle.model.specs.Sound.{sound}
use Rattle.model.specs.Units.{unit_of}
use Rattle.model.specs.Numbers.{first_of}
use Rattle.model.proofs.LossLaws.{none_past}
use Rattle.soundness.specs.Survey.{known_fill, Surveyed}
use Rattle.soundness.specs.SurveyLaws.{found_sized, fill_read, group_counts}
use Rattle.lookup.specs.Sized.{Sized}
use Rattle.lookup.specs.KeyLaws.{listed_fill_small}
use Rattle.lookup.specs.UnitLaws.{home_found}
use Rattle.lookup.specs.Groups.{Counts, Readable, Whole}
use Rattle.lookup.specs.GroupLaws.{out_counted, whole_kept}
use Rattle.reading.specs.Rows.{read_number, list_number}
use Rattle.reading.specs.Found.{Placed}

-- ---- read
module _ (s : List ℕ) (k n : ℕ) where
  pub no_key : k ≡ 0 → 2 ≡ read_number (sound s) (view s) k n
  unfolding read_number first_of pick
  no_key h = rw (eq-eqb k 0 h)

  pub no_room : (k ≡ 0 → ⊥) → (n ≡ field_bytes → ⊥) → 2 ≡ read_number (sound s) (view s) k n
  unfolding read_number first_of pick
  no_room key h = rw (ne_eqb k 0 key, ne_eqb n field_bytes h)

  pub unsound : (k ≡ 0 → ⊥) → n ≡ field_bytes → sound s ≡ false → 1 ≡ read_number (sound s) (view s) k n
  unfolding read_number first_of pick
  unsound key room h = rw (ne_eqb k 0 key, eq-eqb n field_bytes room, h)

-- key k is sought in its unit u of a sound store, for n bytes that fit
pub record Sought (s fills first_checks outs : List ℕ) (k n u : ℕ) : Type 0 where
  pub surveyed : Surveyed s true fills first_checks outs
  pub key : k ≡ 0 → ⊥
  pub room : n ≡ field_bytes
  pub home : u ≡ home_in (view s) k
  pub low : u < 16

pub sought : {s fills first_checks outs : List ℕ} {k n u : ℕ} → Surveyed s true fills first_checks outs
    → (k ≡ 0 → ⊥) → n ≡ field_bytes → (u ≡ unit_of (byte s 6) k) × (u < byte s 6) → Sought s fills first_checks outs k n u
sought e key room unit =
    let sized = found_sized e refl in
    record { surveyed = e; key = key; room = room; home = home_found _ _ unit.0; low = omega (arith, unit.1, sized.units) }

module _ {s fills first_checks outs : List ℕ} {k n u : ℕ} (h : Sought s fills first_checks outs k n u) where
  sought_sound : sound s ≡ true
  sought_sound = sym h.surveyed.tested

  pub sought_sized : Sized s
  sought_sized = found_sized h.surveyed refl

  -- its keys are lost
  pub lost : keys_lost_in (view s) u ≡ true → 8 ≡ read_number (sound s) (view s) k n
  unfolding read_number key_beyond_in first_of pick
  lost e = rw (ne_eqb k 0 h.key, eq-eqb n field_bytes h.room, sought_sound, ← h.home, e)

  module _ (kept : keys_lost_in (view s) u ≡ false) where
    -- its records, which the code reads at the index i
    pub listed_read : {i : ℕ} → i ≡ u → (get_or fills i 0 ≡ listed_fill (view s) u) × (get_or fills i 0 ≤ byte s 5)
    listed_read e = let n = fill_read h.surveyed refl u e h.low kept in (n, rw n (listed_fill_small s u))

    pub group_counted : (view s).dstate u ≡ 2 → Counts s (u / 4) fills
    group_counted = out_counted u kept (group_counts h.surveyed refl (u / 4) (omega (arith, h.low)))

    -- of its m records the key is at rank r
    module _ {m r : ℕ} (fill : (m ≡ listed_fill (view s) u) × (m ≤ byte s 5)) (rank : r ≡ listed_rank (view s) u k) where
      pub absent : m ≤ r → 6 ≡ read_number (sound s) (view s) k n
      unfolding read_number key_beyond_in first_of pick
      absent e =
          let l : listed_fill (view s) u ≤ listed_rank (view s) u k = rw (← fill.0, ← rank) e in
          let none = le-leb (listed_fill (view s) u) (listed_rank (view s) u k) l in
          rw (ne_eqb k 0 h.key, eq-eqb n field_bytes h.room, sought_sound, ← h.home, kept, none_past (view s) u (listed_rank (view s) u k) l) (rw none)

      -- it is there, and x tells whether the unit is out and the rank can't be rebuilt
      module _ (e : r < m) {x : Bool} (seen : x ≡ (eqb ((view s).dstate u) 2 && not (rebuildable_in (view s) (u / 4) r))) where
        listed : r < listed_fill (view s) u
        listed = omega (arith, e, fill.0)

        beyond : key_beyond_in (view s) k ≡ x
        unfolding key_beyond_in missing_in
        beyond =
            rw (← h.home, ← rank, kept, lt-ltb r (listed_fill (view s) u) listed)
            (ap (λ (t : Bool). t && not (rebuildable_in (view s) (u / 4) r)) (bool.and-true (eqb ((view s).dstate u) 2)) ∙ sym seen)

        pub gone : x ≡ true → 8 ≡ read_number (sound s) (view s) k n
        unfolding read_number first_of pick
        gone t = rw (ne_eqb k 0 h.key, eq-eqb n field_bytes h.room, sought_sound, beyond, t)

        module _ (safe : x ≡ false) where
          pub there : Readable s u r
          unfolding missing_in
          there =
              record {
                sized = sought_sized;
                unit = h.low;
                listed = listed;
                rank = λ q. not-false _ (and_other (eqb ((view s).dstate u) 2) _ (and_first (eqb ((view s).dstate u) 2) _ q) (sym seen ∙ safe));
              }

          pub placed : Placed s k u r
          placed = record { there = there; home = h.home; found = rank }

          pub present : 0 ≡ read_number (sound s) (view s) k n
          unfolding read_number first_of pick
          present =
              let hit = lt-leb (listed_fill (view s) u) (listed_rank (view s) u k) (rw rank at listed) in
              rw (ne_eqb k 0 h.key, eq-eqb n field_bytes h.room, sought_sound, beyond, safe, ← h.home, hit)

-- ---- list
-- the sum of a list, entry by entry
abbrev total : List ℕ → ℕ
total l = fold (λ (a x : ℕ). a + x) 0 l

added_to : (a : ℕ) (l : List ℕ) → fold (λ (a x : ℕ). a + x) a l ≡ a + sum (length l) (λ i. get_or l i 0)
added_to a [] = omega (arith, sum_none (λ i. get_or [] i 0))
added_to a (x ∷ l) = added_to (a + x) l ∙ omega (arith, sum_front (length l) (λ i. get_or (x ∷ l) i 0))

added : (l : List ℕ) → total l ≡ sum (length l) (λ i. get_or l i 0)
added l = added_to 0 l ∙ omega arith

-- where nothing is lost the survey has counted every unit
module _ {s fills first_checks outs : List ℕ} (g : Surveyed s true fills first_checks outs) (whole : Whole s) where
  pub fill_at : {i : ℕ} (u : ℕ) → i ≡ u → u < 16 → get_or fills i 0 ≡ listed_fill (view s) u
  fill_at u e l = fill_read g refl u e l (whole_kept whole u l)

  pub fills_total : total fills ≡ total_in (view s)
  unfolding total_in
  fills_total =
      let long : length fills ≡ 16 = rw g.filled (length_entries 16 (λ u. pick true (known_fill (view s) u) 0)) in
      let each : sum (length fills) (λ u. get_or fills u 0) ≡ sum 16 (λ u. get_or fills u 0) = rw long in
      added fills ∙ each ∙ sum_ext 16 (λ u. get_or fills u 0) (listed_fill (view s)) (λ u l. fill_at u refl l)

  pub total_small : total fills ≤ 1024
  unfolding total_in
  total_small = omega (arith, fills_total, sum_le 16 64 (listed_fill (view s)) (λ u l. omega (arith, listed_fill_small s u, whole.sized.ranks)))

module _ (s : List ℕ) (n : ℕ) where
  pub list_unsound : sound s ≡ false → 1 ≡ list_number (sound s) (view s) n
  unfolding list_number first_of pick
  list_unsound h = rw h

  module _ (good : sound s ≡ true) where
    pub list_lost : lost_in (view s) ≡ true → 8 ≡ list_number (sound s) (view s) n
    unfolding list_number first_of pick
    list_lost h = rw (good, h)

    module _ (safe : lost_in (view s) ≡ false) where
      pub list_short : n < slot_bytes * total_in (view s) → 7 ≡ list_number (sound s) (view s) n
      unfolding list_number first_of pick
      list_short h = rw (good, safe, lt-ltb n (slot_bytes * total_in (view s)) h)

      pub list_fits : slot_bytes * total_in (view s) ≤ n → 0 ≡ list_number (sound s) (view s) n
      unfolding list_number first_of pick
      list_fits l = rw (good, safe, le-ltb n (slot_bytes * total_in (view s)) l)
