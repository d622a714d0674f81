-- Losses on a picture, rank by rank: what the calls find missing, and beyond recovery, is what the ledger says.
use Prim.Native.Nat.{ℕ, ◌+◌, ◌*◌, ◌/◌, ◌%◌, ◌<◌}
use mathlib.Core.Path.{◌≡◌, refl, ap, ap₂, ◌∙◌, subst}
use mathlib.Core.List.{List}
use mathlib.Core.Bool.{Bool, true, false, not, ◌&&◌, ◌||◌}
use native.Mathlib.Omega.{arith}
use lib.Dec.{eqb, ltb, leb}
use lib.ListN.{length}
use borrow.Author.Tests.{eqb-false, ltb-false, not-false}
use Rattle.buffer.specs.ChoiceLaws.{by-test}
use Rattle.buffer.specs.TestLaws.{and_first, and_ext, and_other, or_false_first, or_false_second, or_ext}
use Rattle.buffer.specs.Range.{all, count}
use Rattle.buffer.specs.RangeLaws.{all_ext, all_true, count_ext, none_counted}
use Rattle.group.specs.Members.{checks_serving, rebuildable}
use Rattle.model.specs.Layout.{Store, view}
use Rattle.model.specs.Reads.{listed_fill, missing_in, rebuildable_in, keys_lost_in, key_beyond_in, beyond_in, lost_in}
use Rattle.model.specs.history.Ledger.{Ledger, home, record_at, rank_of, is_out, state, missing_of, checks_serving_of, rebuildable_of}
use Rattle.model.specs.history.Ledger.{keys_lost_of, key_beyond_of, beyond_of, lost}
use Rattle.model.specs.history.Picture.{record_bytes, picture_slot, picture}
use Rattle.model.proofs.history.ledger.Valid.{Valid}
use Rattle.model.proofs.history.picture.Seen.{slot_none, slot_kept, size_seen, home_seen, home_low, cstate_is, dstate_out}
use Rattle.model.proofs.history.picture.Listed.{Kept, fill_known, rank_known}

-- ---- in the ledger

module _ (l : Ledger) where
  -- a record that is not missing shows, also a record that is none
  pub slot_present : Valid l → (u r : ℕ) → u < 16 → missing_of l u r ≡ false → picture_slot l u r ≡ record_bytes (record_at l u r)
  unfolding missing_of
  slot_present h u r a e =
      by-test (λ (t : Bool). is_out l u ≡ t → picture_slot l u r ≡ record_bytes (record_at l u r)) (is_out l u)
      (λ _ o. slot_none l u r (ltb-false r (length (l.records u)) (and_other (is_out l u) _ o e)))
      (λ _ o. slot_kept l h u r a o) refl

  -- a unit of a group that is not beyond recovery: its keys are not lost, and each rank can be rebuilt
  module _ (u : ℕ) (nb : beyond_of l (u / 4) ≡ false) where
    pub near_keys : keys_lost_of l u ≡ false
    unfolding beyond_of
    near_keys =
        let d : u ≡ 4 * (u / 4) + u % 4 = omega arith in
        let lost : ℕ → Bool = λ p. keys_lost_of l (4 * (u / 4) + p) in
        ap (keys_lost_of l) d ∙ none_counted 4 lost (or_false_first (ltb 0 (count 4 lost)) _ nb) (u % 4) (omega arith)

    pub near_rank : (r : ℕ) → r < l.size → rebuildable_of l (u / 4) r ≡ true
    unfolding beyond_of
    near_rank = all_true l.size (rebuildable_of l (u / 4)) (not-false _ (or_false_second (ltb 0 (count 4 (λ p. keys_lost_of l (4 * (u / 4) + p)))) _ nb))

-- ---- on its picture

module _ (l : Ledger) (rest : List ℕ) (h : Valid l) where
  abbrev v : Store
  v = view (picture l rest)

  checks_serving_seen : (g : ℕ) → g < 4 → checks_serving (λ j. v.cstate (3 * g + j)) ≡ checks_serving_of l g
  unfolding checks_serving checks_serving_of
  checks_serving_seen g a = count_ext 3 (λ j. eqb (v.cstate (3 * g + j)) 1) (λ j. eqb (state l (16 + (3 * g + j))) 1)
      (λ j b. ap (λ (n : ℕ). eqb n 1) (cstate_is l rest h (3 * g + j) (omega arith)))

  pub keys_lost_seen : (u : ℕ) → u < 16 → keys_lost_in v u ≡ keys_lost_of l u
  unfolding keys_lost_in keys_lost_of
  keys_lost_seen u a = ap₂ (λ (s t : Bool). s && t) (dstate_out l rest h u a) (ap (λ (n : ℕ). eqb n 0) (checks_serving_seen (u / 4) (omega arith)))

  -- keys that are not lost are known
  pub known : (u : ℕ) → u < 16 → keys_lost_of l u ≡ false → is_out l u ≡ true → Kept l rest h (u / 4)
  unfolding keys_lost_of checks_serving
  known u a e o = omega (arith, checks_serving_seen (u / 4) (omega arith), eqb-false (checks_serving_of l (u / 4)) 0 (and_other (is_out l u) _ o e))

  pub missing_seen : (u : ℕ) → u < 16 → (is_out l u ≡ true → Kept l rest h (u / 4)) → (r : ℕ) → missing_in v u r ≡ missing_of l u r
  unfolding missing_in missing_of
  missing_seen u a k r = rw (dstate_out l rest h u a)
      (and_ext (is_out l u) (ltb r (listed_fill v u)) (ltb r (length (l.records u))) (λ e. ap (ltb r) (fill_known l rest h u a k)))

  -- a group of which all keys are known
  module _ (g : ℕ) (hg : g < 4) (k : (p : ℕ) → p < 4 → is_out l (4 * g + p) ≡ true → Kept l rest h ((4 * g + p) / 4)) where
    pub places_seen : (r p : ℕ) → p < 4 → missing_in v (4 * g + p) r ≡ missing_of l (4 * g + p) r
    places_seen r p a = missing_seen (4 * g + p) (omega arith) (k p a) r

    pub rebuildable_seen : (r : ℕ) → rebuildable_in v g r ≡ rebuildable_of l g r
    unfolding rebuildable_in rebuildable rebuildable_of
    rebuildable_seen r =
        ap₂ leb (count_ext 4 (λ p. missing_in v (4 * g + p) r) (λ p. missing_of l (4 * g + p) r) (places_seen r)) (checks_serving_seen g hg)

  -- one in which a check unit is in service
  pub all_known : (g : ℕ) → Kept l rest h g → (p : ℕ) → p < 4 → is_out l (4 * g + p) ≡ true → Kept l rest h ((4 * g + p) / 4)
  all_known g k p a _ = let e : g ≡ (4 * g + p) / 4 = omega arith in subst (Kept l rest h) e k

  -- ---- beyond recovery

  pub key_beyond_seen : (k : ℕ) → key_beyond_in v k ≡ key_beyond_of l k
  unfolding key_beyond_in key_beyond_of
  key_beyond_seen k =
      let u : ℕ = home l k in
      let r : ℕ = rank_of (l.records u) k in
      let low : u < 16 = home_low l rest h k in
      rw (home_seen l rest h k, keys_lost_seen u low) (or_ext (keys_lost_of l u) _ _ (λ e.
      rw (rank_known l rest h u low (known u low e) k, missing_seen u low (known u low e) r) (and_ext (missing_of l u r) _ _ (λ m.
      ap not (rebuildable_seen (u / 4) (omega arith) (all_known (u / 4) (known u low e (unfold missing_of in and_first (is_out l u) _ m))) r)))))

  pub beyond_seen : (g : ℕ) → g < 4 → beyond_in v g ≡ beyond_of l g
  unfolding beyond_in beyond_of
  beyond_seen g a =
      ap (λ (n : ℕ). ltb 0 n || not (all v.size (rebuildable_in v g)))
      (count_ext 4 (λ p. keys_lost_in v (4 * g + p)) (λ p. keys_lost_of l (4 * g + p)) (λ p b. keys_lost_seen (4 * g + p) (omega arith)))
      ∙ or_ext (ltb 0 (count 4 (λ p. keys_lost_of l (4 * g + p)))) _ _ (λ e. ap not
      (ap (λ (m : ℕ). all m (rebuildable_in v g)) (size_seen l rest h)
      ∙ all_ext l.size (rebuildable_in v g) (rebuildable_of l g) (λ r _. rebuildable_seen g a
      (λ p b. known (4 * g + p) (omega arith) (none_counted 4 (λ p. keys_lost_of l (4 * g + p)) e p b)) r)))

  pub lost_seen : lost_in v ≡ lost l
  unfolding lost_in lost
  lost_seen = ap (ltb 0) (count_ext 4 (beyond_in v) (beyond_of l) beyond_seen)
