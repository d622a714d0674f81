-- Laws of decoders: up to the rank at which it changes, the decoder of a rank is that of the next one too (`next_rank`).
use Prim.Native.Nat.{ℕ, ◌+◌, ◌*◌, ◌/◌, ◌≤◌, ◌<◌}
use Rattle.std.specs.Prelude.{◌≡◌, ◌≢◌, Bool, ◌&&◌, List, eqb}
use Rattle.std.proofs.Math.Path.{refl, sym, ap}
use Rattle.std.proofs.Common.{◌∙◌}
use Rattle.std.proofs.Math.Bool.{true, false}
use native.Mathlib.Omega.{arith}
use Rattle.std.proofs.Math.Dec.{ltb}
use Rattle.std.proofs.Math.ListN.{get_or}
use borrow.Author.Tests.{eqb-true, lt-ltb, ltb-true, ltb-false}
use Rattle.buffer.specs.Choice.{pick}
use Rattle.buffer.specs.ChoiceLaws.{by-pick, by-test, pick-false}
use Rattle.buffer.specs.TestLaws.{same_test, and-true, and_first, and_second, and_false_first, and_other}
use Rattle.buffer.specs.RangeLaws.{below-four}
use Rattle.group.specs.Members.{first_four}
use Rattle.group.specs.MembersLaws.{serves_ext, four_ext}
use Rattle.model.specs.Layout.{Store, view}
use Rattle.model.specs.Reads.{listed_fill, missing_in, serves_in, keys_lost_in, beyond_in}
use Rattle.model.proofs.LossLaws.{missing_out, keys_kept, missing_before}
use Rattle.model.proofs.SameLosses.{fill_same, missing_same}
use Rattle.model.proofs.RebuildingLaws.{Rebuilding, same_lists, serves_same}
use Rattle.lookup.specs.Groups.{Counts}
use Rattle.lookup.specs.GroupLaws.{marked_no, marked_yes}
use Rattle.lookup.specs.Decoders.{ends_before, changes_at, DecoderOf}

module _ (v : Store) (g p r end : ℕ) where
  ends_le : ends_before v g p r end ≤ end
  unfolding ends_before
  ends_le =
      by-pick (λ n. n ≤ end) (missing_in v (4 * g + p) r && ltb (listed_fill v (4 * g + p)) end) (listed_fill v (4 * g + p)) end
      (λ e. omega (arith, ltb-true (listed_fill v (4 * g + p)) end (and_second (missing_in v (4 * g + p) r) _ e))) (λ e. omega arith)

  -- not behind the end of the list, where the record is missing
  ends_fill : missing_in v (4 * g + p) r ≡ true → ends_before v g p r end ≤ listed_fill v (4 * g + p)
  unfolding ends_before
  ends_fill m =
      by-pick (λ n. n ≤ listed_fill v (4 * g + p)) (missing_in v (4 * g + p) r && ltb (listed_fill v (4 * g + p)) end) (listed_fill v (4 * g + p)) end
      (λ e. omega arith) (λ e. omega (arith, ltb-false (listed_fill v (4 * g + p)) end (and_other (missing_in v (4 * g + p) r) _ m e)))

-- the end as code computes it: where the record of the place is kept, and where it is missing with, at an index i, the number of the unit's keys
pub end_where_kept : (s : List ℕ) (g p r end : ℕ) → missing_in (view s) (4 * g + p) r ≡ false → ends_before (view s) g p r end ≡ end
unfolding ends_before
end_where_kept s g p r end e = pick-false (and_false_first e _) _ end

module _ {s : List ℕ} {g : ℕ} {fills : List ℕ} (counts : Counts s g fills) (p : ℕ) (low : p < 4) (r end : ℕ) where
  pub end_where_missing : missing_in (view s) (4 * g + p) r ≡ true → {i : ℕ} → i ≡ 4 * g + p
      → ends_before (view s) g p r end ≡ pick (ltb (get_or fills i 0) end) (get_or fills i 0) end
  unfolding ends_before
  end_where_missing there at =
      let out : (view s).dstate (4 * g + p) ≡ 2 = eqb-true ((view s).dstate (4 * g + p)) 2 (missing_out (view s) (4 * g + p) r there) in
      rw (there, ap (λ (j : ℕ). get_or fills j 0) at ∙ counts.counted p low out)

  -- the same, by the mark x of the place
  module _ {x : ℕ} (seen : x ≡ pick (missing_in (view s) (4 * g + p) r) 1 0) where
    pub end_kept : x ≡ 0 → ends_before (view s) g p r end ≡ end
    end_kept z = end_where_kept s g p r end (marked_no (missing_in (view s) (4 * g + p) r) seen z)

    pub end_earlier : x ≢ 0 → {i : ℕ} → i ≡ 4 * g + p → ends_before (view s) g p r end ≡ pick (ltb (get_or fills i 0) end) (get_or fills i 0) end
    end_earlier some at = end_where_missing (marked_yes (missing_in (view s) (4 * g + p) r) seen some) at

-- the same records are missing up to there
module _ (v : Store) (g r q : ℕ) (l : r ≤ q) (k : q < changes_at v g r) where
  before_end : (p : ℕ) → p < 4 → missing_in v (4 * g + p) r ≡ true → q < listed_fill v (4 * g + p)
  unfolding changes_at
  before_end =
      let one : ℕ = ends_before v g 0 r v.size in
      let two : ℕ = ends_before v g 1 r one in
      let three : ℕ = ends_before v g 2 r two in
      let third = ends_le v g 3 r three in
      let second = ends_le v g 2 r two in
      let first = ends_le v g 1 r one in
      below-four (λ p. missing_in v (4 * g + p) r ≡ true → q < listed_fill v (4 * g + p))
      (λ m. omega (arith, k, third, second, first, ends_fill v g 0 r v.size m))
      (λ m. omega (arith, k, third, second, ends_fill v g 1 r one m))
      (λ m. omega (arith, k, third, ends_fill v g 2 r two m))
      (λ m. omega (arith, k, ends_fill v g 3 r three m))

  missing_still : (p : ℕ) → p < 4 → missing_in v (4 * g + p) q ≡ missing_in v (4 * g + p) r
  missing_still p a =
      same_test (missing_in v (4 * g + p) q) (missing_in v (4 * g + p) r) (missing_before v (4 * g + p) r q l)
      (λ m. unfold missing_in in
      and-true (and_first (eqb (v.dstate (4 * g + p)) 2) _ m) (lt-ltb q (listed_fill v (4 * g + p)) (before_end p a m)))

  four_still : first_four (serves_in v g q) ≡ first_four (serves_in v g r)
  unfolding serves_in
  four_still = four_ext _ _ (serves_ext _ _ _ _ missing_still (λ j _. refl))

  ends_still : (p : ℕ) → p < 4 → (end : ℕ) → ends_before v g p q end ≡ ends_before v g p r end
  unfolding ends_before
  ends_still p a end = ap (λ (t : Bool). pick (t && ltb (listed_fill v (4 * g + p)) end) (listed_fill v (4 * g + p)) end) (missing_still p a)

  changes_still : changes_at v g q ≡ changes_at v g r
  unfolding changes_at
  changes_still = rw (ends_still 0 (omega arith), ends_still 1 (omega arith), ends_still 2 (omega arith), ends_still 3 (omega arith))

-- the decoder of a rank is that of the next one, where it does not change there
pub next_rank : {s : List ℕ} {u r : ℕ} {members weights : List ℕ} {until : ℕ} → DecoderOf s u r members weights until → r + 1 < until
    → DecoderOf s u (r + 1) members weights until
next_rank {s} {u} {r} h l =
    let k : r + 1 < changes_at (view s) (u / 4) r = rw h.last at l in
    record {
      four = h.four ∙ sym (four_still (view s) (u / 4) r (r + 1) (omega arith) k);
      weigh = h.weigh;
      last = h.last ∙ sym (changes_still (view s) (u / 4) r (r + 1) (omega arith) k);
    }

-- ---- while slots are rebuilt one by one in place, decoders stay
module _ (v w : Store) (h : Rebuilding v w) (g : ℕ) (hg : g < 4) (nb : beyond_in v g ≡ false) (r : ℕ) where
  ends_same : (p : ℕ) → p < 4 → (end : ℕ) → ends_before w g p r end ≡ ends_before v g p r end
  unfolding ends_before
  ends_same p l end =
      let u : ℕ = 4 * g + p in
      let low : u < 16 = omega arith in
      let kept : keys_lost_in v u ≡ false = keys_kept v g nb p l in
      rw (missing_same v w (same_lists h) u low kept r)
      (by-test (λ (t : Bool). missing_in v u r ≡ t
      → pick (t && ltb (listed_fill w u) end) (listed_fill w u) end ≡ pick (t && ltb (listed_fill v u) end) (listed_fill v u) end) (missing_in v u r)
      (λ m _. rw (fill_same v w (same_lists h) u low kept (missing_out v u r m)))
      (λ _ _. pick-false refl (listed_fill w u) end ∙ sym (pick-false refl (listed_fill v u) end)) refl)

  changes_same : changes_at w g r ≡ changes_at v g r
  unfolding changes_at
  changes_same =
      rw (ends_same 0 (omega arith), ends_same 1 (omega arith), ends_same 2 (omega arith), ends_same 3 (omega arith))
      (ap (λ (n : ℕ). ends_before v g 3 r (ends_before v g 2 r (ends_before v g 1 r (ends_before v g 0 r n)))) h.size)

-- the decoder of a rank in the one store is that in the other
module _ (s₀ s : List ℕ) (h : Rebuilding (view s₀) (view s)) (u r : ℕ) (low : u < 16) (nb : beyond_in (view s₀) (u / 4) ≡ false) where
  four_same : first_four (serves_in (view s) (u / 4) r) ≡ first_four (serves_in (view s₀) (u / 4) r)
  four_same = four_ext _ _ (serves_same (view s₀) (view s) h (u / 4) (omega arith) nb r)

  last_same : changes_at (view s) (u / 4) r ≡ changes_at (view s₀) (u / 4) r
  last_same = changes_same (view s₀) (view s) h (u / 4) (omega arith) nb r

  pub decoder_now : {members weights : List ℕ} {until : ℕ} → DecoderOf s₀ u r members weights until → DecoderOf s u r members weights until
  decoder_now x = record { four = x.four ∙ sym four_same; weigh = x.weigh; last = x.last ∙ sym last_same }

  pub decoder_then : {members weights : List ℕ} {until : ℕ} → DecoderOf s u r members weights until → DecoderOf s₀ u r members weights until
  decoder_then x = record { four = x.four ∙ four_same; weigh = x.weigh; last = x.last ∙ last_same }
