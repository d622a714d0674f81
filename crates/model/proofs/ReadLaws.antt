-- Laws of what the calls read in a store: a unit has no more records than ranks, each rank before their number has a key, and a unit that is not
-- out lists its own keys; a listing is as long as its records, and each record stands behind those of the units and ranks before; the units out are
-- those of the four groups.
use Rattle.std.specs.Prelude.{ℕ, ◌≤◌, ◌<◌, ◌+◌, ◌*◌, ◌-◌, ◌≡◌, ◌≢◌, false, List, ◌++◌, ltb, length, take}
use Rattle.std.proofs.Common.{sym, ap₂, ◌∙◌, arith}
use Rattle.std.proofs.Math.Path.{ap}
use Rattle.std.proofs.Math.Dec.{eqb}
use borrow.Author.Tests.{eqb-false, lt-ltb, le-ltb}
use Rattle.buffer.specs.Choice.{pick}
use Rattle.buffer.specs.ChoiceLaws.{pick_true, pick-false}
use Rattle.buffer.specs.TestLaws.{and_false_first}
use Rattle.buffer.specs.Range.{first, count, sum}
use Rattle.buffer.specs.RangeLaws.{first_ext, first_le, first_misses, count_ext, count_append, count_blocks}
use Rattle.buffer.specs.RangeLaws.{sum_add}
use Rattle.buffer.specs.Bytes.{part}
use Rattle.buffer.specs.TableLaws.{length_rows, part_rows}
use Rattle.group.specs.Widths.{key_bytes, slot_bytes}
use Rattle.model.specs.Layout.{Store, key_of}
use Rattle.model.specs.LayoutLaws.{key_first}
use Rattle.model.specs.Reads.{fill_in, rank_in, state_in, outs_in, units_out_in, listed_key, listed_fill, listed_rank, missing_in, whole_slot, total_in}
use Rattle.model.specs.Reads.{listing_in}
use Rattle.group.specs.Members.{outs}

module _ (v : Store) (u : ℕ) where
  pub fill_le : fill_in v u ≤ v.size
  unfolding fill_in
  fill_le = first_le v.size (λ r. eqb (key_of (v.slot u r)) 0)

  pub listed_le : listed_fill v u ≤ v.size
  unfolding listed_fill
  listed_le = first_le v.size (λ r. eqb (key_of (listed_key v u r)) 0)

  pub fill_key : (r : ℕ) → r < fill_in v u → key_of (v.slot u r) ≢ 0
  unfolding fill_in
  fill_key r l = eqb-false (key_of (v.slot u r)) 0 (first_misses v.size (λ q. eqb (key_of (v.slot u q)) 0) r l)

  pub listed_some : (r : ℕ) → r < listed_fill v u → key_of (listed_key v u r) ≢ 0
  unfolding listed_fill
  listed_some r l = eqb-false (key_of (listed_key v u r)) 0 (first_misses v.size (λ q. eqb (key_of (listed_key v u q)) 0) r l)

  module _ (kept : eqb (v.dstate u) 2 ≡ false) where
    pub own_bytes : (r : ℕ) → listed_key v u r ≡ take key_bytes (v.slot u r)
    unfolding listed_key
    own_bytes r = pick-false kept _ (take key_bytes (v.slot u r))

    pub own_key : (r : ℕ) → key_of (listed_key v u r) ≡ key_of (v.slot u r)
    own_key r = ap key_of (own_bytes r) ∙ key_first (v.slot u r)

    pub own_fill : listed_fill v u ≡ fill_in v u
    unfolding listed_fill fill_in
    own_fill = first_ext v.size _ _ (λ r a. ap (λ (n : ℕ). eqb n 0) (own_key r))

    pub own_rank : (k : ℕ) → listed_rank v u k ≡ rank_in v u k
    unfolding listed_rank rank_in
    own_rank k =
        ap (λ (n : ℕ). first n (λ r. eqb (key_of (listed_key v u r)) k)) own_fill ∙ first_ext (fill_in v u) _ _ (λ r a. ap (λ (n : ℕ). eqb n k) (own_key r))

    pub whole_own : (r : ℕ) → whole_slot v u r ≡ v.slot u r
    unfolding whole_slot missing_in
    whole_own r = pick-false (and_false_first kept _) _ (v.slot u r)

-- ---- a listing, where every record has its bytes
module _ (v : Store) (long : (u r : ℕ) → u < 16 → r < listed_fill v u → length (whole_slot v u r) ≡ slot_bytes) where
  pub listing_long : length (listing_in v) ≡ slot_bytes * total_in v
  unfolding listing_in total_in
  listing_long = length_rows slot_bytes (listed_fill v) (whole_slot v) 16 long

  pub record_at_lem : (rest : List ℕ) (u r : ℕ) → u < 16 → r < listed_fill v u
      → part (slot_bytes * (sum u (listed_fill v) + r)) slot_bytes (listing_in v ++ rest) ≡ whole_slot v u r
  unfolding listing_in
  record_at_lem = part_rows slot_bytes (listed_fill v) (whole_slot v) 16 long

-- ---- the units that are out, by groups
pub units_out_groups : (v : Store) → units_out_in v ≡ sum 4 (outs_in v)
unfolding units_out_in state_in outs_in outs
units_out_groups v =
    count_append 16 12 (λ w. eqb (pick (ltb w 16) (v.dstate w) (v.cstate (w - 16))) 2)
    ∙ ap₂ (λ (m n : ℕ). m + n)
    (count_ext 16 _ (λ u. eqb (v.dstate u) 2) (λ u l. ap (λ (n : ℕ). eqb n 2) (pick_true (lt-ltb u 16 l) (v.dstate u) (v.cstate (u - 16))))
    ∙ count_blocks 4 4 (λ u. eqb (v.dstate u) 2))
    (count_ext 12 _ (λ c. eqb (v.cstate c) 2) (λ c l.
    let e : 16 + c - 16 ≡ c = omega arith in
    ap (λ (n : ℕ). eqb n 2) (pick-false (le-ltb (16 + c) 16 (omega arith)) (v.dstate (16 + c)) (v.cstate (16 + c - 16)) ∙ ap v.cstate e))
    ∙ count_blocks 4 3 (λ c. eqb (v.cstate c) 2))
    ∙ sym (sum_add 4 (λ g. count 4 (λ p. eqb (v.dstate (4 * g + p)) 2)) (λ g. count 3 (λ j. eqb (v.cstate (3 * g + j)) 2)))
