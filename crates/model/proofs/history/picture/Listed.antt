-- The keys of a unit on a picture: its own, or for a unit out those that a check unit in service lists.
use Prim.Native.Nat.{ℕ, ◌+◌, ◌*◌, ◌/◌, ◌%◌, ◌<◌}
use mathlib.Core.Path.{◌≡◌, sym, ap, ◌∙◌}
use mathlib.Core.List.{List}
use mathlib.Core.Bool.{Bool, true}
use native.Mathlib.Omega.{arith}
use lib.Dec.{eqb}
use lib.ListN.{length, take}
use Rattle.buffer.specs.ChoiceLaws.{by-pick}
use Rattle.buffer.specs.Range.{first, count}
use Rattle.buffer.specs.RangeLaws.{first_found, first_holds}
use Rattle.buffer.specs.Bytes.{bytes32, part}
use Rattle.group.specs.Widths.{key_bytes}
use Rattle.model.specs.Layout.{Store, view, key_of}
use Rattle.model.specs.LayoutLaws.{Same}
use Rattle.model.specs.Reads.{first_check, listed_key, listed_fill, listed_rank}
use Rattle.model.specs.history.Ledger.{Ledger, record_at, rank_of, is_out, state}
use Rattle.model.specs.history.Picture.{check_over, image, picture}
use Rattle.model.proofs.history.ledger.Valid.{Valid}
use Rattle.model.proofs.history.picture.Records.{key_bytes_lem, take_record, listed_over}
use Rattle.model.proofs.history.picture.Picture.{seen, check_on}
use Rattle.model.proofs.history.picture.Seen.{slot_kept, size_seen, cstate_is, dstate_out, fill_of_lem, rank_of_lem}

module _ (l : Ledger) (rest : List ℕ) (h : Valid l) where
  abbrev v : Store
  v = view (picture l rest)

  s : Same (view (picture l rest)) (image l rest)
  s = seen l rest h.good

  -- a check unit of the group g is in service
  abbrev pub Kept : ℕ → Type 0
  Kept g = 0 < count 3 (λ j. eqb (v.cstate (3 * g + j)) 1)

  -- the check record of a check unit in service
  pub check_kept : (g : ℕ) → g < 4 → (r : ℕ) → r < l.size → (j : ℕ) → j < 3 → eqb (state l (16 + (3 * g + j))) 1 ≡ true
      → v.check (3 * g + j) r ≡ check_over j (λ p. record_at l (4 * g + p) r)
  unfolding image
  check_kept g hg r hr j a e =
      let d : (3 * g + j) / 3 ≡ g = omega arith in
      let m : (3 * g + j) % 3 ≡ j = omega arith in
      s.check (3 * g + j) r (omega arith) hr ∙ check_on l (3 * g + j) r e ∙ rw (d, m)

  -- ---- a unit that is in service, or of which a check unit lists the keys

  module _ (u : ℕ) (hu : u < 16) (known : is_out l u ≡ true → Kept (u / 4)) where
    kept_key : (r : ℕ) → r < l.size → is_out l u ≡ true → part (key_bytes * (u % 4)) key_bytes (v.check (first_check v (u / 4)) r) ≡ bytes32 (record_at l u r).key
    unfolding first_check
    kept_key r hr e =
        let g : ℕ = u / 4 in
        let on : ℕ → Bool = λ j. eqb (v.cstate (3 * g + j)) 1 in
        let j : ℕ = first 3 on in
        let lt : j < 3 = first_found 3 on (known e) in
        let serves : eqb (state l (16 + (3 * g + j))) 1 ≡ true =
        sym (ap (λ (n : ℕ). eqb n 1) (cstate_is l rest h (3 * g + j) (omega arith))) ∙ first_holds 3 on lt in
        let d : 4 * g + u % 4 ≡ u = omega arith in
        ap (part (key_bytes * (u % 4)) key_bytes) (check_kept g (omega arith) r hr j lt serves)
        ∙ listed_over j (λ p. record_at l (4 * g + p) r) (u % 4) (omega arith)
        ∙ ap (λ (n : ℕ). bytes32 (record_at l n r).key) d

    pub key_kept : (r : ℕ) → r < l.size → listed_key v u r ≡ bytes32 (record_at l u r).key
    unfolding listed_key image
    key_kept r hr = rw (dstate_out l rest h u hu)
        (by-pick (λ (x : List ℕ). x ≡ bytes32 (record_at l u r).key) (is_out l u) _ _
        (λ e. kept_key r hr e)
        (λ e. ap (take key_bytes) (s.slot u r hu hr ∙ slot_kept l h u r hu e) ∙ take_record (record_at l u r)))

    pub key_known : (r : ℕ) → r < l.size → key_of (listed_key v u r) ≡ (record_at l u r).key
    key_known r hr = ap key_of (key_kept r hr) ∙ key_bytes_lem (record_at l u r).key (h.good u r).key

    pub fill_known : listed_fill v u ≡ length (l.records u)
    unfolding listed_fill
    fill_known =
        ap (λ (n : ℕ). first n (λ r. eqb (key_of (listed_key v u r)) 0)) (size_seen l rest h) ∙ fill_of_lem l h u (λ r. key_of (listed_key v u r)) key_known

    pub rank_known : (k : ℕ) → listed_rank v u k ≡ rank_of (l.records u) k
    unfolding listed_rank
    rank_known k = ap (λ (n : ℕ). first n (λ r. eqb (key_of (listed_key v u r)) k)) fill_known ∙ rank_of_lem l h u (λ r. key_of (listed_key v u r)) key_known k
