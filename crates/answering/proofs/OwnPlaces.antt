-- The places that the keys of a list give are the records' own: unit and rank of each, and so the lines.
use Prim.Native.Nat.{ℕ, zero, suc, ◌+◌, ◌*◌, ◌-◌, ◌≤◌, ◌<◌}
use mathlib.Core.Path.{◌≡◌, sym, ap, ap₂, ◌∙◌}
use mathlib.Core.Logic.{◌≢◌}
use mathlib.Core.List.{List, ◌++◌}
use mathlib.Core.Bool.{true, false}
use native.Mathlib.Omega.{arith}
use native.Mathlib.Nat.{add-zero, add-suc}
use lib.Dec.{leb}
use lib.ListN.{length}
use borrow.Author.Tests.{eq-eqb, ne_eqb, leb-true, leb-false}
use Rattle.buffer.specs.ChoiceLaws.{by-test, pick_true, pick-false}
use Rattle.buffer.specs.Range.{sum}
use Rattle.buffer.specs.Bytes.{be32, part}
use Rattle.buffer.specs.ByteLaws.{be32_part}
use Rattle.buffer.specs.Table.{tab}
use Rattle.buffer.specs.TableLaws.{tab_ext, tab_rows}
use Rattle.group.specs.Widths.{slot_bytes}
use Rattle.model.specs.Units.{unit_of}
use Rattle.model.specs.Layout.{Store, view, units_in, key_of}
use Rattle.model.specs.Reads.{listed_fill, lost_in, total_in, listing_in}
use Rattle.model.specs.Sound.{sound}
use Rattle.model.proofs.SoundSays.{ranged, units_some}
use Rattle.lookup.specs.KeyLaws.{listed_fill_small}
use Rattle.lookup.specs.ListingLaws.{record_at_lem, record_home}
use Rattle.lines.specs.Output.{record_line}
use Rattle.answering.specs.Places.{unit_at, rank_behind, no_unit, unit_before, rank_before, listed_line, Records}
use Rattle.answering.specs.Said.{record_lines}

-- ---- numbers by rows, fill u of them in row u: every number up to their sum is 0 or one more than that of a place in a row
every : (P : ℕ → Type 0) (fill : ℕ → ℕ) → P 0 → (n : ℕ) → ((u r : ℕ) → u < n → r < fill u → P (sum u fill + suc r)) → (i : ℕ) → i ≤ sum n fill → P i
unfolding sum
every P fill first zero rows i l = let none : i ≡ 0 = omega arith in rw none first
every P fill first (suc n) rows i l =
    let r : ℕ = i - suc (sum n fill) in
    let before = every P fill first n (λ u r a b. rows u r (omega arith) b) i in
    by-test
    (λ t. P i)
    (leb i (sum n fill))
    (λ e. before (leb-true i (sum n fill) e))
    (λ e.
    let behind : sum n fill < i = leb-false i (sum n fill) e in
    let place : i ≡ sum n fill + suc r = omega arith in
    rw place (rows n r (omega arith) (omega arith)))

-- ---- records that go by unit, fill u of them in unit u: record sum u fill + r is that of unit u at place r
module _ (fill unit : ℕ → ℕ) where
  -- the record before record i is in unit u, at rank r
  pub record Before (i u r : ℕ) : Type 0 where
    pub home : unit_before unit i ≡ u
    pub rank : rank_before unit i ≡ r

  -- n records of unit u from record i on, behind a record of another unit
  in_unit : (i u n : ℕ) → unit_before unit i ≢ u → ((r : ℕ) → r < n → unit (i + r) ≡ u) → (r : ℕ) → r < n → Before (i + suc r) u (suc r)
  unfolding unit_before rank_before rank_behind
  in_unit i u n other own zero l =
      let here : unit i ≡ u = ap unit (sym (add-zero i)) ∙ own 0 l in
      rw (add-suc, add-zero) (record { home = here; rank = pick-false (ne_eqb (unit i) (unit_before unit i) (λ e. other (sym e ∙ here))) _ _ })
  in_unit i u n other own (suc r) l =
      let before = in_unit i u n other own r (omega arith) in
      let here : unit (i + suc r) ≡ u = own (suc r) l in
      rw add-suc (record {
        home = here;
        rank = pick_true (eq-eqb (unit (i + suc r)) (unit_before unit (i + suc r)) (here ∙ sym before.home)) _ _ ∙ ap suc before.rank;
      })

  module _ (n : ℕ) (below : n ≤ no_unit) (own : (u r : ℕ) → u < n → r < fill u → unit (sum u fill + r) ≡ u) where
    -- behind the records of the units before u stands none of the units from u on
    abbrev Past : ℕ → ℕ → Type 0
    Past u i = (w : ℕ) → u ≤ w → w < n → unit_before unit i ≢ w

    next_past : (u : ℕ) → u < n → Past u (sum u fill) → Past (suc u) (sum u fill + fill u)
    next_past u l past w a b = go (fill u) (λ r q. q)
      where
        go : (k : ℕ) → ((r : ℕ) → r < k → r < fill u) → unit_before unit (sum u fill + k) ≢ w
        go zero few e = past w (omega arith) b (ap (unit_before unit) (sym (add-zero (sum u fill))) ∙ e)
        go (suc k) few e =
            omega (arith, (in_unit (sum u fill) u (suc k) (past u (omega arith) l) (λ r q. own u r l (few r q)) k (omega arith)).home)

    units_past : (u : ℕ) → u ≤ n → Past u (sum u fill)
    unfolding sum unit_before
    units_past zero l w a b e = omega arith
    units_past (suc u) l w a b e = next_past u l (units_past u (omega arith)) w a b e

    pub own_place : (u r : ℕ) → u < n → r < fill u → Before (sum u fill + suc r) u (suc r)
    own_place u r a b = in_unit (sum u fill) u (fill u) (units_past u (omega arith) u (omega arith) a) (λ q m. own u q a m) r b

-- ---- the list of a sound store of which no unit is lost
module _ (s : List ℕ) (ok : sound s ≡ true) (safe : lost_in (view s) ≡ false) (rest : List ℕ) where
  abbrev v : Store
  v = view s

  abbrev written : List ℕ
  written = listing_in (view s) ++ rest

  unit_at_lem : (u r : ℕ) → u < 16 → r < listed_fill v u → unit_at (units_in v) written (sum u (listed_fill v) + r) ≡ u
  unfolding unit_at key_of
  unit_at_lem u r a b =
      let at : ℕ = slot_bytes * (sum u (listed_fill v) + r) in
      ap (unit_of (units_in v))
      (ap (be32 written) (sym (add-zero at)) ∙ sym (be32_part at slot_bytes written 0 (omega arith)) ∙ ap key_of (record_at_lem s ok safe rest u r a b))
      ∙ record_home s ok safe u r a b

  place : (u r : ℕ) → u < 16 → r < listed_fill v u → Before (listed_fill v) (unit_at (units_in v) written) (sum u (listed_fill v) + suc r) u (suc r)
  place = own_place (listed_fill v) (unit_at (units_in v) written) 16 (omega arith) unit_at_lem

  pub own_lines : tab (total_in v) (listed_line (units_in v) written) ≡ record_lines v
  unfolding total_in record_lines listed_line
  own_lines =
      tab_rows 16 (listed_fill v) (listed_line (units_in v) written)
      ∙ tab_ext 16 _ _ (λ u a. tab_ext (listed_fill v u) _ _ (λ r b.
      let i : ℕ = sum u (listed_fill v) + r in
      let unit : ℕ → ℕ = unit_at (units_in v) written in
      let rank : rank_before unit (suc i) ≡ suc r = ap (rank_before unit) (sym (add-suc (sum u (listed_fill v)) r)) ∙ (place u r a b).rank in
      ap₂ (λ w q. record_line w q (part (slot_bytes * i) slot_bytes written)) (unit_at_lem u r a b) rank
      ∙ ap (record_line u (suc r)) (record_at_lem s ok safe rest u r a b)))

  pub own_records : slot_bytes * total_in v ≤ length written → Records (units_in v) written (total_in v)
  unfolding total_in rank_before
  own_records long = record {
    units = units_some s ok;
    long = long;
    ranks = λ i l.
        every (λ i. rank_before (unit_at (units_in v) written) i < 255) (listed_fill v) (omega arith) 16
        (λ u r a b. rw (place u r a b).rank (omega (arith, listed_fill_small s u, (ranged s ok).most)))
        i (omega arith);
  }
