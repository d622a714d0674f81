-- Laws of the groups of a store, as its bytes show them: units out, records that are missing, ranks that can be rebuilt, and the members in service.
use Rattle.std.specs.Prelude.{ℕ, ◌+◌, ◌*◌, ◌/◌, ◌%◌, ◌≤◌, ◌<◌, ◌≡◌, refl, ◌≢◌, Bool, true, false, not, List, eqb, ltb}
use Rattle.std.proofs.Math.Path.{sym, ap}
use Rattle.std.proofs.Common.{◌∙◌}
use native.Mathlib.Omega.{arith}
use Rattle.std.proofs.Math.ListN.{get_or}
use borrow.Author.Tests.{eq-eqb, ne_eqb, eqb-true, lt-ltb, ltb-false}
use Rattle.buffer.specs.Choice.{pick}
use Rattle.buffer.specs.ChoiceLaws.{by-test, pick-false}
use Rattle.buffer.specs.Range.{count}
use Rattle.buffer.specs.RangeLaws.{count_pos, count_fails, none_counted, get_or_entries}
use Rattle.buffer.specs.Loops.{entries}
use Rattle.buffer.specs.Bytes.{byte, part}
use Rattle.buffer.specs.ByteLaws.{byte_part}
use Rattle.group.specs.Members.{outs, rebuildable, serves, first_four}
use Rattle.group.specs.MembersLaws.{Members, rebuildable_ext, serves_ext, four_ext, first_four_lem}
use Rattle.model.specs.Layout.{view}
use Rattle.model.specs.Reads.{state_in, outs_in, first_check, listed_fill, missing_in, serves_in, rebuildable_in, keys_lost_in, beyond_in, lost_in}
use Rattle.model.proofs.ReadLaws.{listed_le}
use Rattle.model.proofs.LossLaws.{none_in_service, out_missing, rank_kept, missing_kept, four_serve, beyond_first}
use Rattle.model.proofs.LossLaws.{kept_keys, out_keys, unit_keys_kept, group_keys_kept}
use Rattle.model.proofs.LossLaws as losses
use Rattle.lookup.specs.Sized.{Sized}
use Rattle.lookup.specs.States.{state_data}
use Rattle.lookup.specs.Keys.{Known}
use Rattle.lookup.specs.Groups.{Counts, CountsKnown, Rebuildable, Readable, Whole}

-- ---- a mark is 1 or 0: a test as a number
mark : (t : Bool) → eqb (pick t 1 0) 1 ≡ t
unfolding pick
mark true = refl
mark false = refl

pub marked_no : (t : Bool) {x : ℕ} → x ≡ pick t 1 0 → x ≡ 0 → t ≡ false
marked_no t e z = sym (mark t) ∙ ap (λ (n : ℕ). eqb n 1) (sym e ∙ z)

pub marked_yes : (t : Bool) {x : ℕ} → x ≡ pick t 1 0 → x ≢ 0 → t ≡ true
marked_yes t e h = by-test (λ (t : Bool). t ≡ true) t (λ _. refl) (λ q. absurd (h (e ∙ pick-false q 1 0)))

-- ---- a rank of group g: a mark for each record that is missing, and the states of the check units, three bytes from 24 + 3g on
marked : (f : ℕ → Bool) (p : ℕ) → p < 4 → eqb (byte (entries 4 (λ p. pick (f p) 1 0)) p) 1 ≡ f p
marked f p l = ap (λ (n : ℕ). eqb n 1) (get_or_entries 4 (λ p. pick (f p) 1 0) p 0 l) ∙ mark (f p)

module _ (s : List ℕ) (g r : ℕ) {marks : List ℕ} (m : marks ≡ entries 4 (λ p. pick (missing_in (view s) (4 * g + p) r) 1 0)) where
  check_states : (j : ℕ) → j < 3 → byte (part (24 + 3 * g) 3 s) j ≡ (view s).cstate (3 * g + j)
  unfolding view
  check_states j l = let e : 24 + 3 * g + j ≡ 24 + (3 * g + j) = omega arith in byte_part (24 + 3 * g) 3 s j l ∙ ap (λ i. byte s i) e

  marks_missing : (p : ℕ) → p < 4 → eqb (byte marks p) 1 ≡ missing_in (view s) (4 * g + p) r
  marks_missing p l = rw m (marked (λ p. missing_in (view s) (4 * g + p) r) p l)

  pub rank_marked : rebuildable (λ p. eqb (byte marks p) 1) (byte (part (24 + 3 * g) 3 s)) ≡ rebuildable_in (view s) g r
  unfolding rebuildable_in
  rank_marked = rebuildable_ext _ _ _ _ marks_missing check_states

  pub four_marked : first_four (serves (λ p. eqb (byte marks p) 1) (byte (part (24 + 3 * g) 3 s))) ≡ first_four (serves_in (view s) g r)
  unfolding serves_in
  four_marked = four_ext _ _ (serves_ext _ _ _ _ marks_missing check_states)

-- ---- the record of rank r at place p of group g, as code sees its unit's state x and, at an index i that it computed, the number of its keys
module _ {s : List ℕ} {g : ℕ} {fills : List ℕ} (counts : Counts s g fills) (p : ℕ) (place : (g < 4) × (p < 4)) {x : ℕ}
    (seen : x ≡ state_in (view s) (4 * g + p)) where
  state_seen : x ≡ (view s).dstate (4 * g + p)
  state_seen = seen ∙ state_data s (4 * g + p) (omega (arith, place.0, place.1))

  pub in_service_here : (r : ℕ) → x ≢ 2 → missing_in (view s) (4 * g + p) r ≡ false
  in_service_here r h = none_in_service (view s) (4 * g + p) r (λ e. h (state_seen ∙ e))

  module _ (out : x ≡ 2) {i : ℕ} (at : i ≡ 4 * g + p) where
    pub missing_here : (r : ℕ) → missing_in (view s) (4 * g + p) r ≡ ltb r (get_or fills i 0)
    unfolding missing_in
    missing_here r =
        let here : (view s).dstate (4 * g + p) ≡ 2 = sym state_seen ∙ out in
        rw (eq-eqb _ 2 here) (ap (ltb r) (sym (ap (λ (j : ℕ). get_or fills j 0) at ∙ counts.counted p place.1 here)))

-- ---- units
-- where no unit of the group is out, unit u is not
pub none_out : (s : List ℕ) (u : ℕ) → ltb 0 (outs_in (view s) (u / 4)) ≡ false → byte s (8 + u) ≡ 2 → ⊥
unfolding outs_in outs view
none_out s u h e =
    let place : 4 * (u / 4) + u % 4 ≡ u = omega arith in
    let here : byte s (8 + (4 * (u / 4) + u % 4)) ≡ 2 = ap (λ i. byte s (8 + i)) place ∙ e in
    let none : count 4 (λ p. eqb (byte s (8 + (4 * (u / 4) + p))) 2) + count 3 (λ j. eqb (byte s (24 + (3 * (u / 4) + j))) 2) ≤ 0 = ltb-false 0 _ h in
    omega (arith, count_pos 4 (λ p. eqb (byte s (8 + (4 * (u / 4) + p))) 2) (u % 4) (omega arith) (eq-eqb _ 2 here))

-- whether the keys of unit u are lost, as code sees its state x and the first check unit in service
module _ (s : List ℕ) (u : ℕ) (low : u < 16) {x : ℕ} (seen : x ≡ state_in (view s) u) where
  pub lost_no : x ≢ 2 → keys_lost_in (view s) u ≡ false
  lost_no h = kept_keys (view s) u (ne_eqb ((view s).dstate u) 2 (λ e. h (seen ∙ state_data s u low ∙ e)))

  pub lost_none_serves : x ≡ 2 → {c : ℕ} → c ≡ first_check (view s) (u / 4) → keys_lost_in (view s) u ≡ eqb c (3 * (u / 4) + 3)
  lost_none_serves out e =
      out_keys (view s) u (eq-eqb ((view s).dstate u) 2 (sym (seen ∙ state_data s u low) ∙ out)) ∙ ap (λ (n : ℕ). eqb n (3 * (u / 4) + 3)) (sym e)

-- what is counted of all units whose keys are not lost, where none are
pub all_counted : {s : List ℕ} {g : ℕ} {fills : List ℕ} → CountsKnown s g fills → ((p : ℕ) → p < 4 → keys_lost_in (view s) (4 * g + p) ≡ false)
    → Counts s g fills
all_counted h kept = record { counted = λ p l _. h.counted p l (kept p l) }

-- ---- records that are missing, and can be rebuilt
module _ {s : List ℕ} {u r : ℕ} (h : Rebuildable s u r) where
  pub missing_out : byte s (8 + u) ≡ 2
  unfolding view
  missing_out = eqb-true (byte s (8 + u)) 2 (losses.missing_out (view s) u r h.missing)

  pub missing_rank : r < byte s 5
  unfolding view
  missing_rank = omega (arith, losses.missing_listed (view s) u r h.missing, listed_le (view s) u)

  -- its key is listed, and four members serve
  pub missing_known : Known s u
  missing_known = record { sized = h.sized; unit = h.unit; kept = missing_kept (view s) u r h.missing h.rank }

  pub missing_four : Members (serves_in (view s) (u / 4) r) (first_four (serves_in (view s) (u / 4) r))
  missing_four = first_four_lem (serves_in (view s) (u / 4) r) (four_serve (view s) (u / 4) r h.rank)

-- a record that can be read, of a unit that is out
pub readable_out : {s : List ℕ} {u r : ℕ} → Readable s u r → byte s (8 + u) ≡ 2 → Rebuildable s u r
unfolding view
readable_out {s} {u} {r} h e =
    let m : missing_in (view s) u r ≡ true = out_missing (view s) u r (eq-eqb (byte s (8 + u)) 2 e) h.listed in
    record { sized = h.sized; unit = h.unit; missing = m; rank = h.rank m }

-- all of its group are counted, where the keys of one that is out are not lost: a check unit lists them all
pub out_counted : {s : List ℕ} (u : ℕ) {fills : List ℕ} → keys_lost_in (view s) u ≡ false → CountsKnown s (u / 4) fills → (view s).dstate u ≡ 2
    → Counts s (u / 4) fills
out_counted {s} u kept h out = all_counted h (λ p l. group_keys_kept (view s) u (eq-eqb ((view s).dstate u) 2 out) kept p l)

pub readable_counted : {s : List ℕ} {u r : ℕ} {fills : List ℕ} → Readable s u r → CountsKnown s (u / 4) fills → byte s (8 + u) ≡ 2
    → Counts s (u / 4) fills
readable_counted {s} {u} {r} h counts out =
    let m : Rebuildable s u r = readable_out h out in
    out_counted u (missing_kept (view s) u r m.missing m.rank) counts (unfold view in out)

pub readable_rank : {s : List ℕ} {u r : ℕ} → Readable s u r → r < byte s 5
unfolding view
readable_rank {s} {u} h = omega (arith, h.listed, listed_le (view s) u)

-- the unit itself is, if it is out
pub unit_counted : {s : List ℕ} (u : ℕ) {fills : List ℕ} → Counts s (u / 4) fills → (view s).dstate u ≡ 2 → get_or fills u 0 ≡ listed_fill (view s) u
unit_counted {s} u counts out =
    let place : 4 * (u / 4) + u % 4 ≡ u = omega arith in
    rw place at (counts.counted (u % 4) (omega arith) (ap (view s).dstate place ∙ out))

-- ---- a group that is not beyond recovery
module _ {s : List ℕ} (u r : ℕ) (sized : Sized s) (unit : u < 16) (near : beyond_in (view s) (u / 4) ≡ false) where
  near_rank : r < listed_fill (view s) u → rebuildable_in (view s) (u / 4) r ≡ true
  near_rank l = rank_kept (view s) (u / 4) near r (omega (arith, l, listed_le (view s) u))

  pub near_readable : r < listed_fill (view s) u → Readable s u r
  near_readable l = record { sized = sized; unit = unit; listed = l; rank = λ _. near_rank l }

  pub near_missing : missing_in (view s) u r ≡ true → Rebuildable s u r
  near_missing m = record { sized = sized; unit = unit; missing = m; rank = near_rank (losses.missing_listed (view s) u r m) }

-- whether it is, as code goes: the keys of a unit are lost, or else the first rank decides
module _ (s : List ℕ) (g : ℕ) where
  pub beyond_lost : (p : ℕ) → p < 4 → keys_lost_in (view s) (4 * g + p) ≡ true → true ≡ beyond_in (view s) g
  unfolding beyond_in
  beyond_lost p l e = rw (lt-ltb 0 _ (count_pos 4 (λ p. keys_lost_in (view s) (4 * g + p)) p l e))

pub beyond_rank : {s : List ℕ} → Sized s → (g : ℕ) → ((p : ℕ) → p < 4 → keys_lost_in (view s) (4 * g + p) ≡ false) → {ok : Bool}
    → ok ≡ rebuildable_in (view s) g 0 → not ok ≡ beyond_in (view s) g
beyond_rank {s} h g kept e =
    ap not e ∙ sym (beyond_first (view s) g (unfold view in h.some) ∙ rw (count_fails 4 (λ p. keys_lost_in (view s) (4 * g + p)) kept))

-- ---- the store: every group
module _ (s : List ℕ) where
  pub lost_some : (g : ℕ) → g < 4 → beyond_in (view s) g ≡ true → true ≡ lost_in (view s)
  unfolding lost_in
  lost_some g l e = sym (lt-ltb 0 _ (count_pos 4 (beyond_in (view s)) g l e))

  pub lost_none : ((g : ℕ) → g < 4 → beyond_in (view s) g ≡ false) → false ≡ lost_in (view s)
  unfolding lost_in
  lost_none h = rw (count_fails 4 (beyond_in (view s)) h)

pub safe_store : {s : List ℕ} → Sized s → lost_in (view s) ≡ false → Whole s
unfolding lost_in
safe_store {s} h e = record { sized = h; groups = none_counted 4 (beyond_in (view s)) e }

module _ {s : List ℕ} (h : Whole s) (u : ℕ) (l : u < 16) where
  pub whole_kept : keys_lost_in (view s) u ≡ false
  whole_kept = unit_keys_kept (view s) u (h.groups (u / 4) (omega arith))

  pub whole_readable : (r : ℕ) → r < listed_fill (view s) u → Readable s u r
  whole_readable r = near_readable u r h.sized l (h.groups (u / 4) (omega arith))
