-- The keys of the four units of a group, tested together as far as all have some, and the rest unit by unit.
use mathlib.Core.Path.{◌≡◌, refl, sym, ap, ap₂, ◌∙◌}
use mathlib.Core.Bool.{Bool, true, false, ◌&&◌, ◌||◌}
use mathlib.Core.List.{List}
use Prim.Native.Nat.{ℕ, ◌+◌, ◌*◌, ◌/◌, ◌%◌, ◌≤◌, ◌<◌}
use native.Mathlib.Omega.{arith}
use lib.Dec.{eqb, ltb, leb}
use lib.ListN.{get_or}
use borrow.Author.Tests.{leb-false, lt-leb, le-leb, ltb-true}
use Rattle.buffer.specs.Choice.{pick}
use Rattle.buffer.specs.ChoiceLaws.{by-test, pick-false}
use Rattle.buffer.specs.TestLaws.{not-both, same_test, and_first, or_else, or_other}
use Rattle.buffer.specs.Range.{all}
use Rattle.buffer.specs.RangeLaws.{all_none, all_ext, all_true, all_holds, below-four, get_or_entries}
use Rattle.buffer.specs.Loops.{entries}
use Rattle.buffer.specs.Bytes.{byte}
use Rattle.buffer.specs.Strided.{strided32}
use Rattle.group.specs.Widths.{check_bytes}
use Rattle.model.specs.Layout.{view, check_at}
use Rattle.model.specs.Reads.{first_check}
use Rattle.model.specs.Units.{unit_of}
use Rattle.soundness.specs.Keys.{own_keys, own_from, own_row}
use Rattle.soundness.specs.Pieces.{Common, data_keys, column_keys, beside_keys, unkept, data_fill, lost_fill, unit_fill, none_behind, own_listed}
use Rattle.soundness.proofs.Located.{column_place, column_list}

-- ---- the keys of one unit
module _ (m u : ℕ) (key : ℕ → ℕ) where
  pub own_none : {f : ℕ} → f ≤ 0 → own_keys m u f key ≡ true
  unfolding own_keys
  own_none {f} l = let none : f ≡ 0 = omega arith in rw none (all_none (λ r. eqb (unit_of m (key r)) u))

  pub own_fewer : {f n : ℕ} → f ≤ n → own_keys m u n key ≡ true → own_keys m u f key ≡ true
  unfolding own_keys
  own_fewer {f} {n} l h =
      all_holds f (λ r. eqb (unit_of m (key r)) u) (λ r k. all_true n (λ r. eqb (unit_of m (key r)) u) h r (omega arith))

  -- where those before rank f are its own, those from there on tell of all
  pub own_further : (f n : ℕ) → own_keys m u f key ≡ true → own_from m u f n key ≡ own_keys m u n key
  unfolding own_keys own_from
  own_further f n h =
      all_ext n (λ r. ltb r f || eqb (unit_of m (key r)) u) (λ r. eqb (unit_of m (key r)) u) (λ r _.
      by-test (λ t. (t || eqb (unit_of m (key r)) u) ≡ eqb (unit_of m (key r)) u) (ltb r f)
      (λ e. sym (all_true f (λ r. eqb (unit_of m (key r)) u) h r (ltb-true r f e))) (λ _. refl))

-- those of its list
pub from_list : (s : List ℕ) (u : ℕ) {key : ℕ → ℕ} {m i j f n : ℕ} {r : Bool} → key ≡ beside_keys s u → m ≡ byte s 6 → i ≡ f → j ≡ n
    → r ≡ own_from m u i j key
    → r ≡ own_from (byte s 6) u f n (beside_keys s u)
from_list s u {key} {m} {f = f} {n} b units d e h =
    h ∙ ap₂ (λ i j. own_from m u i j key) d e ∙ ap₂ (λ m key. own_from m u f n key) units b

-- ---- the four lists of a check unit, rank by rank
module _ (s : List ℕ) (list m u n : ℕ) where
  pub rows_own : all n (own_row s list m u) ≡ true → (p : ℕ) → p < 4 → own_keys m (u + p) n (strided32 s (list + 4 * p) check_bytes) ≡ true
  unfolding own_keys own_row
  rows_own h p l =
      all_holds n (λ r. eqb (unit_of m (strided32 s (list + 4 * p) check_bytes r)) (u + p)) (λ r k.
      all_true 4 (λ p. eqb (unit_of m (strided32 s (list + 4 * p) check_bytes r)) (u + p)) (all_true n (own_row s list m u) h r k) p l)

  pub own_in_rows : ((p : ℕ) → p < 4 → own_keys m (u + p) n (strided32 s (list + 4 * p) check_bytes) ≡ true) → all n (own_row s list m u) ≡ true
  unfolding own_keys own_row
  own_in_rows h =
      all_holds n (own_row s list m u) (λ r k.
      all_holds 4 (λ p. eqb (unit_of m (strided32 s (list + 4 * p) check_bytes r)) (u + p)) (λ p l.
      all_true n (λ r. eqb (unit_of m (strided32 s (list + 4 * p) check_bytes r)) (u + p)) (h p l) r k))

-- ---- the units of a group
-- the unit at a place is not there, or its keys are its own, and no others are listed for it
abbrev pub place_own : List ℕ → ℕ → ℕ → Bool
place_own s g p = leb (byte s 6) (4 * g + p) || own_listed s (4 * g + p)

-- the first f keys of each are its own
abbrev pub OwnUpTo : List ℕ → ℕ → ℕ → Type 0
OwnUpTo s g f = (p : ℕ) → p < 4 → own_keys (byte s 6) (4 * g + p) f (beside_keys s (4 * g + p)) ≡ true

pub none_up_to : (s : List ℕ) (g : ℕ) {f : ℕ} → f ≤ 0 → OwnUpTo s g f
none_up_to s g l p _ = own_none (byte s 6) (4 * g + p) (beside_keys s (4 * g + p)) l

-- the number of a unit's keys, as the code reads it of all
pub fill_at : (s : List ℕ) (u : ℕ) {fills : List ℕ} {i : ℕ} → fills ≡ entries 16 (unit_fill s) → i ≡ u → u < 16 → get_or fills i 0 ≡ unit_fill s u
fill_at s u h e l = ap₂ (λ x j. get_or x j 0) h e ∙ get_or_entries 16 (unit_fill s) u 0 l

-- the least of four counts
pub common : {fills : List ℕ} {g k r : ℕ} (i : ℕ) → i ≡ 4 * g → r ≤ get_or fills i 0 → r ≤ get_or fills (i + 1) 0 → r ≤ get_or fills (i + 2) 0
    → r ≤ get_or fills (i + 3) 0 → (k ≡ 3 * g + 3 → ⊥)
    → Common fills g k r
common {fills} {g} {k} {r} i e first second third fourth kept =
    record {
      least =
          below-four (λ p. r ≤ get_or fills (4 * g + p) 0)
          (at i (omega arith) first) (at (i + 1) (omega arith) second) (at (i + 2) (omega arith) third) (at (i + 3) (omega arith) fourth);
      alone = λ h. absurd (kept h);
    }
  where
    at : (j : ℕ) {v : ℕ} → j ≡ v → r ≤ get_or fills j 0 → r ≤ get_or fills v 0
    at j d h = omega (arith, ap (λ x. get_or fills x 0) d)

-- a unit that has keys is there
has_keys : (s : List ℕ) (u : ℕ) → 0 < unit_fill s u → u < byte s 6
unfolding unit_fill
has_keys s u h =
    by-test (λ _. u < byte s 6) (ltb u (byte s 6)) (λ e. ltb-true u (byte s 6) e) (λ e.
    let none : unit_fill s u ≡ 0 = pick-false e (pick (eqb (byte s (8 + u)) 1) (data_fill s u) (lost_fill s u)) 0 in absurd (omega arith))

-- what the test of the ranks that all have tells, by the lists of the first check unit in service
module _ (s : List ℕ) (g : ℕ) {k list i f : ℕ} (kept : unkept s g ≡ false) (found : k ≡ first_check (view s) g) (at : list ≡ check_at (byte s 5) k 0)
    (ranks : i ≡ f) where
  listed : (p : ℕ) → p < 4 → strided32 s (list + 4 * p) check_bytes ≡ beside_keys s (4 * g + p)
  unfolding beside_keys
  listed p l =
      let d : g ≡ (4 * g + p) / 4 = omega arith in
      let m : p ≡ (4 * g + p) % 4 = omega arith in
      column_list s (4 * g + p) (column_place s (4 * g + p) (found ∙ ap (first_check (view s)) d) at m)
      ∙ sym (pick-false (ap (unkept s) (sym d) ∙ kept) (data_keys s (4 * g + p)) (column_keys s (4 * g + p)))

  pub ranks_own : all i (own_row s list (byte s 6) (4 * g)) ≡ true → OwnUpTo s g f
  ranks_own h p l =
      sym (ap₂ (own_keys (byte s 6) (4 * g + p)) ranks (listed p l)) ∙ rows_own s list (byte s 6) (4 * g) i h p l

  pub ranks_astray : 0 < f → ((p : ℕ) → p < 4 → f ≤ unit_fill s (4 * g + p)) → all i (own_row s list (byte s 6) (4 * g)) ≡ false → false ≡ all 4 (place_own s g)
  unfolding own_listed
  ranks_astray some least e =
      by-test (λ t. false ≡ t) (all 4 (place_own s g)) (λ h. not-both (own_in_rows s list (byte s 6) (4 * g) i (λ p l.
      let u : ℕ = 4 * g + p in
      let most : f ≤ unit_fill s u = least p l in
      let placed = lt-leb (byte s 6) u (has_keys s u (omega arith)) in
      let whole = or_other (leb (byte s 6) u) _ placed (all_true 4 (place_own s g) h p l) in
      ap₂ (own_keys (byte s 6) u) ranks (listed p l)
      ∙ own_fewer (byte s 6) u (beside_keys s u) most (and_first (own_keys (byte s 6) u (unit_fill s u) (beside_keys s u)) _ whole))) e) (λ _. refl)

-- what the test of the ranks behind tells
pub place_own_lem : (s : List ℕ) (g p f : ℕ) {n : ℕ} {r : Bool} → OwnUpTo s g f → p < 4 → 4 * g + p < byte s 6 → n ≡ unit_fill s (4 * g + p)
    → r ≡ (own_from (byte s 6) (4 * g + p) f n (beside_keys s (4 * g + p)) && none_behind s (4 * g + p) n)
    → r ≡ place_own s g p
unfolding own_listed
place_own_lem s g p f {n} shared l placed e h =
    let u : ℕ = 4 * g + p in
    h
    ∙ ap₂ ◌&&◌ (own_further (byte s 6) u (beside_keys s u) f n (shared p l) ∙ ap (λ n. own_keys (byte s 6) u n (beside_keys s u)) e) (ap (none_behind s u) e)
    ∙ sym (ap (λ t. t || own_listed s u) (lt-leb (byte s 6) u placed))

pub place_absent : (s : List ℕ) (g p : ℕ) → byte s 6 ≤ 4 * g + p → place_own s g p ≡ true
place_absent s g p l = ap (λ t. t || own_listed s (4 * g + p)) (le-leb (byte s 6) (4 * g + p) l)

-- ---- m units, group by group
pub by_groups : (m : ℕ) (q : ℕ → Bool) → all ((m + 3) / 4) (λ g. all 4 (λ p. leb m (4 * g + p) || q (4 * g + p))) ≡ all m q
by_groups m q =
    same_test
    (all ((m + 3) / 4) (λ g. all 4 (λ p. leb m (4 * g + p) || q (4 * g + p))))
    (all m q)
    (λ h.
    all_holds m q (λ u l.
    let same : 4 * (u / 4) + u % 4 ≡ u = omega arith in
    let here = all_true ((m + 3) / 4) (λ g. all 4 (λ p. leb m (4 * g + p) || q (4 * g + p))) h (u / 4) (omega arith) in
    let test = all_true 4 (λ p. leb m (4 * (u / 4) + p) || q (4 * (u / 4) + p)) here (u % 4) (omega arith) in
    or_other (leb m u) (q u) (lt-leb m u l) (sym (ap (λ v. leb m v || q v) same) ∙ test)))
    (λ h.
    all_holds ((m + 3) / 4) (λ g. all 4 (λ p. leb m (4 * g + p) || q (4 * g + p))) (λ g _.
    all_holds 4 (λ p. leb m (4 * g + p) || q (4 * g + p)) (λ p _.
    or_else (leb m (4 * g + p)) (q (4 * g + p)) (λ e. all_true m q h (4 * g + p) (leb-false m (4 * g + p) e)))))
