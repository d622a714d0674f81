-- What the calls read from a picture is what the ledger says.
use Prim.Native.Nat.{ℕ, ◌+◌, ◌*◌, ◌-◌, ◌/◌, ◌≤◌, ◌<◌}
use mathlib.Core.Path.{◌≡◌, refl, sym, ap, ap₂, ◌∙◌}
use mathlib.Core.List.{List}
use mathlib.Core.Bool.{Bool, true, false}
use native.Mathlib.Omega.{arith}
use native.Mathlib.Nat.{le_refl}
use lib.Dec.{eqb, ltb}
use lib.ListN.{length, get_or-eq_default}
use borrow.Author.Tests.{eq-eqb, ne_eqb, ltb-true, ltb-false, lt-ltb}
use Rattle.buffer.specs.ChoiceLaws.{by-test, by-pick, pick_same}
use Rattle.buffer.specs.Range.{first}
use Rattle.buffer.specs.RangeLaws.{first_ext, first_at, first_none, count_ext}
use Rattle.buffer.specs.Bytes.{byte, bytes32, zeros}
use Rattle.group.specs.Widths.{slot_bytes}
use Rattle.group.specs.Members.{outs}
use Rattle.model.specs.Units.{unit_of}
use Rattle.model.specs.UnitLaws.{unit_below}
use Rattle.model.specs.Layout.{Store, view, units_in, level_in, key_of, front_of}
use Rattle.model.specs.LayoutLaws.{Same}
use Rattle.model.specs.Reads.{home_in, fill_in, rank_in, state_in, outs_in, units_out_in}
use Rattle.model.specs.history.Ledger.{Rec, Ledger, empty, home, record_at, rank_of, placed, is_out, state, outs_of, units_out}
use Rattle.model.specs.history.Picture.{record_bytes, picture_slot, image, picture}
use Rattle.model.proofs.history.ledger.Valid.{Valid}
use Rattle.model.proofs.history.ledger.States.{state_out, state_in_lem, placed_unit, data_kept}
use Rattle.model.proofs.history.picture.Records.{key_record_lem, empty_bytes}
use Rattle.model.proofs.history.picture.Picture.{seen, slot_on}

-- a rank behind the records
pub past : (l : Ledger) (u r : ℕ) → length (l.records u) ≤ r → record_at l u r ≡ empty
unfolding record_at
past l u r a = get_or-eq_default (l.records u) empty a

pub no_key : (l : Ledger) (u r : ℕ) → length (l.records u) ≤ r → (record_at l u r).key ≡ 0
unfolding empty
no_key l u r a = ap (λ (x : Rec). x.key) (past l u r a)

-- a rank without a record shows as such, in service or not
pub slot_none : (l : Ledger) (u r : ℕ) → length (l.records u) ≤ r → picture_slot l u r ≡ record_bytes (record_at l u r)
unfolding picture_slot
slot_none l u r a = rw (past l u r a, empty_bytes) (pick_same (eqb (state l u) 1) (zeros slot_bytes))

-- a unit that is not out shows its records, also where it is not in place
pub slot_kept : (l : Ledger) → Valid l → (u r : ℕ) → u < 16 → is_out l u ≡ false → picture_slot l u r ≡ record_bytes (record_at l u r)
slot_kept l h u r a e =
    by-test (λ (t : Bool). placed l u ≡ t → picture_slot l u r ≡ record_bytes (record_at l u r)) (placed l u)
    (λ _ q. slot_on l u r (eq-eqb (state l u) 1 (state_in_lem l u q e)))
    (λ _ q. slot_none l u r (omega (arith, ap length (h.none u (ltb-false u l.units (sym (placed_unit l u a) ∙ q))))))
    refl

-- the first rank without a key
pub fill_is : (n m : ℕ) (f : ℕ → Bool) → m ≤ n → ((k : ℕ) → k < m → f k ≡ false) → (m < n → f m ≡ true) → first n f ≡ m
fill_is n m f h a b =
    by-test (λ (t : Bool). first n f ≡ m) (ltb m n)
    (λ e. first_at n f m (ltb-true m n e) a (b (ltb-true m n e)))
    (λ e. let same : m ≡ n = omega (arith, ltb-false m n e) in first_none n f (λ k l. a k (omega arith)) ∙ sym same)

-- where the keys by rank are those of the unit's records: the number of records, and the rank of a key
module _ (l : Ledger) (h : Valid l) (u : ℕ) (key : ℕ → ℕ) (is : (r : ℕ) → r < l.size → key r ≡ (record_at l u r).key) where
  pub fill_of_lem : first l.size (λ r. eqb (key r) 0) ≡ length (l.records u)
  fill_of_lem =
      fill_is l.size (length (l.records u)) (λ r. eqb (key r) 0) (h.fits u)
      (λ r a. ne_eqb (key r) 0 (λ e. h.keyed u r a (sym (is r (omega (arith, h.fits u))) ∙ e)))
      (λ a. eq-eqb (key (length (l.records u))) 0 (is (length (l.records u)) a ∙ no_key l u (length (l.records u)) (le_refl (length (l.records u)))))

  pub rank_of_lem : (k : ℕ) → first (length (l.records u)) (λ r. eqb (key r) k) ≡ rank_of (l.records u) k
  unfolding rank_of record_at
  rank_of_lem k = first_ext (length (l.records u)) _ _ (λ r a. ap (λ (n : ℕ). eqb n k) (is r (omega (arith, h.fits u))))

module _ (l : Ledger) (rest : List ℕ) (h : Valid l) where
  abbrev v : Store
  v = view (picture l rest)

  s : Same (view (picture l rest)) (image l rest)
  s = seen l rest h.good

  -- ---- the header

  pub size_seen : v.size ≡ l.size
  unfolding image
  size_seen = s.size

  pub units_seen : units_in v ≡ l.units
  unfolding units_in image front_of bytes32
  units_seen = ap (λ (x : List ℕ). byte x 6) s.front

  pub level_seen : level_in v ≡ l.level
  unfolding level_in image front_of bytes32
  level_seen = ap (λ (x : List ℕ). byte x 7) s.front

  pub home_seen : (k : ℕ) → home_in v k ≡ home l k
  unfolding home_in home
  home_seen k = ap (λ (m : ℕ). unit_of m k) units_seen

  pub home_lt : (k : ℕ) → home l k < l.units
  unfolding home
  home_lt k = unit_below l.units k h.some

  pub home_low : (k : ℕ) → home l k < 16
  home_low k = omega (arith, home_lt k, h.few)

  -- ---- states

  pub dstate_is : (u : ℕ) → u < 16 → v.dstate u ≡ state l u
  unfolding image
  dstate_is u a = s.dstate u a

  pub cstate_is : (c : ℕ) → c < 12 → v.cstate c ≡ state l (16 + c)
  unfolding image
  cstate_is c a = s.cstate c a

  pub dstate_out : (u : ℕ) → u < 16 → eqb (v.dstate u) 2 ≡ is_out l u
  dstate_out u a = ap (λ (n : ℕ). eqb n 2) (dstate_is u a) ∙ state_out l u

  pub state_seen : (w : ℕ) → w < 28 → state_in v w ≡ state l w
  unfolding state_in
  state_seen w a =
      by-pick (λ (n : ℕ). n ≡ state l w) (ltb w 16) (v.dstate w) (v.cstate (w - 16))
      (λ e. dstate_is w (ltb-true w 16 e))
      (λ e.
      let b : 16 ≤ w = ltb-false w 16 e in
      let d : 16 + (w - 16) ≡ w = omega arith in
      cstate_is (w - 16) (omega arith) ∙ ap (state l) d)

  pub outs_seen : (g : ℕ) → g < 4 → outs_in v g ≡ outs_of l g
  unfolding outs_in outs outs_of
  outs_seen g a = ap₂ (λ (m n : ℕ). m + n)
      (count_ext 4 (λ p. eqb (v.dstate (4 * g + p)) 2) (λ p. is_out l (4 * g + p)) (λ p b. dstate_out (4 * g + p) (omega arith)))
      (count_ext 3 (λ j. eqb (v.cstate (3 * g + j)) 2) (λ j. is_out l (16 + (3 * g + j)))
      (λ j b. ap (λ (n : ℕ). eqb n 2) (cstate_is (3 * g + j) (omega arith)) ∙ state_out l (16 + (3 * g + j))))

  pub units_out_seen : units_out_in v ≡ units_out l
  unfolding units_out_in units_out
  units_out_seen = count_ext 28 _ _ (λ w a. ap (λ (n : ℕ). eqb n 2) (state_seen w a) ∙ state_out l w)

  -- ---- units in service

  pub there : (u : ℕ) → u < l.units → placed l u ≡ true
  there u a = placed_unit l u (omega (arith, h.few)) ∙ lt-ltb u l.units a

  -- a unit of a group with none out is in service
  pub serving : (u : ℕ) → u < l.units → ltb 0 (outs_of l (u / 4)) ≡ false → state l u ≡ 1
  serving u a e = state_in_lem l u (there u a) (data_kept l u e)

  module _ (u : ℕ) (hu : u < 16) (here : state l u ≡ 1) where
    pub slot_seen : (r : ℕ) → r < l.size → v.slot u r ≡ record_bytes (record_at l u r)
    unfolding image
    slot_seen r a = s.slot u r hu a ∙ slot_on l u r (eq-eqb (state l u) 1 here)

    key_seen : (r : ℕ) → r < l.size → key_of (v.slot u r) ≡ (record_at l u r).key
    key_seen r a = ap key_of (slot_seen r a) ∙ key_record_lem (record_at l u r) (h.good u r).key

    pub fill_seen : fill_in v u ≡ length (l.records u)
    unfolding fill_in
    fill_seen = ap (λ (n : ℕ). first n (λ r. eqb (key_of (v.slot u r)) 0)) size_seen ∙ fill_of_lem l h u (λ r. key_of (v.slot u r)) key_seen

    pub rank_seen : (k : ℕ) → rank_in v u k ≡ rank_of (l.records u) k
    unfolding rank_in
    rank_seen k = ap (λ (n : ℕ). first n (λ r. eqb (key_of (v.slot u r)) k)) fill_seen ∙ rank_of_lem l h u (λ r. key_of (v.slot u r)) key_seen k
