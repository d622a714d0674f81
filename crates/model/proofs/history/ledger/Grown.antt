-- The ledger after a grow: it is valid where it was before.
use Prim.Native.Nat.{ℕ, suc, ◌≤◌, ◌<◌}
use mathlib.Core.Path.{◌≡◌, sym, ◌∙◌, subst}
use mathlib.Core.Logic.{◌≢◌, ◌⊎◌, ⊎_elim}
use mathlib.Core.List.{List, []}
use mathlib.Core.Bool.{Bool}
use native.Mathlib.Omega.{arith}
use native.Mathlib.Nat.{le_refl}
use lib.Dec.{eqb, ltb}
use lib.ListN.{length, get_or, get_or-eq_default}
use borrow.Author.Tests.{eqb-true, ltb-true, ltb-false}
use Rattle.buffer.specs.Choice.{pick}
use Rattle.buffer.specs.ChoiceLaws.{by-test}
use Rattle.model.specs.Units.{split_pointer, unit_of}
use Rattle.model.specs.UnitLaws.{split_below}
use Rattle.model.specs.Changes.{filter_by}
use Rattle.model.specs.history.Ledger.{Rec, empty, Ledger, record_at, grown_ledger}
use Rattle.model.proofs.history.ledger.Valid.{Good, empty_good, Valid}
use Rattle.model.proofs.history.ledger.States.{fewer_placed}
use Rattle.model.proofs.history.ledger.Dealt.{filter_all, filter_length, filter_differ}
use Rattle.model.proofs.history.ledger.Split.{other_key}
use Rattle.model.proofs.history.ledger.Touched.{by-either}

-- by the new number of units a record goes to unit u; the records of the split unit that do
abbrev pub goes_to : Ledger → ℕ → Rec → Bool
goes_to l u x = eqb (unit_of (suc l.units) x.key) u

abbrev pub dealt_to : Ledger → ℕ → List Rec
dealt_to l u = filter_by (goes_to l u) (l.records (split_pointer l.units))

-- a unit's records are dealt to it, where it is the new unit or the split one, or are as they were
pub by-dealt {ℓ} : (l : Ledger) (P : List Rec → Type ℓ) (u : ℕ) → ((u ≡ l.units) ⊎ (u ≡ split_pointer l.units) → P (dealt_to l u))
    → ((u ≡ l.units → ⊥) → (u ≡ split_pointer l.units → ⊥) → P (l.records u)) → P ((grown_ledger l).records u)
unfolding grown_ledger pick
by-dealt l P u one none = by-either (λ (t : Bool). P (pick t (dealt_to l u) (l.records u))) u l.units (split_pointer l.units) one none

module _ (l : Ledger) (h : Valid l) (top : l.units ≤ 15) where
  before : split_pointer l.units < l.units
  before = split_below l.units h.some

  -- what holds of each record, and of a missing one, holds of those dealt to a unit
  dealt_all : (P : Rec → Type 0) → ((r : ℕ) → P (record_at l (split_pointer l.units) r)) → P empty → (u r : ℕ) → P (get_or (dealt_to l u) r empty)
  unfolding record_at
  dealt_all P a z u r =
      by-test
      (λ (t : Bool). P (get_or (dealt_to l u) r empty))
      (ltb r (length (dealt_to l u)))
      (λ e. (filter_all P (goes_to l u) empty (l.records (split_pointer l.units)) (λ q b. a q) r (ltb-true r (length (dealt_to l u)) e)).0)
      (λ e. subst P (sym (get_or-eq_default (dealt_to l u) empty (ltb-false r (length (dealt_to l u)) e))) z)

  own_grown : (u r : ℕ) → r < length ((grown_ledger l).records u) → unit_of (suc l.units) (get_or ((grown_ledger l).records u) r empty).key ≡ u
  unfolding record_at
  own_grown u r =
      by-dealt l (λ (xs : List Rec). r < length xs → unit_of (suc l.units) (get_or xs r empty).key ≡ u) u
      (λ one a. eqb-true (unit_of (suc l.units) (get_or (dealt_to l u) r empty).key) u
      (filter_all (λ (x : Rec). Unit {0}) (goes_to l u) empty (l.records (split_pointer l.units)) (λ q b. tt) r a).1)
      (λ d e a. other_key l.units (get_or (l.records u) r empty).key h.some top (λ f. e (sym (h.own u r a) ∙ f)) ∙ h.own u r a)

  keyed_grown : (u r : ℕ) → r < length ((grown_ledger l).records u) → (get_or ((grown_ledger l).records u) r empty).key ≢ 0
  unfolding record_at
  keyed_grown u r =
      by-dealt l (λ (xs : List Rec). r < length xs → (get_or xs r empty).key ≢ 0) u
      (λ one a. (filter_all (λ (x : Rec). x.key ≢ 0) (goes_to l u) empty (l.records (split_pointer l.units)) (h.keyed (split_pointer l.units)) r a).0)
      (λ d e. h.keyed u r)

  differ_grown : (u r q : ℕ) → r < q → q < length ((grown_ledger l).records u)
      → (get_or ((grown_ledger l).records u) r empty).key ≢ (get_or ((grown_ledger l).records u) q empty).key
  unfolding record_at
  differ_grown u r q a =
      by-dealt l (λ (xs : List Rec). q < length xs → (get_or xs r empty).key ≢ (get_or xs q empty).key) u
      (λ one. filter_differ (λ (x : Rec). x.key) empty (goes_to l u) (l.records (split_pointer l.units)) (h.differ (split_pointer l.units)) r q a)
      (λ d e. h.differ u r q a)

  good_grown : (u r : ℕ) → Good (get_or ((grown_ledger l).records u) r empty)
  unfolding record_at
  good_grown u r =
      by-dealt l (λ (xs : List Rec). Good (get_or xs r empty)) u (λ one. dealt_all Good (h.good (split_pointer l.units)) (empty_good) u r) (λ d e. h.good u r)

  fits_grown : (u : ℕ) → length ((grown_ledger l).records u) ≤ l.size
  fits_grown u =
      by-dealt l (λ (xs : List Rec). length xs ≤ l.size) u
      (λ one. omega (arith, filter_length (goes_to l u) (l.records (split_pointer l.units)), h.fits (split_pointer l.units)))
      (λ d e. h.fits u)

  none_grown : (u : ℕ) → suc l.units ≤ u → (grown_ledger l).records u ≡ []
  none_grown u a =
      by-dealt l (λ (xs : List Rec). xs ≡ []) u (λ one. absurd (⊎_elim (λ e. omega arith) (λ e. omega (arith, before)) one)) (λ d e. h.none u (omega arith))

  pub valid_grown : Valid (grown_ledger l)
  unfolding grown_ledger record_at
  valid_grown = record {
    some = omega arith;
    few = omega arith;
    least = h.least;
    most = h.most;
    levelled = h.levelled;
    topped = h.topped;
    fits = fits_grown;
    good = good_grown;
    keyed = keyed_grown;
    own = own_grown;
    differ = differ_grown;
    none = none_grown;
    calm = λ w e. h.calm w (fewer_placed l (grown_ledger l) (omega arith) (le_refl l.level) w e);
  }
