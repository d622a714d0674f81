-- What a granted call may rely on, and that what its code leaves is what the call is to leave.
use Prim.Native.Nat.{ℕ, pred, ◌-◌, ◌≤◌, ◌<◌}
use mathlib.Core.Path.{◌≡◌, refl, sym, ◌∙◌}
use mathlib.Core.Bool.{Bool, true}
use mathlib.Core.List.{List, [], ◌∷◌, ◌++◌}
use native.Mathlib.Omega.{arith}
use lib.Dec.{eqb, ltb, leb}
use lib.ListN.{length}
use borrow.Author.Tests.{eqb-false, ltb-false, leb-false, not-false}
use Rattle.buffer.specs.Choice.{pick}
use Rattle.buffer.specs.Bytes.{byte}
use Rattle.group.specs.Widths.{field_bytes}
use Rattle.refusal.specs.declared.Refusal.{Refusal}
use Rattle.refusal.specs.Number.{code}
use Rattle.refusal.specs.NumberLaws as law
use Rattle.model.specs.Layout.{bytes, view, slot_of}
use Rattle.model.specs.Places.{SlotIn}
use Rattle.model.specs.Reads.{home_in, fill_in, rank_in}
use Rattle.model.specs.Numbers.{Call, first_of, refusals_in}
use Rattle.model.specs.Changes.{written, erased, unit_lost}
use Rattle.model.specs.Perform.{plain, outcome, perform, granted_in}
use Rattle.model.specs.PerformLaws.{Plain, of_teach, of_correct, of_erase, of_out, refused, granted, none_holds}
use Rattle.model.specs.RowLaws.{Free, first_free, front_holds, front_free}
use Rattle.model.specs.StoreLaws.{size_of}
use Rattle.model.specs.Sound.{sound}
use Rattle.lookup.specs.Sized.{Sized}
use Rattle.lookup.specs.SizedLaws.{sound_sized}
use Rattle.writing.specs.declared.Home.{Home}
use Rattle.writing.specs.Homes.{opening_rows, taught_rows, Located}

-- ---- the rows of a call that answers with a number alone
pub record Rows (s : List ℕ) (c : Call) (rows : List (Bool × ℕ)) : Type 0 where
  pub alone : Plain c
  pub same : first_of (refusals_in (sound s) (view s) c) ≡ first_of rows

module _ {s : List ℕ} {c : Call} {rows : List (Bool × ℕ)} (o : Rows s c rows) where
  pub turned_down : (refusal : Refusal) → code refusal ≡ first_of rows → outcome (plain (code refusal)) s ≡ perform s c
  turned_down refusal e = refused s o.alone refl (e ∙ sym o.same) (eqb-false _ 0 (law.refused refusal))

  pub done : {s' : List ℕ} → 0 ≡ first_of rows → s' ≡ granted_in s c → outcome (plain 0) s' ≡ perform s c
  done e = granted s o.alone refl (e ∙ sym o.same) refl

-- ---- unit out
pub of_losing : (s : List ℕ) (w : ℕ) → Rows s (Call.unit_out w) (refusals_in (sound s) (view s) (Call.unit_out w))
of_losing s w = record { alone = of_out; same = refl }

pub record Loses (s : List ℕ) (w : ℕ) : Type 0 where
  pub sized : Sized s
  pub unit : w < 28

pub loses : (s : List ℕ) (w : ℕ) → 0 ≡ first_of (refusals_in (sound s) (view s) (Call.unit_out w)) → Loses s w
unfolding refusals_in
loses s w e =
    let f = none_holds (sound s) (view s) (Call.unit_out w) 0 e refl in
    let l : w ≤ 27 = ltb-false 27 w f.0 in
    record { sized = sound_sized (not-false (sound s) f.1.0); unit = omega arith }

pub lost : (s s' : List ℕ) (w v : ℕ) → v ≡ w → s' ≡ bytes (unit_lost (view s) v) → s' ≡ granted_in s (Call.unit_out w)
unfolding granted_in
lost s s' w v e f = f ∙ rw e

-- ---- teach, correct and erase: the rows that they share, and behind them those of a key that is taught, or not
abbrev pub teaching : List ℕ → ℕ → ℕ → List (Bool × ℕ)
teaching s n r = (ltb r n, 5) ∷ (leb (byte s 5) n, 7) ∷ []

abbrev pub untaught : ℕ → ℕ → List (Bool × ℕ)
untaught n r = (leb n r, 6) ∷ []

-- rows that look at how many records the key's unit has and at the key's rank
abbrev pub behind : List ℕ → ℕ → (ℕ → ℕ → List (Bool × ℕ)) → List (Bool × ℕ)
behind s k own = own (fill_in (view s) (home_in (view s) k)) (rank_in (view s) (home_in (view s) k) k)

pub of_teaching : (s : List ℕ) (k : ℕ) (x : List ℕ) → Rows s (Call.teach k x) (opening_rows s k (eqb (length x) field_bytes) ++ behind s k (teaching s))
unfolding refusals_in opening_rows
of_teaching s k x = record { alone = of_teach; same = rw (size_of s) refl }

pub of_correcting : (s : List ℕ) (k : ℕ) (x : List ℕ) → Rows s (Call.correct k x) (taught_rows s k (eqb (length x) field_bytes))
unfolding refusals_in opening_rows taught_rows
of_correcting s k x = record { alone = of_correct; same = refl }

pub of_erasing : (s : List ℕ) (k : ℕ) → Rows s (Call.erase k) (taught_rows s k true)
unfolding first_of pick refusals_in opening_rows taught_rows
of_erasing s k = record { alone = of_erase; same = refl }

module _ (s : List ℕ) (k : ℕ) (fits : Bool) where
  -- a row that they share holds
  pub at_first : (refusal : Refusal) (us : List (Bool × ℕ)) → code refusal ≡ first_of (opening_rows s k fits) → code refusal ≡ first_of (opening_rows s k fits ++ us)
  at_first refusal us e = e ∙ sym (front_holds (opening_rows s k fits) us (λ z. eqb-false _ 0 (law.refused refusal) (e ∙ z)))

  -- none of them holds
  module _ (e : 0 ≡ first_of (opening_rows s k fits)) where
    free : Free (opening_rows s k fits)
    unfolding opening_rows
    free = first_free (opening_rows s k fits) (refl, (refl, (refl, (refl, tt)))) (sym e)

    pub fitting : fits ≡ true
    unfolding opening_rows
    fitting = not-false fits free.1.0

    pub then : {home : Home} → Located s k home → (own : ℕ → ℕ → List (Bool × ℕ)) → first_of (own home.fill home.rank) ≡ first_of (opening_rows s k fits ++ behind s k own)
    then h own = sym (front_free (opening_rows s k fits) _ free ∙ rw (h.unit, h.fill, h.rank) refl)

  -- none of those of a taught key holds
  module _ (e : 0 ≡ first_of (taught_rows s k fits)) where
    all_free : Free (taught_rows s k fits)
    unfolding opening_rows taught_rows
    all_free = first_free (taught_rows s k fits) (refl, (refl, (refl, (refl, (refl, tt))))) (sym e)

    pub taught_fitting : fits ≡ true
    unfolding opening_rows taught_rows
    taught_fitting = not-false fits all_free.1.0

    pub listed : {home : Home} → Located s k home → home.rank < home.fill
    unfolding opening_rows taught_rows
    listed {home} h = leb-false home.fill home.rank (rw (h.unit, h.fill, h.rank) at all_free.1.1.1.1.0)

-- ---- the slots that they write, and what is left
module _ {s : List ℕ} {k : ℕ} {home : Home} (h : Located s k home) where
  pub next_slot : home.fill < byte s 5 → SlotIn s home.unit home.fill
  next_slot e = record { long = h.sized.long; unit = h.below; rank = e }

  pub own_slot : home.rank < home.fill → SlotIn s home.unit home.rank
  own_slot e = record { long = h.sized.long; unit = h.below; rank = omega (arith, h.most) }

  pub last_slot : home.rank < home.fill → SlotIn s home.unit (home.fill - 1)
  last_slot e = record { long = h.sized.long; unit = h.below; rank = omega (arith, h.most) }

  pub taught : (x : List ℕ) {s' : List ℕ} → s' ≡ bytes (written (view s) home.unit home.fill (slot_of k x)) → s' ≡ granted_in s (Call.teach k x)
  unfolding granted_in
  taught x f = f ∙ rw (h.unit, h.fill)

  pub corrected : (x : List ℕ) {s' : List ℕ} → s' ≡ bytes (written (view s) home.unit home.rank (slot_of k x)) → s' ≡ granted_in s (Call.correct k x)
  unfolding granted_in
  corrected x f = f ∙ rw (h.unit, h.rank)

  pub removed : {s' : List ℕ} → s' ≡ bytes (erased (view s) home.unit home.rank (home.fill - 1)) → s' ≡ granted_in s (Call.erase k)
  unfolding granted_in
  removed f =
      let e : pred home.fill ≡ home.fill - 1 = omega arith in
      f ∙ rw (h.unit, h.fill, h.rank, e)
