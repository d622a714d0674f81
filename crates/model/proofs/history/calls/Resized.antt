-- What grow and shrink have in common on a picture: unit m is added or removed, and the records of the unit that it is split from change. The two
-- groups that are touched have no unit out; their check records are made anew, and all else is shown as before.
use Prim.Native.Nat.{ℕ, ◌+◌, ◌*◌, ◌/◌, ◌%◌, ◌<◌}
use mathlib.Core.Path.{◌≡◌, sym, ap, ◌∙◌}
use mathlib.Core.List.{List}
use mathlib.Core.Bool.{true, false, and-false}
use native.Mathlib.Omega.{arith}
use lib.Dec.{eqb, ltb}
use Rattle.group.specs.CheckRecord.{check_record}
use Rattle.model.specs.Units.{split_pointer, touched}
use Rattle.model.specs.history.Ledger.{Ledger, record_at, placed, is_out, state, outs_of}
use Rattle.model.specs.history.Picture.{record_bytes, picture_slot, picture_check}
use Rattle.model.proofs.history.ledger.Valid.{Valid}
use Rattle.model.proofs.history.ledger.Touched.{not_touched, quiet_data}
use Rattle.model.proofs.history.picture.Records.{over_ext, anew_over}
use Rattle.model.proofs.history.picture.Picture.{check_on}
use Rattle.model.proofs.history.picture.Seen.{slot_kept}

-- the ledger l before the call, and next after it
pub record Resized (l next : Ledger) (m : ℕ) : Type 0 where
  pub before : Valid l
  pub after : Valid next
  pub new : ltb 0 (outs_of l (m / 4)) ≡ false
  pub old : ltb 0 (outs_of l (split_pointer m / 4)) ≡ false
  pub marks : (w : ℕ) → next.out w ≡ l.out w
  pub kept : (u r : ℕ) → (u ≡ m → ⊥) → (u ≡ split_pointer m → ⊥) → record_at next u r ≡ record_at l u r

module _ {l next : Ledger} {m : ℕ} (z : Resized l next m) where
  -- a unit of a touched group shows its records
  pub shows : (u r : ℕ) → u < 16 → touched m (u / 4) ≡ true → picture_slot next u r ≡ record_bytes (record_at next u r)
  unfolding is_out
  shows u r a e = slot_kept next z.after u r a (rw (z.marks u, quiet_data l z.before.calm m z.new z.old u e) (and-false (placed next u)))

  -- a unit that is neither of the two shows what it did
  pub slot_same : (u r : ℕ) → (u ≡ m → ⊥) → (u ≡ split_pointer m → ⊥) → state next u ≡ state l u → picture_slot l u r ≡ picture_slot next u r
  unfolding picture_slot
  slot_same u r a b e = rw (e, z.kept u r a b)

  -- a check record of a touched group, made anew from the slots f, which are those of the picture after the call
  pub made : (c r : ℕ) (f : ℕ → List ℕ) → c < 12 → ((u : ℕ) → u < 16 → f u ≡ picture_slot next u r) → touched m (c / 3) ≡ true
      → eqb (state next (16 + c)) 1 ≡ true
      → check_record (c % 3) (λ p. f (4 * (c / 3) + p)) ≡ picture_check next c r
  made c r f a same e on =
      anew_over (c % 3) (λ p. f (4 * (c / 3) + p)) (λ p. record_at next (4 * (c / 3) + p) r) (λ p i.
      let d : (4 * (c / 3) + p) / 4 ≡ c / 3 = omega arith in
      same (4 * (c / 3) + p) (omega arith) ∙ shows (4 * (c / 3) + p) r (omega arith) (ap (touched m) d ∙ e))
      ∙ sym (check_on next c r on)

  -- a check unit that keeps its place has its state
  pub state_same : (c : ℕ) → placed l (16 + c) ≡ placed next (16 + c) → state l (16 + c) ≡ state next (16 + c)
  unfolding state
  state_same c e = rw (e, z.marks (16 + c))

  -- and, of a group that is not touched, its check records
  pub check_same : (c r : ℕ) → touched m (c / 3) ≡ false → placed l (16 + c) ≡ placed next (16 + c) → picture_check l c r ≡ picture_check next c r
  unfolding picture_check
  check_same c r e same = rw (
    state_same c same,
    over_ext (c % 3) (λ p. record_at l (4 * (c / 3) + p) r) (λ p. record_at next (4 * (c / 3) + p) r)
        (λ p i. let d = not_touched m (c / 3) p i e in sym (z.kept (4 * (c / 3) + p) r d.0 d.1)),
  )
