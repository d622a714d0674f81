-- The two groups that grow and shrink touch: none of their units is out. Assumes that a unit which is not in place is not marked out.
use Prim.Native.Nat.{ℕ, ◌+◌, ◌*◌, ◌/◌, ◌<◌}
use mathlib.Core.Path.{◌≡◌, refl, ap, ◌∙◌}
use mathlib.Core.Logic.{◌⊎◌, inl, inr, ⊎_elim}
use mathlib.Core.Bool.{Bool, true, false, ◌&&◌, ◌||◌}
use native.Mathlib.Omega.{arith}
use lib.Dec.{eqb, ltb}
use borrow.Author.Tests.{eqb-true, eqb-false}
use Rattle.buffer.specs.ChoiceLaws.{by-test}
use Rattle.buffer.specs.TestLaws.{not-both}
use Rattle.model.specs.Units.{split_pointer, touched}
use Rattle.model.specs.history.Ledger.{Ledger, placed, is_out, outs_of}
use Rattle.model.proofs.history.ledger.States.{data_kept, check_kept}

-- ---- which units a group has

-- one number is the first or the second of two, or neither
pub by-either {ℓ} : (P : Bool → Type ℓ) (u m n : ℕ) → ((u ≡ m) ⊎ (u ≡ n) → P true) → ((u ≡ m → ⊥) → (u ≡ n → ⊥) → P false) → P (eqb u m || eqb u n)
by-either P u m n one none =
    by-test
    (λ (t : Bool). P (t || eqb u n))
    (eqb u m)
    (λ e. one (inl (eqb-true u m e)))
    (λ e. by-test P (eqb u n) (λ f. one (inr (eqb-true u n f))) (λ f. none (eqb-false u m e) (eqb-false u n f)))

pub is_touched : (m g : ℕ) → (g ≡ m / 4) ⊎ (g ≡ split_pointer m / 4) → touched m g ≡ true
unfolding touched
is_touched m g e = by-either (λ (t : Bool). t ≡ true) g (m / 4) (split_pointer m / 4) (λ _. refl) (λ a b. absurd (⊎_elim a b e))

pub not_touched : (m g p : ℕ) → p < 4 → touched m g ≡ false → ((4 * g + p ≡ m → ⊥) × (4 * g + p ≡ split_pointer m → ⊥))
not_touched m g p a e = (λ d. not-both (is_touched m g (inl (omega arith))) e, λ d. not-both (is_touched m g (inr (omega arith))) e)

-- ---- none of their units is out

module _ (l : Ledger) (calm : (w : ℕ) → placed l w ≡ false → l.out w ≡ false) (m : ℕ)
    (new : ltb 0 (outs_of l (m / 4)) ≡ false) (old : ltb 0 (outs_of l (split_pointer m / 4)) ≡ false) where
  touched_quiet : (g : ℕ) → touched m g ≡ true → ltb 0 (outs_of l g) ≡ false
  unfolding touched
  touched_quiet g =
      by-either (λ (t : Bool). t ≡ true → ltb 0 (outs_of l g) ≡ false) g (m / 4) (split_pointer m / 4)
      (λ one e. ⊎_elim (λ d. ap (λ (k : ℕ). ltb 0 (outs_of l k)) d ∙ new) (λ d. ap (λ (k : ℕ). ltb 0 (outs_of l k)) d ∙ old) one)
      (λ a b e. not-both e refl)

  quiet : (w : ℕ) → is_out l w ≡ false → l.out w ≡ false
  unfolding is_out
  quiet w e = go (placed l w) refl e
    where
      go : (p : Bool) → placed l w ≡ p → (p && l.out w) ≡ false → l.out w ≡ false
      go true q e = e
      go false q e = calm w q

  pub quiet_data : (u : ℕ) → touched m (u / 4) ≡ true → l.out u ≡ false
  quiet_data u e = quiet u (data_kept l u (touched_quiet (u / 4) e))

  pub quiet_check : (c : ℕ) → touched m (c / 3) ≡ true → l.out (16 + c) ≡ false
  quiet_check c e = quiet (16 + c) (check_kept l c (touched_quiet (c / 3) e))
