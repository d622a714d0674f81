-- A loop over n ranks that writes a chunk of w bytes for each, one behind the other from a place on: what holds at each turn.
use Prim.Native.Nat.{ℕ, ◌+◌, ◌*◌, ◌≤◌, ◌<◌}
use mathlib.Core.Path.{◌≡◌, sym, ap, ap₂, ◌∙◌}
use mathlib.Core.List.{List}
use native.Mathlib.Omega.{arith}
use native.Mathlib.Nat.{mul-zero, mul-le-mul_left}
use lib.ListN.{length, take-append-drop}
use Rattle.buffer.specs.Bytes.{splice}
use Rattle.buffer.specs.SpliceLaws.{length_splice, splice_next}
use Rattle.buffer.specs.Table.{tab}
use Rattle.buffer.specs.TableLaws.{Wide, tab_more, length_tab}

-- s is s₀ with the first t chunks written
pub record Writing (new : ℕ → List ℕ) (w n at : ℕ) (s₀ s : List ℕ) (t : ℕ) : Type 0 where
  pub within : t ≤ n
  pub long : length s ≡ length s₀
  pub state : s ≡ splice at (w * t) (tab t new) s₀

length_written : (new : ℕ → List ℕ) (w n t : ℕ) → Wide n w new → t ≤ n → length (tab t new) ≡ w * t
length_written new w n t wide l = length_tab t w new (λ k d. wide k (omega arith))

module _ {new : ℕ → List ℕ} {w n at : ℕ} {s₀ : List ℕ} (wide : Wide n w new) (room : at + w * n ≤ length s₀) where
  written : {s : List ℕ} {t : ℕ} → t ≤ n → s ≡ splice at (w * t) (tab t new) s₀ → Writing new w n at s₀ s t
  written {s} {t} l e =
      record {
        within = l;
        long = ap length e ∙ length_splice at (w * t) (tab t new) s₀ (omega (arith, mul-le-mul_left w l)) (length_written new w n t wide l);
        state = e;
      }

  pub writing_start : Writing new w n at s₀ s₀ 0
  unfolding splice tab
  writing_start = written (omega arith) (rw mul-zero (sym (take-append-drop at s₀)))

  pub writing_turn : {s s' z : List ℕ} {t o : ℕ} → Writing new w n at s₀ s t → t < n → o ≡ at + w * t → z ≡ new t → s' ≡ splice o w z s
      → Writing new w n at s₀ s' (t + 1)
  writing_turn {s} {s'} {z} {t} {o} m l eo ez es =
      let next : w * t + w ≡ w * (t + 1) = omega arith in
      written (omega arith)
      (es
      ∙ rw (eo, ez, m.state) (splice_next at (w * t) w (tab t new) (new t) s₀ (omega arith) (length_written new w n t wide m.within))
      ∙ ap₂ (λ k x. splice at k x s₀) next (sym (tab_more t new)))

  pub writing_end : {s : List ℕ} {t : ℕ} → Writing new w n at s₀ s t → n ≤ t → s ≡ splice at (w * n) (tab n new) s₀
  writing_end {s} {t} m l =
      let all : t ≡ n = let k = m.within in omega arith in
      m.state ∙ ap (λ k. splice at (w * k) (tab k new) s₀) all
