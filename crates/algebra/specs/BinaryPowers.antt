-- The powers of 2 in a binary field. A reader wants `power`, `doublings` (a table of powers) and `power_add`.
use Rattle.std.specs.Prelude.{◌≡◌, List, [], ◌∷◌, length, get_or}
use Rattle.std.proofs.Math.Path.{refl, sym, ap}
use Rattle.std.proofs.Common.{◌∙◌, le_of_suc-le-suc, not-suc-le-zero, zero-add, add-zero, suc-add, add-suc}
use Prim.Native.Nat.{ℕ, zero, suc, ◌+◌, ◌^◌, ◌<◌}
use Rattle.std.proofs.Math.Dec.{ltb→lt}
use Rattle.algebra.specs.Binary.{product_in}
use Rattle.algebra.specs.BinaryTested.{Tested}
use Rattle.algebra.specs.BinaryLaws.{bound, one, comm, assoc}

module _ (w m : ℕ) where
  -- the n-th power of 2
  unfoldable pub power : ℕ → ℕ
  power zero = 1
  power (suc n) = product_in w m 2 (power n)

  -- x, 2 times x, 4 times x, .., n of them
  unfoldable pub doublings : ℕ → ℕ → List ℕ
  doublings zero x = []
  doublings (suc n) x = x ∷ doublings n (product_in w m 2 x)

  pub length_doublings : (n x : ℕ) → length (doublings n x) ≡ n
  unfolding doublings
  length_doublings zero x = refl
  length_doublings (suc n) x = ap suc (length_doublings n (product_in w m 2 x))

  doublings_from : (n i k : ℕ) → k < n → get_or (doublings n (power i)) k 0 ≡ power (i + k)
  unfolding doublings power
  doublings_from zero i k h = absurd (not-suc-le-zero h)
  doublings_from (suc n) i zero h = ap power (sym (add-zero i))
  doublings_from (suc n) i (suc k) h = doublings_from n (suc i) k (le_of_suc-le-suc h) ∙ ap power (suc-add i k ∙ sym (add-suc i k))

  pub doublings_at : (n k : ℕ) → k < n → get_or (doublings n 1) k 0 ≡ power k
  unfolding power
  doublings_at n k h = doublings_from n 0 k h ∙ ap power (zero-add k)

module _ {w m : ℕ} {inverse : ℕ → ℕ} (𝓣 : Tested w m inverse) (two : 2 < 2 ^ w) where
  pub power_low : (n : ℕ) → power w m n < 2 ^ w
  unfolding power
  power_low zero = ltb→lt 1 (2 ^ w) 𝓣.positive
  power_low (suc n) = bound 𝓣 2 (power w m n) two (power_low n)

  pub one_product : (a : ℕ) → a < 2 ^ w → product_in w m 1 a ≡ a
  one_product a h = comm 𝓣 1 a (ltb→lt 1 (2 ^ w) 𝓣.positive) h ∙ one 𝓣 a h

  pub power_add : (a b : ℕ) → power w m (a + b) ≡ product_in w m (power w m a) (power w m b)
  unfolding power
  power_add zero b = ap (power w m) (zero-add b) ∙ sym (one_product (power w m b) (power_low b))
  power_add (suc a) b =
      ap (power w m) (suc-add a b) ∙ ap (product_in w m 2) (power_add a b) ∙ sym (assoc 𝓣 2 (power w m a) (power w m b) two (power_low a) (power_low b))
