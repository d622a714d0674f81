-- What a loop over 0 to n - 1 does: a list filled entry by entry, a test of every byte.
use Rattle.std.specs.Prelude.{ℕ, zero, suc, Bool, List, [], ◌∷◌, eqb, length}
use Rattle.buffer.specs.Bytes.{byte}
use Rattle.buffer.specs.Range.{all}

-- every byte is zero
unfoldable pub all_zero : List ℕ → Bool
all_zero s = all (length s) (λ i. eqb (byte s i) 0)

-- the list of f 0, f 1, .., f (n - 1)
unfoldable pub entries : {A : Type 0} → ℕ → (ℕ → A) → List A
entries zero f = []
entries (suc n) f = f 0 ∷ entries n (λ (k : ℕ). f (suc k))
