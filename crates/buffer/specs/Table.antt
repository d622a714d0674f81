-- A list that is made of chunks, one behind the other; a function changed at one place.
use Rattle.std.specs.Prelude.{ℕ, zero, suc, List, [], ◌++◌, eqb}
use Rattle.buffer.specs.Choice.{pick}

-- f 0 ++ f 1 ++ .. ++ f (n - 1)
unfoldable pub tab : ℕ → (ℕ → List ℕ) → List ℕ
tab zero f = []
tab (suc n) f = tab n f ++ f n

-- f with x at i
unfoldable pub upd {ℓ} : {A : Type ℓ} → (ℕ → A) → ℕ → A → ℕ → A
upd f i x k = pick (eqb k i) x (f k)
