-- Lines of a text: each is ended by byte 0A, which the last may lack.
use Rattle.std.specs.Prelude.{ℕ, List, [], ◌∷◌, eqb}
use Rattle.buffer.specs.Choice.{pick}

-- a byte before the lines of a text: it stands at the front of the first
unfoldable pub before : ℕ → List (List ℕ) → List (List ℕ)
before c [] = (c ∷ []) ∷ []
before c (l ∷ ls) = (c ∷ l) ∷ ls

-- the lines of a text, without their ends
unfoldable pub lines_of : List ℕ → List (List ℕ)
lines_of [] = []
lines_of (c ∷ s) = pick (eqb c 10) ([] ∷ lines_of s) (before c (lines_of s))
