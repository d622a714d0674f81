-- A column of the matrix, and four different ones of all seventeen: the side condition of what is said of any four columns.
use Rattle.std.specs.Prelude.{◌≡◌, true, List, [], ◌∷◌, ℕ, ◌<◌, length, get_or}
use Rattle.std.proofs.Common.{arith}
use Rattle.code.specs.Matrix.{entry, within, different}
use Rattle.code.specs.Lists.{within_at}

-- the four entries of a column
abbrev pub column : ℕ → List ℕ
column c = entry 0 c ∷ entry 1 c ∷ entry 2 c ∷ entry 3 c ∷ []

pub record FourColumns (cs : List ℕ) : Type 0 where
  pub long : length cs ≡ 4
  pub low : within 16 cs ≡ true
  pub apart : different cs ≡ true

-- each is a column
pub column_at : {cs : List ℕ} → FourColumns cs → (i : ℕ) → i < 4 → get_or cs i 0 < 17
column_at {cs} four i h = omega (arith, within_at 16 cs four.low i (omega (arith, four.long)))
