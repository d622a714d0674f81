-- The code: four data symbols, seventeen columns. Document 01: "The matrix is a constant of four rows and seventeen columns, numbered from 0. Columns 0
-- to 3 are the identity." A reader wants `entry place column`, `encode ds c` (the symbol of the data ds at column c) and `Rebuilds`, which judges the
-- number and the data that rebuilding returns by this matrix alone.
use Rattle.std.specs.Prelude.{◌≡◌, Bool, true, false, not, ◌&&◌, List, [], ◌∷◌, ℕ, suc, ◌+◌, ◌*◌, ◌<◌, leb, eqb, length, get_or}
use Rattle.std.specs.Int.Bits.{bit_xor}
use Rattle.field.specs.Gf16.{product}

-- the four rows, one after the other; a row belongs to a place in the group
unfoldable pub matrix : List ℕ
matrix =
    0x1 ∷ 0x0 ∷ 0x0 ∷ 0x0 ∷ 0x8 ∷ 0xF ∷ 0x1 ∷ 0x7 ∷ 0x7 ∷ 0x9 ∷ 0x3 ∷ 0xC ∷ 0x2 ∷ 0xA ∷ 0xE ∷ 0x7 ∷ 0x7
    ∷ 0x0 ∷ 0x1 ∷ 0x0 ∷ 0x0 ∷ 0xF ∷ 0x8 ∷ 0x7 ∷ 0x1 ∷ 0x9 ∷ 0x7 ∷ 0xC ∷ 0x3 ∷ 0xA ∷ 0x2 ∷ 0x7 ∷ 0xE ∷ 0x7
    ∷ 0x0 ∷ 0x0 ∷ 0x1 ∷ 0x0 ∷ 0x1 ∷ 0x7 ∷ 0x8 ∷ 0xF ∷ 0x3 ∷ 0xC ∷ 0x7 ∷ 0x9 ∷ 0xE ∷ 0x7 ∷ 0x2 ∷ 0xA ∷ 0x7
    ∷ 0x0 ∷ 0x0 ∷ 0x0 ∷ 0x1 ∷ 0x7 ∷ 0x1 ∷ 0xF ∷ 0x8 ∷ 0xC ∷ 0x3 ∷ 0x9 ∷ 0x7 ∷ 0x7 ∷ 0xE ∷ 0xA ∷ 0x2 ∷ 0x7 ∷ []

unfoldable pub entry : ℕ → ℕ → ℕ
entry place column = get_or matrix (place * 17 + column) 0

-- the product of the symbols ds with column c, from the given place on
abbrev pub dot : List ℕ → ℕ → ℕ → ℕ
dot [] place c = 0
dot (d ∷ ds) place c = bit_xor (product d (entry place c)) (dot ds (suc place) c)

-- the symbol of the data ds at column c
abbrev pub encode : List ℕ → ℕ → ℕ
encode ds c = dot ds 0 c

-- ---- what rebuilding accepts
-- every number is at most n
abbrev pub within : ℕ → List ℕ → Bool
within n [] = true
within n (x ∷ xs) = leb x n && within n xs

-- x is none of the numbers
abbrev pub absent : ℕ → List ℕ → Bool
absent x [] = true
absent x (y ∷ ys) = not (eqb x y) && absent x ys

-- no number is given twice
abbrev pub different : List ℕ → Bool
different [] = true
different (x ∷ xs) = absent x xs && different xs

-- Document 01 refuses with 2 "a column above 16 or given twice, a symbol above 15".
unfoldable pub accepted : List ℕ → List ℕ → Bool
accepted cs ys = within 16 cs && (different cs && within 15 ys)

-- Document 01: "The code layer's rebuilding takes four columns and a symbol for each; it returns its number and the four data symbols, all 0 when
-- refused." The data are those that have the symbols ys at the columns cs.
pub record Rebuilds (cs ys : List ℕ) (number : ℕ) (ds : List ℕ) : Type 0 where
  pub refused : accepted cs ys ≡ false → (number ≡ 2) × (ds ≡ 0 ∷ 0 ∷ 0 ∷ 0 ∷ [])
  pub granted : accepted cs ys ≡ true → (number ≡ 0) × (length ds ≡ 4) × (within 15 ds ≡ true)
      × ((j : ℕ) → j < 4 → encode ds (get_or cs j 0) ≡ get_or ys j 0)
