-- The entries of the matrix are symbols: `entry_bound`, for each place and column, and `column_within`, for the four of a column together.
use Rattle.std.specs.Prelude.{◌≡◌, refl, true, ℕ, ◌+◌, ◌*◌, ◌<◌}
use Rattle.std.proofs.Common.{le_of_suc-le-suc, arith, lit<}
use Rattle.code.specs.Matrix.{matrix, entry, within}
use Rattle.code.specs.Columns.{column}
use Rattle.code.specs.Lists.{within_at, within_four}

pub entry_bound : (place c : ℕ) → place < 4 → c < 17 → entry place c < 16
unfolding entry matrix
entry_bound place c hp hc =
    let k : place * 17 + c < 68 = omega arith in
    omega (arith, within_at 15 matrix refl (place * 17 + c) k)

-- the four entries of a column
pub column_within : (c : ℕ) → c < 17 → within 15 (column c) ≡ true
column_within c h =
    within_four 15 (entry 0 c) (entry 1 c) (entry 2 c) (entry 3 c) (le_of_suc-le-suc (entry_bound 0 c (lit< tt) h))
    (le_of_suc-le-suc (entry_bound 1 c (lit< tt) h)) (le_of_suc-le-suc (entry_bound 2 c (lit< tt) h)) (le_of_suc-le-suc (entry_bound 3 c (lit< tt) h))
