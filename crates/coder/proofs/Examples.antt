-- Columns worked by hand. With two data members column 2 is d0 + 2 (d0 + d1): of 80 and 81 it is 80 + 2 times 01, which is 82; of 00 and 83 it is 2 times
-- 83, which is 06 + 1D. A reader compares them with the definition; nothing rests on them.
use mathlib.Core.Path.{◌≡◌, refl}
use mathlib.Core.List.{[], ◌∷◌}
use Rattle.algebra.specs.Binary.{times, remainder, product_in}
use Rattle.algebra.specs.BinaryPowers.{doublings}
use Rattle.buffer.specs.Choice.{pick}
use Rattle.buffer.specs.Loops.{entries}
use Rattle.field256.specs.Powers.{powers, index, inverse_by, inverse}
use Rattle.coder.specs.Interpolated.{interpolated}
use Rattle.coder.specs.Columns.{column}

first : column (0x80 ∷ 0x81 ∷ []) 2 ≡ 0x82
unfolding column interpolated entries product_in remainder times powers doublings index pick inverse_by inverse
first = refl

second : column (0x00 ∷ 0x83 ∷ []) 2 ≡ 0x1B
unfolding column interpolated entries product_in remainder times powers doublings index pick inverse_by inverse
second = refl
