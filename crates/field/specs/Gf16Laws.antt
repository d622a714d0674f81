-- GF(16) is a field. `tested` is the computed test of its width, modulus and inverses; with it every law of algebra's BinaryLaws is cited as it stands,
-- as `comm tested a b ha hb`. `gf16` is the field itself, over the symbols `Symbol`.
use Rattle.algebra.specs.Field.{Field}
use Rattle.algebra.specs.Every.{every}
use Rattle.algebra.specs.Binary.{times, remainder, product_in}
use Rattle.algebra.specs.BinaryTested.{inverse_in, squares, Tested}
use Rattle.algebra.specs.BinaryField.{Below, field_of}
use Rattle.field.specs.Inverse.{inverse}

pub tested : Tested 4 19 inverse
unfolding every product_in remainder times inverse_in squares
tested = record { positive = tt; bound = tt; one = tt; comm = tt; assoc = tt; inverse_bound = tt; inverses = tt }

abbrev pub Symbol : Type 0
Symbol = Below 4

abbrev pub gf16 : Field
gf16 = field_of tested
