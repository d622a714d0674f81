-- GF(256) is a field. `tested` is the computed test of its width, modulus and inverses; with it every law of algebra's BinaryLaws is cited as it stands,
-- as `comm tested a b ha hb`. `gf256` is the field itself, over the bytes `Byte`.
use Rattle.std.specs.Prelude.{List, ◌||◌, ℕ, T, ltb, eqb}
use Rattle.algebra.specs.Field.{Field}
use Rattle.algebra.specs.Every.{every}
use Rattle.algebra.specs.Binary.{times, remainder, product_in}
use Rattle.algebra.specs.BinaryTested.{Tested}
use Rattle.algebra.specs.BinaryPowers.{doublings}
use Rattle.algebra.specs.BinaryField.{Below, field_of}
use Rattle.buffer.specs.Choice.{pick}
use Rattle.field256.specs.Gf256.{product}
use Rattle.field256.specs.Powers.{powers, index, inverse_by, inverse}

-- the tests of the inverses take the list of powers as an argument, so that it is computed once
bounded : List ℕ → Type 0
bounded l = T (every 256 (λ a. ltb (inverse_by l a) 256))

inverting : List ℕ → Type 0
inverting l = T (every 256 (λ a. eqb a 0 || eqb (product a (inverse_by l a)) 1))

are_bounded : bounded powers
unfolding bounded every product_in remainder times powers doublings index pick inverse_by
are_bounded = tt

are_inverting : inverting powers
unfolding inverting every product_in remainder times powers doublings index pick inverse_by
are_inverting = tt

pub tested : Tested 8 285 inverse
unfolding bounded inverting every product_in remainder times inverse
tested = record { positive = tt; bound = tt; one = tt; comm = tt; assoc = tt; inverse_bound = are_bounded; inverses = are_inverting }

abbrev pub Byte : Type 0
Byte = Below 8

abbrev pub gf256 : Field
gf256 = field_of tested
