-- Document 01: "2 is primitive." Its first fifteen powers are all symbols but 0, each once; the next is 1 again.
use Rattle.std.specs.Prelude.{◌≡◌, refl, [], ◌∷◌}
use Rattle.algebra.specs.Binary.{times, remainder, product_in}
use Rattle.algebra.specs.BinaryPowers.{doublings}

pub primitive : doublings 4 19 16 1 ≡ 1 ∷ 2 ∷ 4 ∷ 8 ∷ 3 ∷ 6 ∷ 0xC ∷ 0xB ∷ 5 ∷ 0xA ∷ 7 ∷ 0xE ∷ 0xF ∷ 0xD ∷ 9 ∷ 1 ∷ []
unfolding doublings product_in remainder times
primitive = refl
