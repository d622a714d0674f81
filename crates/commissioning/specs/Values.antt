-- Document 01, "Commissioning values": the starred ones, of the definitions, as one table (`starred`) with one theorem, `commissioned`: in every row
-- what is computed is what the document expects. Value 4 is there by Lagrange's weights and by the matrix, value 6 by the change and anew.
use Rattle.std.specs.Prelude.{ℕ, ◌≡◌, refl}
use mathlib.Core.List.{List, [], ◌∷◌, map, zip_with}
use Rattle.algebra.specs.Binary.{product_in, remainder, times}
use Rattle.algebra.specs.BinaryTested.{inverse_in, squares}
use Rattle.algebra.specs.Polynomial.{All}
use Rattle.field.specs.Gf16.{product}
use Rattle.field.specs.Inverse.{inverse}
use Rattle.field.specs.Byte.{scale}
use Rattle.buffer.specs.Choice.{pick}
use Rattle.buffer.specs.Loops.{entries}
use Rattle.buffer.specs.Range.{sum}
use Rattle.buffer.specs.Table.{upd}
use Rattle.code.specs.Matrix.{matrix, entry, encode}
use Rattle.code.specs.Point.{point}
use Rattle.code.specs.Weights.{weight_of, weights_of, data_of}
use Rattle.group.specs.Body.{add_body, scale_body}
use Rattle.group.specs.Four.{four_bodies}
use Rattle.group.specs.Parity.{coefficient, sum4, body_at, parity, adjusted}
use Rattle.model.specs.Units.{power_below, split_pointer, address, digit_sum, unit_of}

-- the bodies in units 0 to 3, and what the first becomes
unfoldable pub units : ℕ → List ℕ
units =
    four_bodies
    (0x45 ∷ 0x6E ∷ 0x20 ∷ 0x41 ∷ [])
    (0x41 ∷ 0x6D ∷ 0x20 ∷ 0x41 ∷ [])
    (0x44 ∷ 0x61 ∷ 0x6E ∷ 0x73 ∷ [])
    (0x49 ∷ 0x6E ∷ 0x20 ∷ 0x70 ∷ [])

unfoldable pub new_body : List ℕ
new_body = 0x49 ∷ 0x6E ∷ 0x20 ∷ 0x69 ∷ []

-- what is computed, and what is expected
unfoldable pub starred : List (List ℕ × List ℕ)
starred =
    -- 1. "A times B is 2; A divided by B is 4."
    (product 0xA 0xB ∷ product 0xA (inverse 0xB) ∷ [], 2 ∷ 4 ∷ [])
    -- 2. "(4,4,4,4) gives sixteen 4s, then 0."
    ∷ (entries 17 (encode (4 ∷ 4 ∷ 4 ∷ 4 ∷ [])), 4 ∷ 4 ∷ 4 ∷ 4 ∷ 4 ∷ 4 ∷ 4 ∷ 4 ∷ 4 ∷ 4 ∷ 4 ∷ 4 ∷ 4 ∷ 4 ∷ 4 ∷ 4 ∷ 0 ∷ [])
    -- 3. "(5,1,4,9) gives 5 1 4 9 F 8 A 4 B 1 1 2 7 E 9 9 A."
    ∷ (entries 17 (encode (5 ∷ 1 ∷ 4 ∷ 9 ∷ [])), 5 ∷ 1 ∷ 4 ∷ 9 ∷ 0xF ∷ 8 ∷ 0xA ∷ 4 ∷ 0xB ∷ 1 ∷ 1 ∷ 2 ∷ 7 ∷ 0xE ∷ 9 ∷ 9 ∷ 0xA ∷ [])
    -- 4. "Symbols 9 F 8 A at columns 3 to 6 rebuild 5 1 4 9."
    ∷ (data_of (3 ∷ 4 ∷ 5 ∷ 6 ∷ []) (9 ∷ 0xF ∷ 8 ∷ 0xA ∷ []), 5 ∷ 1 ∷ 4 ∷ 9 ∷ [])
    ∷ (map (encode (5 ∷ 1 ∷ 4 ∷ 9 ∷ [])) (3 ∷ 4 ∷ 5 ∷ 6 ∷ []), 9 ∷ 0xF ∷ 8 ∷ 0xA ∷ [])
    -- 5. "45 6E 20 41, 41 6D 20 41, 44 61 6E 73, 49 6E 20 70 in units 0-3: check unit 0 has 4F 63 6E E4, check unit 1 has 48 6E DC EE."
    ∷ (parity 0 units, 0x4F ∷ 0x63 ∷ 0x6E ∷ 0xE4 ∷ [])
    ∷ (parity 1 units, 0x48 ∷ 0x6E ∷ 0xDC ∷ 0xEE ∷ [])
    -- 6. "The first then becomes 49 6E 20 69: 45 63 6E D8 and 40 6E DC 3F."
    ∷ (adjusted 0 0 (add_body (units 0) new_body) (parity 0 units), 0x45 ∷ 0x63 ∷ 0x6E ∷ 0xD8 ∷ [])
    ∷ (adjusted 1 0 (add_body (units 0) new_body) (parity 1 units), 0x40 ∷ 0x6E ∷ 0xDC ∷ 0x3F ∷ [])
    ∷ (parity 0 (upd units 0 new_body), 0x45 ∷ 0x63 ∷ 0x6E ∷ 0xD8 ∷ [])
    ∷ (parity 1 (upd units 0 new_body), 0x40 ∷ 0x6E ∷ 0xDC ∷ 0x3F ∷ [])
    -- 7. "M = 5: key 8 is in unit 0, key 4 in 4, key 5 in 1": each is its own digit sum.
    ∷ (map (unit_of 5) (8 ∷ 4 ∷ 5 ∷ []), 0 ∷ 4 ∷ 1 ∷ [])
    -- 8. "M = 16: key 16 is in unit 1, the largest key in 8." Their digit sums are 1 and 120.
    ∷ (map digit_sum (16 ∷ 4294967295 ∷ []), 1 ∷ 120 ∷ [])
    ∷ (map (unit_of 16) (16 ∷ 4294967295 ∷ []), 1 ∷ 8 ∷ [])
    ∷ []

pub commissioned : All (λ row. row.0 ≡ row.1) starred
unfolding starred units new_body four_bodies parity body_at adjusted sum4 coefficient add_body scale_body zip_with upd scale weights_of weight_of point
    entries entry matrix product_in remainder times inverse_in squares unit_of address digit_sum sum power_below split_pointer pick
commissioned = (refl, (refl, (refl, (refl, (refl, (refl, (refl, (refl, (refl, (refl, (refl, (refl, (refl, (refl, tt))))))))))))))
