-- Document 02: "with logarithms to base 2 from a constant table of 255 powers". A reader wants `powers`, the powers 0 to 254 of 2, with which the
-- constant of the code is compared, whole; `logarithm a`, the place of a among them; and `logarithms`, those of 1 to 255. Zero has no logarithm.
use Rattle.std.specs.Prelude.{List, [], ◌∷◌, ℕ, suc, ◌-◌, ◌%◌, eqb, get_or}
use Rattle.algebra.specs.BinaryPowers as binary
use Rattle.buffer.specs.Choice.{pick}
use Rattle.buffer.specs.Loops.{entries}

-- how many powers there are: 2 is primitive
abbrev pub order : ℕ
order = 255

-- the n-th power of 2
abbrev pub power : ℕ → ℕ
power n = binary.power 8 285 n

unfoldable pub powers : List ℕ
powers = binary.doublings 8 285 order 1

-- the place of x in a list: where it stands first, or the list's length where it does not
unfoldable pub index : List ℕ → ℕ → ℕ
index [] x = 0
index (y ∷ l) x = pick (eqb x y) 0 (suc (index l x))

-- the logarithm of a number from 1 to 255
unfoldable pub logarithm : ℕ → ℕ
logarithm a = index powers a

-- the logarithms of 1 to 255, that of a at a - 1
unfoldable pub logarithms : List ℕ
logarithms = entries order (λ k. logarithm (suc k))

-- the inverse of a number that is not 0, and 0 for 0, by a list of powers
unfoldable pub inverse_by : List ℕ → ℕ → ℕ
inverse_by l a = pick (eqb a 0) 0 (get_or l ((order - index l a) % order) 0)

unfoldable pub inverse : ℕ → ℕ
inverse a = inverse_by powers a
