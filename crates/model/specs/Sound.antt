-- Document 01, "Sound means": clause by clause, in its order, as a test of any bytes. Parity bytes are not part of it.
use Rattle.std.specs.Prelude.{ℕ, ◌+◌, ◌*◌, ◌/◌, ◌%◌, List, [], ◌∷◌, Bool, true, false, not, ◌&&◌, ◌||◌, eqb, ltb, leb, length}
use Rattle.buffer.specs.Choice.{pick}
use Rattle.buffer.specs.Range.{all}
use Rattle.buffer.specs.Bytes.{byte, be32, zeros, part}
use Rattle.group.specs.Widths.{key_bytes, slot_bytes, check_bytes}
use Rattle.model.specs.Units.{unit_of}
use Rattle.model.specs.Layout.{Store, view, version, store_bytes, units_in, level_in, key_of}
use Rattle.model.specs.Reads.{fill_in, listed_key, listed_fill, keys_lost_in}

-- two lists of bytes are the same
unfoldable pub same : List ℕ → List ℕ → Bool
same [] [] = true
same [] (y ∷ ys) = false
same (x ∷ xs) [] = false
same (x ∷ xs) (y ∷ ys) = eqb x y && same xs ys

-- these ranges hold; the slice is long enough
unfoldable pub ranges : List ℕ → Bool
ranges s =
    eqb (byte s 0) version && eqb (be32 s 1) (store_bytes (byte s 5))
    && leb 1 (byte s 5) && leb (byte s 5) 64 && leb 1 (byte s 6) && leb (byte s 6) 16 && leb 1 (byte s 7) && leb (byte s 7) 3
    && leb (store_bytes (byte s 5)) (length s)

-- a state of a unit that is in place, in service or out, or of one that is not
unfoldable pub state_fits : Bool → ℕ → Bool
state_fits placed n = pick placed (eqb n 1 || eqb n 2) (eqb n 0)

-- data units 0 to M - 1 are in place and no others
unfoldable pub units_placed : Store → Bool
units_placed v = all 16 (λ u. state_fits (ltb u (units_in v)) (v.dstate u))

-- the check units of a store with m units and level k: each group in place has exactly K, lowest places first, other groups none
unfoldable pub check_placed : ℕ → ℕ → ℕ → Bool
check_placed m k c = ltb (4 * (c / 3)) m && ltb (c % 3) k

unfoldable pub checks_placed : Store → Bool
checks_placed v = all 12 (λ c. state_fits (check_placed (units_in v) (level_in v) c) (v.cstate c))

-- units out or not in place and data slots without a record are zero
unfoldable pub zeroed : Store → Bool
zeroed v =
    all 16 (λ u. all v.size (λ r. (eqb (v.dstate u) 1 && ltb r (fill_in v u)) || same (v.slot u r) (zeros slot_bytes)))
    && all 12 (λ c. all v.size (λ r. eqb (v.cstate c) 1 || same (v.check c r) (zeros check_bytes)))

-- keys are dense, different, in their own unit; an out unit's keys, where listed, obey the same rules
unfoldable pub keys_placed : Store → Bool
keys_placed v = all 16 (λ u. keys_lost_in v u || all v.size (λ r.
    pick (ltb r (listed_fill v u))
    (eqb (unit_of (units_in v) (key_of (listed_key v u r))) u && all r (λ q. not (eqb (key_of (listed_key v u q)) (key_of (listed_key v u r)))))
    (eqb (key_of (listed_key v u r)) 0)))

-- the key lists of check units agree with each other and with data units in service (a unit that is not in place has no keys)
unfoldable pub lists_agree : Store → Bool
lists_agree v = all 12 (λ c. not (eqb (v.cstate c) 1) || all v.size (λ r. all 4 (λ p.
    eqb (key_of (part (key_bytes * p) key_bytes (v.check c r))) (key_of (listed_key v (4 * (c / 3) + p) r)))))

unfoldable pub sound : List ℕ → Bool
sound s = ranges s && units_placed (view s) && checks_placed (view s) && zeroed (view s) && keys_placed (view s) && lists_agree (view s)
