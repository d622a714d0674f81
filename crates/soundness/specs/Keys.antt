-- Lists of keys within bytes, and what is asked of the keys of one unit. A list is a function, rank → key; ranks are counted from 0.
use Rattle.std.specs.Prelude.{ℕ, ◌+◌, ◌*◌, ◌-◌, ◌/◌, ◌%◌, ◌<◌, ◌≡◌, List, Bool, Option, true, not, ◌&&◌, ◌||◌, eqb, ltb}
use Rattle.std.specs.Bool.{then_some}
use Rattle.buffer.specs.Choice.{pick}
use Rattle.buffer.specs.Range.{all, first}
use Rattle.buffer.specs.Bytes.{byte, be32}
use Rattle.buffer.specs.ByteOrder.{le32}
use Rattle.buffer.specs.Strided.{strided32}
use Rattle.model.specs.Units.{power_below, split_pointer, unit_of}
use Rattle.group.specs.Widths.{check_bytes}

-- all numbers are bytes
pub record Octets (s : List ℕ) : Type 0 where
  pub below : (i : ℕ) → byte s i < 256

-- a list of keys with the bytes of each in the other order
unfoldable pub turned_keys : List ℕ → ℕ → ℕ → ℕ → ℕ
turned_keys s base step r = le32 s (base + step * r)

-- the place of a key in the table of marks; that of 0 is 0
unfoldable pub place_of : ℕ → ℕ
place_of k = k * 1640531527 / 2097152 % 2048

-- a mask of the low bits of a digit sum that tell whether its key belongs to unit u of m (`mask_tells`): they leave the remainder that linear hashing
-- takes for the number u itself
unfoldable pub mask_of : ℕ → ℕ → ℕ
mask_of m u = pick (ltb (u % power_below m) (split_pointer m)) (2 * power_below m - 1) (power_below m - 1)

-- the ranks before the first key 0
unfoldable pub fill_of : ℕ → (ℕ → ℕ) → ℕ
fill_of b key = first b (λ r. eqb (key r) 0)

-- a key is none of the first n
unfoldable pub is_new : ℕ → (ℕ → ℕ) → ℕ → Bool
is_new n key k = all n (λ q. not (eqb (key q) k))

-- the key at a rank is none of those before it, and another list has the same there
unfoldable pub new_and_same : (ℕ → ℕ) → (ℕ → ℕ) → ℕ → Bool
new_and_same key other r = is_new r key (key r) && eqb (key r) (other r)

-- how many keys there are before the first key 0; 65, which no unit has room for, where one of them is there twice or is not the other list's
unfoldable pub matched : ℕ → (ℕ → ℕ) → (ℕ → ℕ) → ℕ
matched b key other = pick (all (fill_of b key) (new_and_same key other)) (fill_of b key) 65

-- the first n keys belong to unit u of m
unfoldable pub own_keys : ℕ → ℕ → ℕ → (ℕ → ℕ) → Bool
own_keys m u n key = all n (λ r. eqb (unit_of m (key r)) u)

-- those from rank f on do
unfoldable pub own_from : ℕ → ℕ → ℕ → ℕ → (ℕ → ℕ) → Bool
own_from m u f n key = all n (λ r. ltb r f || eqb (unit_of m (key r)) u)

-- the four keys of a rank that a check unit lists belong to units u to u + 3 of m
unfoldable pub own_row : List ℕ → ℕ → ℕ → ℕ → ℕ → Bool
own_row s list m u r = all 4 (λ p. eqb (unit_of m (strided32 s (list + 4 * p) check_bytes r)) (u + p))

-- the masks of these units, which see the digit sum alone
pub record RowMasks (m u first second third fourth : ℕ) : Type 0 where
  pub one : first ≡ mask_of m u
  pub two : second ≡ mask_of m (u + 1)
  pub three : third ≡ mask_of m (u + 2)
  pub four : fourth ≡ mask_of m (u + 3)
  pub low : (p : ℕ) → mask_of m p < 256

-- how many keys there are before the first key 0, where all of them match and pass a further test of the other list
unfoldable pub found : (ℕ → (ℕ → ℕ) → Bool) → ℕ → (ℕ → ℕ) → (ℕ → ℕ) → Option ℕ
found own b key other = then_some (all (fill_of b key) (new_and_same key other) && own (fill_of b key) other) (fill_of b key)

-- no further test
unfoldable pub any_keys : ℕ → ℕ → ℕ → (ℕ → ℕ) → Bool
any_keys m u n key = true

-- from rank n on there is no key
unfoldable pub no_keys : ℕ → ℕ → (ℕ → ℕ) → Bool
no_keys n b key = all b (λ r. ltb r n || eqb (key r) 0)

-- the two keys at each of two places are the same
unfoldable pub same_pair : List ℕ → ℕ → ℕ → Bool
same_pair s x y = eqb (be32 s x) (be32 s y) && eqb (be32 s (x + 4)) (be32 s (y + 4))

-- the four keys of each of b check records are the same in two check units
unfoldable pub same_lists : List ℕ → ℕ → ℕ → ℕ → Bool
same_lists s x y b = all b (λ r. same_pair s (x + check_bytes * r) (y + check_bytes * r) && same_pair s (x + check_bytes * r + 8) (y + check_bytes * r + 8))
