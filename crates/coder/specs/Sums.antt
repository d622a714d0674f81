-- What the passes over members compute: the sum over the first m points of the members' bytes, each times a digit of its weight, or times its weight;
-- and what is asked of the arrays that they read. Nothing here need be believed.
use Rattle.std.specs.Prelude.{◌≡◌, List, ℕ, ◌+◌, ◌*◌, ◌/◌, ◌%◌, ◌^◌, ◌≤◌, ◌<◌, length, get_or}
use Rattle.std.specs.Int.Bits.{bit_xor}
use Rattle.algebra.specs.XorSums.{total}
use Rattle.buffer.specs.Bytes.{byte}
use Rattle.field256.specs.Gf256.{product}
use Rattle.coder.specs.Segment.{largest_group, member_byte}

-- the members of len bytes at the first m points ps are in s
pub record Placed (len : ℕ) (s ps : List ℕ) (m : ℕ) : Type 0 where
  pub fits : (k : ℕ) → k < m → len * get_or ps k 0 + len ≤ length s

-- zeros stand at `at`
pub record Blank (len : ℕ) (s : List ℕ) (at : ℕ) : Type 0 where
  pub fits : at + len ≤ length s
  pub zero : (j : ℕ) → j < len → byte s (at + j) ≡ 0

-- the first m entries are there, and are bytes
pub record Small (l : List ℕ) (m : ℕ) : Type 0 where
  pub long : m ≤ length l
  pub low : (k : ℕ) → k < m → get_or l k 0 < 256

-- so many bytes from four places on are in s
pub record Inside (len : ℕ) (s : List ℕ) (a b c d : ℕ) : Type 0 where
  pub first : a + len ≤ length s
  pub second : b + len ≤ length s
  pub third : c + len ≤ length s
  pub fourth : d + len ≤ length s

-- the sum of four bytes
abbrev pub four_bytes : List ℕ → ℕ → ℕ → ℕ → ℕ → ℕ → ℕ
four_bytes s a b c d j = bit_xor (bit_xor (byte s (a + j)) (byte s (b + j))) (bit_xor (byte s (c + j)) (byte s (d + j)))

-- of the member at point k, byte j where its weight has the binary digit b, else 0; and the sum of these
unfoldable pub digit_term : ℕ → List ℕ → List ℕ → List ℕ → ℕ → ℕ → ℕ → ℕ
digit_term len s ps ws b j k = get_or ws k 0 / 2 ^ b % 2 * member_byte len s j (get_or ps k 0)

unfoldable pub digit_sum : ℕ → List ℕ → List ℕ → List ℕ → ℕ → ℕ → ℕ → ℕ
digit_sum len s ps ws b m j = total m (digit_term len s ps ws b j)

-- the sum of the members' bytes j times their weights, each weight without its lowest b digits
unfoldable pub weighted_sum : ℕ → List ℕ → List ℕ → List ℕ → ℕ → ℕ → ℕ → ℕ
weighted_sum len s ps ws b m j = total m (λ k. product (get_or ws k 0 / 2 ^ b) (member_byte len s j (get_or ps k 0)))

-- the places of a group's members, and four behind them
abbrev pub room_for_places : ℕ
room_for_places = largest_group + 4

-- k places and behind them four times `none`: the bytes from the k places on add up to the digit's sum
pub record Picked (len : ℕ) (s ps ws : List ℕ) (b m none : ℕ) (places : List ℕ) (k : ℕ) : Type 0 where
  pub long : length places ≡ room_for_places
  pub few : k ≤ m
  pub fits : (t : ℕ) → t < k → get_or places t 0 + len ≤ length s
  pub sums : (j : ℕ) → j < len → total k (λ t. byte s (get_or places t 0 + j)) ≡ digit_sum len s ps ws b m j
  pub rest : (t : ℕ) → k ≤ t → t < k + 4 → get_or places t 0 ≡ none
