-- The places of a digit. The members whose weight has the digit are picked, one point at a time, and four places of zeros are written behind them. A reader
-- wants `Picking`, what holds at each turn, with `picking_start`, `picking_turn` and `picking_end`.
use mathlib.Core.Path.{◌≡◌, refl, sym, ap, ap₂, ◌∙◌, subst}
use mathlib.Core.List.{List}
use Prim.Native.Nat.{ℕ, zero, suc, ◌+◌, ◌-◌, ◌*◌, ◌/◌, ◌%◌, ◌^◌, ◌≤◌, ◌<◌}
use native.Mathlib.Nat.{mod-lt, zero-mul, one-mul, not-suc-le-zero, add-zero}
use native.Mathlib.Omega.{arith}
use lib.Bits.{bit_xor, xor_zero_r}
use lib.Dec.{lit<}
use lib.ListN.{length, get_or, set, replicate, length-set}
use lib.Seq.{get_or-set_same}
use borrow.Author.Count.{below_more}
use Rattle.algebra.specs.XorSums.{total, total_none, total_more, total_ext}
use Rattle.std.proofs.lemmas.List.{get_or-replicate}
use Rattle.buffer.specs.Bytes.{byte, splice}
use Rattle.buffer.specs.ByteLaws.{byte_splice_before, byte_splice_inside}
use Rattle.buffer.specs.SpliceLaws.{length_splice}
use Rattle.coder.specs.ListLaws.{set_before}
use Rattle.coder.specs.Segment.{largest_group, member_byte}
use Rattle.coder.specs.Sums.{room_for_places, Placed, digit_term, digit_sum, Picked}

-- those of the first i points that have the digit are the first k places
pub record Picking (len : ℕ) (s ps ws : List ℕ) (b m : ℕ) (places : List ℕ) (k i : ℕ) : Type 0 where
  pub within : i ≤ m
  pub long : length places ≡ room_for_places
  pub few : k ≤ i
  pub fits : (t : ℕ) → t < k → get_or places t 0 + len ≤ length s
  pub sums : (j : ℕ) → j < len → total k (λ t. byte s (get_or places t 0 + j)) ≡ total i (digit_term len s ps ws b j)

pub picking_start : (len : ℕ) (s ps ws : List ℕ) (b m : ℕ) (places : List ℕ) → length places ≡ room_for_places → Picking len s ps ws b m places 0 0
picking_start len s ps ws b m places e = record {
  within = omega arith;
  long = e;
  few = omega arith;
  fits = λ t h. absurd (not-suc-le-zero h);
  sums = λ j h. total_none _ ∙ sym (total_none (digit_term len s ps ws b j));
}

-- there is room for four places more
pub picking_room : {len : ℕ} {s ps ws : List ℕ} {b m : ℕ} {places : List ℕ} {k i : ℕ} → Picking len s ps ws b m places k i → m ≤ largest_group
    → k + 4 ≤ length places
picking_room g few = omega (arith, g.long, g.few, g.within)

-- a place written at k or behind leaves those before
module _ (s places places' : List ℕ) (k : ℕ) (same : (t : ℕ) → t < k → get_or places' t 0 ≡ get_or places t 0) where
  kept_fits : (len : ℕ) → ((t : ℕ) → t < k → get_or places t 0 + len ≤ length s) → (t : ℕ) → t < k → get_or places' t 0 + len ≤ length s
  kept_fits len f t h = subst (λ (n : ℕ). n + len ≤ length s) (sym (same t h)) (f t h)

  kept_sum : (j : ℕ) → total k (λ t. byte s (get_or places' t 0 + j)) ≡ total k (λ t. byte s (get_or places t 0 + j))
  kept_sum j = total_ext k (λ t. byte s (get_or places' t 0 + j)) (λ t. byte s (get_or places t 0 + j)) (λ t h. ap (λ (n : ℕ). byte s (n + j)) (same t h))

-- ---- a turn: the place of point i is written at k, and counts where its weight has the digit
module _ (len : ℕ) (s ps ws : List ℕ) (b m : ℕ) (places : List ℕ) (k i : ℕ) (g : Picking len s ps ws b m places k i) (h : i < m) (few : m ≤ largest_group)
    (at : Placed len s ps m) (v : ℕ) (placed : v ≡ len * get_or ps i 0) where
  abbrev written : List ℕ
  written = set places k v

  room : k < length places
  room = omega (arith, picking_room g few)

  term : (j d : ℕ) → d ≡ get_or ws i 0 / 2 ^ b % 2 → total (i + 1) (digit_term len s ps ws b j) ≡ bit_xor (total i (digit_term len s ps ws b j)) (d * byte s (v + j))
  unfolding digit_term member_byte
  term j d e =
      total_more _ i ∙ ap (bit_xor (total i (digit_term len s ps ws b j))) (ap₂ (λ (x n : ℕ). x * byte s (n + j)) (sym e) (sym placed))

  before : (t : ℕ) → t < k → get_or written t 0 ≡ get_or places t 0
  before = set_before places k v

  by_digit : (d : ℕ) → d < 2 → d ≡ get_or ws i 0 / 2 ^ b % 2 → Picking len s ps ws b m written (k + d) (i + 1)
  by_digit zero l e = record {
    within = omega arith;
    long = length-set places k v ∙ g.long;
    few = omega (arith, g.few);
    fits = λ t q. kept_fits s places written k before len g.fits t (omega arith);
    sums = λ j q. ap (λ (n : ℕ). total n (λ t. byte s (get_or written t 0 + j))) (add-zero k) ∙ kept_sum s places written k before j ∙ g.sums j q
        ∙ sym (term j 0 e ∙ ap (bit_xor (total i (digit_term len s ps ws b j))) (zero-mul (byte s (v + j))) ∙ xor_zero_r (total i (digit_term len s ps ws b j)));
  }
  by_digit (suc zero) l e = record {
    within = omega arith;
    long = length-set places k v ∙ g.long;
    few = omega (arith, g.few);
    fits = below_more (λ t. get_or written t 0 + len ≤ length s) k (kept_fits s places written k before len g.fits)
        (subst (λ (n : ℕ). n + len ≤ length s) (sym (get_or-set_same places k v 0 room ∙ placed)) (at.fits i h));
    sums = λ j q. total_more (λ t. byte s (get_or written t 0 + j)) k
        ∙ ap₂ bit_xor (kept_sum s places written k before j ∙ g.sums j q)
        (ap (λ (n : ℕ). byte s (n + j)) (get_or-set_same places k v 0 room) ∙ sym (one-mul (byte s (v + j))))
        ∙ sym (term j 1 e);
  }
  by_digit (suc (suc d)) l e = absurd (omega arith)

  pub picking_turn : (d : ℕ) → d ≡ get_or ws i 0 / 2 ^ b % 2 → Picking len s ps ws b m written (k + d) (i + 1)
  picking_turn d e = by_digit d (subst (λ (n : ℕ). n < 2) (sym e) (mod-lt (get_or ws i 0 / 2 ^ b) (lit< tt))) e

-- ---- the end: four places of zeros behind them
module _ (len : ℕ) (s ps ws : List ℕ) (b m : ℕ) (places : List ℕ) (k i none : ℕ) (g : Picking len s ps ws b m places k i) (h : m ≤ i)
    (few : m ≤ largest_group) (padded : List ℕ) (is : padded ≡ splice k 4 (replicate 4 none) places) where
  wide : k + 4 ≤ length places
  wide = picking_room g few

  ahead : (t : ℕ) → t < k → get_or padded t 0 ≡ get_or places t 0
  ahead t l = ap (λ (p : List ℕ). byte p t) is ∙ byte_splice_before k 4 (replicate 4 none) places t (omega (arith, wide)) l

  behind : (t : ℕ) → k ≤ t → t < k + 4 → get_or padded t 0 ≡ none
  behind t l u =
      let at : k + (t - k) ≡ t = omega arith in
      ap₂ (λ (p : List ℕ) (n : ℕ). byte p n) is (sym at) ∙ byte_splice_inside k 4 (replicate 4 none) places (t - k) (omega (arith, wide)) refl (omega arith)
      ∙ get_or-replicate 4 (t - k) none 0 (omega arith)

  pub picking_end : Picked len s ps ws b m none padded k
  unfolding digit_sum
  picking_end =
      let all : i ≡ m = omega (arith, g.within) in
      record {
        long = ap length is ∙ length_splice k 4 (replicate 4 none) places wide refl ∙ g.long;
        few = omega (arith, g.few);
        fits = kept_fits s places padded k ahead len g.fits;
        sums = λ j q. kept_sum s places padded k ahead j ∙ g.sums j q ∙ ap (λ (n : ℕ). total n (digit_term len s ps ws b j)) all;
        rest = behind;
      }
