-- The members of a digit, added four in a turn. A reader wants `Adding`, what holds at each turn, with `adding_start`, `adding_turn` and `adding_end`; and
-- `four_fit`: four places from a place on may be read.
use mathlib.Core.Path.{◌≡◌, refl, sym, ap, ap₂, ◌∙◌, subst}
use mathlib.Core.List.{List}
use Prim.Native.Nat.{ℕ, ◌+◌, ◌-◌, ◌≤◌, ◌<◌}
use native.Mathlib.Omega.{arith}
use lib.Bits.{bit_xor, xor_zero_l, xor_zero_r}
use lib.Dec.{ltb}
use lib.ListN.{length, get_or}
use borrow.Author.Tests.{ltb-true, ltb-false}
use Rattle.algebra.specs.Xor.{xor_cancel}
use Rattle.algebra.specs.XorSums.{total, total_none, total_four, total_zeros}
use Rattle.buffer.specs.ChoiceLaws.{by-test}
use Rattle.buffer.specs.Bytes.{byte}
use Rattle.buffer.specs.Loops.{entries}
use Rattle.buffer.specs.RangeLaws.{length_entries, get_or_entries, entries_of}
use Rattle.field256.specs.Gf256.{product}
use Rattle.coder.specs.Sums.{Blank, Inside, four_bytes, digit_sum, Picked}

-- ---- the turns: what has been added by then, taken off again, leaves what there was before the first
module _ (len : ℕ) (s places : List ℕ) (k : ℕ) where
  -- the bytes j from the places on, and of four of them
  abbrev from : ℕ → ℕ → ℕ
  from j t = byte s (get_or places t 0 + j)

  abbrev four : ℕ → ℕ → ℕ
  four r j = four_bytes s (get_or places r 0) (get_or places (r + 1) 0) (get_or places (r + 2) 0) (get_or places (r + 3) 0) j

  pub record Adding (acc₀ acc : List ℕ) (r : ℕ) : Type 0 where
    pub within : r ≤ k + 4
    pub long : length acc ≡ len
    pub bytes : (j : ℕ) → j < len → bit_xor (byte acc j) (total r (from j)) ≡ bit_xor (byte acc₀ j) (total 4 (from j))

  pub adding_start : (acc : List ℕ) → length acc ≡ len → Adding acc acc 4
  adding_start acc e = record { within = omega arith; long = e; bytes = λ j h. refl }

  pub adding_turn : (acc₀ acc acc' : List ℕ) (r : ℕ) → Adding acc₀ acc r → r < k
      → acc' ≡ entries (length acc) (λ j. bit_xor (byte acc j) (four r j)) → Adding acc₀ acc' (r + 4)
  adding_turn acc₀ acc acc' r g h e =
      let same : acc' ≡ entries len (λ j. bit_xor (byte acc j) (four r j)) = e ∙ ap (λ (n : ℕ). entries n (λ j. bit_xor (byte acc j) (four r j))) g.long in
      record {
        within = omega arith;
        long = ap length same ∙ length_entries len _;
        bytes = λ j l. ap₂ bit_xor (ap (λ (y : List ℕ). byte y j) same ∙ get_or_entries len _ j 0 l) (total_four (from j) r)
            ∙ xor_cancel (byte acc j) (total r (from j)) (four r j) ∙ g.bytes j l;
      }

  module _ (ps ws : List ℕ) (b m none : ℕ) (g : Picked len s ps ws b m none places k) (blank : Blank len s none) where
    place_fits : (t : ℕ) → t < k + 4 → get_or places t 0 + len ≤ length s
    place_fits t h =
        by-test (λ _. get_or places t 0 + len ≤ length s) (ltb t k) (λ e. g.fits t (ltb-true t k e))
        (λ e. subst (λ (n : ℕ). n + len ≤ length s) (sym (g.rest t (ltb-false t k e) h)) blank.fits)

    pub four_fit : (n r : ℕ) → n ≡ len → r ≤ k → Inside n s (get_or places r 0) (get_or places (r + 1) 0) (get_or places (r + 2) 0) (get_or places (r + 3) 0)
    four_fit n r e h = record {
      first = fits r (omega arith);
      second = fits (r + 1) (omega arith);
      third = fits (r + 2) (omega arith);
      fourth = fits (r + 3) (omega arith);
    }
      where
        fits : (t : ℕ) → t < k + 4 → get_or places t 0 + n ≤ length s
        fits t l = subst (λ (x : ℕ). get_or places t 0 + x ≤ length s) (sym e) (place_fits t l)

    -- what is added behind the k places is 0
    all_added : (r j : ℕ) → k ≤ r → r ≤ k + 4 → j < len → total r (from j) ≡ digit_sum len s ps ws b m j
    all_added r j h u l =
        let past : k + (r - k) ≡ r = omega arith in
        ap (λ (n : ℕ). total n (from j)) (sym past)
        ∙ total_zeros k (r - k) (from j) (λ t q v. ap (λ (n : ℕ). byte s (n + j)) (g.rest t q (omega arith)) ∙ blank.zero j l) ∙ g.sums j l

    doubled_end : (old acc₀ acc : List ℕ) (r : ℕ) → acc₀ ≡ entries len (λ j. bit_xor (product 2 (byte old j)) (four 0 j)) → Adding acc₀ acc r → k ≤ r
        → acc ≡ entries len (λ j. bit_xor (product 2 (byte old j)) (digit_sum len s ps ws b m j))
    doubled_end old acc₀ acc r e a h = entries_of acc len (λ j. bit_xor (product 2 (byte old j)) (digit_sum len s ps ws b m j)) a.long at
      where
        doubled : (j : ℕ) → j < len → bit_xor (byte acc₀ j) (total 4 (from j)) ≡ product 2 (byte old j)
        doubled j l =
            ap₂ bit_xor (ap (λ (y : List ℕ). byte y j) e ∙ get_or_entries len _ j 0 l) (total_four (from j) 0)
            ∙ ap (λ (x : ℕ). bit_xor (bit_xor (product 2 (byte old j)) (four 0 j)) (bit_xor x (four 0 j))) (total_none (from j))
            ∙ xor_cancel (product 2 (byte old j)) 0 (four 0 j) ∙ xor_zero_r (product 2 (byte old j))

        at : (j : ℕ) → j < len → byte acc j ≡ bit_xor (product 2 (byte old j)) (digit_sum len s ps ws b m j)
        at j l =
            sym (xor_cancel (byte acc j) 0 (total r (from j)) ∙ xor_zero_r (byte acc j))
            ∙ ap₂ bit_xor (a.bytes j l ∙ doubled j l) (xor_zero_l (total r (from j)) ∙ all_added r j h a.within l)

-- the sum was doubled before the first turn, and the four first places were added
pub adding_end : (len : ℕ) (s places : List ℕ) (k : ℕ) (ps ws : List ℕ) (b m none : ℕ) → Picked len s ps ws b m none places k → Blank len s none
    → (old acc₀ acc : List ℕ) (r : ℕ) → length old ≡ len → acc₀ ≡ entries (length old) (λ j. bit_xor (product 2 (byte old j)) (four len s places k 0 j))
    → Adding (length acc₀) s places k acc₀ acc r → k ≤ r
    → acc ≡ entries len (λ j. bit_xor (product 2 (byte old j)) (digit_sum len s ps ws b m j))
adding_end len s places k ps ws b m none g blank old acc₀ acc r q e a h =
    let doubled : acc₀ ≡ entries len (λ j. bit_xor (product 2 (byte old j)) (four len s places k 0 j)) = rw (← q) e in
    doubled_end len s places k ps ws b m none g blank old acc₀ acc r doubled
    (subst (λ n. Adding n s places k acc₀ acc r) (ap length doubled ∙ length_entries len _) a) h
