-- What holds at each turn of the loops that read digits: of a number, digit by digit, and of a field, byte by byte.
use Prim.Native.Nat.{ℕ, ◌+◌, ◌-◌, ◌*◌, ◌^◌, ◌≤◌, ◌<◌}
use mathlib.Core.Path.{◌≡◌, refl, sym, ap, ◌∙◌}
use mathlib.Core.Bool.{Bool, true, false}
use mathlib.Core.List.{List}
use native.Mathlib.Nat.{pow-le-pow_right, zero-add}
use native.Mathlib.Omega.{arith}
use lib.Dec.{ltb}
use lib.ListN.{length, set, take, drop}
use borrow.Author.Tests.{lt-ltb, le-ltb}
use Rattle.std.specs.Prelude.{Some, None}
use Rattle.buffer.specs.Choice.{pick}
use Rattle.buffer.specs.ChoiceLaws.{pick_true, pick-false}
use Rattle.buffer.specs.Loops.{entries}
use Rattle.buffer.specs.Bytes.{byte, part}
use Rattle.buffer.specs.ByteLaws.{byte_part}
use Rattle.buffer.specs.SpliceLaws.{length_part, part_lent}
use Rattle.buffer.specs.LoopTests.{Passing, passing_start, passing_turn, passing_fail, passing_end}
use Rattle.buffer.specs.LoopWrites.{Filling, filling_start, filling_turn, filling_end}
use Rattle.group.specs.Widths.{field_bytes}
use Rattle.lines.specs.Digits.{field_digits, digit, hex_at, number_at, bytes_at}
use Rattle.lines.specs.Found.{number_of, field_of}
use Rattle.lines.specs.DigitLaws.{number_at_more, number_at_lt, number_at_ext, hex_at_ext, hex_at_pairs}

-- ---- a number: i of its digits are read
pub record Reading (l : List ℕ) (i value : ℕ) : Type 0 where
  pub passed : Passing (λ k. ltb (digit (byte l (0 + k))) 16) (length l) i
  pub read : value ≡ number_at l 0 i

pub reading_start : {l : List ℕ} → Reading l 0 0
unfolding number_at
reading_start = record { passed = passing_start; read = refl }

module _ {l : List ℕ} {i value : ℕ} (g : Reading l i value) (h : i < length l) where
  digit_here : digit (byte l (0 + i)) ≡ digit (byte l i)
  digit_here = ap (λ k. digit (byte l k)) (zero-add i)

  pub reading_turn : {d v : ℕ} → (d ≡ digit (byte l i)) × (d < 16) → v ≡ d → Reading l (i + 1) (value * 16 + v)
  reading_turn {d} {v} e q = record {
    passed = passing_turn g.passed h (lt-ltb (digit (byte l (0 + i))) 16 (omega (arith, digit_here)));
    read = omega (arith, g.read, number_at_more l 0 i, digit_here);
  }

  -- what is read of at most 8 digits leaves room for one more
  pub reading_room : length l ≤ 8 → value < 268435456
  unfolding hex_at
  reading_room k =
      let seven : 16 ^ i ≤ 16 ^ 7 = pow-le-pow_right {n = 16} (omega arith) {i = i} {j = 7} (omega arith) in
      omega (arith, g.read, number_at_lt l 0 i g.passed.passed, seven)

  pub reading_fail : digit (byte l i) ≡ 16 → None ≡ number_of l
  unfolding number_of hex_at
  reading_fail e =
      let no = passing_fail g.passed h (le-ltb (digit (byte l (0 + i))) 16 (omega (arith, digit_here))) in
      sym (pick-false (sym no) (Some (number_at l 0 (length l))) None)

pub reading_end : {l : List ℕ} {i value : ℕ} → Reading l i value → length l ≤ i → Some value ≡ number_of l
unfolding number_of hex_at
reading_end {l} {i} g h =
    let yes = passing_end g.passed h in
    let same : i ≡ length l = omega (arith, g.passed.within) in
    ap Some (g.read ∙ ap (number_at l 0) same) ∙ sym (pick_true (sym yes) (Some (number_at l 0 (length l))) None)

-- ---- what a number that was read says
pub picked_some : {A : Type 0} {t : Bool} {x y : A} → Some y ≡ pick t (Some x) None → (t ≡ true) × (y ≡ x)
unfolding pick
picked_some {t = true} e = (refl, cc)
picked_some {t = false} e = absurd (cc)

pub picked_none : {A : Type 0} {t : Bool} (x : A) → None ≡ pick t (Some x) None → t ≡ false
unfolding pick
picked_none {t = true} x e = absurd (cc)
picked_none {t = false} x e = refl

-- of a part of a line
pub number_of_part : (l : List ℕ) (at n : ℕ) → at + n ≤ length l → number_of (part at n l) ≡ pick (hex_at l at n) (Some (number_at l at n)) None
unfolding number_of
number_of_part l at n h =
    let same : (k : ℕ) → k < n → byte (part at n l) (0 + k) ≡ byte l (at + k) = λ k q. ap (byte (part at n l)) (zero-add k) ∙ byte_part at n l k q in
    rw (length_part at n l h, hex_at_ext (part at n l) 0 l at n same, number_at_ext (part at n l) 0 l at n same)

-- ---- a field: i of its bytes are read
pub record FieldRead (l : List ℕ) (b₀ b : List ℕ) (i : ℕ) : Type 0 where
  pub passed : Passing (λ k. hex_at l (0 + 2 * k) 2) field_bytes i
  pub filled : Filling (λ k. number_at l (0 + 2 * k) 2) b₀ b i

pub field_read_start : {l b : List ℕ} → FieldRead l b b 0
field_read_start = record { passed = passing_start; filled = filling_start }

module _ {l b₀ b : List ℕ} {i : ℕ} (g : FieldRead l b₀ b i) (h : i < field_bytes) (long : length l ≡ field_digits) where
  -- the two digits of byte i
  pair_here : number_of (take (2 * i + 2 - 2 * i) (drop (2 * i) l)) ≡ pick (hex_at l (0 + 2 * i) 2) (Some (number_at l (0 + 2 * i) 2)) None
  pair_here = ap number_of (part_lent l (2 * i) 2 (0 + 2 * i) (sym (zero-add (2 * i)))) ∙ number_of_part l (0 + 2 * i) 2 (omega arith)

  module _ {v : ℕ} (e : Some v ≡ number_of (take (2 * i + 2 - 2 * i) (drop (2 * i) l))) where
    two_digits : (hex_at l (0 + 2 * i) 2 ≡ true) × (v ≡ number_at l (0 + 2 * i) 2)
    two_digits = picked_some (e ∙ pair_here)

    pub byte_fits : v < 256
    byte_fits = omega (arith, two_digits.1, number_at_lt l (0 + 2 * i) 2 two_digits.0)

    pub field_read_turn : i < length b → FieldRead l b₀ (set b i v) (i + 1)
    field_read_turn k = record { passed = passing_turn g.passed h two_digits.0; filled = filling_turn v g.filled k two_digits.1 }

  pub field_read_fail : None ≡ number_of (take (2 * i + 2 - 2 * i) (drop (2 * i) l)) → None ≡ field_of l
  unfolding field_of
  field_read_fail e =
      let no = passing_fail g.passed h (picked_none _ (e ∙ pair_here)) ∙ sym (hex_at_pairs l 0 field_bytes) in
      sym (pick-false (sym no) (Some (bytes_at l 0 field_bytes)) None)

pub field_read_end : {l b₀ b : List ℕ} {i : ℕ} → FieldRead l b₀ b i → length b₀ ≡ field_bytes → field_bytes ≤ i → Some b ≡ field_of l
unfolding field_of bytes_at
field_read_end {l} {b₀} {b} {i} g e h =
    let yes = passing_end g.passed h ∙ sym (hex_at_pairs l 0 field_bytes) in
    ap Some (filling_end g.filled (omega (arith, g.filled.long)) ∙ ap (λ n. entries n (λ k. number_at l (0 + 2 * k) 2)) e)
    ∙ sym (pick_true (sym yes) (Some (bytes_at l 0 field_bytes)) None)
