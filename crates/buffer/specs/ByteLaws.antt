-- Laws of single bytes, of numbers of 32 bits and of zeros: in a part, in a list in which a part was replaced, in two lists.
use Rattle.std.specs.Prelude.{◌≡◌, refl, List, ◌++◌, ℕ, zero, suc, ◌+◌, ◌*◌, ◌-◌, ◌/◌, ◌%◌, ◌≤◌, ◌<◌, length, take, drop}
use Rattle.std.proofs.Common.{sym, ap, ◌∙◌, add_assoc, add-zero, arith, get_or-take, get_or-drop, get_or-append-add, ext_get_or, length-take-le}
use Rattle.std.proofs.lemmas.List.{length-replicate, replicate-append-replicate}
use Rattle.std.proofs.Math.ListN.{get_or-eq_default, get_or-append}
use Rattle.buffer.specs.RangeLaws.{below-four}
use Rattle.buffer.specs.Bytes.{byte, be32, bytes32, zeros, part, splice}
use Rattle.buffer.specs.SpliceLaws.{length_part}

-- ---- one byte
pub byte_past : (s : List ℕ) (i : ℕ) → length s ≤ i → byte s i ≡ 0
byte_past s i h = get_or-eq_default s 0 h

pub byte_left : (x y : List ℕ) (i : ℕ) → i < length x → byte (x ++ y) i ≡ byte x i
byte_left x y i h = get_or-append x y 0 i h

pub byte_right : (m : ℕ) (x y : List ℕ) (i : ℕ) → length x ≡ m → byte (x ++ y) (m + i) ≡ byte y i
byte_right m x y i e = rw (← e) (get_or-append-add x y i 0)

pub byte_part : (at n : ℕ) (s : List ℕ) (i : ℕ) → i < n → byte (part at n s) i ≡ byte s (at + i)
unfolding part
byte_part at n s i h = get_or-take n (drop at s) i 0 h ∙ get_or-drop at s i 0

pub byte_splice_before : (at n : ℕ) (new s : List ℕ) (i : ℕ) → at ≤ length s → i < at → byte (splice at n new s) i ≡ byte s i
unfolding splice
byte_splice_before at n new s i h l =
    byte_left (take at s) (new ++ drop n (drop at s)) i (rw (length-take-le at s h) l) ∙ get_or-take at s i 0 l

pub byte_splice_inside : (at n : ℕ) (new s : List ℕ) (i : ℕ) → at ≤ length s → length new ≡ n → i < n → byte (splice at n new s) (at + i) ≡ byte new i
unfolding splice
byte_splice_inside at n new s i h e l =
    byte_right at (take at s) (new ++ drop n (drop at s)) i (length-take-le at s h) ∙ byte_left new (drop n (drop at s)) i (omega arith)

pub byte_splice_behind : (at n : ℕ) (new s : List ℕ) (i : ℕ) → at + n ≤ length s → length new ≡ n → at + n ≤ i → byte (splice at n new s) i ≡ byte s i
unfolding splice
byte_splice_behind at n new s i h e l =
    let k : ℕ = i - (at + n) in
    let place : i ≡ at + (n + k) = omega arith in
    ap (λ j. byte (take at s ++ (new ++ drop n (drop at s))) j) place
    ∙ byte_right at (take at s) (new ++ drop n (drop at s)) (n + k) (length-take-le at s (omega arith))
    ∙ byte_right n new (drop n (drop at s)) k e
    ∙ get_or-drop n (drop at s) k 0
    ∙ get_or-drop at s (n + k) 0
    ∙ ap (λ j. byte s j) (sym place)

-- two lists of one length are the same where their bytes are
pub bytes_ext : (s t : List ℕ) → length s ≡ length t → ((i : ℕ) → i < length s → byte s i ≡ byte t i) → s ≡ t
bytes_ext s t e h = ext_get_or 0 s t e h

-- ---- four bytes as a number
-- from four bytes that are the same
pub be32_ext : (s : List ℕ) (i : ℕ) (t : List ℕ) (j : ℕ) → ((k : ℕ) → k < 4 → byte s (i + k) ≡ byte t (j + k)) → be32 s i ≡ be32 t j
unfolding be32
be32_ext s i t j h =
    omega
    (arith, ap (λ m. byte s m) (add-zero i), ap (λ m. byte t m) (add-zero j), h 0 (omega arith), h 1 (omega arith), h 2 (omega arith), h 3 (omega arith))

pub be32_past : (s : List ℕ) (at : ℕ) → length s ≤ at → be32 s at ≡ 0
unfolding be32
be32_past s at h =
    omega
    (arith, byte_past s at h, byte_past s (at + 1) (omega arith), byte_past s (at + 2) (omega arith), byte_past s (at + 3) (omega arith))

pub be32_lt : (s : List ℕ) (at : ℕ) → ((i : ℕ) → byte s i < 256) → be32 s at < 4294967296
unfolding be32
be32_lt s at h = omega (arith, h at, h (at + 1), h (at + 2), h (at + 3))

pub be32_left : (x y : List ℕ) (i : ℕ) → i + 4 ≤ length x → be32 (x ++ y) i ≡ be32 x i
be32_left x y i h = be32_ext (x ++ y) i x i (λ k l. byte_left x y (i + k) (omega arith))

pub be32_part : (at n : ℕ) (s : List ℕ) (i : ℕ) → i + 4 ≤ n → be32 (part at n s) i ≡ be32 s (at + i)
be32_part at n s i h = be32_ext (part at n s) i s (at + i) (λ k l. byte_part at n s (i + k) (omega arith) ∙ ap (λ j. byte s j) (sym (add_assoc at i k)))

-- ---- the lowest byte of a number, and what stands above it
pub low_byte_lem : (x a q : ℕ) → a < 256 → x ≡ a + q * 256 → x % 256 ≡ a
low_byte_lem x a q h e = omega arith

pub above_byte : (x a q : ℕ) → a < 256 → x ≡ a + q * 256 → x / 256 ≡ q
above_byte x a q h e = omega arith

-- ---- a number as four bytes, and back
pub length_bytes32 : (x : ℕ) → length (bytes32 x) ≡ 4
unfolding bytes32
length_bytes32 x = refl

-- a number and its quotient, by their low bytes
halves : (x : ℕ) → x ≡ x / 65536 * 65536 + x / 256 % 256 * 256 + x % 256
halves x = omega arith

quarters : (x : ℕ) → x / 65536 ≡ x / 16777216 * 256 + x / 65536 % 256
quarters x = omega arith

pub be32_bytes32 : (x : ℕ) → x < 4294967296 → be32 (bytes32 x) 0 ≡ x
unfolding be32 bytes32
be32_bytes32 x h =
    let top : x / 16777216 % 256 ≡ x / 16777216 = omega arith in
    omega (arith, top, halves x, quarters x)

-- four bytes are the bytes of their number
split : (a b c d x : ℕ) → b < 256 → c < 256 → d < 256 → x ≡ a * 16777216 + b * 65536 + c * 256 + d
    → (x / 16777216 ≡ a) × (x / 65536 ≡ a * 256 + b) × (x / 256 ≡ (a * 256 + b) * 256 + c) × (x ≡ ((a * 256 + b) * 256 + c) * 256 + d)
split a b c d x hb hc hd e = (omega arith, omega arith, omega arith, omega arith)

pub bytes32_be32 : (s : List ℕ) (at : ℕ) → at + 4 ≤ length s → ((i : ℕ) → byte s i < 256) → bytes32 (be32 s at) ≡ part at 4 s
unfolding be32 bytes32
bytes32_be32 s at l h =
    let a : ℕ = byte s at in
    let b : ℕ = byte s (at + 1) in
    let c : ℕ = byte s (at + 2) in
    let d : ℕ = byte s (at + 3) in
    let x : ℕ = be32 s at in
    let e = split a b c d x (h (at + 1)) (h (at + 2)) (h (at + 3)) refl in
    bytes_ext (bytes32 x) (part at 4 s) (sym (length_part at 4 s l)) (λ i q.
    below-four
    (λ i. byte (bytes32 x) i ≡ byte (part at 4 s) i)
    (ap (λ n. n % 256) e.0 ∙ small a (h at) ∙ ap (λ j. byte s j) (sym (add-zero at)) ∙ sym (byte_part at 4 s 0 (omega arith)))
    (ap (λ n. n % 256) e.1 ∙ low_byte_lem (a * 256 + b) b a (h (at + 1)) (omega arith) ∙ sym (byte_part at 4 s 1 (omega arith)))
    (ap (λ n. n % 256) e.2 ∙ low_byte_lem ((a * 256 + b) * 256 + c) c (a * 256 + b) (h (at + 2)) (omega arith) ∙ sym (byte_part at 4 s 2 (omega arith)))
    (ap (λ n. n % 256) e.3 ∙ low_byte_lem (((a * 256 + b) * 256 + c) * 256 + d) d ((a * 256 + b) * 256 + c) (h (at + 3)) (omega arith)
    ∙ sym (byte_part at 4 s 3 (omega arith)))
    i
    q)
  where
    small : (a : ℕ) → a < 256 → a % 256 ≡ a
    small a k = omega arith

-- ---- zeros
pub length_zeros : (n : ℕ) → length (zeros n) ≡ n
unfolding zeros
length_zeros n = length-replicate n 0

pub byte_zeros : (n i : ℕ) → byte (zeros n) i ≡ 0
unfolding zeros
byte_zeros zero i = refl
byte_zeros (suc n) zero = refl
byte_zeros (suc n) (suc i) = byte_zeros n i

pub be32_zeros : (n i : ℕ) → be32 (zeros n) i ≡ 0
unfolding be32
be32_zeros n i = omega (arith, byte_zeros n i, byte_zeros n (i + 1), byte_zeros n (i + 2), byte_zeros n (i + 3))

pub zeros_append : (n m : ℕ) → zeros n ++ zeros m ≡ zeros (n + m)
unfolding zeros
zeros_append n m = replicate-append-replicate n m 0

-- a list of which every byte is zero
pub zeros_of : (n : ℕ) (s : List ℕ) → length s ≡ n → ((i : ℕ) → i < n → byte s i ≡ 0) → s ≡ zeros n
zeros_of n s e h = bytes_ext s (zeros n) (e ∙ sym (length_zeros n)) (λ i l. h i (rw (sym e) l) ∙ sym (byte_zeros n i))
