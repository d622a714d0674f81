-- Laws of digits: a digit and its value, digits read and digits written.
use Rattle.std.specs.Prelude.{ℕ, zero, suc, ◌+◌, ◌*◌, ◌-◌, ◌/◌, ◌%◌, ◌^◌, ◌≤◌, ◌<◌, ◌≡◌, Bool, true, false, ◌&&◌, List, [], ◌∷◌, ◌++◌, leb, ltb, length}
use Rattle.std.proofs.Math.Path.{refl, ap}
use Rattle.std.proofs.Common.{sym, ◌∙◌, add_assoc, add-one, length-append, drop-cons, le-leb, leb-true, leb-false, lt-ltb, le-ltb, ltb-true, ltb-false}
use native.Mathlib.Omega.{arith}
use Rattle.std.proofs.lemmas.Bool.{lt-leb}
use Rattle.buffer.specs.ChoiceLaws.{by-test, pick_true, pick-false}
use Rattle.buffer.specs.TestLaws.{and-true, and_first, and_second, and_false_first, and_false_second}
use Rattle.buffer.specs.Range.{all}
use Rattle.buffer.specs.RangeLaws.{all_ext, all_true, all_holds, length_entries, get_or_entries, entries_ext, entries_of}
use Rattle.buffer.specs.Bytes.{byte, part}
use Rattle.buffer.specs.SpliceLaws.{length_part, part_part, part_append}
use Rattle.buffer.specs.ByteLaws.{byte_left, byte_right}
use Rattle.buffer.specs.TableLaws.{tab_ext, tab_parts, length_tab, byte_tab}
use Rattle.lines.specs.Digits.{digit, digit_of, hex_at, number_at, bytes_at, hex, hex_bytes}

-- ---- one digit
pub digit_below : (c : ℕ) → c < 48 → digit c ≡ 16
unfolding digit
digit_below c h =
    pick-false (and_false_first (lt-leb 48 c h) (leb c 57)) _ _ ∙ pick-false (and_false_first (lt-leb 65 c (omega arith)) (leb c 70)) _ _

pub digit_number : (c : ℕ) → 48 ≤ c → c ≤ 57 → digit c ≡ c - 48
unfolding digit
digit_number c h k = pick_true (and-true (le-leb 48 c h) (le-leb c 57 k)) _ _

pub digit_between : (c : ℕ) → 57 < c → c < 65 → digit c ≡ 16
unfolding digit
digit_between c h k =
    pick-false (and_false_second (leb 48 c) (lt-leb c 57 h)) _ _ ∙ pick-false (and_false_first (lt-leb 65 c k) (leb c 70)) _ _

pub digit_letter : (c : ℕ) → 65 ≤ c → c ≤ 70 → digit c ≡ c - 55
unfolding digit
digit_letter c h k =
    pick-false (and_false_second (leb 48 c) (lt-leb c 57 (omega arith))) _ _ ∙ pick_true (and-true (le-leb 65 c h) (le-leb c 70 k)) _ _

pub digit_above : (c : ℕ) → 70 < c → digit c ≡ 16
unfolding digit
digit_above c h =
    pick-false (and_false_second (leb 48 c) (lt-leb c 57 (omega arith))) _ _ ∙ pick-false (and_false_second (leb 65 c) (lt-leb c 70 h)) _ _

pub digit_of_number : (v : ℕ) → v < 10 → digit_of v ≡ 48 + v
unfolding digit_of
digit_of_number v h = pick_true (lt-ltb v 10 h) _ _

pub digit_of_letter : (v : ℕ) → 10 ≤ v → digit_of v ≡ 55 + v
unfolding digit_of
digit_of_letter v h = pick-false (le-ltb v 10 h) _ _

-- a value's digit has that value
pub digit_digit_of : (v : ℕ) → v < 16 → digit (digit_of v) ≡ v
digit_digit_of v h =
    by-test
    (λ t. digit (digit_of v) ≡ v)
    (ltb v 10)
    (λ e. let l : v < 10 = ltb-true v 10 e in rw (digit_of_number v l, digit_number (48 + v) (omega arith) (omega arith)) (omega arith))
    (λ e. let l : 10 ≤ v = ltb-false v 10 e in rw (digit_of_letter v l, digit_letter (55 + v) (omega arith) (omega arith)) (omega arith))

-- a digit is that of its value
pub digit_of_digit : (c : ℕ) → ltb (digit c) 16 ≡ true → digit_of (digit c) ≡ c
digit_of_digit c h =
    by-test
    (λ t. digit_of (digit c) ≡ c)
    (ltb c 48)
    (λ e. not (digit_below c (ltb-true c 48 e)))
    (λ e.
    let low : 48 ≤ c = ltb-false c 48 e in
    by-test
    (λ t. digit_of (digit c) ≡ c)
    (leb c 57)
    (λ f. let k : c ≤ 57 = leb-true c 57 f in rw (digit_number c low k, digit_of_number (c - 48) (omega arith)) (omega arith))
    (λ f.
    let k : 57 < c = leb-false c 57 f in
    by-test
    (λ t. digit_of (digit c) ≡ c)
    (ltb c 65)
    (λ g. not (digit_between c k (ltb-true c 65 g)))
    (λ g.
    let m : 65 ≤ c = ltb-false c 65 g in
    by-test
    (λ t. digit_of (digit c) ≡ c)
    (leb c 70)
    (λ q. let n : c ≤ 70 = leb-true c 70 q in rw (digit_letter c m n, digit_of_letter (c - 55) (omega arith)) (omega arith))
    (λ q. not (digit_above c (leb-false c 70 q))))))
  where
    not : digit c ≡ 16 → digit_of (digit c) ≡ c
    not e = absurd (omega (arith, e, ltb-true (digit c) 16 h))

-- ---- digits that are read
pub number_at_more : (l : List ℕ) (at n : ℕ) → number_at l at (n + 1) ≡ number_at l at n * 16 + digit (byte l (at + n))
unfolding number_at
number_at_more l at n = rw add-one

pub number_at_lt : (l : List ℕ) (at n : ℕ) → hex_at l at n ≡ true → number_at l at n < 16 ^ n
unfolding hex_at number_at all
number_at_lt l at zero h = omega arith
number_at_lt l at (suc n) h =
    omega (
      arith,
      number_at_lt l at n (and_first (all n (λ i. ltb (digit (byte l (at + i))) 16)) (ltb (digit (byte l (at + n))) 16) h),
      ltb-true (digit (byte l (at + n))) 16 (and_second (all n (λ i. ltb (digit (byte l (at + i))) 16)) (ltb (digit (byte l (at + n))) 16) h),
    )

-- from bytes that are the same
pub hex_at_ext : (l : List ℕ) (at : ℕ) (m : List ℕ) (o n : ℕ) → ((k : ℕ) → k < n → byte l (at + k) ≡ byte m (o + k)) → hex_at l at n ≡ hex_at m o n
unfolding hex_at
hex_at_ext l at m o n h =
    all_ext n (λ i. ltb (digit (byte l (at + i))) 16) (λ i. ltb (digit (byte m (o + i))) 16) (λ k q. ap (λ b. ltb (digit b) 16) (h k q))

pub number_at_ext : (l : List ℕ) (at : ℕ) (m : List ℕ) (o n : ℕ) → ((k : ℕ) → k < n → byte l (at + k) ≡ byte m (o + k)) → number_at l at n ≡ number_at m o n
unfolding number_at
number_at_ext l at m o zero h = refl
number_at_ext l at m o (suc n) h = rw (number_at_ext l at m o n (λ k q. h k (omega arith)), h n (omega arith))

-- two digits a byte
pair : (s t u : Bool) → ((s && t) && u) ≡ (s && ((true && t) && u))
pair true t u = refl
pair false t u = refl

pub hex_at_pairs : (l : List ℕ) (at n : ℕ) → hex_at l at (2 * n) ≡ all n (λ i. hex_at l (at + 2 * i) 2)
unfolding hex_at all
hex_at_pairs l at zero = refl
hex_at_pairs l at (suc n) =
    let even : 2 * suc n ≡ suc (suc (2 * n)) = omega arith in
    let first : at + 2 * n + 0 ≡ at + 2 * n = omega arith in
    let second : at + 2 * n + 1 ≡ at + suc (2 * n) = omega arith in
    rw (even, all, ← hex_at_pairs l at n, first, second)
    (pair (all (2 * n) (λ i. ltb (digit (byte l (at + i))) 16)) (ltb (digit (byte l (at + 2 * n))) 16) (ltb (digit (byte l (at + suc (2 * n)))) 16))

-- ---- digits that are written
pub length_hex : (n x : ℕ) → length (hex n x) ≡ n
unfolding hex
length_hex zero x = refl
length_hex (suc n) x = simp length-append (omega (arith, length_hex n (x / 16)))

pub length_hex_bytes : (n : ℕ) (s : List ℕ) → length (hex_bytes n s) ≡ 2 * n
unfolding hex_bytes
length_hex_bytes n s = length_tab n 2 (λ i. hex 2 (byte s i)) (λ i l. length_hex 2 (byte s i))

-- ---- written, then read
module _ (n x : ℕ) where
  front : List ℕ
  front = hex n (x / 16)

  last : List ℕ
  last = digit_of (x % 16) ∷ []

  before_last : (k : ℕ) → k < n → byte (front ++ last) (0 + k) ≡ byte front (0 + k)
  unfolding front
  before_last k q = byte_left front last (0 + k) (omega (arith, length_hex n (x / 16)))

  at_last : digit (byte (front ++ last) (0 + n)) ≡ x % 16
  unfolding front last
  at_last =
      let place : 0 + n ≡ n + 0 = omega arith in
      ap (λ j. digit (byte (front ++ last) j)) place
      ∙ ap digit (byte_right n front last 0 (length_hex n (x / 16)))
      ∙ digit_digit_of (x % 16) (omega arith)

pub hex_at_hex : (n x : ℕ) → hex_at (hex n x) 0 n ≡ true
unfolding hex_at hex all front last
hex_at_hex zero x = refl
hex_at_hex (suc n) x =
    and-true
    (hex_at_ext (front n x ++ last n x) 0 (front n x) 0 n (before_last n x) ∙ hex_at_hex n (x / 16))
    (lt-ltb (digit (byte (front n x ++ last n x) (0 + n))) 16 (omega (arith, at_last n x)))

pub number_at_hex : (n x : ℕ) → x < 16 ^ n → number_at (hex n x) 0 n ≡ x
unfolding number_at hex front last
number_at_hex zero x h = omega arith
number_at_hex (suc n) x h =
    let high : number_at (front n x ++ last n x) 0 n ≡ x / 16 =
    number_at_ext (front n x ++ last n x) 0 (front n x) 0 n (before_last n x) ∙ number_at_hex n (x / 16) (omega arith) in
    omega (arith, high, at_last n x)

-- byte i of two digits each
chunk : (n : ℕ) (s : List ℕ) (i : ℕ) → i < n → (k : ℕ) → k < 2 → byte (hex_bytes n s) (0 + 2 * i + k) ≡ byte (hex 2 (byte s i)) (0 + k)
unfolding hex_bytes
chunk n s i l k q =
    let place : 0 + 2 * i + k ≡ 2 * i + k = omega arith in
    let same : 0 + k ≡ k = omega arith in
    rw (place, same) (byte_tab n 2 (λ i. hex 2 (byte s i)) (λ i l. length_hex 2 (byte s i)) i k l q)

pub hex_at_hex_bytes : (n : ℕ) (s : List ℕ) → hex_at (hex_bytes n s) 0 (2 * n) ≡ true
hex_at_hex_bytes n s =
    hex_at_pairs (hex_bytes n s) 0 n
    ∙ all_holds n (λ i. hex_at (hex_bytes n s) (0 + 2 * i) 2)
    (λ i l. hex_at_ext (hex_bytes n s) (0 + 2 * i) (hex 2 (byte s i)) 0 2 (chunk n s i l) ∙ hex_at_hex 2 (byte s i))

pub bytes_at_hex_bytes : (n : ℕ) (s : List ℕ) → length s ≡ n → ((i : ℕ) → i < n → byte s i < 256) → bytes_at (hex_bytes n s) 0 n ≡ s
unfolding bytes_at
bytes_at_hex_bytes n s e h =
    entries_ext n (λ i. number_at (hex_bytes n s) (0 + 2 * i) 2) (byte s)
    (λ i l. number_at_ext (hex_bytes n s) (0 + 2 * i) (hex 2 (byte s i)) 0 2 (chunk n s i l) ∙ number_at_hex 2 (byte s i) (omega (arith, h i l)))
    ∙ sym (entries_of s n (byte s) e (λ k l. refl))

-- ---- read, then written
part_one : (at : ℕ) (l : List ℕ) → at < length l → part at 1 l ≡ byte l at ∷ []
unfolding part
part_one at l h = rw (drop-cons l at 0 h)

pub hex_number_at : (l : List ℕ) (at n : ℕ) → at + n ≤ length l → hex_at l at n ≡ true → hex n (number_at l at n) ≡ part at n l
unfolding hex number_at hex_at all
hex_number_at l at zero r h = unfold part in refl
hex_number_at l at (suc n) r h =
    let v : ℕ = number_at l at n in
    let d : ℕ = digit (byte l (at + n)) in
    let is : ltb d 16 ≡ true = and_second (hex_at l at n) (ltb d 16) h in
    let small : d < 16 = ltb-true d 16 is in
    let high : (v * 16 + d) / 16 ≡ v = omega arith in
    let low : (v * 16 + d) % 16 ≡ d = omega arith in
    let more : n + 1 ≡ suc n = add-one n in
    ap (λ y. hex n y ++ (digit_of ((v * 16 + d) % 16) ∷ [])) high
    ∙ ap (λ y. hex n v ++ (digit_of y ∷ [])) low
    ∙ ap (λ y. y ++ (digit_of d ∷ [])) (hex_number_at l at n (omega arith) (and_first (hex_at l at n) (ltb d 16) h))
    ∙ ap (λ y. part at n l ++ (y ∷ [])) (digit_of_digit (byte l (at + n)) is)
    ∙ ap (λ y. part at n l ++ y) (sym (part_one (at + n) l (omega arith)))
    ∙ part_append at n 1 l
    ∙ ap (λ m. part at m l) more

pub hex_bytes_bytes_at : (l : List ℕ) (at n : ℕ) → at + 2 * n ≤ length l → hex_at l at (2 * n) ≡ true → hex_bytes n (bytes_at l at n) ≡ part at (2 * n) l
unfolding hex_bytes bytes_at
hex_bytes_bytes_at l at n r h =
    tab_ext n (λ i. hex 2 (byte (bytes_at l at n) i)) (λ i. part (2 * i) 2 (part at (2 * n) l))
    (λ i q.
    ap (hex 2) (get_or_entries n (λ i. number_at l (at + 2 * i) 2) i 0 q)
    ∙ hex_number_at l (at + 2 * i) 2 (omega arith) (all_true n (λ i. hex_at l (at + 2 * i) 2) (sym (hex_at_pairs l at n) ∙ h) i q)
    ∙ sym (part_part at (2 * n) (2 * i) 2 l (omega arith)))
    ∙ tab_parts n 2 (part at (2 * n) l) (length_part at (2 * n) l r)

-- ---- bytes of two digits each
pub length_bytes_at : (l : List ℕ) (at n : ℕ) → length (bytes_at l at n) ≡ n
unfolding bytes_at
length_bytes_at l at n = length_entries n (λ i. number_at l (at + 2 * i) 2)

pub bytes_at_lt : (l : List ℕ) (at n : ℕ) → hex_at l at (2 * n) ≡ true → (i : ℕ) → i < n → byte (bytes_at l at n) i < 256
unfolding bytes_at
bytes_at_lt l at n h i q =
    rw (get_or_entries n (λ i. number_at l (at + 2 * i) 2) i 0 q)
    (number_at_lt l (at + 2 * i) 2 (all_true n (λ i. hex_at l (at + 2 * i) 2) (sym (hex_at_pairs l at n) ∙ h) i q))

pub bytes_at_ext : (l : List ℕ) (at : ℕ) (m : List ℕ) (o n : ℕ) → ((k : ℕ) → k < 2 * n → byte l (at + k) ≡ byte m (o + k)) → bytes_at l at n ≡ bytes_at m o n
unfolding bytes_at
bytes_at_ext l at m o n h =
    entries_ext n (λ i. number_at l (at + 2 * i) 2) (λ i. number_at m (o + 2 * i) 2)
    (λ i q. number_at_ext l (at + 2 * i) m (o + 2 * i) 2 (λ k r. rw (add_assoc at (2 * i) k, add_assoc o (2 * i) k) (h (2 * i + k) (omega arith))))
