-- What a line says and how it is written are each other's inverse: so the test for a readable line, which looks at places of the line, is document
-- 01's form.
use Rattle.std.specs.Prelude.{ℕ, ◌+◌, ◌^◌, ◌≤◌, ◌<◌, ◌≡◌, refl, Bool, true, false, ◌&&◌, ◌||◌, List, [], ◌∷◌, ◌++◌, eqb, ltb, length, drop}
use Rattle.std.proofs.Common.{sym, ap, ◌∙◌, append-nil, arith, length-append, length-drop, take-append-drop, drop-cons, drop-drop, take_all, eq-eqb, ne_eqb, eqb-true, lt-ltb}
use Rattle.std.proofs.lemmas.Bool.{eqb-false}
use Rattle.buffer.specs.Choice.{pick}
use Rattle.buffer.specs.ChoiceLaws.{by-test, by-pick, pick_true, pick-false}
use Rattle.buffer.specs.TestLaws.{and-true, and_first, and_second, not-both}
use Rattle.buffer.specs.Range.{all}
use Rattle.buffer.specs.Bytes.{byte, zeros, part}
use Rattle.buffer.specs.ByteLaws.{byte_left, byte_right, byte_zeros, length_zeros}
use Rattle.group.specs.Widths.{field_bytes}
use Rattle.lines.specs.Digits.{field_digits, hex_at, number_at, bytes_at, hex, hex_bytes}
use Rattle.lines.specs.DigitLaws.{
  hex_at_ext,
  number_at_ext,
  bytes_at_ext,
  number_at_lt,
  bytes_at_lt,
  length_bytes_at,
  length_hex,
  length_hex_bytes,
  hex_at_hex,
  number_at_hex,
  hex_at_hex_bytes,
  bytes_at_hex_bytes,
  hex_number_at,
  hex_bytes_bytes_at,
}
use Rattle.lines.specs.Line.{Line, line, unreadable, digits_of, has_field, length_of, written, Proper, readable, parsed}

-- ---- letters
pub field_eight : (c : ℕ) → has_field c ≡ true → digits_of c ≡ 8
unfolding has_field digits_of pick
field_eight c h =
    by-test
    (λ t. digits_of c ≡ 8)
    (eqb c 84)
    (λ e. ap digits_of (eqb-true c 84 e))
    (λ e. ap digits_of (eqb-true c 67 (rw e at h)))

pub bare_no_field : (c : ℕ) → digits_of c ≡ 0 → has_field c ≡ false
bare_no_field c e = by-test (λ t. t ≡ false) (has_field c) (λ h. absurd (omega (arith, e, field_eight c h))) (λ h. refl)

pub length_bare : (c : ℕ) → digits_of c ≡ 0 → length_of c ≡ 1
unfolding length_of
length_bare c e = pick_true (eq-eqb (digits_of c) 0 e) 1 (2 + digits_of c + pick (has_field c) (1 + field_digits) 0)

pub length_number : (c : ℕ) → (digits_of c ≡ 0 → ⊥) → has_field c ≡ false → length_of c ≡ 2 + digits_of c
unfolding length_of
length_number c e h =
    pick-false (ne_eqb (digits_of c) 0 e) 1 (2 + digits_of c + pick (has_field c) (1 + field_digits) 0) ∙ omega (arith, pick-false {A = ℕ} h (1 + field_digits) 0)

pub length_field : (c : ℕ) → has_field c ≡ true → length_of c ≡ 11 + field_digits
unfolding length_of
length_field c h =
    let eight : digits_of c ≡ 8 = field_eight c h in
    pick-false (ne_eqb (digits_of c) 0 (omega arith)) 1 (2 + digits_of c + pick (has_field c) (1 + field_digits) 0)
    ∙ omega (arith, pick_true {A = ℕ} h (1 + field_digits) 0)

-- a case for each form: no argument, one, or a key and a field
pub by_form {ℓ} : (P : Type ℓ) (c : ℕ) → (digits_of c ≡ 0 → has_field c ≡ false → P) → ((digits_of c ≡ 0 → ⊥) → has_field c ≡ false → P)
    → (digits_of c ≡ 8 → has_field c ≡ true → P) → P
by_form P c bare number field =
    by-test
    (λ t. P)
    (has_field c)
    (λ h. field (field_eight c h) h)
    (λ h. by-test (λ t. P) (eqb (digits_of c) 0) (λ e. bare (eqb-true (digits_of c) 0 e) h) (λ e. number (eqb-false (digits_of c) 0 e) h))

-- ---- a readable line
pub record Readable (l : List ℕ) : Type 0 where
  pub known : ltb (digits_of (byte l 0)) 9 ≡ true
  pub size : eqb (length l) (length_of (byte l 0)) ≡ true
  pub first : (eqb (digits_of (byte l 0)) 0 || eqb (byte l 1) 32 && hex_at l 2 (digits_of (byte l 0))) ≡ true
  pub second : pick (has_field (byte l 0)) (eqb (byte l 10) 32 && hex_at l 11 field_digits) true ≡ true

pub is_readable : {l : List ℕ} → Readable l → readable l ≡ true
unfolding readable
is_readable r = and-true (and-true (and-true r.known r.size) r.first) r.second

pub readable_is : (l : List ℕ) → readable l ≡ true → Readable l
unfolding readable
readable_is l h =
    let k : Bool = ltb (digits_of (byte l 0)) 9 in
    let s : Bool = eqb (length l) (length_of (byte l 0)) in
    let f : Bool = eqb (digits_of (byte l 0)) 0 || eqb (byte l 1) 32 && hex_at l 2 (digits_of (byte l 0)) in
    let b : Bool = pick (has_field (byte l 0)) (eqb (byte l 10) 32 && hex_at l 11 field_digits) true in
    let h3 : (k && s && f) ≡ true = and_first (k && s && f) b h in
    let h2 : (k && s) ≡ true = and_first (k && s) f h3 in
    record {
      known = and_first k s h2;
      size = and_second k s h2;
      first = and_second (k && s) f h3;
      second = and_second (k && s && f) b h;
    }

pub parsed_readable : (l : List ℕ) → readable l ≡ true
    → parsed l ≡ line (byte l 0) (number_at l 2 (digits_of (byte l 0))) (pick (has_field (byte l 0)) (bytes_at l 11 field_bytes) (zeros field_bytes))
unfolding parsed
parsed_readable l h = pick_true h _ _

pub parsed_refused : (l : List ℕ) → readable l ≡ false → parsed l ≡ unreadable
unfolding parsed
parsed_refused l h = pick-false h _ _

-- ---- what a line of each form says; c is its letter
pub parsed_bare : (l : List ℕ) (c : ℕ) → c ≡ byte l 0 → digits_of c ≡ 0 → length l ≡ 1 → (readable l ≡ true) × (parsed l ≡ line c 0 (zeros field_bytes))
unfolding number_at
parsed_bare l c e d s =
    let d' : digits_of (byte l 0) ≡ 0 = ap digits_of (sym e) ∙ d in
    let b : has_field (byte l 0) ≡ false = bare_no_field (byte l 0) d' in
    let r : readable l ≡ true = is_readable (record {
      known = lt-ltb (digits_of (byte l 0)) 9 (omega arith);
      size = eq-eqb (length l) (length_of (byte l 0)) (s ∙ sym (length_bare (byte l 0) d'));
      first = rw (eq-eqb (digits_of (byte l 0)) 0 d');
      second = pick-false b (eqb (byte l 10) 32 && hex_at l 11 field_digits) true;
    }) in
    (r, parsed_readable l r ∙ rw (pick-false b, d', ← e))

pub parsed_number : (l : List ℕ) (c : ℕ) → c ≡ byte l 0 → ltb (digits_of c) 9 ≡ true → (digits_of c ≡ 0 → ⊥) → has_field c ≡ false → length l ≡ 2 + digits_of c
    → byte l 1 ≡ 32 → hex_at l 2 (digits_of c) ≡ true → (readable l ≡ true) × (parsed l ≡ line c (number_at l 2 (digits_of c)) (zeros field_bytes))
parsed_number l c e k d b s space h =
    let k' : ltb (digits_of (byte l 0)) 9 ≡ true = rw e at k in
    let d' : digits_of (byte l 0) ≡ 0 → ⊥ = rw e at d in
    let b' : has_field (byte l 0) ≡ false = rw e at b in
    let h' : hex_at l 2 (digits_of (byte l 0)) ≡ true = rw e at h in
    let s' : length l ≡ 2 + digits_of (byte l 0) = rw e at s in
    let r : readable l ≡ true = is_readable (record {
      known = k';
      size = eq-eqb (length l) (length_of (byte l 0)) (s' ∙ sym (length_number (byte l 0) d' b'));
      first = rw (ne_eqb (digits_of (byte l 0)) 0 d', eq-eqb (byte l 1) 32 space, h');
      second = pick-false b' (eqb (byte l 10) 32 && hex_at l 11 field_digits) true;
    }) in
    (r, parsed_readable l r ∙ rw (pick-false b', ← e))

pub parsed_field : (l : List ℕ) (c : ℕ) → c ≡ byte l 0 → has_field c ≡ true → length l ≡ 11 + field_digits → byte l 1 ≡ 32 → hex_at l 2 8 ≡ true
    → byte l 10 ≡ 32 → hex_at l 11 field_digits ≡ true → (readable l ≡ true) × (parsed l ≡ line c (number_at l 2 8) (bytes_at l 11 field_bytes))
parsed_field l c e b s space h space' h' =
    let b' : has_field (byte l 0) ≡ true = rw e at b in
    let d : digits_of (byte l 0) ≡ 8 = field_eight (byte l 0) b' in
    let r : readable l ≡ true = is_readable (record {
      known = lt-ltb (digits_of (byte l 0)) 9 (omega arith);
      size = eq-eqb (length l) (length_of (byte l 0)) (s ∙ sym (length_field (byte l 0) b'));
      first = rw (ne_eqb (digits_of (byte l 0)) 0 (omega arith), eq-eqb (byte l 1) 32 space, d, h);
      second = pick_true b' (eqb (byte l 10) 32 && hex_at l 11 field_digits) true ∙ and-true (eq-eqb (byte l 10) 32 space') h';
    }) in
    (r, parsed_readable l r ∙ rw (pick_true b', d, ← e))

-- ---- how a line of each form is written
pub written_bare : (x : Line) → digits_of x.letter ≡ 0 → has_field x.letter ≡ false → written x ≡ x.letter ∷ []
unfolding written
written_bare x d b = rw (pick_true (eq-eqb (digits_of x.letter) 0 d), pick-false b)

pub written_number : (x : Line) → (digits_of x.letter ≡ 0 → ⊥) → has_field x.letter ≡ false
    → written x ≡ x.letter ∷ 32 ∷ hex (digits_of x.letter) x.number
unfolding written
written_number x d b =
    rw (pick-false (ne_eqb (digits_of x.letter) 0 d), pick-false b)
    (ap (λ r. x.letter ∷ r) (append-nil (32 ∷ hex (digits_of x.letter) x.number)))

pub written_field : (x : Line) → digits_of x.letter ≡ 8 → has_field x.letter ≡ true
    → written x ≡ x.letter ∷ 32 ∷ (hex 8 x.number ++ (32 ∷ hex_bytes field_bytes x.field))
unfolding written
written_field x d b = rw (pick-false (ne_eqb (digits_of x.letter) 0 (omega arith)), pick_true b, d)

-- ---- a line taken apart at the places of its form
apart : (l : List ℕ) → 2 ≤ length l → l ≡ byte l 0 ∷ byte l 1 ∷ drop 2 l
apart l h = drop-cons l 0 0 (omega arith) ∙ ap (λ r. byte l 0 ∷ r) (drop-cons l 1 0 (omega arith))

apart_bare : (l : List ℕ) → length l ≡ 1 → l ≡ byte l 0 ∷ []
apart_bare l h = drop-cons l 0 0 (omega arith) ∙ ap (λ r. byte l 0 ∷ r) (nothing (drop 1 l) (simp length-drop (omega arith)))
  where
    nothing : (r : List ℕ) → length r ≡ 0 → r ≡ []
    nothing [] e = refl
    nothing (x ∷ r) e = absurd (omega arith)

apart_number : (l : List ℕ) (n : ℕ) → length l ≡ 2 + n → l ≡ byte l 0 ∷ byte l 1 ∷ part 2 n l
unfolding part
apart_number l n h =
    apart l (omega arith) ∙ ap (λ r. byte l 0 ∷ byte l 1 ∷ r) (sym (take_all n (drop 2 l) (simp length-drop (omega arith))))

apart_field : (l : List ℕ) → length l ≡ 11 + field_digits → l ≡ byte l 0 ∷ byte l 1 ∷ (part 2 8 l ++ (byte l 10 ∷ part 11 field_digits l))
unfolding part
apart_field l h =
    apart l (omega arith)
    ∙ ap (λ r. byte l 0 ∷ byte l 1 ∷ r) (
    sym (take-append-drop 8 (drop 2 l))
    ∙ ap (λ r. part 2 8 l ++ r) (
    drop-drop 8 2 l
    ∙ drop-cons l 10 0 (omega arith)
    ∙ ap (λ r. byte l 10 ∷ r) (sym (take_all field_digits (drop 11 l) (simp length-drop (omega arith))))))

-- ---- the arguments of a readable line
pub first_argument : (l : List ℕ) → Readable l → (digits_of (byte l 0) ≡ 0 → ⊥) → (byte l 1 ≡ 32) × (hex_at l 2 (digits_of (byte l 0)) ≡ true)
first_argument l r d =
    let h : (eqb (byte l 1) 32 && hex_at l 2 (digits_of (byte l 0))) ≡ true = rw (ne_eqb (digits_of (byte l 0)) 0 d) at r.first in (
      eqb-true (byte l 1) 32 (and_first (eqb (byte l 1) 32) (hex_at l 2 (digits_of (byte l 0))) h),
      and_second (eqb (byte l 1) 32) (hex_at l 2 (digits_of (byte l 0))) h,
    )

pub second_argument : (l : List ℕ) → Readable l → has_field (byte l 0) ≡ true → (byte l 10 ≡ 32) × (hex_at l 11 field_digits ≡ true)
second_argument l r b =
    let h : (eqb (byte l 10) 32 && hex_at l 11 field_digits) ≡ true = sym (pick_true b (eqb (byte l 10) 32 && hex_at l 11 field_digits) true) ∙ r.second in
    (eqb-true (byte l 10) 32 (and_first (eqb (byte l 10) 32) (hex_at l 11 field_digits) h), and_second (eqb (byte l 10) 32) (hex_at l 11 field_digits) h)

-- the first argument's digits, also where it has none
first_digits : (l : List ℕ) → Readable l → hex_at l 2 (digits_of (byte l 0)) ≡ true
first_digits l r =
    by-test
    (λ t. hex_at l 2 (digits_of (byte l 0)) ≡ true)
    (eqb (digits_of (byte l 0)) 0)
    (λ e. ap (hex_at l 2) (eqb-true (digits_of (byte l 0)) 0 e) ∙ (unfold hex_at all in refl))
    (λ e. (first_argument l r (eqb-false (digits_of (byte l 0)) 0 e)).1)

-- ---- a readable line is what its letter, number and field write
pub written_parsed : (l : List ℕ) → readable l ≡ true → written (parsed l) ≡ l
written_parsed l h =
    let r : Readable l = readable_is l h in
    let c : ℕ = byte l 0 in
    let n : ℕ = digits_of c in
    let x : Line = line c (number_at l 2 n) (pick (has_field c) (bytes_at l 11 field_bytes) (zeros field_bytes)) in
    let size : length l ≡ length_of c = eqb-true (length l) (length_of c) r.size in
    ap written (parsed_readable l h)
    ∙ by_form
    (written x ≡ l)
    c
    (λ d b. written_bare x d b ∙ sym (apart_bare l (size ∙ length_bare c d)))
    (λ d b.
    let whole : length l ≡ 2 + n = size ∙ length_number c d b in
    let a = first_argument l r d in
    written_number x d b
    ∙ ap (λ s. c ∷ s ∷ hex n (number_at l 2 n)) (sym a.0)
    ∙ ap (λ y. c ∷ byte l 1 ∷ y) (hex_number_at l 2 n (omega arith) a.1)
    ∙ sym (apart_number l n whole))
    (λ d b.
    let whole : length l ≡ 11 + field_digits = size ∙ length_field c b in
    let a = first_argument l r (omega arith) in
    let e = second_argument l r b in
    let key : hex 8 (number_at l 2 n) ≡ part 2 8 l =
    ap (λ k. hex 8 (number_at l 2 k)) d ∙ hex_number_at l 2 8 (omega arith) (sym (ap (hex_at l 2) d) ∙ a.1) in
    let field : hex_bytes field_bytes x.field ≡ part 11 field_digits l =
    ap (hex_bytes field_bytes) (pick_true b (bytes_at l 11 field_bytes) (zeros field_bytes)) ∙ hex_bytes_bytes_at l 11 field_bytes (omega arith) e.1 in
    written_field x d b
    ∙ ap (λ s. c ∷ s ∷ (hex 8 (number_at l 2 n) ++ (32 ∷ hex_bytes field_bytes x.field))) (sym a.0)
    ∙ ap (λ y. c ∷ byte l 1 ∷ (y ++ (32 ∷ hex_bytes field_bytes x.field))) key
    ∙ ap (λ s. c ∷ byte l 1 ∷ (part 2 8 l ++ (s ∷ hex_bytes field_bytes x.field))) (sym e.0)
    ∙ ap (λ y. c ∷ byte l 1 ∷ (part 2 8 l ++ (byte l 10 ∷ y))) field
    ∙ sym (apart_field l whole))

-- ---- its letter, number and field are in their ranges
pub parsed_proper : (l : List ℕ) → readable l ≡ true → Proper (parsed l)
parsed_proper l h =
    let r : Readable l = readable_is l h in
    let b : Bool = has_field (byte l 0) in
    rw (parsed_readable l h)
    (record {
      known = r.known;
      range = number_at_lt l 2 (digits_of (byte l 0)) (first_digits l r);
      long =
          by-pick (λ s. length s ≡ field_bytes) b (bytes_at l 11 field_bytes) (zeros field_bytes)
          (λ e. length_bytes_at l 11 field_bytes) (λ e. length_zeros field_bytes);
      bytes = λ i q.
          by-pick
          (λ s. byte s i < 256)
          b
          (bytes_at l 11 field_bytes)
          (zeros field_bytes)
          (λ e. bytes_at_lt l 11 field_bytes (second_argument l r e).1 i q)
          (λ e. omega (arith, byte_zeros field_bytes i));
      none = λ e. pick-false e (bytes_at l 11 field_bytes) (zeros field_bytes);
    })

-- so its letter is not 0, which stands for a line that is not readable
pub proper_letter : (x : Line) → Proper x → x.letter ≡ 0 → ⊥
unfolding digits_of pick
proper_letter x p e = not-both p.known (ap (λ c. ltb (digits_of c) 9) e)

-- ---- what is written is readable, and says what was written
pub parsed_written : (x : Line) → Proper x → (readable (written x) ≡ true) × (parsed (written x) ≡ x)
parsed_written x p =
    let c : ℕ = x.letter in
    let n : ℕ = digits_of c in
    by_form
    ((readable (written x) ≡ true) × (parsed (written x) ≡ x))
    c
    (λ d b.
    let e : written x ≡ c ∷ [] = written_bare x d b in
    let q = parsed_bare (c ∷ []) c refl d refl in
    let small : x.number < 16 ^ 0 = rw d at p.range in
    let none : x.number ≡ 0 = omega arith in (
      ap readable e ∙ q.0,
      ap parsed e ∙ q.1 ∙ ap (λ v. line c v (zeros field_bytes)) (sym none) ∙ ap (λ y. line c x.number y) (sym (p.none b)),
    ))
    (λ d b.
    let y : List ℕ = hex n x.number in
    let l : List ℕ = c ∷ 32 ∷ y in
    let e : written x ≡ l = written_number x d b in
    let q =
    parsed_number l c refl p.known d b (omega (arith, length_hex n x.number)) refl (hex_at_ext l 2 y 0 n (behind c y n) ∙ hex_at_hex n x.number) in
    let back : number_at l 2 n ≡ x.number = number_at_ext l 2 y 0 n (behind c y n) ∙ number_at_hex n x.number p.range in
    (ap readable e ∙ q.0, ap parsed e ∙ q.1 ∙ ap (λ v. line c v (zeros field_bytes)) back ∙ ap (λ y. line c x.number y) (sym (p.none b))))
    (λ d b.
    let k : List ℕ = hex 8 x.number in
    let y : List ℕ = hex_bytes field_bytes x.field in
    let l : List ℕ = c ∷ 32 ∷ (k ++ (32 ∷ y)) in
    let e : written x ≡ l = written_field x d b in
    let long : length l ≡ 11 + field_digits = simp length-append (omega (arith, length_hex 8 x.number, length_hex_bytes field_bytes x.field)) in
    let first : (i : ℕ) → i < 8 → byte l (2 + i) ≡ byte k (0 + i) = key c k (32 ∷ y) (length_hex 8 x.number) in
    let second : (i : ℕ) → i < field_digits → byte l (11 + i) ≡ byte y (0 + i) = λ i q. field c k y (length_hex 8 x.number) i in
    let space : byte l 10 ≡ 32 = byte_right 8 k (32 ∷ y) 0 (length_hex 8 x.number) in
    let small : x.number < 16 ^ 8 = rw d at p.range in
    let q =
    parsed_field l c refl b long refl (hex_at_ext l 2 k 0 8 first ∙ hex_at_hex 8 x.number) space
    (hex_at_ext l 11 y 0 field_digits second ∙ hex_at_hex_bytes field_bytes x.field) in (
      ap readable e ∙ q.0,
      ap parsed e
          ∙ q.1
          ∙ ap (λ v. line c v (bytes_at l 11 field_bytes)) (number_at_ext l 2 k 0 8 first ∙ number_at_hex 8 x.number small)
          ∙ ap (λ v. line c x.number v) (bytes_at_ext l 11 y 0 field_bytes second ∙ bytes_at_hex_bytes field_bytes x.field p.long p.bytes),
    ))
  where
    -- bytes behind a letter and a space, and behind a key and another space
    behind : (c : ℕ) (y : List ℕ) (n i : ℕ) → i < n → byte (c ∷ 32 ∷ y) (2 + i) ≡ byte y (0 + i)
    behind c y n i q =
        let same : i ≡ 0 + i = omega arith in
        byte_right 2 (c ∷ 32 ∷ []) y i refl ∙ ap (byte y) same

    key : (c : ℕ) (k r : List ℕ) → length k ≡ 8 → (i : ℕ) → i < 8 → byte (c ∷ 32 ∷ (k ++ r)) (2 + i) ≡ byte k (0 + i)
    key c k r e i q =
        let same : i ≡ 0 + i = omega arith in
        byte_right 2 (c ∷ 32 ∷ []) (k ++ r) i refl ∙ byte_left k r i (omega arith) ∙ ap (byte k) same

    field : (c : ℕ) (k y : List ℕ) → length k ≡ 8 → (i : ℕ) → byte (c ∷ 32 ∷ (k ++ (32 ∷ y))) (11 + i) ≡ byte y (0 + i)
    field c k y e i =
        let place : 11 + i ≡ 2 + (8 + (1 + i)) = omega arith in
        let same : i ≡ 0 + i = omega arith in
        ap (byte (c ∷ 32 ∷ (k ++ (32 ∷ y)))) place
        ∙ byte_right 2 (c ∷ 32 ∷ []) (k ++ (32 ∷ y)) (8 + (1 + i)) refl
        ∙ byte_right 8 k (32 ∷ y) (1 + i) e
        ∙ byte_right 1 (32 ∷ []) y i refl
        ∙ ap (byte y) same
