-- What the arguments of a line say, and so the line.
use Prim.Native.Nat.{ℕ, ◌+◌, ◌≤◌, ◌<◌}
use mathlib.Core.Path.{◌≡◌, refl, sym, ap, ◌∙◌}
use mathlib.Core.Bool.{true, false}
use mathlib.Core.List.{List, [], ◌∷◌}
use native.Mathlib.Nat.{zero-add}
use native.Mathlib.Omega.{arith}
use lib.Dec.{eqb, ltb}
use Rattle.std.specs.Bool.{then_some}
use lib.ListN.{length, take, drop, length-drop}
use lib.Seq.{take_all, length-take-le}
use borrow.Author.Tests.{eqb-true, eqb-false, lt-ltb}
use Rattle.std.proofs.lemmas.List.{get_or-take, get_or-drop}
use Rattle.std.specs.Prelude.{Option, Some, None, MatchOption, option_map}
use Rattle.buffer.specs.Choice.{pick}
use Rattle.buffer.specs.ChoiceLaws.{by-test}
use Rattle.buffer.specs.TestLaws.{not-both}
use Rattle.buffer.specs.Bytes.{byte, zeros, part}
use Rattle.buffer.specs.ByteLaws.{byte_right}
use Rattle.group.specs.Widths.{field_bytes}
use Rattle.lines.specs.Digits.{field_digits, hex_at, number_at, bytes_at}
use Rattle.lines.specs.DigitLaws.{hex_at_ext, number_at_ext, bytes_at_ext}
use Rattle.lines.specs.Found.{number_of, field_of, Spaced, Numbered, Keyed}
use Rattle.lines.specs.Line.{line, unreadable, digits_of, has_field, length_of, readable, parsed}
use Rattle.lines.specs.LineLaws.{Readable, readable_is, parsed_refused, parsed_bare, parsed_number, parsed_field, first_argument, second_argument, field_eight, length_bare, length_number, length_field}
use Rattle.lines.specs.Spoken.{line_of, spoken}
use Rattle.lines.specs.declared.line.Command.{Command}
use Rattle.lines.proofs.Reading.{picked_some, picked_none, number_of_part}

-- ---- n digits behind a space
pub number_spaced : {t d : List ℕ} {n : ℕ} (r : Option ℕ) → Spaced t n → d ≡ drop 1 t → r ≡ number_of d
    → MatchOption r (Numbered t n → ⊥) (λ value. Numbered t n × (value ≡ number_at t 1 n))
unfolding part
number_spaced {t} {d} {n} r s e q =
    by-value r (q ∙ ap number_of (e ∙ whole) ∙ number_of_part t 1 n (omega (arith, s.long)))
  where
    whole : drop 1 t ≡ part 1 n t
    whole = sym (take_all n (drop 1 t) (simp length-drop (omega (arith, s.long))))

    by-value : (r : Option ℕ) → r ≡ pick (hex_at t 1 n) (Some (number_at t 1 n)) None
        → MatchOption r (Numbered t n → ⊥) (λ value. Numbered t n × (value ≡ number_at t 1 n))
    by-value None p = λ x. not-both x.digits (picked_none _ p)
    by-value (Some v) p = (record { spaced = s; digits = (picked_some p).0 }, (picked_some p).1)

-- ---- a key and a field: behind the key, and its space, 9 bytes, stand the field and its space
module _ (t : List ℕ) (room : 9 ≤ length t) where
  key-digits : hex_at (take 9 t) 1 8 ≡ hex_at t 1 8
  key-digits = hex_at_ext (take 9 t) 1 t 1 8 (λ k q. get_or-take 9 t (1 + k) 0 (omega arith))

  pub key-number : number_at (take 9 t) 1 8 ≡ number_at t 1 8
  key-number = number_at_ext (take 9 t) 1 t 1 8 (λ k q. get_or-take 9 t (1 + k) 0 (omega arith))

  key-space : byte (take 9 t) 0 ≡ byte t 0
  key-space = get_or-take 9 t 0 0 (omega arith)

  field-space : byte (drop 9 t) 0 ≡ byte t 9
  field-space = get_or-drop 9 t 0 0

  pub key_is : Keyed t → Numbered (take 9 t) 8
  key_is k = record { spaced = record { long = length-take-le 9 t room; space = key-space ∙ k.space }; digits = key-digits ∙ k.key }

  pub field_is : Keyed t → Spaced (drop 9 t) field_digits
  field_is k = record { long = simp length-drop (omega (arith, k.long)); space = field-space ∙ k.second }

  pub keyed : Numbered (take 9 t) 8 → Spaced (drop 9 t) field_digits → hex_at t 10 field_digits ≡ true → Keyed t
  keyed k f h = record {
    long = omega (arith, f.long, length-drop 9 t);
    space = sym key-space ∙ k.spaced.space;
    key = sym key-digits ∙ k.digits;
    second = sym field-space ∙ f.space;
    field = h;
  }

pub field_spaced : (t x : List ℕ) → x ≡ drop 1 (drop 9 t) → field_of x ≡ pick (hex_at t 10 field_digits) (Some (bytes_at t 10 field_bytes)) None
unfolding field_of
field_spaced t x e =
    let same : (k : ℕ) → k < field_digits → byte x (0 + k) ≡ byte t (10 + k) =
    λ k q.
    let here : 9 + (1 + k) ≡ 10 + k = omega arith in
    ap (byte x) (zero-add k) ∙ ap (λ y. byte y k) e ∙ get_or-drop 1 (drop 9 t) k 0 ∙ get_or-drop 9 t (1 + k) 0 ∙ ap (byte t) here in
    rw (hex_at_ext x 0 t 10 field_digits same, bytes_at_ext x 0 t 10 field_bytes same)

-- ---- the line of a letter c and what stands behind it
refused : (l : List ℕ) → (Readable l → ⊥) → unreadable ≡ parsed l
refused l h = by-test (λ _. unreadable ≡ parsed l) (readable l) (λ e. absurd (h (readable_is l e))) (λ e. sym (parsed_refused l e))

-- no line has the letter, or the line is empty
pub unknown : (l : List ℕ) → ltb (digits_of (byte l 0)) 9 ≡ false → unreadable ≡ parsed l
unknown l e = refused l (λ r. not-both r.known e)

module _ (c : ℕ) (t : List ℕ) where
  abbrev l : List ℕ
  l = c ∷ t

  -- what stands in the line from a place of t on
  behind : (at k : ℕ) → byte l (1 + at + k) ≡ byte t (at + k)
  behind at k = let same : 1 + at + k ≡ 1 + (at + k) = omega arith in ap (byte l) same ∙ byte_right 1 (c ∷ []) t (at + k) refl

  digits_behind : (at n : ℕ) → hex_at l (1 + at) n ≡ hex_at t at n
  digits_behind at n = hex_at_ext l (1 + at) t at n (λ k q. behind at k)

  value_behind : (at n : ℕ) → number_at l (1 + at) n ≡ number_at t at n
  value_behind at n = number_at_ext l (1 + at) t at n (λ k q. behind at k)

  size : Readable l → length l ≡ length_of c
  size r = eqb-true (length l) (length_of c) r.size

  pub bare_line : digits_of c ≡ 0 → (make : Command) → line_of make ≡ line c 0 (zeros field_bytes) → spoken (then_some (eqb (length t) 0) make) ≡ parsed l
  bare_line d make is =
      by-test (λ b. spoken (then_some b make) ≡ parsed l) (eqb (length t) 0)
      (λ e. is ∙ sym (parsed_bare l c refl d (omega (arith, eqb-true (length t) 0 e))).1)
      (λ e. refused l (λ r. eqb-false (length t) 0 e (omega (arith, size r, length_bare c d))))

  module _ (n : ℕ) (d : digits_of c ≡ n) (some : 0 < n) (b : has_field c ≡ false) where
    numbered : Readable l → Numbered t n
    numbered r =
        let a = first_argument l r (λ e. omega (arith, d, e)) in
        record {
          spaced = record { long = omega (arith, size r, length_number c (λ e. omega (arith, d, e)) b, d); space = a.0 };
          digits = rw d at (sym (digits_behind 1 (digits_of c)) ∙ a.1);
        }

    pub number_line : n < 9 → (make : ℕ → Command) → ((v : ℕ) → line_of (make v) ≡ line c v (zeros field_bytes))
        → (r : Option ℕ) → MatchOption r (Numbered t n → ⊥) (λ value. Numbered t n × (value ≡ number_at t 1 n)) → spoken (option_map make r) ≡ parsed l
    number_line few make is None x = refused l (λ r. x (numbered r))
    number_line few make is (Some v) (x, e) =
        is v
        ∙ ap (λ y. line c y (zeros field_bytes)) (e ∙ sym (value_behind 1 n) ∙ ap (number_at l 2) (sym d))
        ∙ sym (parsed_number l c refl (lt-ltb (digits_of c) 9 (omega (arith, d))) (λ e. omega (arith, d, e)) b (omega (arith, x.spaced.long, d)) x.spaced.space
        (ap (hex_at l 2) d ∙ digits_behind 1 n ∙ x.digits)).1

  module _ (b : has_field c ≡ true) where
    eight : digits_of c ≡ 8
    eight = field_eight c b

    keyed_line : Readable l → Keyed t
    keyed_line r =
        let a = first_argument l r (λ e. omega (arith, eight, e)) in
        let f = second_argument l r b in
        record {
          long = omega (arith, size r, length_field c b);
          space = a.0;
          key = sym (digits_behind 1 8) ∙ ap (hex_at l 2) (sym eight) ∙ a.1;
          second = f.0;
          field = sym (digits_behind 10 field_digits) ∙ f.1;
        }

    pub field_line : (make : ℕ → List ℕ → Command) → ((v : ℕ) (x : List ℕ) → line_of (make v x) ≡ line c v x)
        → (r : Option (ℕ × List ℕ)) → MatchOption r (Keyed t → ⊥) (λ x. Keyed t × (x.0 ≡ number_at t 1 8) × (x.1 ≡ bytes_at t 10 field_bytes))
        → spoken (option_map (λ x. make x.0 x.1) r) ≡ parsed l
    field_line make is None x = refused l (λ r. x (keyed_line r))
    field_line make is (Some v) (x, e, f) =
        is v.0 v.1
        ∙ ap (λ y. line c y v.1) (e ∙ sym (value_behind 1 8))
        ∙ ap (line c (number_at l 2 8)) (f ∙ sym (bytes_at_ext l 11 t 10 field_bytes (λ k q. behind 10 k)))
        ∙ sym (parsed_field l c refl b (omega (arith, x.long)) x.space (digits_behind 1 8 ∙ x.key) x.second (digits_behind 10 field_digits ∙ x.field)).1
