-- How long the printed lines are, and a text put behind another.
use Rattle.std.specs.Prelude.{ℕ, ◌+◌, ◌-◌, ◌≤◌, ◌<◌, ◌≡◌, List, ◌++◌, length, take, drop}
use Rattle.std.proofs.Common.{sym, ap, ◌∙◌, append_assoc, append-nil, arith, length-append, length-drop, drop_of_length-le, take_all, take_at, drop_at, drop-drop, lt-ltb}
use Rattle.buffer.specs.Choice.{pick}
use Rattle.group.specs.Widths.{key_bytes, field_bytes}
use Rattle.lines.specs.DigitLaws.{length_hex, length_hex_bytes}
use Rattle.lines.specs.Output.{decimal, number_line, record_line}
use Rattle.lines.specs.Put.{record_line_bytes, Put}

pub length_number_line : (n : ℕ) → n < 10 → length (number_line n) ≡ 2
unfolding number_line decimal pick
length_number_line n l = rw (lt-ltb n 10 l)

pub length_record_line : (u r : ℕ) (x : List ℕ) → length (record_line u r x) ≡ record_line_bytes
unfolding record_line
length_record_line u r x =
    simp length-append
    (omega (arith, length_hex 2 u, length_hex 2 r, length_hex_bytes key_bytes (take key_bytes x), length_hex_bytes field_bytes (drop key_bytes x)))

-- a buffer whose part behind the text x was lent, and came back with the text y at its front
pub put_behind : {x y o₀ o₁ o₂ : List ℕ} {n k : ℕ} → Put x o₀ o₁ n → n ≤ length o₁ → Put y (take (length o₁ - n) (drop n o₁)) o₂ k
    → Put (x ++ y) o₀ (take n o₁ ++ (o₂ ++ drop (length o₁ - n) (drop n o₁))) (n + k)
put_behind {x} {y} {o₀} {o₁} {o₂} {n} {k} g l h =
    let at : length x ≡ n = sym g.long in
    let behind : length (drop n o₁) ≡ length o₁ - n = length-drop n o₁ in
    let front : take n o₁ ≡ x = ap (take n) g.bytes ∙ take_at x (drop (length x) o₀) n at in
    let rest : drop n o₁ ≡ drop n o₀ = ap (drop n) g.bytes ∙ drop_at x (drop (length x) o₀) n at ∙ ap (λ i. drop i o₀) at in
    let whole : take (length o₁ - n) (drop n o₁) ≡ drop n o₁ = take_all (length o₁ - n) (drop n o₁) (omega arith) in
    let back : o₂ ≡ y ++ drop (length y) (drop n o₀) = h.bytes ∙ ap (λ z. y ++ drop (length y) z) (whole ∙ rest) in
    record {
      long = omega (arith, h.long, length-append x y);
      bytes =
          rw (drop_of_length-le (drop n o₁) {i = length o₁ - n} (omega arith), append-nil o₂, front, back, drop-drop (length y) n o₀, length-append x y, at)
          (sym (append_assoc x y (drop (n + length y) o₀)));
    }
