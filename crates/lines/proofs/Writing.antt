-- Lines that are written argument by argument, from the front.
use Prim.Native.Nat.{ℕ, ◌+◌, ◌*◌, ◌≤◌, ◌<◌}
use mathlib.Core.Path.{◌≡◌, refl, sym, ap, ◌∙◌}
use mathlib.Core.List.{List, [], ◌∷◌, ◌++◌, append_assoc, append-nil}
use native.Mathlib.Omega.{arith}
use lib.ListN.{length, set, take, drop, length-append, length-drop, drop_of_length-le}
use lib.Seq.{take_all, take_at, drop_at, drop-drop, length-take-le}
use Rattle.buffer.specs.Bytes.{splice}
use Rattle.buffer.specs.SpliceLaws.{splice_next, set_splice}
use Rattle.buffer.specs.TableLaws.{tab_one}
use Rattle.group.specs.Widths.{key_bytes, field_bytes, slot_bytes}
use Rattle.lines.specs.Digits.{hex_bytes}
use Rattle.lines.specs.DigitLaws.{length_hex_bytes}
use Rattle.lines.specs.Output.{field_line, record_line}
use Rattle.lines.specs.Put.{field_line_bytes, record_line_bytes, argument_put, Put}

-- the digits of x, then the byte behind them
pub argument_put_lem : (l x h : List ℕ) (at m end behind : ℕ) → m ≡ 2 * length x → end ≡ at + 2 * length x → h ≡ hex_bytes (length x) x
    → at + (2 * length x + 1) ≤ length l → length (splice at m h l) ≡ length l → set (splice at m h l) end behind ≡ argument_put l at x behind
unfolding argument_put
argument_put_lem l x h at m end behind em ee eh room long =
    set_splice (splice at m h l) end behind (omega arith)
    ∙ rw (ee, em, eh) (splice_next at (2 * length x) 1 (hex_bytes (length x) x) (behind ∷ []) l (omega arith) (length_hex_bytes (length x) x))

-- an argument of n bytes, and the byte behind it
pub argument : ℕ → List ℕ → ℕ → List ℕ
argument n x behind = hex_bytes n x ++ (behind ∷ [])

length_argument : (n : ℕ) (x : List ℕ) (behind : ℕ) → length (argument n x behind) ≡ 2 * n + 1
unfolding argument
length_argument n x behind = simp length-append (omega (arith, length_hex_bytes n x))

-- ---- a text at the front of a buffer, made longer by a piece, a byte, an argument
pub put_none : (l : List ℕ) → Put [] l l 0
put_none l = record { long = refl; bytes = refl }

put_piece : {x old new : List ℕ} {n : ℕ} (y : List ℕ) → Put x old new n → Put (x ++ y) old (splice n (length y) y new) (n + length y)
unfolding splice
put_piece {x} {old} {new} {n} y g =
    let at : length x ≡ n = sym g.long in
    let m : ℕ = length y in
    record {
      long = sym (length-append x y ∙ ap (λ k. k + m) at);
      bytes =
          rw (g.bytes, at, take_at x (drop n old) n at, drop_at x (drop n old) n at, drop-drop m n old, length-append x y, at)
          (sym (append_assoc x y (drop (n + m) old)));
    }

pub put_byte : {x old new : List ℕ} {n : ℕ} (v : ℕ) → Put x old new n → n < length new → Put (x ++ (v ∷ [])) old (set new n v) (n + 1)
put_byte {x} {old} {new} {n} v g l = rw (set_splice new n v l) (put_piece (v ∷ []) g)

pub put_argument : {x old new new' : List ℕ} {n k : ℕ} (y : List ℕ) (behind : ℕ) → Put x old new n → length y ≡ k → new' ≡ argument_put new n y behind
    → Put (x ++ argument k y behind) old new' (n + (2 * k + 1))
unfolding argument_put argument
put_argument {k = k} y behind g e q =
    let long : length (argument k y behind) ≡ 2 * k + 1 = length_argument k y behind in
    rw (q, e) (rw long at (put_piece (argument k y behind) g))

-- ---- the lines
pub field_line_lem : {old new new' : List ℕ} (field : List ℕ) → Put (48 ∷ 32 ∷ []) old new 2 → length field ≡ field_bytes → new' ≡ argument_put new 2 field 10
    → Put (field_line field) old new' field_line_bytes
unfolding field_line argument
field_line_lem field g e q = put_argument field 10 g e q

pub record_line_lem : (l l₁ l₂ l₃ l₄ x : List ℕ) (u r : ℕ) → length l ≡ record_line_bytes → length x ≡ slot_bytes
    → l₁ ≡ argument_put l 0 (u ∷ []) 32 → l₂ ≡ argument_put l₁ 3 (r ∷ []) 32 → l₃ ≡ argument_put l₂ 6 (take key_bytes x) 32
    → l₄ ≡ argument_put l₃ 15 (take field_bytes (drop key_bytes x)) 10
    → l₄ ≡ record_line u r x
record_line_lem l l₁ l₂ l₃ l₄ x u r el ex e₁ e₂ e₃ e₄ =
    let ek : length (take key_bytes x) ≡ key_bytes = length-take-le key_bytes x (omega arith) in
    let eb : length (drop key_bytes x) ≡ field_bytes = simp length-drop (omega arith) in
    let whole : take field_bytes (drop key_bytes x) ≡ drop key_bytes x = take_all field_bytes (drop key_bytes x) (omega arith) in
    let g = put_argument (drop key_bytes x) 10 (put_argument (take key_bytes x) 32 (put_argument (r ∷ []) 32 (put_argument (u ∷ []) 32 (put_none l)
    refl e₁) refl e₂) ek e₃) eb (e₄ ∙ ap (λ y. argument_put l₃ 15 y 10) whole) in
    g.bytes ∙ rw (← g.long, drop_of_length-le l {i = record_line_bytes} (omega arith)) (append-nil _) ∙ joined u r x
  where
    joined : (u r : ℕ) (x : List ℕ)
        → ((argument 1 (u ∷ []) 32 ++ argument 1 (r ∷ []) 32) ++ argument key_bytes (take key_bytes x) 32) ++ argument field_bytes (drop key_bytes x) 10
        ≡ record_line u r x
    joined u r x = unfold argument record_line hex_bytes in rw (tab_one, tab_one) (simp append_assoc)
