-- The call of a line has the types of its arguments: a key has 32 bits, a field holds bytes.
use Prim.Native.Nat.{ℕ, ◌^◌, ◌≤◌, ◌<◌}
use native.Mathlib.Nat.{pow-le-pow_right}
use native.Mathlib.Omega.{arith}
use mathlib.Core.List.{List}
use lib.Dec.{ltb}
use borrow.Author.Tests.{ltb-true, ltb-false}
use Rattle.buffer.specs.ChoiceLaws.{by-test}
use Rattle.buffer.specs.Bytes.{byte}
use Rattle.buffer.specs.ByteLaws.{byte_past, byte_zeros}
use Rattle.group.specs.Widths.{field_bytes}
use Rattle.model.specs.history.Typed.{Bytes, Typed}
use Rattle.lines.specs.Line.{Line, unreadable, digits_of, Proper, readable, parsed}
use Rattle.lines.specs.LineLaws.{parsed_proper, parsed_refused}
use Rattle.answering.specs.CommandLaws.{by_letter}
use Rattle.answering.specs.Command.{Command, layout, call, unknown, command_of}

-- a number of no more than eight digits, and bytes
record Ranged (x : Line) : Type 0 where
  key : x.number < 4294967296
  field : Bytes x.field

proper_ranged : {x : Line} → Proper x → Ranged x
proper_ranged {x} p = record {
  key =
      let eight : 16 ^ digits_of x.letter ≤ 16 ^ 8 =
      pow-le-pow_right {n = 16} (omega arith) {i = digits_of x.letter} {j = 8} (omega (arith, ltb-true (digits_of x.letter) 9 p.known)) in
      omega (arith, p.range);
  field = λ i.
      by-test
      (λ t. byte x.field i < 256)
      (ltb i field_bytes)
      (λ e. p.bytes i (ltb-true i field_bytes e))
      (λ e. omega (arith, byte_past x.field i (omega (arith, p.long, ltb-false i field_bytes e))));
}

parsed_ranged : (l : List ℕ) → Ranged (parsed l)
unfolding unreadable
parsed_ranged l =
    by-test
    (λ t. Ranged (parsed l))
    (readable l)
    (λ e. proper_ranged (parsed_proper l e))
    (λ e. rw (parsed_refused l e) (record { key = omega arith; field = λ i. omega (arith, byte_zeros field_bytes i) }))

abbrev pub TypedCommand : Command → Type 0
TypedCommand (layout b) = Unit {0}
TypedCommand (call c) = Typed c
TypedCommand unknown = Unit {0}

pub line_typed : (l : List ℕ) → TypedCommand (command_of (parsed l))
line_typed l =
    let r : Ranged (parsed l) = parsed_ranged l in
    by_letter TypedCommand (parsed l) tt (r.key, r.field) (r.key, r.field) r.key r.key tt tt tt tt tt (λ _. tt) tt
