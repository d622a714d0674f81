-- A case for each letter of a line.
use Rattle.std.specs.Prelude.{◌≡◌, eqb}
use Rattle.std.proofs.Common.{eqb-true}
use Rattle.buffer.specs.ChoiceLaws.{by-pick}
use Rattle.buffer.specs.Bytes.{zeros}
use Rattle.group.specs.Widths.{field_bytes}
use Rattle.model.specs.Numbers.{teach, correct, erase, read, list, unit_out, repair, grow, shrink, raise}
use Rattle.lines.specs.Line.{Line}
use Rattle.answering.specs.Command.{Command, layout, call, unknown, list_bytes, command_of}

-- what holds of the command of each letter, in the order L, T, C, E, R, O, F, G, S, K, P, and of a line that is not readable, holds of every line's
pub by_letter : (Q : Command → Type 0) (x : Line) → Q (layout x.number) → Q (call (teach x.number x.field)) → Q (call (correct x.number x.field))
    → Q (call (erase x.number)) → Q (call (read x.number (zeros field_bytes))) → Q (call (unit_out x.number)) → Q (call (repair x.number))
    → Q (call grow) → Q (call shrink) → Q (call raise) → (x.letter ≡ 80 → Q (call (list (zeros list_bytes)))) → Q unknown → Q (command_of x)
unfolding command_of
by_letter Q x l t c e r o f g s k p none =
    by-pick Q (eqb x.letter 76) _ _ (λ _. l) (λ _.
    by-pick Q (eqb x.letter 84) _ _ (λ _. t) (λ _.
    by-pick Q (eqb x.letter 67) _ _ (λ _. c) (λ _.
    by-pick Q (eqb x.letter 69) _ _ (λ _. e) (λ _.
    by-pick Q (eqb x.letter 82) _ _ (λ _. r) (λ _.
    by-pick Q (eqb x.letter 79) _ _ (λ _. o) (λ _.
    by-pick Q (eqb x.letter 70) _ _ (λ _. f) (λ _.
    by-pick Q (eqb x.letter 71) _ _ (λ _. g) (λ _.
    by-pick Q (eqb x.letter 83) _ _ (λ _. s) (λ _.
    by-pick Q (eqb x.letter 75) _ _ (λ _. k) (λ _.
    by-pick Q (eqb x.letter 80) _ _ (λ q. p (eqb-true x.letter 80 q)) (λ _. none)))))))))))
