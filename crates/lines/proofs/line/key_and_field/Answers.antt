-- `line::key_and_field` meets its contract.
use mathlib.Core.Path.{ap, ◌∙◌}
use lib.ListN.{drop}
use Rattle.buffer.specs.TestLaws.{not-both}
use Rattle.lines.specs.Digits.{number_at}
use Rattle.lines.proofs.Parsing.{key_is, key-number, keyed, field_spaced}
use Rattle.lines.proofs.Reading.{picked_some, picked_none}
use Rattle.lines.proofs.line.key_and_field.Goals as goal

pub returns-in_err-key-2 : goal.returns-in_err-key-2
returns-in_err-key-2 c =
    let split = c.in_ok-key.ensures.cases in
    rw c.from_residual-in_err-key-2.ensures (λ k. c.in_err-key-2.ensures (rw split.1 (key_is c.args.text.now split.0 k)))

pub returns-in_err-read_field : goal.returns-in_err-read_field
returns-in_err-read_field c =
    let t = c.args.text.now in
    let split = c.in_ok-key.ensures.cases in
    let space = c.in_ok-behind_space.ensures in
    let field = c.in_err-read_field.ensures ∙ field_spaced t _ (space.1 ∙ ap (drop 1) split.2) in
    rw c.from_residual-in_err-read_field.ensures (λ k. not-both k.field (picked_none _ field))

pub returns : goal.returns
returns c =
    let t = c.args.text.now in
    let split = c.in_ok-key.ensures.cases in
    let key = c.in_ok-key-2.ensures in
    let space = c.in_ok-behind_space.ensures in
    let field = picked_some (c.in_ok-read_field.ensures ∙ field_spaced t _ (space.1 ∙ ap (drop 1) split.2)) in
    (keyed t split.0 (rw split.1 at key.0) (rw split.2 at space.0) field.0, key.1 ∙ ap (λ y. number_at y 1 8) split.1 ∙ key-number t split.0, field.1)
