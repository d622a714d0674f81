-- `line::parse` meets its contract.
use mathlib.Core.Path.{◌≡◌, refl, ap}
use native.Mathlib.Omega.{arith}
use borrow.Author.Rules.{rules}
use lib.Dec.{ltb}
use lib.ListN.{length}
use Rattle.std.proofs.lemmas.Bool.Decides.{nat_tests}
use Rattle.std.specs.Prelude.{option_map}
use Rattle.buffer.specs.ByteLaws.{byte_past}
use Rattle.buffer.specs.Choice.{pick}
use Rattle.lines.specs.Line.{digits_of, has_field}
use Rattle.lines.specs.declared.line.Command.TheVariants.{LayOut, Teach, Correct, Erase, Read, UnitOut, Repair, Grow, Shrink, Raise, List as ListAll}
use Rattle.lines.proofs.Parsing.{unknown, bare_line, number_line, field_line}
use Rattle.lines.proofs.line.parse.Goals as goal

pub returns-in_err-letter : goal.returns-in_err-letter
unfolding digits_of pick
returns-in_err-letter c =
    let l = c.args.line.now in
    let empty : length l ≡ 0 = c.in_err-letter.ensures.cases in
    rw c.from_residual.ensures (unknown l (ap (λ x. ltb (digits_of x) 9) (byte_past l 0 (omega arith))))

pub returns-in-76 : goal.returns-in-76
unfolding digits_of has_field pick
returns-in-76 c =
    let map : c.map.result ≡ option_map LayOut c.number_behind.result = search rules in
    rw (c.in_ok-letter.ensures.cases.0, c.in-76.is, map) (number_line 76 _ 2 refl (omega arith) refl (omega arith) LayOut (λ v. refl) _ c.number_behind.ensures)

pub returns-in-84 : goal.returns-in-84
unfolding digits_of has_field pick
returns-in-84 c =
    let map : c.map-in-84.result ≡ option_map (λ x. Teach x.0 x.1) c.key_and_field.result = search rules in
    rw (c.in_ok-letter.ensures.cases.0, c.in-84.is, map) (field_line 84 _ refl Teach (λ v x. refl) _ c.key_and_field.ensures)

pub returns-in-67 : goal.returns-in-67
unfolding digits_of has_field pick
returns-in-67 c =
    let map : c.map-in-67.result ≡ option_map (λ x. Correct x.0 x.1) c.key_and_field-in-67.result = search rules in
    rw (c.in_ok-letter.ensures.cases.0, c.in-67.is, map) (field_line 67 _ refl Correct (λ v x. refl) _ c.key_and_field-in-67.ensures)

pub returns-in-69 : goal.returns-in-69
unfolding digits_of has_field pick
returns-in-69 c =
    let map : c.map-in-69.result ≡ option_map Erase c.number_behind-in-69.result = search rules in
    rw (c.in_ok-letter.ensures.cases.0, c.in-69.is, map) (number_line 69 _ 8 refl (omega arith) refl (omega arith) Erase (λ v. refl) _ c.number_behind-in-69.ensures)

pub returns-in-82 : goal.returns-in-82
unfolding digits_of has_field pick
returns-in-82 c =
    let map : c.map-in-82.result ≡ option_map Read c.number_behind-in-82.result = search rules in
    rw (c.in_ok-letter.ensures.cases.0, c.in-82.is, map) (number_line 82 _ 8 refl (omega arith) refl (omega arith) Read (λ v. refl) _ c.number_behind-in-82.ensures)

pub returns-in-79 : goal.returns-in-79
unfolding digits_of has_field pick
returns-in-79 c =
    let map : c.map-in-79.result ≡ option_map UnitOut c.number_behind-in-79.result = search rules in
    rw (c.in_ok-letter.ensures.cases.0, c.in-79.is, map) (number_line 79 _ 2 refl (omega arith) refl (omega arith) UnitOut (λ v. refl) _ c.number_behind-in-79.ensures)

pub returns-in-70 : goal.returns-in-70
unfolding digits_of has_field pick
returns-in-70 c =
    let map : c.map-in-70.result ≡ option_map Repair c.number_behind-in-70.result = search rules in
    rw (c.in_ok-letter.ensures.cases.0, c.in-70.is, map) (number_line 70 _ 2 refl (omega arith) refl (omega arith) Repair (λ v. refl) _ c.number_behind-in-70.ensures)

pub returns-in-71 : goal.returns-in-71
unfolding digits_of has_field pick
returns-in-71 c =
    rw (c.in_ok-letter.ensures.cases.0, c.in-71.is, c.then_some.ensures, c.is_empty.ensures) (bare_line 71 _ refl Grow refl)

pub returns-in-83 : goal.returns-in-83
unfolding digits_of has_field pick
returns-in-83 c =
    rw (c.in_ok-letter.ensures.cases.0, c.in-83.is, c.then_some-in-83.ensures, c.is_empty-in-83.ensures) (bare_line 83 _ refl Shrink refl)

pub returns-in-75 : goal.returns-in-75
unfolding digits_of has_field pick
returns-in-75 c =
    rw (c.in_ok-letter.ensures.cases.0, c.in-75.is, c.then_some-in-75.ensures, c.is_empty-in-75.ensures) (bare_line 75 _ refl Raise refl)

pub returns-in-80 : goal.returns-in-80
unfolding digits_of has_field pick
returns-in-80 c =
    rw (c.in_ok-letter.ensures.cases.0, c.in-80.is, c.then_some-in-80.ensures, c.is_empty-in-80.ensures) (bare_line 80 _ refl ListAll refl)

pub returns-in_default : goal.returns-in_default
unfolding digits_of pick
returns-in_default c =
    rw c.in_ok-letter.ensures.cases.0 (unknown _ (grind (arith, nat_tests)))
