-- `writing::unit_to_lose` meets its contract.
use native.Mathlib.Omega.{arith}
use borrow.Author.Tests.{lt-ltb, le-ltb, ne_eqb}
use Rattle.buffer.specs.Choice.{pick}
use Rattle.model.specs.Numbers.{first_of, refusals_in}
use Rattle.writing.proofs.unit_to_lose.Goals as goal

pub returns-then-unit-gt27-clause-number : goal.returns-then-unit-gt27-clause-number
unfolding first_of refusals_in pick
returns-then-unit-gt27-clause-number c =
    simp (lt-ltb _ _ c.if-unit-gt27.true)

pub returns-then-not-is_sound-clause-number : goal.returns-then-not-is_sound-clause-number
unfolding first_of refusals_in pick
returns-then-not-is_sound-clause-number c =
    simp (le-ltb _ _ c.if-unit-gt27.false, ← c.is_sound.ensures, c.if-not-is_sound.true)

pub returns-in-0-clause-number : goal.returns-in-0-clause-number
unfolding first_of refusals_in pick
returns-in-0-clause-number c =
    simp (le-ltb _ _ c.if-unit-gt27.false, ← c.is_sound.ensures, c.if-not-is_sound.false, ← c.state.ensures, c.in-0.is)

pub returns-in-2-clause-number : goal.returns-in-2-clause-number
unfolding first_of refusals_in pick
returns-in-2-clause-number c =
    simp (le-ltb _ _ c.if-unit-gt27.false, ← c.is_sound.ensures, c.if-not-is_sound.false, ← c.state.ensures, c.in-2.is)

pub returns-in_default-clause-number : goal.returns-in_default-clause-number
unfolding first_of refusals_in pick
returns-in_default-clause-number c =
    let zero = ne_eqb c.state.result 0 (λ e. absurd (omega (arith, e))) in
    let two = ne_eqb c.state.result 2 (λ e. absurd (omega (arith, e))) in
    simp (le-ltb _ _ c.if-unit-gt27.false, ← c.is_sound.ensures, c.if-not-is_sound.false, ← c.state.ensures, zero, two)
