-- `soundness::survey_of` meets its contract: each test that fails is one of the pieces, and where none fails all of them hold.
use mathlib.Core.Bool.{and-false}
use native.Mathlib.Omega.{arith}
use Rattle.soundness.specs.Pieces.{pieces}
use Rattle.soundness.specs.Survey.{counted_fills}
use Rattle.soundness.proofs.Told.{none_told}
use Rattle.soundness.proofs.Theorem.{ranged, not_sound, surveyed}
use mathlib.Core.Path.{sym, ◌∙◌}
use Rattle.soundness.proofs.survey_of.Goals as goal

-- ---- the needs
pub returns-then-not-ranges_hold : goal.returns-then-not-ranges_hold
unfolding pieces
returns-then-not-ranges_hold c =
    not_sound _ (simp (sym c.ranges_hold.ensures ∙ c.if-not-ranges_hold.true))

pub states_hold-requires : goal.states_hold-requires
states_hold-requires c =
    let in_range = ranged _ (sym c.ranges_hold.ensures ∙ c.if-not-ranges_hold.false) in
    omega arith

pub returns-then-not-states_hold : goal.returns-then-not-states_hold
unfolding pieces
returns-then-not-states_hold c =
    not_sound _ (simp (sym c.states_hold.ensures ∙ c.if-not-states_hold.true, and-false))

pub first_checks_of-first_checks-requires : goal.first_checks_of-first_checks-requires
first_checks_of-first_checks-requires c =
    let in_range = ranged _ (sym c.ranges_hold.ensures ∙ c.if-not-ranges_hold.false) in
    omega arith

pub outs_of-outs-requires : goal.outs_of-outs-requires
outs_of-outs-requires c =
    let in_range = ranged _ (sym c.ranges_hold.ensures ∙ c.if-not-ranges_hold.false) in
    omega arith

pub invariant_of-header : goal.invariant_of-header
invariant_of-header c =
    record {
      octets = record { below = λ i. omega (arith, c.type_inv.s i) };
      ranged = ranged _ (sym c.ranges_hold.ensures ∙ c.if-not-ranges_hold.false);
      found = c.first_checks_of-first_checks.ensures;
    }

pub returns-in_err-fills : goal.returns-in_err-fills
unfolding pieces counted_fills
returns-in_err-fills c =
    rw c.from_residual.ensures (not_sound _ (simp (none_told _ _ (sym c.in_err-fills.was ∙ c.count_units.ensures), and-false)))

pub returns-then-not-columns_empty : goal.returns-then-not-columns_empty
unfolding pieces
returns-then-not-columns_empty c =
    not_sound _ (simp (sym c.columns_empty.ensures ∙ c.if-not-columns_empty.true, and-false))

pub returns-then-not-checks_good : goal.returns-then-not-checks_good
unfolding pieces
returns-then-not-checks_good c =
    not_sound _ (simp (sym c.checks_good.ensures ∙ c.if-not-checks_good.true, and-false))

pub returns-then-not-behind_zero : goal.returns-then-not-behind_zero
unfolding pieces
returns-then-not-behind_zero c =
    not_sound _ (simp (sym c.behind_zero.ensures ∙ c.if-not-behind_zero.true, and-false))

pub invariant_of-result : goal.invariant_of-result
invariant_of-result c =
    record {
      surveyed =
          surveyed
          (sym c.ranges_hold.ensures ∙ c.if-not-ranges_hold.false)
          (sym c.states_hold.ensures ∙ c.if-not-states_hold.false)
          c.first_checks_of-first_checks.ensures
          c.outs_of-outs.ensures
          (sym c.in_ok-fills.was ∙ c.count_units.ensures)
          (sym c.columns_empty.ensures ∙ c.if-not-columns_empty.false)
          (sym c.checks_good.ensures ∙ c.if-not-checks_good.false)
          (sym c.behind_zero.ensures ∙ c.if-not-behind_zero.false);
    }
