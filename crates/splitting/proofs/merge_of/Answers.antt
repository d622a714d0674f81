-- `splitting::merge_of` meets its contract.
use Prim.Native.Nat.{◌-◌, ◌≤◌, ◌<◌}
use mathlib.Core.Path.{refl, sym, ◌∙◌}
use native.Mathlib.Omega.{arith}
use lib.ListN.{get_or}
use borrow.Author.Tests.{lt-ltb, le-ltb, le-leb, lt-leb}
use Rattle.std.proofs.lemmas.Result.{err_from_is_err_and}
use Rattle.buffer.specs.Choice.{pick}
use Rattle.model.specs.Sound.{sound}
use Rattle.model.specs.Numbers.{first_of, refusals_in}
use Rattle.soundness.specs.SurveyLaws.{found_sized, fill_most}
use Rattle.soundness.specs.HandedLaws.{of_these, none_of}
use Rattle.splitting.proofs.Rows.{shrink_rows_lem, last_unit, outs_pair, crowded_is, merges}
use Rattle.splitting.proofs.merge_of.Goals as goal

pub returns-in_err-survey-clause-number : goal.returns-in_err-survey-clause-number
unfolding first_of refusals_in pick
returns-in_err-survey-clause-number c =
    let p = err_from_is_err_and c.from_residual.result c.from_residual.ensures.1 in
    let none = none_of _ _ c.survey_of.result c.survey_of.ensures (sym c.ok_or.ensures.value ∙ c.in_err-survey.was) in
    rw (p.1, p.2, none.1) (simp none.0)

pub bounds-s-6 : goal.bounds-s-6
bounds-s-6 c =
    let e = of_these _ c.survey_of.result c.survey_of.ensures (sym c.ok_or.ensures.value ∙ c.in_ok-survey.was) in
    omega (arith, (found_sized e refl).long)

pub returns-then-units-le1-clause-number : goal.returns-then-units-le1-clause-number
unfolding first_of pick
returns-then-units-le1-clause-number c =
    let e = of_these _ c.survey_of.result c.survey_of.ensures (sym c.ok_or.ensures.value ∙ c.in_ok-survey.was) in
    simp (shrink_rows_lem c.args.s.now (sound c.args.s.now) refl, ← e.tested, le-leb _ _ c.if-units-le1.true)

pub pair_out-requires : goal.pair_out-requires
pair_out-requires c =
    let e = of_these _ c.survey_of.result c.survey_of.ensures (sym c.ok_or.ensures.value ∙ c.in_ok-survey.was) in
    last_unit (found_sized e refl) refl c.if-units-le1.false

pub returns-then-pair_out-clause-number : goal.returns-then-pair_out-clause-number
unfolding first_of pick
returns-then-pair_out-clause-number c =
    let e = of_these _ c.survey_of.result c.survey_of.ensures (sym c.ok_or.ensures.value ∙ c.in_ok-survey.was) in
    let last = last_unit (found_sized e refl) refl c.if-units-le1.false in
    simp (
      shrink_rows_lem c.args.s.now (sound c.args.s.now) refl,
      ← e.tested,
      lt-leb _ _ c.if-units-le1.false,
      outs_pair e last.0 last.1,
      ← c.pair_out.ensures,
      c.if-pair_out.true,
    )

pub bounds-fills-from : goal.bounds-fills-from
bounds-fills-from c =
    let e = of_these _ c.survey_of.result c.survey_of.ensures (sym c.ok_or.ensures.value ∙ c.in_ok-survey.was) in
    let last : (1 ≤ get_or c.args.s.now 6 0 - 1) × (get_or c.args.s.now 6 0 - 1 < 16) = last_unit (found_sized e refl) refl c.if-units-le1.false in
    omega (arith, c.from.ensures, c.split_pointer-into.ensures.1)

pub bounds-fills-from-2 : goal.bounds-fills-from-2
bounds-fills-from-2 c =
    let e = of_these _ c.survey_of.result c.survey_of.ensures (sym c.ok_or.ensures.value ∙ c.in_ok-survey.was) in
    let last : (1 ≤ get_or c.args.s.now 6 0 - 1) × (get_or c.args.s.now 6 0 - 1 < 16) = last_unit (found_sized e refl) refl c.if-units-le1.false in
    omega (arith, c.from-2.ensures)

pub overflow_add-from : goal.overflow_add-from
overflow_add-from c =
    let e = of_these _ c.survey_of.result c.survey_of.ensures (sym c.ok_or.ensures.value ∙ c.in_ok-survey.was) in
    let last : (1 ≤ get_or c.args.s.now 6 0 - 1) × (get_or c.args.s.now 6 0 - 1 < 16) = last_unit (found_sized e refl) refl c.if-units-le1.false in
    let from = fill_most e c.from.result (omega (arith, c.from.ensures, c.split_pointer-into.ensures.1)) in
    let own = fill_most e c.from-2.result (omega (arith, c.from-2.ensures)) in
    omega (arith, from, own, (found_sized e refl).ranks, c.from-4.ensures, c.from-5.ensures)

pub returns-then-from-clause-number : goal.returns-then-from-clause-number
unfolding first_of pick
returns-then-from-clause-number c =
    let e = of_these _ c.survey_of.result c.survey_of.ensures (sym c.ok_or.ensures.value ∙ c.in_ok-survey.was) in
    let last = last_unit (found_sized e refl) refl c.if-units-le1.false in
    let crowded = crowded_is e last.0 last.1 (sym c.pair_out.ensures ∙ c.if-pair_out.false) c.split_pointer-into.ensures c.from.ensures c.from-2.ensures in
    simp (
      shrink_rows_lem c.args.s.now (sound c.args.s.now) refl,
      ← e.tested,
      lt-leb _ _ c.if-units-le1.false,
      outs_pair e last.0 last.1,
      ← c.pair_out.ensures,
      c.if-pair_out.false,
      crowded ∙ rw (c.from-3.ensures, c.from-4.ensures, c.from-5.ensures) at (lt-ltb _ _ c.if-from.true),
    )

pub returns-clause-number : goal.returns-clause-number
unfolding first_of pick
returns-clause-number c =
    let e = of_these _ c.survey_of.result c.survey_of.ensures (sym c.ok_or.ensures.value ∙ c.in_ok-survey.was) in
    let last = last_unit (found_sized e refl) refl c.if-units-le1.false in
    let crowded = crowded_is e last.0 last.1 (sym c.pair_out.ensures ∙ c.if-pair_out.false) c.split_pointer-into.ensures c.from.ensures c.from-2.ensures in
    simp (
      shrink_rows_lem c.args.s.now (sound c.args.s.now) refl,
      ← e.tested,
      lt-leb _ _ c.if-units-le1.false,
      outs_pair e last.0 last.1,
      ← c.pair_out.ensures,
      c.if-pair_out.false,
      crowded ∙ rw (c.from-3.ensures, c.from-4.ensures, c.from-5.ensures) at (le-ltb _ _ c.if-from.false),
    )

pub returns-clause-units : goal.returns-clause-units
returns-clause-units c =
    let e = of_these _ c.survey_of.result c.survey_of.ensures (sym c.ok_or.ensures.value ∙ c.in_ok-survey.was) in
    let last = last_unit (found_sized e refl) refl c.if-units-le1.false in
    let both = merges e last.0 last.1 (sym c.pair_out.ensures ∙ c.if-pair_out.false) c.split_pointer-into.ensures c.from.ensures c.from-2.ensures
    (rw (c.from-3.ensures, c.from-4.ensures, c.from-5.ensures) at c.if-from.false) in
    (both.0, both.1, omega (arith, (found_sized e refl).unit))
