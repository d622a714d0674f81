-- `splitting::growth_of` meets its contract.
use mathlib.Core.Path.{refl, sym, ap, ◌∙◌}
use native.Mathlib.Omega.{arith}
use borrow.Author.Tests.{le-leb, lt-leb}
use Rattle.std.proofs.lemmas.Result.{err_from_is_err_and}
use Rattle.buffer.specs.Choice.{pick}
use Rattle.model.specs.Layout.{view}
use Rattle.model.specs.Reads.{fill_in}
use Rattle.model.specs.Sound.{sound}
use Rattle.model.specs.Numbers.{first_of, refusals_in, number_in}
use Rattle.soundness.specs.SurveyLaws.{found_sized}
use Rattle.soundness.specs.HandedLaws.{of_these, none_of}
use Rattle.splitting.proofs.Rows.{grow_rows_lem, outs_pair, from_fill_is}
use Rattle.splitting.proofs.growth_of.Goals as goal

pub returns-in_err-survey-clause-number : goal.returns-in_err-survey-clause-number
unfolding number_in first_of refusals_in pick
returns-in_err-survey-clause-number c =
    let p = err_from_is_err_and c.from_residual.result c.from_residual.ensures.1 in
    let none = none_of _ _ c.survey_of.result c.survey_of.ensures (sym c.ok_or.ensures.value ∙ c.in_err-survey.was) in
    rw (p.1, p.2, none.1) (simp none.0)

pub bounds-s-6 : goal.bounds-s-6
bounds-s-6 c =
    let e = of_these _ c.survey_of.result c.survey_of.ensures (sym c.ok_or.ensures.value ∙ c.in_ok-survey.was) in
    omega (arith, (found_sized e refl).long)

pub returns-then-m-ge16-clause-number : goal.returns-then-m-ge16-clause-number
unfolding number_in first_of pick
returns-then-m-ge16-clause-number c =
    let e = of_these _ c.survey_of.result c.survey_of.ensures (sym c.ok_or.ensures.value ∙ c.in_ok-survey.was) in
    simp (grow_rows_lem c.args.s.now (sound c.args.s.now) refl, ← e.tested, le-leb _ _ c.if-m-ge16.true)

pub pair_out-requires : goal.pair_out-requires
pair_out-requires c =
    let e = of_these _ c.survey_of.result c.survey_of.ensures (sym c.ok_or.ensures.value ∙ c.in_ok-survey.was) in
    ((found_sized e refl).unit, c.if-m-ge16.false)

pub returns-then-pair_out-clause-number : goal.returns-then-pair_out-clause-number
unfolding number_in first_of pick
returns-then-pair_out-clause-number c =
    let e = of_these _ c.survey_of.result c.survey_of.ensures (sym c.ok_or.ensures.value ∙ c.in_ok-survey.was) in
    simp (
      grow_rows_lem c.args.s.now (sound c.args.s.now) refl,
      ← e.tested,
      lt-leb _ _ c.if-m-ge16.false,
      outs_pair e (found_sized e refl).unit c.if-m-ge16.false,
      ← c.pair_out.ensures,
      c.if-pair_out.true,
    )

pub split_pointer-requires : goal.split_pointer-requires
split_pointer-requires c =
    let e = of_these _ c.survey_of.result c.survey_of.ensures (sym c.ok_or.ensures.value ∙ c.in_ok-survey.was) in
    (found_sized e refl).unit

pub returns-clause-number : goal.returns-clause-number
unfolding number_in first_of pick
returns-clause-number c =
    let e = of_these _ c.survey_of.result c.survey_of.ensures (sym c.ok_or.ensures.value ∙ c.in_ok-survey.was) in
    simp (
      grow_rows_lem c.args.s.now (sound c.args.s.now) refl,
      ← e.tested,
      lt-leb _ _ c.if-m-ge16.false,
      outs_pair e (found_sized e refl).unit c.if-m-ge16.false,
      ← c.pair_out.ensures,
      c.if-pair_out.false,
    )

pub returns-clause-records : goal.returns-clause-records
returns-clause-records c =
    let e = of_these _ c.survey_of.result c.survey_of.ensures (sym c.ok_or.ensures.value ∙ c.in_ok-survey.was) in
    from_fill_is e (found_sized e refl).unit c.if-m-ge16.false (sym c.pair_out.ensures ∙ c.if-pair_out.false) c.split_pointer.ensures c.from.ensures
    ∙ ap (fill_in (view c.args.s.now)) c.split_pointer.ensures.0
