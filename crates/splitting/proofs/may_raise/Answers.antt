-- `splitting::may_raise` meets its contract.
use mathlib.Core.Path.{refl, sym, ◌∙◌}
use native.Mathlib.Omega.{arith}
use borrow.Author.Tests.{le-leb, lt-leb}
use Rattle.std.proofs.lemmas.Result.{err_from_is_err_and}
use Rattle.buffer.specs.Choice.{pick}
use Rattle.model.specs.Sound.{sound}
use Rattle.model.specs.Numbers.{first_of, refusals_in}
use Rattle.soundness.specs.SurveyLaws.{found_sized}
use Rattle.soundness.specs.HandedLaws.{of_these, none_of}
use Rattle.splitting.proofs.Rows.{raise_rows, outs_any}
use Rattle.splitting.proofs.may_raise.Goals as goal

pub returns-in_err-survey : goal.returns-in_err-survey
unfolding first_of refusals_in pick
returns-in_err-survey c =
    let p = err_from_is_err_and c.from_residual.result c.from_residual.ensures.1 in
    let none = none_of _ _ c.survey_of.result c.survey_of.ensures (sym c.ok_or.ensures.value ∙ c.in_err-survey.was) in
    rw (p.1, p.2, none.1) (simp none.0)

pub bounds-s-7 : goal.bounds-s-7
bounds-s-7 c =
    let e = of_these _ c.survey_of.result c.survey_of.ensures (sym c.ok_or.ensures.value ∙ c.in_ok-survey.was) in
    omega (arith, (found_sized e refl).long)

pub returns-then-s-ge3 : goal.returns-then-s-ge3
unfolding first_of pick
returns-then-s-ge3 c =
    let e = of_these _ c.survey_of.result c.survey_of.ensures (sym c.ok_or.ensures.value ∙ c.in_ok-survey.was) in
    simp (raise_rows c.args.s.now (sound c.args.s.now) refl, ← e.tested, le-leb _ _ c.if-s-ge3.true)

pub returns-then-any_out : goal.returns-then-any_out
unfolding first_of pick
returns-then-any_out c =
    let e = of_these _ c.survey_of.result c.survey_of.ensures (sym c.ok_or.ensures.value ∙ c.in_ok-survey.was) in
    simp (
      raise_rows c.args.s.now (sound c.args.s.now) refl,
      ← e.tested,
      lt-leb _ _ c.if-s-ge3.false,
      outs_any e refl,
      ← c.any_out.ensures,
      c.if-any_out.true,
    )

pub returns : goal.returns
unfolding first_of pick
returns c =
    let e = of_these _ c.survey_of.result c.survey_of.ensures (sym c.ok_or.ensures.value ∙ c.in_ok-survey.was) in
    simp (
      raise_rows c.args.s.now (sound c.args.s.now) refl,
      ← e.tested,
      lt-leb _ _ c.if-s-ge3.false,
      outs_any e refl,
      ← c.any_out.ensures,
      c.if-any_out.false,
    )
