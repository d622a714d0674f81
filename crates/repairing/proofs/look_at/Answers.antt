-- `repairing::look_at` meets its contract.
use Rattle.std.proofs.Common.{◌<◌, ◌∙◌, sym, refl, true, arith}
use Rattle.std.proofs.lemmas.Result.{err_from_is_err_and}
use Rattle.soundness.specs.Survey.{Surveyed}
use Rattle.soundness.specs.SurveyLaws.{found_sized, outs_read, group_counts, first_check_read}
use Rattle.soundness.specs.HandedLaws.{of_these, none_of}
use Rattle.repairing.proofs.Verdicts.{above, unsound, absent, beyond, free, known}
use Rattle.repairing.proofs.look_at.Goals as goal
use Rattle.repairing.proofs.look_at.Goals.{In_ok-survey}

pub returns-then-group-gt3 : goal.returns-then-group-gt3
returns-then-group-gt3 c =
    above _ _ c.if-group-gt3.true

pub returns-in_err-survey : goal.returns-in_err-survey
returns-in_err-survey c =
    let p = err_from_is_err_and c.from_residual.result c.from_residual.ensures.1 in
    let no = none_of _ _ _ c.survey_of.ensures (sym c.in_err-survey.ensures.value) in
    rw (p.1, p.2, no.1) (unsound _ _ c.if-group-gt3.false no.0)

-- what is known behind the survey
here : (c : In_ok-survey) → Surveyed c.args.s.now true c.in_ok-survey.survey.fills c.in_ok-survey.survey.first_checks c.in_ok-survey.survey.outs
here c = of_these _ _ c.survey_of.ensures (sym c.in_ok-survey.ensures.value)

pub bounds-s-6 : goal.bounds-s-6
bounds-s-6 c =
    omega (arith, (found_sized (here (goal.at.bounds-s-6 c).In_ok-survey) refl).long)

pub returns-then-s-g : goal.returns-then-s-g
returns-then-s-g c =
    absent _ _ c.if-group-gt3.false (sym (here (goal.at.returns-then-s-g c).In_ok-survey).tested) c.if-s-g.true

pub beyond-requires : goal.beyond-requires
beyond-requires c =
    let survey = here (goal.at.beyond-requires c).In_ok-survey in
    let g = c.args.group in
    let low : g < 4 = omega (arith, c.if-group-gt3.false) in
    (found_sized survey refl, low, outs_read survey refl g c.from-i.ensures low, group_counts survey refl g low, first_check_read survey refl g c.from-i.ensures low)

pub returns-then-beyond : goal.returns-then-beyond
returns-then-beyond c =
    beyond _ _ c.if-group-gt3.false (sym (here (goal.at.returns-then-beyond c).In_ok-survey).tested) c.if-s-g.false (sym c.beyond.ensures ∙ c.if-beyond.true)

pub returns : goal.returns
returns c =
    let survey = here (goal.at.returns c).In_ok-survey in
    let near = sym c.beyond.ensures ∙ c.if-beyond.false in
    record {
      given = free _ _ c.if-group-gt3.false (sym survey.tested) c.if-s-g.false near;
      group = refl;
      known = known survey (omega (arith, c.if-group-gt3.false)) c.from-i.ensures refl refl near;
    }
