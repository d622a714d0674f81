-- `reading::look_up` meets its contract.
use Rattle.std.proofs.Common.{◌≡◌, ◌∙◌, sym, refl, arith}
use Rattle.std.proofs.lemmas.Result.{err_from_is_err_and}
use Rattle.lookup.specs.Sized.{Sized}
use Rattle.soundness.specs.SurveyLaws.{found_sized, first_check_read}
use Rattle.soundness.specs.HandedLaws.{of_store, of_these, none_of}
use Rattle.reading.proofs.Verdicts.{no_key, no_room, unsound, Sought, sought, sought_sized, lost, listed_read, group_counted, gone, absent}
use Rattle.reading.proofs.Verdicts.{there, placed, present}
use Rattle.reading.proofs.look_up.Goals as goal
use Rattle.reading.proofs.look_up.Goals.{In_ok-survey, After-unit_of-unit}

pub returns-then-key-eq0 : goal.returns-then-key-eq0
returns-then-key-eq0 c =
    no_key _ _ _ c.if-key-eq0.true

pub returns-then-len-ne-FIELD : goal.returns-then-len-ne-FIELD
returns-then-len-ne-FIELD c =
    no_room _ _ _ c.if-key-eq0.false c.if-len-ne-FIELD.true

pub returns-in_err-survey : goal.returns-in_err-survey
returns-in_err-survey c =
    let p = err_from_is_err_and c.from_residual.result c.from_residual.ensures.1 in
    let no = none_of _ _ _ c.survey_of.ensures (sym c.in_err-survey.ensures.value) in
    rw (p.1, p.2, no.1) (unsound _ _ _ c.if-key-eq0.false c.if-len-ne-FIELD.false no.0)

-- ---- what is known behind the survey, and behind the unit
same_store : (c : In_ok-survey) → c.in_ok-survey.survey.store.now ≡ c.args.s.now
same_store c = of_store _ _ c.survey_of.ensures (sym c.in_ok-survey.ensures.value)

sized : (c : In_ok-survey) → Sized c.args.s.now
sized c = found_sized (of_these _ _ c.survey_of.ensures (sym c.in_ok-survey.ensures.value)) refl

key : (c : After-unit_of-unit)
    → Sought c.args.s.now c.in_ok-survey.survey.fills c.in_ok-survey.survey.first_checks c.in_ok-survey.survey.outs c.args.key c.args.len c.unit_of-unit.result
key c = sought (of_these _ _ c.survey_of.ensures (sym c.in_ok-survey.ensures.value)) c.if-key-eq0.false c.if-len-ne-FIELD.false c.unit_of-unit.ensures

pub bounds-s-6 : goal.bounds-s-6
bounds-s-6 c =
    omega (arith, (sized (goal.at.bounds-s-6 c).In_ok-survey).long)

pub unit_of-unit-requires : goal.unit_of-unit-requires
unit_of-unit-requires c =
    (sized (goal.at.unit_of-unit-requires c).In_ok-survey).unit

pub bounds-survey-from : goal.bounds-survey-from
bounds-survey-from c =
    omega (arith, c.from.ensures, (key (goal.at.bounds-survey-from c).After-unit_of-unit).low)

pub keys_lost-requires : goal.keys_lost-requires
keys_lost-requires c =
    let k = key (goal.at.keys_lost-requires c).After-unit_of-unit in
    (k.low, first_check_read k.surveyed refl _ c.from.ensures (omega (arith, k.low)))

pub returns-then-keys_lost : goal.returns-then-keys_lost
returns-then-keys_lost c =
    lost (key (goal.at.returns-then-keys_lost c).After-unit_of-unit) (sym c.keys_lost.ensures ∙ c.if-keys_lost.true)

pub bounds-survey-from-2 : goal.bounds-survey-from-2
bounds-survey-from-2 c =
    omega (arith, (key (goal.at.bounds-survey-from-2 c).After-unit_of-unit).low)

pub listed_rank-rank-requires : goal.listed_rank-rank-requires
listed_rank-rank-requires c =
    let k = key (goal.at.listed_rank-rank-requires c).After-unit_of-unit in
    let kept = sym c.keys_lost.ensures ∙ c.if-keys_lost.false in
    let fill = listed_read k kept c.from-2.ensures in
    let first = first_check_read k.surveyed refl _ c.from.ensures (omega (arith, k.low)) in
    (record { sized = sought_sized k; unit = k.low; kept = kept }, first, fill.0, fill.1)

pub returns-then-n-rank : goal.returns-then-n-rank
returns-then-n-rank c =
    let k = key (goal.at.returns-then-n-rank c).After-unit_of-unit in
    let kept = sym c.keys_lost.ensures ∙ c.if-keys_lost.false in
    absent k kept (listed_read k kept c.from-2.ensures) c.listed_rank-rank.ensures.0 c.if-n-rank.true

pub gone-requires : goal.gone-requires
gone-requires c =
    let k = key (goal.at.gone-requires c).After-unit_of-unit in
    (sought_sized k, k.low, group_counted k (sym c.keys_lost.ensures ∙ c.if-keys_lost.false))

pub returns-then-gone : goal.returns-then-gone
returns-then-gone c =
    let k = key (goal.at.returns-then-gone c).After-unit_of-unit in
    let kept = sym c.keys_lost.ensures ∙ c.if-keys_lost.false in
    gone k kept (listed_read k kept c.from-2.ensures) c.listed_rank-rank.ensures.0 c.if-n-rank.false c.gone.ensures c.if-gone.true

pub invariant_of-result : goal.invariant_of-result
invariant_of-result c =
    let k = key (goal.at.invariant_of-result c).After-unit_of-unit in
    let kept = sym c.keys_lost.ensures ∙ c.if-keys_lost.false in
    record {
      there = rw (same_store (goal.at.invariant_of-result c).In_ok-survey) (there k kept (listed_read k kept c.from-2.ensures) c.listed_rank-rank.ensures.0 c.if-n-rank.false c.gone.ensures c.if-gone.false);
    }

pub returns : goal.returns
returns c =
    let k = key (goal.at.returns c).After-unit_of-unit in
    let kept = sym c.keys_lost.ensures ∙ c.if-keys_lost.false in
    let fill = listed_read k kept c.from-2.ensures in
    record {
      given = present k kept fill c.listed_rank-rank.ensures.0 c.if-n-rank.false c.gone.ensures c.if-gone.false;
      room = c.if-len-ne-FIELD.false;
      store = same_store (goal.at.returns c).In_ok-survey;
      placed = placed k kept fill c.listed_rank-rank.ensures.0 c.if-n-rank.false c.gone.ensures c.if-gone.false;
    }
