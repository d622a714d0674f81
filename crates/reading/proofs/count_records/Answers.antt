-- `reading::count_records` meets its contract.
use Rattle.std.proofs.Common.{◌≡◌, ◌∙◌, sym, refl, true, arith}
use Rattle.std.proofs.lemmas.Result.{err_from_is_err_and}
use Rattle.model.specs.Layout.{view}
use Rattle.model.specs.Reads.{total_in}
use Rattle.soundness.specs.Survey.{Surveyed}
use Rattle.soundness.specs.SurveyLaws.{found_sized, outs_read, group_counts, first_check_read}
use Rattle.lookup.specs.Groups.{Whole}
use Rattle.lookup.specs.GroupLaws.{safe_store}
use Rattle.soundness.specs.HandedLaws.{of_store, of_these, none_of}
use Rattle.reading.proofs.Verdicts.{fills_total, total_small, list_unsound, list_lost, list_short, list_fits}
use Rattle.reading.proofs.count_records.Goals as goal
use Rattle.reading.proofs.count_records.Goals.{In_ok-survey, Else-lost, After-total-count}

pub returns-in_err-survey : goal.returns-in_err-survey
returns-in_err-survey c =
    let p = err_from_is_err_and c.from_residual.result c.from_residual.ensures.1 in
    let no = none_of _ _ _ c.survey_of.ensures (sym c.in_err-survey.ensures.value) in
    rw (p.1, p.2, no.1) (list_unsound _ _ no.0)

-- ---- what is known behind the survey, and behind the sum
same_store : (c : In_ok-survey) → c.in_ok-survey.survey.store.now ≡ c.args.s.now
same_store c = of_store _ _ c.survey_of.ensures (sym c.in_ok-survey.ensures.value)

here : (c : In_ok-survey) → Surveyed c.args.s.now true c.in_ok-survey.survey.fills c.in_ok-survey.survey.first_checks c.in_ok-survey.survey.outs
here c = of_these _ _ c.survey_of.ensures (sym c.in_ok-survey.ensures.value)

whole : (c : Else-lost) → Whole c.args.s.now
whole c = safe_store (found_sized (of_these _ _ c.survey_of.ensures (sym c.in_ok-survey.ensures.value)) refl) (sym c.lost.ensures ∙ c.if-lost.false)

all_in : (c : After-total-count) → c.total-count.result ≡ total_in (view c.args.s.now)
all_in c =
    let at = of_these _ _ c.survey_of.ensures (sym c.in_ok-survey.ensures.value) in
    c.total-count.ensures ∙ fills_total at (safe_store (found_sized at refl) (sym c.lost.ensures ∙ c.if-lost.false))

pub lost-requires : goal.lost-requires
lost-requires c =
    let survey = here (goal.at.lost-requires c).In_ok-survey in
    (found_sized survey refl, λ g l. (outs_read survey refl g refl l, group_counts survey refl g l, first_check_read survey refl g refl l))

pub returns-then-lost : goal.returns-then-lost
returns-then-lost c =
    list_lost _ _ (sym (here (goal.at.returns-then-lost c).In_ok-survey).tested) (sym c.lost.ensures ∙ c.if-lost.true)

pub total-count-requires : goal.total-count-requires
total-count-requires c =
    let at = goal.at.total-count-requires c in
    total_small (here at.In_ok-survey) (whole at.Else-lost)

pub overflow_mul-count : goal.overflow_mul-count
overflow_mul-count c =
    let at = goal.at.overflow_mul-count c in
    omega (arith, total_small (here at.In_ok-survey) (whole at.Else-lost), c.total-count.ensures)

pub returns-then-len-count : goal.returns-then-len-count
returns-then-len-count c =
    let at = goal.at.returns-then-len-count c in
    list_short _ _ (sym (here at.In_ok-survey).tested) (sym c.lost.ensures ∙ c.if-lost.false) (omega (arith, c.if-len-count.true, all_in at.After-total-count))

pub invariant_of-result : goal.invariant_of-result
invariant_of-result c =
    let at = goal.at.invariant_of-result c in
    rw (same_store at.In_ok-survey) (record { whole = whole at.Else-lost; counted = all_in at.After-total-count })

pub returns : goal.returns
returns c =
    let at = goal.at.returns c in
    let fits = list_fits _ _ (sym (here at.In_ok-survey).tested) (sym c.lost.ensures ∙ c.if-lost.false) (omega (arith, c.if-len-count.false, all_in at.After-total-count)) in
    record { given = fits; store = same_store at.In_ok-survey; room = c.if-len-count.false }
