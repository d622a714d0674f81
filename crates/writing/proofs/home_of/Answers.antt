-- `writing::home_of` meets its contract. What is known at a place is said once, and the needs behind it use it.
use Prim.Native.Nat.{ℕ, ◌<◌}
use mathlib.Core.Bool.{Bool, true}
use mathlib.Core.List.{List}
use mathlib.Core.Path.{◌≡◌, refl, sym, ap, ◌∙◌}
use native.Mathlib.Omega.{arith}
use lib.Dec.{ltb}
use borrow.Author.Tests.{eq-eqb, ne_eqb, lt-ltb, le-ltb}
use Rattle.std.proofs.lemmas.Result.{err_from_is_err_and}
use Rattle.buffer.specs.Bytes.{byte}
use Rattle.buffer.specs.Choice.{pick}
use Rattle.buffer.specs.ChoiceLaws.{pick_true, pick-false}
use Rattle.model.specs.Units.{unit_of}
use Rattle.model.specs.Numbers.{first_of}
use Rattle.soundness.specs.Survey.{Surveyed}
use Rattle.soundness.specs.SurveyLaws.{found_sized, outs_read, fill_most}
use Rattle.lookup.specs.UnitLaws.{home_found}
use Rattle.writing.specs.Homes.{opening_rows}
use Rattle.soundness.specs.HandedLaws.{of_these, none_of}
use Rattle.writing.proofs.Homes.{Belongs, opening, located}
use Rattle.writing.proofs.home_of.Goals as goal
use Rattle.writing.proofs.home_of.Goals.{then-key-eq0-via-then-key-eq0, then-key-eq0-via-else-key-eq0+then-not-fits}

-- once the unit of the key is known
belongs : {s : List ℕ} {fills first_checks outs : List ℕ} {k u : ℕ} {fits : Bool} → Surveyed s true fills first_checks outs → (k ≡ 0 → ⊥) → fits ≡ true
    → (u ≡ unit_of (byte s 6) k) × (u < byte s 6) → Belongs s k fits u
belongs {k = k} e key fitting unit =
    record {
      key = ne_eqb k 0 key;
      fitting = fitting;
      tested = sym e.tested;
      home = home_found _ _ unit.0;
      low = omega (arith, unit.1, (found_sized e refl).units);
    }

-- ---- the needs
pub returns-then-key-eq0-clause-number : goal.returns-then-key-eq0-clause-number
unfolding first_of opening_rows pick
returns-then-key-eq0-clause-number c =
    elim c.then-key-eq0.branch [
      | then-key-eq0-via-then-key-eq0 w ↦ simp (eq-eqb _ _ w.if-key-eq0.true)
      | then-key-eq0-via-else-key-eq0+then-not-fits w ↦ simp (ne_eqb _ _ w.if-key-eq0.false, w.if-not-fits.true)
    ]

pub returns-in_err-survey-clause-number : goal.returns-in_err-survey-clause-number
unfolding first_of opening_rows pick
returns-in_err-survey-clause-number c =
    let p = err_from_is_err_and c.from_residual.result c.from_residual.ensures.1 in
    let none = none_of _ _ c.survey_of.result c.survey_of.ensures (sym c.ok_or.ensures.value ∙ c.in_err-survey.was) in
    rw (p.1, p.2, none.1) (simp (ne_eqb _ _ c.if-key-eq0.false, c.if-not-fits.false, none.0))

pub unit_of-unit-requires : goal.unit_of-unit-requires
unit_of-unit-requires c =
    let e = of_these _ c.survey_of.result c.survey_of.ensures (sym c.ok_or.ensures.value ∙ c.in_ok-survey.was) in
    (found_sized e refl).unit

pub bounds-outs-from : goal.bounds-outs-from
bounds-outs-from c =
    let e = of_these _ c.survey_of.result c.survey_of.ensures (sym c.ok_or.ensures.value ∙ c.in_ok-survey.was) in
    let key = belongs e c.if-key-eq0.false c.if-not-fits.false c.unit_of-unit.ensures in
    omega (arith, c.from.ensures, key.low)

pub returns-then-outs-from-gt0-clause-number : goal.returns-then-outs-from-gt0-clause-number
returns-then-outs-from-gt0-clause-number c =
    let e = of_these _ c.survey_of.result c.survey_of.ensures (sym c.ok_or.ensures.value ∙ c.in_ok-survey.was) in
    let key = belongs e c.if-key-eq0.false c.if-not-fits.false c.unit_of-unit.ensures in
    let outs = sym (outs_read e refl _ c.from.ensures (omega (arith, key.low))) in
    sym (opening key ∙ pick_true (ap (ltb 0) outs ∙ lt-ltb _ _ c.if-outs-from-gt0.true) _ _)

pub bounds-fills-from : goal.bounds-fills-from
bounds-fills-from c =
    let e = of_these _ c.survey_of.result c.survey_of.ensures (sym c.ok_or.ensures.value ∙ c.in_ok-survey.was) in
    let key = belongs e c.if-key-eq0.false c.if-not-fits.false c.unit_of-unit.ensures in
    omega (arith, key.low)

pub rank-rank-requires : goal.rank-rank-requires
rank-rank-requires c =
    let e = of_these _ c.survey_of.result c.survey_of.ensures (sym c.ok_or.ensures.value ∙ c.in_ok-survey.was) in
    let key = belongs e c.if-key-eq0.false c.if-not-fits.false c.unit_of-unit.ensures in
    (found_sized e refl, key.low, rw c.from-2.ensures (fill_most e c.unit_of-unit.result key.low))

pub returns-clause-number : goal.returns-clause-number
returns-clause-number c =
    let e = of_these _ c.survey_of.result c.survey_of.ensures (sym c.ok_or.ensures.value ∙ c.in_ok-survey.was) in
    let key = belongs e c.if-key-eq0.false c.if-not-fits.false c.unit_of-unit.ensures in
    let outs = sym (outs_read e refl _ c.from.ensures (omega (arith, key.low))) in
    sym (opening key ∙ pick-false (ap (ltb 0) outs ∙ le-ltb _ _ c.if-outs-from-gt0.false) _ _)

pub returns-clause-place : goal.returns-clause-place
returns-clause-place c =
    let e = of_these _ c.survey_of.result c.survey_of.ensures (sym c.ok_or.ensures.value ∙ c.in_ok-survey.was) in
    let key = belongs e c.if-key-eq0.false c.if-not-fits.false c.unit_of-unit.ensures in
    let outs = sym (outs_read e refl _ c.from.ensures (omega (arith, key.low))) in
    located key e (ap (ltb 0) outs ∙ le-ltb _ _ c.if-outs-from-gt0.false) c.from-2.ensures c.rank-rank.ensures.0

pub bounds-s-6 : goal.bounds-s-6
bounds-s-6 c =
    let e = of_these _ c.survey_of.result c.survey_of.ensures (sym c.ok_or.ensures.value ∙ c.in_ok-survey.was) in
    omega (arith, (found_sized e refl).long)
