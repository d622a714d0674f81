-- `coder::rebuild` meets its contract: the tests of the definition, in its order.
use mathlib.Core.Path.{◌≡◌, sym, ap, ◌∙◌, subst}
use Rattle.std.specs.Prelude.{Option, Some, None, Result, Ok, Err, IfSome, IfNone, IsErrAnd, ℕ, ◌≤◌, length, take}
use Rattle.std.specs.Option.{ok_or}
use Rattle.refusal.specs.Number.{code, number}
use Rattle.refusal.specs.declared.Refusal.{Refusal}
use Rattle.coder.specs.Segment.{chosen, ending}
use Rattle.coder.specs.MemberLaws.{fitting}
use Rattle.coder.specs.declared.marks.Points.{Points}
use Rattle.coder.proofs.Verdicts.{refused_sizes, refused_marks, refused_few, rebuilt}
use Rattle.coder.proofs.rebuild.Goals as goal
use Rattle.coder.proofs.rebuild.Goals.{then-not-sizes_fit-via-then-not-sizes_fit, then-not-sizes_fit-via-else-not-sizes_fit+then-not-marks_fit}

-- what is said of the points, or where there are none, by the result that `ok_or` makes of them
found : (P : Points → Type 0) (o : Option Points) (r : Refusal) (points : Points) → IfSome o P → Ok points ≡ ok_or o r → P points
found P (Some p) r points h e = let same : p ≡ points = cc in subst P same h
found P None r points h e = cc

missed : {Q : Type 0} (o : Option Points) (r e : Refusal) → IfNone o Q → Err e ≡ ok_or o r → Q × (e ≡ r)
missed (Some p) r e h q = cc
missed None r e h q = (h, cc)

refused : (a : Result (Unit {0}) Refusal) (e : Refusal) → IsErrAnd a (λ x. x ≡ e) → number a ≡ code e
refused (Ok u) e h = absurd h
refused (Err x) e h = ap code h

pub returns-then-not-sizes_fit : goal.returns-then-not-sizes_fit
returns-then-not-sizes_fit c =
    elim c.then-not-sizes_fit.branch [
      | then-not-sizes_fit-via-then-not-sizes_fit w ↦ refused_sizes _ _ _ (sym c.sizes_fit.ensures ∙ w.if-not-sizes_fit.true)
      | then-not-sizes_fit-via-else-not-sizes_fit+then-not-marks_fit w ↦ refused_marks _ _ _ (sym w.marks_fit.ensures ∙ w.if-not-marks_fit.true)
    ]

pub first_present-requires : goal.first_present-requires
first_present-requires c = let f = fitting _ _ _ (sym c.sizes_fit.ensures ∙ c.if-not-sizes_fit.false) in (f.group, f.few)

pub returns-in_err-points : goal.returns-in_err-points
returns-in_err-points c =
    let few = missed _ _ _ c.first_present.ensures.few c.in_err-points.ensures.value in
    ap (λ (n : ℕ). ending n c.args.members.now c.args.marks.now) (refused _ _ c.from_residual.ensures.1 ∙ ap code few.1)
    ∙ refused_few _ _ _ (sym c.sizes_fit.ensures ∙ c.if-not-sizes_fit.false) (sym c.marks_fit.ensures ∙ c.if-not-marks_fit.false) few.0

pub rebuild_from-requires : goal.rebuild_from-requires
rebuild_from-requires c =
    let ps = c.in_ok-points.points in
    let some = found (λ (p : Points). (p.m ≡ c.args.m) × (take c.args.m p.list ≡ chosen c.args.m c.args.marks.now)) _ _ _ c.first_present.ensures.found
    c.in_ok-points.ensures.value in
    rw some.0 (fitting _ _ _ (sym c.sizes_fit.ensures ∙ c.if-not-sizes_fit.false), some.1)

pub returns : goal.returns
returns c =
    let ps = c.in_ok-points.points in
    let some = found (λ (p : Points). (p.m ≡ c.args.m) × (take c.args.m p.list ≡ chosen c.args.m c.args.marks.now)) _ _ _ c.first_present.ensures.found
    c.in_ok-points.ensures.value in
    let long : c.args.m ≤ length ps.list = rw (← some.0) ps.small.long in
    let done = rw some.0 at c.rebuild_from.ensures in
    rebuilt _ _ _ (sym c.sizes_fit.ensures ∙ c.if-not-sizes_fit.false) (sym c.marks_fit.ensures ∙ c.if-not-marks_fit.false)
    ps.list _ _ long some.1 done.0 done.1
