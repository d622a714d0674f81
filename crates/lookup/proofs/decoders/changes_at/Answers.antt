-- `lookup::decoders::changes_at` meets its contract.
use mathlib.Core.Path.{◌≡◌, ap, ◌∙◌}
use native.Mathlib.Omega.{arith}
use native.Mathlib.Numerals.{add-one}
use Rattle.model.specs.Layout.{view}
use Rattle.model.specs.StoreLaws.{size_of}
use Rattle.lookup.specs.Decoders.{ends_before, changes_at}
use Rattle.lookup.proofs.decoders.changes_at.Invariants.{end_by}
use Rattle.lookup.proofs.decoders.changes_at.Goals as goal

pub loop-p-init : goal.loop-p-init
unfolding end_by
loop-p-init c =
    size_of c.args.s.now

pub loop-p-preserved : goal.loop-p-preserved
unfolding end_by
loop-p-preserved c =
    let a = c.args in
    rw (add-one c.loop-p.p) (c.ends_before-end.ensures ∙ ap (ends_before (view a.s.now) a.g c.loop-p.p a.r) c.loop-p.invariant)

pub returns : goal.returns
unfolding end_by changes_at
returns c =
    let four : c.loop-p.p ≡ 4 = omega (arith, c.loop-p-test.false, c.loop-p.auto.p-end) in
    rw four at c.loop-p.invariant
