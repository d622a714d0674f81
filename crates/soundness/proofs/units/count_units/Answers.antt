-- `soundness::units::count_units` meets its contract.
use Prim.Native.Nat.{◌<◌, ◌≤◌}
use mathlib.Core.Path.{refl, sym, ap, ◌∙◌}
use mathlib.Core.Bool.{true, ◌&&◌}
use native.Mathlib.Omega.{arith}
use Rattle.buffer.specs.Bytes.{byte}
use Rattle.buffer.specs.Loops.{entries}
use Rattle.buffer.specs.LoopTests.{passing_end}
use Rattle.buffer.specs.Range.{all}
use Rattle.buffer.specs.TestLaws.{and_false_first}
use Rattle.soundness.specs.Keys.{any_keys}
use Rattle.soundness.specs.Pieces.{beside_keys, served_or_lost, unit_fill, own_listed}
use Rattle.soundness.proofs.Told.{missed, further}
use Rattle.soundness.proofs.Counting.{both_good, tallying_start, tallying_turn, tallying_fail, tallying_end, uncounted, counted}
use Rattle.soundness.proofs.UnitCounts.{marks_law}
use Rattle.soundness.proofs.units.count_units.Goals as goal

pub loop-u-init : goal.loop-u-init
unfolding entries
loop-u-init c =
    tallying_start refl

pub returns-in_err-n : goal.returns-in_err-n
returns-in_err-n c =
    let s = c.args.header.store.now in
    let u = c.loop-u.u in
    let l : u < byte s 6 = omega (arith, c.loop-u-test.true, c.units-u-end.ensures) in
    let count = rw (c.unit.ensures.0, c.unit.ensures.1) at c.unit_count.ensures in
    let bad = missed (unit_fill s u) (served_or_lost s u && any_keys (byte s 6) u (unit_fill s u) (beside_keys s u)) true (marks_law s u) count c.in_err-n.was in
    c.from_residual.ensures
    ∙ uncounted s (sym (both_good s) ∙ and_false_first (tallying_fail c.args.header.ranged c.loop-u.invariant l bad) (all (byte s 6) (own_listed s)))

pub loop-u-preserved : goal.loop-u-preserved
loop-u-preserved c =
    let s = c.args.header.store.now in
    let u = c.loop-u.u in
    let l : u < byte s 6 = omega (arith, c.loop-u-test.true, c.units-u-end.ensures) in
    let count = rw (c.unit.ensures.0, c.unit.ensures.1) at c.unit_count.ensures in
    let good = further (unit_fill s u) (served_or_lost s u && any_keys (byte s 6) u (unit_fill s u) (beside_keys s u)) true (marks_law s u) count c.in_ok-n.was in
    tallying_turn c.args.header.ranged c.loop-u.invariant l c.from.ensures (sym good.1) good.0

pub all_own-requires : goal.all_own-requires
all_own-requires c =
    tallying_end c.args.header.ranged c.loop-u.invariant (omega (arith, c.loop-u-test.false, c.units-u-end.ensures))

pub returns : goal.returns
returns c =
    let s = c.args.header.store.now in
    let whole = c.loop-u.invariant in
    let l : byte c.args.header.store.now 6 ≤ c.loop-u.u = omega (arith, c.loop-u-test.false, c.units-u-end.ensures) in
    c.then_some.ensures
    ∙ counted s _ (c.all_own.ensures ∙ ap (λ t. t && all (byte s 6) (own_listed s)) (passing_end whole.passing l) ∙ both_good s)
    (tallying_end c.args.header.ranged whole l)
