-- `soundness::few::count_units` meets its contract.
use Prim.Native.Nat.{◌<◌, ◌≤◌}
use mathlib.Core.Path.{refl, sym, ap, ◌∙◌}
use mathlib.Core.Bool.{true, ◌&&◌}
use native.Mathlib.Omega.{arith}
use Rattle.buffer.specs.Bytes.{byte}
use Rattle.buffer.specs.Loops.{entries}
use Rattle.buffer.specs.LoopTests.{passing_end}
use Rattle.soundness.specs.Keys.{own_keys}
use Rattle.soundness.specs.Pieces.{beside_keys, served_or_lost, unit_fill, none_behind}
use Rattle.soundness.proofs.Told.{missed, further}
use Rattle.soundness.proofs.Counting.{unit_fill_most, tallying_start, tallying_turn, tallying_fail, tallying_end, uncounted, counted}
use Rattle.soundness.proofs.UnitCounts.{few_law}
use Rattle.soundness.proofs.few.count_units.Goals as goal

pub loop-u-init : goal.loop-u-init
unfolding entries
loop-u-init c =
    tallying_start refl

pub returns-in_err-n : goal.returns-in_err-n
returns-in_err-n c =
    let s = c.args.header.store.now in
    let u = c.loop-u.u in
    let l : u < byte s 6 = omega (arith, c.loop-u-test.true, c.units-u-end.ensures) in
    let count = rw (c.unit-unit.ensures.0, c.unit-unit.ensures.1) at c.unit_count.ensures in
    let bad = missed (unit_fill s u) (served_or_lost s u && own_keys (byte s 6) u (unit_fill s u) (beside_keys s u)) (none_behind s u (unit_fill s u))
    (few_law s u) count c.in_err-n.was in
    c.from_residual.ensures ∙ uncounted s (tallying_fail c.args.header.ranged c.loop-u.invariant l bad)

pub none_behind-requires : goal.none_behind-requires
none_behind-requires c =
    let s = c.args.header.store.now in
    let u = c.loop-u.u in
    let count = rw (c.unit-unit.ensures.0, c.unit-unit.ensures.1) at c.unit_count.ensures in
    let good = further (unit_fill s u) (served_or_lost s u && own_keys (byte s 6) u (unit_fill s u) (beside_keys s u)) (none_behind s u (unit_fill s u))
    (few_law s u) count c.in_ok-n.was in
    rw c.unit-unit.ensures.0 (omega (arith, good.0, unit_fill_most s u))

pub returns-then-not-none_behind : goal.returns-then-not-none_behind
returns-then-not-none_behind c =
    let s = c.args.header.store.now in
    let u = c.loop-u.u in
    let l : u < byte s 6 = omega (arith, c.loop-u-test.true, c.units-u-end.ensures) in
    let count = rw (c.unit-unit.ensures.0, c.unit-unit.ensures.1) at c.unit_count.ensures in
    let behind = rw (c.unit-unit.ensures.0, c.unit-unit.ensures.1) at c.none_behind.ensures in
    let good = further (unit_fill s u) (served_or_lost s u && own_keys (byte s 6) u (unit_fill s u) (beside_keys s u)) (none_behind s u (unit_fill s u))
    (few_law s u) count c.in_ok-n.was in
    uncounted s (tallying_fail c.args.header.ranged c.loop-u.invariant l
    (sym good.1 ∙ ap (none_behind s u) (sym good.0) ∙ sym behind ∙ c.if-not-none_behind.true))

pub loop-u-preserved : goal.loop-u-preserved
loop-u-preserved c =
    let s = c.args.header.store.now in
    let u = c.loop-u.u in
    let l : u < byte s 6 = omega (arith, c.loop-u-test.true, c.units-u-end.ensures) in
    let count = rw (c.unit-unit.ensures.0, c.unit-unit.ensures.1) at c.unit_count.ensures in
    let behind = rw (c.unit-unit.ensures.0, c.unit-unit.ensures.1) at c.none_behind.ensures in
    let good = further (unit_fill s u) (served_or_lost s u && own_keys (byte s 6) u (unit_fill s u) (beside_keys s u)) (none_behind s u (unit_fill s u))
    (few_law s u) count c.in_ok-n.was in
    tallying_turn c.args.header.ranged c.loop-u.invariant l c.from.ensures
    (sym good.1 ∙ ap (none_behind s u) (sym good.0) ∙ sym behind ∙ c.if-not-none_behind.false) good.0

pub returns : goal.returns
returns c =
    let whole = c.loop-u.invariant in
    let l : byte c.args.header.store.now 6 ≤ c.loop-u.u = omega (arith, c.loop-u-test.false, c.units-u-end.ensures) in
    counted _ true (passing_end whole.passing l) (tallying_end c.args.header.ranged whole l)
