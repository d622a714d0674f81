-- `soundness::keys::is_new` meets its contract.
use Prim.Native.Nat.{◌+◌, ◌≤◌}
use mathlib.Core.Bool.{not}
use mathlib.Core.Path.{◌≡◌, refl, ap, ◌∙◌}
use native.Mathlib.Omega.{arith}
use lib.ListN.{length}
use Rattle.buffer.specs.TestLaws.{is_eq, is_ne}
use Rattle.buffer.specs.ByteOrder.{le32}
use Rattle.soundness.specs.Keys.{is_new, turned_keys}
use Rattle.soundness.specs.KeyLists.{turned_of}
use Rattle.soundness.proofs.Stepping.{still_fits, stepping_start, rank_before_lem, stepping_turn, stepping_fail, stepping_end}
use Rattle.soundness.proofs.keys.is_new.Goals as goal

pub loop-q-init : goal.loop-q-init
loop-q-init c =
    stepping_start

pub low32-requires : goal.low32-requires
low32-requires c =
    let fits : c.loop-q.q + 4 ≤ length c.args.list.bytes.now = let inv = c.loop-q.invariant in
    let before = rank_before_lem inv c.requires.1 c.args.list.forward c.loop-q-test.true in
    still_fits inv.at (c.args.list.within.fits inv.rank (omega (arith, before, c.requires.0))) in
    fits

pub returns-then-low32-k : goal.returns-then-low32-k
unfolding is_new turned_keys
returns-then-low32-k c =
    let read : c.low32.result ≡ turned_of c.args.list c.loop-q.invariant.rank = c.low32.ensures ∙ ap (le32 c.args.list.bytes.now) c.loop-q.invariant.at in
    stepping_fail c.loop-q.invariant c.requires.1 c.args.list.forward c.loop-q-test.true (ap not (is_eq read refl c.if-low32-k.true))

pub overflow_add-q : goal.overflow_add-q
overflow_add-q c =
    let fits : c.loop-q.q + 4 ≤ length c.args.list.bytes.now = let inv = c.loop-q.invariant in
    let before = rank_before_lem inv c.requires.1 c.args.list.forward c.loop-q-test.true in
    still_fits inv.at (c.args.list.within.fits inv.rank (omega (arith, before, c.requires.0))) in
    omega (arith, fits, c.args.list.narrow)

pub loop-q-smaller : goal.loop-q-smaller
loop-q-smaller c =
    let some = c.args.list.forward in
    let l = c.loop-q-test.true in
    omega (arith, some, l)

pub loop-q-preserved : goal.loop-q-preserved
unfolding turned_keys
loop-q-preserved c =
    let read : c.low32.result ≡ turned_of c.args.list c.loop-q.invariant.rank = c.low32.ensures ∙ ap (le32 c.args.list.bytes.now) c.loop-q.invariant.at in
    stepping_turn c.loop-q.invariant c.requires.1 c.args.list.forward c.loop-q-test.true (ap not (is_ne read refl c.if-low32-k.false))

pub returns : goal.returns
unfolding is_new
returns c =
    stepping_end c.loop-q.invariant c.requires.1 c.args.list.forward c.loop-q-test.false
