-- `soundness::keys::own_keys` meets its contract.
use mathlib.Core.Path.{◌∙◌}
use native.Mathlib.Omega.{arith}
use Rattle.buffer.specs.LoopTests.{gathering_behind, gathering_behind_turn, gathering_end}
use Rattle.soundness.specs.Keys.{own_from}
use Rattle.soundness.proofs.Masks.{mask_small, own_test}
use Rattle.soundness.proofs.Turned.{own_from_turned}
use Rattle.soundness.proofs.keys.own_keys.Goals as goal

pub loop-r-init : goal.loop-r-init
loop-r-init c =
    gathering_behind c.requires.1

pub turned_key-requires : goal.turned_key-requires
turned_key-requires c =
    omega (arith, c.loop-r-test.true, c.requires.0)

pub astray-any-requires : goal.astray-any-requires
astray-any-requires c =
    let asked = c.requires in
    rw c.mask_of-mask.ensures (mask_small _ _ asked.2 asked.3)

pub loop-r-preserved : goal.loop-r-preserved
loop-r-preserved c =
    let own = own_test _ _ c.mask_of-mask.ensures c.from-unit.ensures c.turned_key.ensures c.astray-any.ensures in
    gathering_behind_turn c.astray-any.result c.loop-r.invariant c.loop-r-test.true own

pub returns : goal.returns
unfolding own_from
returns c =
    gathering_end c.loop-r.invariant.gathering c.loop-r-test.false
    ∙ own_from_turned _ c.args.list.octets.below _ _ _ _ _ _
