-- `soundness::keys::no_keys` meets its contract.
use mathlib.Core.Path.{ap, ◌∙◌}
use lib.Dec.{eqb}
use Rattle.buffer.specs.ByteOrderLaws.{le_be_zero}
use Rattle.buffer.specs.LoopTests.{gathering_behind, gathering_behind_turn, gathering_end}
use Rattle.buffer.specs.Strided.{strided32}
use Rattle.soundness.specs.Keys.{turned_keys, no_keys}
use Rattle.soundness.proofs.keys.no_keys.Goals as goal

pub loop-r-init : goal.loop-r-init
loop-r-init c =
    gathering_behind c.requires

pub loop-r-preserved : goal.loop-r-preserved
unfolding turned_keys strided32
loop-r-preserved c =
    gathering_behind_turn c.turned_key-any.result c.loop-r.invariant c.loop-r-test.true
    (ap (λ k. eqb k 0) c.turned_key-any.ensures ∙ le_be_zero _ c.args.list.octets.below _)

pub returns : goal.returns
unfolding no_keys
returns c =
    gathering_end c.loop-r.invariant.gathering c.loop-r-test.false
