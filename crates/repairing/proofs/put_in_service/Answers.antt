-- `repairing::put_in_service` meets its contract.
use native.Mathlib.Omega.{arith}
use mathlib.Core.Path.{sym, ◌∙◌}
use mathlib.Core.List.{map}
use lib.ListN.{length, length-map}
use borrow.Author.Rules.{rules}
use Rattle.buffer.specs.Bytes.{byte}
use Rattle.buffer.specs.RangeLaws.{entries_of}
use Rattle.buffer.specs.LoopWrites.{filling_start, filling_turn, filling_read, filling_end}
use Rattle.repairing.specs.Steps.{in_service}
use Rattle.repairing.proofs.Serving.{byte_served, served_out, served_in}
use Rattle.repairing.proofs.put_in_service.Goals as goal
use Rattle.repairing.proofs.put_in_service.Goals.{then-state-eq-OUT, else-state-eq-OUT}

pub loop-state-init : goal.loop-state-init
loop-state-init c =
    filling_start

pub loop-state-preserved : goal.loop-state-preserved
loop-state-preserved c =
    let l = c.loop-state in
    let read = filling_read l.invariant in
    elim c.if-state-eq-OUT.branch [
      | then-state-eq-OUT w ↦ rw w.states-is (filling_turn 1 l.invariant (search rules) (served_out _ (sym read ∙ w.if-state-eq-OUT.true)))
      | else-state-eq-OUT w ↦ rw w.states-is (filling_turn (byte l.states l.state-index) l.invariant (search rules)
          (read ∙ served_in _ (λ e. w.if-state-eq-OUT.false (read ∙ e))))
    ]

pub returns : goal.returns
returns c =
    let l = c.args.states.now in
    filling_end c.loop-state.invariant (omega arith) ∙ sym (entries_of (map in_service l) (length l) _ (length-map l in_service) (λ k _. byte_served l k))
