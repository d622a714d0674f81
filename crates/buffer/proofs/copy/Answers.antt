-- `buffer::copy` meets its contract.
use mathlib.Core.Path.{refl, sym, ◌∙◌}
use native.Mathlib.Omega.{arith}
use lib.ListN.{length}
use borrow.Author.Rules.{rules}
use Rattle.buffer.specs.RangeLaws.{entries_of}
use Rattle.buffer.specs.LoopWrites.{filling_start, filling_turn, filling_end}
use Rattle.buffer.proofs.copy.Goals as goal

pub loop-i-init : goal.loop-i-init
loop-i-init c =
    filling_start

pub loop-i-preserved : goal.loop-i-preserved
loop-i-preserved c =
    filling_turn _ c.loop-i.invariant (search rules) refl

pub returns : goal.returns
returns c =
    let a = c.args in
    filling_end c.loop-i.invariant (omega arith) ∙ sym (entries_of a.from.now (length a.into.now) _ (omega arith) (λ k l. refl))
