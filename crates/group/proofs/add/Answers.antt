-- `group::add` meets its contract.
use mathlib.Core.Path.{refl, sym, ap₂, ◌∙◌}
use native.Mathlib.Omega.{arith}
use lib.Bits.{bit_xor}
use borrow.Author.Rules.{rules}
use Rattle.buffer.specs.LoopWrites.{filling_start, filling_turn, filling_read, filling_end}
use Rattle.group.specs.BodyLaws.{add_entries}
use Rattle.group.proofs.add.Goals as goal

pub loop-i-init : goal.loop-i-init
loop-i-init c =
    filling_start

pub loop-i-preserved : goal.loop-i-preserved
loop-i-preserved c =
    let inv = c.loop-i.invariant in
    filling_turn _ inv (search rules) (ap₂ bit_xor (filling_read inv) refl)

pub returns : goal.returns
returns c =
    let a = c.args in
    filling_end c.loop-i.invariant (omega arith) ∙ sym (add_entries a.into.now a.x.now (search rules))
