-- `soundness::keys::own_rows` meets its contract.
use native.Mathlib.Omega.{arith}
use Rattle.buffer.specs.LoopTests.{passing_start, passing_turn, passing_fail, passing_end}
use Rattle.soundness.proofs.Masks.{mask_small}
use mathlib.Core.Path.{sym, ◌∙◌}
use Rattle.soundness.proofs.keys.own_rows.Goals as goal

pub loop-r-init : goal.loop-r-init
loop-r-init c =
    passing_start

pub invariant_of-row : goal.invariant_of-row
invariant_of-row c =
    record {
      masks =
          record {
            one = c.mask_of.ensures;
            two = c.mask_of-2.ensures;
            three = c.mask_of-3.ensures;
            four = c.mask_of-4.ensures;
            low = λ p. mask_small _ p c.requires.1 c.requires.2;
          };
    }

pub owns-requires : goal.owns-requires
owns-requires c =
    let inside = c.loop-r-test.true in omega (arith, c.requires.0, inside)

pub returns-then-not-owns : goal.returns-then-not-owns
returns-then-not-owns c =
    passing_fail c.loop-r.invariant c.loop-r-test.true (sym c.owns.ensures ∙ c.if-not-owns.true)

pub loop-r-preserved : goal.loop-r-preserved
loop-r-preserved c =
    passing_turn c.loop-r.invariant c.loop-r-test.true (sym c.owns.ensures ∙ c.if-not-owns.false)

pub returns : goal.returns
returns c =
    passing_end c.loop-r.invariant c.loop-r-test.false
