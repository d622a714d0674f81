-- `group::times` meets its contract.
use mathlib.Core.Path.{sym}
use borrow.Author.Rules.{rules}
use Rattle.code.specs.ScalingLaws.{scale_one}
use Rattle.group.proofs.times.Goals as goal

pub returns-then-symbol-eq1 : goal.returns-then-symbol-eq1
returns-then-symbol-eq1 c =
    rw c.if-symbol-eq1.true (sym (scale_one c.args.b (search rules)))
