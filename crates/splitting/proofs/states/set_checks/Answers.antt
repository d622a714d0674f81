-- `splitting::states::set_checks` meets its contract.
use Prim.Native.Nat.{◌+◌}
use mathlib.Core.Bool.{Bool, true, false}
use mathlib.Core.Path.{◌≡◌, refl, ap, ◌∙◌}
use mir.Val.{bool_byte}
use Rattle.buffer.specs.Choice.{pick}
use Rattle.splitting.proofs.Places.{setting_start, setting_turn}
use Rattle.splitting.proofs.states.set_checks.Goals as goal

byte_of : (t : Bool) → bool_byte t ≡ pick t 1 0
unfolding pick
byte_of true = refl
byte_of false = refl

pub loop-j-init : goal.loop-j-init
loop-j-init c =
    setting_start _ _ c.requires.0 _

pub loop-j-preserved : goal.loop-j-preserved
loop-j-preserved c =
    setting_turn _ _ c.requires.0 _ _ _ _ c.requires.1 c.loop-j-test.true (ap (λ x. 24 + x) c.from-in-loop-j.ensures) (c.from.ensures ∙ byte_of _) c.loop-j.invariant
