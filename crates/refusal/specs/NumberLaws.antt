-- No refusal has the number 0.
use Rattle.std.specs.Prelude.{◌≡◌, eqb, false}
use Rattle.std.proofs.Math.Path.{refl}
use Rattle.refusal.specs.declared.Refusal.{Refusal}
use Rattle.refusal.specs.declared.Refusal.TheVariants.{NotSound, BadArgument, NotInPlace, UnitOut, KeyTaught, KeyNotTaught, NoRoom, BeyondRecovery, AtTheLimit, NotThePlan}
use Rattle.refusal.specs.Number.{code}

pub refused : (refusal : Refusal) → eqb (code refusal) 0 ≡ false
refused NotSound = refl
refused BadArgument = refl
refused NotInPlace = refl
refused UnitOut = refl
refused KeyTaught = refl
refused KeyNotTaught = refl
refused NoRoom = refl
refused BeyondRecovery = refl
refused AtTheLimit = refl
refused NotThePlan = refl
