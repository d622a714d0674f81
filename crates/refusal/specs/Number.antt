-- The number of document 01's table that each refusal has, and that of an answer: 0 where the call is granted.
use Rattle.std.specs.Prelude.{ℕ, Result, Ok, Err}
use Rattle.refusal.specs.declared.Refusal.{Refusal}
use Rattle.refusal.specs.declared.Refusal.TheVariants.{NotSound, BadArgument, NotInPlace, UnitOut, KeyTaught, KeyNotTaught, NoRoom, BeyondRecovery, AtTheLimit, NotThePlan}

abbrev pub code : Refusal → ℕ
code NotSound = 1
code BadArgument = 2
code NotInPlace = 3
code UnitOut = 4
code KeyTaught = 5
code KeyNotTaught = 6
code NoRoom = 7
code BeyondRecovery = 8
code AtTheLimit = 9
code NotThePlan = 11

abbrev pub number : {A : Type 0} → Result A Refusal → ℕ
number (Ok _) = 0
number (Err refusal) = code refusal

-- how many an answer counts: none where the call is refused
abbrev pub count : Result ℕ Refusal → ℕ
count (Ok n) = n
count (Err _) = 0
