-- A sound store stays sound: whatever a call's arguments, and whatever the store's fields and parity bytes, the store that the call leaves is sound
-- again. It need not come from a history. What the types give (a key has 32 bits, a slice holds bytes) is the only side condition.
use Rattle.std.specs.Prelude.{ℕ, ◌≡◌, List, true}
use Rattle.model.specs.Sound.{sound}
use Rattle.model.specs.history.Typed.{Bytes}
use Rattle.model.specs.history.Steps.{Step, perform_step, StepTyped}

abbrev pub StaysSound : Type 0
StaysSound = (s : List ℕ) → Bytes s → sound s ≡ true → (x : Step) → StepTyped x → sound (perform_step s x).store ≡ true
