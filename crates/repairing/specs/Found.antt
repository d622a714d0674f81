-- What a look at a group for its repair answers: its refusal, or what the repair goes by.
use Rattle.std.specs.Prelude.{ℕ, ◌≡◌, List, Result, Ok, Err}
use Rattle.model.specs.Layout.{view}
use Rattle.model.specs.Reads.{first_check}
use Rattle.model.specs.Sound.{sound}
use Rattle.model.specs.Numbers.{repair, first_of, refusals_in}
use Rattle.lookup.specs.Groups.{Counts}
use Rattle.refusal.specs.Number.{code}
use Rattle.refusal.specs.declared.Refusal.{Refusal}
use Rattle.repairing.specs.declared.Degraded.{Degraded}
use Rattle.repairing.specs.Groups.{Repairable}

-- x tells of its group in the store s, which is not beyond recovery
pub record Known (s : List ℕ) (x : Degraded) : Type 0 where
  pub near : Repairable s x.group
  pub counts : Counts s x.group x.fills
  pub first : x.check ≡ first_check (view s) x.group

-- a repair of group g is granted, and x tells of it
pub record Found (s : List ℕ) (g : ℕ) (x : Degraded) : Type 0 where
  pub given : 0 ≡ first_of (refusals_in (sound s) (view s) (repair g))
  pub group : x.group ≡ g
  pub known : Known s x

abbrev pub Verdict : List ℕ → ℕ → Result Degraded Refusal → Type 0
Verdict s g (Err refusal) = code refusal ≡ first_of (refusals_in (sound s) (view s) (repair g))
Verdict s g (Ok x) = Found s g x
