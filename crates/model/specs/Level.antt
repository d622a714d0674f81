-- Document 02, request 1: the level is the number of check units that every group in place has, in every sound store; and two users with equally many
-- raises granted since their layouts find equally many check units in every group in place.
use Rattle.std.specs.Prelude.{ℕ, suc, ◌*◌, ◌<◌, ◌≡◌, List, true}
use Rattle.model.specs.Layout.{Store, view, units_in, level_in}
use Rattle.model.specs.Reads.{state_in, checks_in}
use Rattle.model.specs.Sound.{sound}
use Rattle.model.specs.Numbers.{raise, number_in}
use Rattle.model.specs.Perform.{lay_out_number}
use Rattle.model.specs.MadeAnew.{left_by}
use Rattle.model.specs.history.Runs.{unit_in, raises_in}
use Rattle.model.specs.history.Steps.{Step, StepsTyped}
use Rattle.model.specs.history.Claims.{laid, calls, left}

-- each group in place has the same number n of check units
abbrev pub EachGroupHas : Store → ℕ → Type 0
EachGroupHas v n = (g : ℕ) → 4 * g < units_in v → checks_in v g ≡ n

-- what a granted raise leaves: the level is one more; a unit in service stays in service, and keeps its bytes, wrong parity included
pub record Raised (s : List ℕ) : Type 0 where
  pub level : level_in (left_by s raise) ≡ suc (level_in (view s))
  pub serves : (w : ℕ) → w < 28 → state_in (view s) w ≡ 1 → state_in (left_by s raise) w ≡ 1
  pub holds : (w : ℕ) → w < 28 → state_in (view s) w ≡ 1 → unit_in (left_by s raise) w ≡ unit_in (view s) w

pub record LevelEverywhere : Type 0 where
  pub in_sound_stores : (s : List ℕ) → sound s ≡ true → EachGroupHas (view s) (level_in (view s))
  pub raised : (s : List ℕ) → number_in s raise ≡ 0 → Raised s
  -- one check unit, and one more for each raise granted since the layout
  pub in_histories : (s : List ℕ) (b : ℕ) (xs : List Step) → lay_out_number s b ≡ 0 → StepsTyped xs
      → EachGroupHas (view (left s b xs)) (suc (raises_in (laid s b xs) (calls s b xs)))
  pub equal_raises : (s t : List ℕ) (b d : ℕ) (xs ys : List Step) → lay_out_number s b ≡ 0 → lay_out_number t d ≡ 0 → StepsTyped xs → StepsTyped ys
      → raises_in (laid s b xs) (calls s b xs) ≡ raises_in (laid t d ys) (calls t d ys)
      → (g h : ℕ) → 4 * g < units_in (view (left s b xs)) → 4 * h < units_in (view (left t d ys))
      → checks_in (view (left s b xs)) g ≡ checks_in (view (left t d ys)) h
