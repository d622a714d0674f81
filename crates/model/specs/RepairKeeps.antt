-- What a repair leaves alone, and what it puts in service, in any bytes.
use Rattle.std.specs.Prelude.{ℕ, ◌*◌, ◌<◌, ◌≡◌, List, true}
use Rattle.model.specs.Layout.{view, units_in}
use Rattle.model.specs.Reads.{state_in, outs_in}
use Rattle.model.specs.Sound.{sound}
use Rattle.model.specs.Numbers.{repair, number_in}
use Rattle.model.specs.Perform.{plain, outcome, perform}
use Rattle.model.specs.MadeAnew.{left_by}
use Rattle.model.specs.history.Ledger.{group_of}
use Rattle.model.specs.history.Runs.{unit_in}

pub record RepairKeeps (s : List ℕ) (g : ℕ) : Type 0 where
  -- a unit in service stays in service, and keeps its bytes
  pub serves : (w : ℕ) → w < 28 → state_in (view s) w ≡ 1 → state_in (left_by s (repair g)) w ≡ 1
  pub holds : (w : ℕ) → w < 28 → state_in (view s) w ≡ 1 → unit_in (left_by s (repair g)) w ≡ unit_in (view s) w
  -- a granted repair puts every out unit of the group in service
  pub restored : number_in s (repair g) ≡ 0 → (w : ℕ) → w < 28 → group_of w ≡ g → state_in (view s) w ≡ 2 → state_in (left_by s (repair g)) w ≡ 1
  -- of a group in place with no unit out it is granted, and changes nothing
  pub idle : sound s ≡ true → 4 * g < units_in (view s) → outs_in (view s) g ≡ 0 → perform s (repair g) ≡ outcome (plain 0) s
