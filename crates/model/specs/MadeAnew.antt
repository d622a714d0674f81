-- Document 01: "what demand 2 says of check records is owed .. of any check unit that a call makes anew". These are the check units in service of both
-- groups after a grow or a shrink, those that a repair puts back in service, and those that a raise adds. The bytes are any on which the call is
-- granted: the store is sound, it need not come from a history, and its parity may have been wrong before.
use Rattle.std.specs.Prelude.{ℕ, pred, ◌+◌, ◌*◌, ◌/◌, ◌%◌, ◌<◌, ◌≡◌, List, true}
use Rattle.group.specs.CheckRecord.{check_record}
use Rattle.model.specs.Units.{touched}
use Rattle.model.specs.Layout.{Store, view, units_in, level_in}
use Rattle.model.specs.Numbers.{Call, repair, grow, shrink, raise, number_in}
use Rattle.model.specs.Perform.{perform}

-- the parts of the store that a call leaves
abbrev pub left_by : List ℕ → Call → Store
left_by s c = view (perform s c).store

-- check unit c holds at each rank the check record of the four slots of its group at that rank
abbrev pub HoldsCheckRecords : Store → ℕ → Type 0
HoldsCheckRecords t c = (r : ℕ) → r < t.size → t.check c r ≡ check_record (c % 3) (λ p. t.slot (4 * (c / 3) + p) r)

pub record MadeAnew (s : List ℕ) : Type 0 where
  -- unit M is added: the check units in service of its group, and of that of the unit it is split from
  pub by_grow : number_in s grow ≡ 0 → (c : ℕ) → c < 12 → touched (units_in (view s)) (c / 3) ≡ true → (left_by s grow).cstate c ≡ 1
      → HoldsCheckRecords (left_by s grow) c
  -- unit M - 1 is removed: the same two groups
  pub by_shrink : number_in s shrink ≡ 0 → (c : ℕ) → c < 12 → touched (pred (units_in (view s))) (c / 3) ≡ true → (left_by s shrink).cstate c ≡ 1
      → HoldsCheckRecords (left_by s shrink) c
  -- the check units of group g that were out
  pub by_repair : (g : ℕ) → number_in s (repair g) ≡ 0 → (c : ℕ) → c < 12 → c / 3 ≡ g → (view s).cstate c ≡ 2 → HoldsCheckRecords (left_by s (repair g)) c
  -- check unit K, counted from 0, of every group in place, which is in service then
  pub by_raise : number_in s raise ≡ 0 → (c : ℕ) → c < 12 → 4 * (c / 3) < units_in (view s) → c % 3 ≡ level_in (view s)
      → ((left_by s raise).cstate c ≡ 1) × HoldsCheckRecords (left_by s raise) c
