-- What the count of the records for a list answers: its refusal, or the records.
use Rattle.std.specs.Prelude.{ℕ, ◌*◌, ◌≤◌, ◌≡◌, List, Result, Ok, Err}
use Rattle.group.specs.Widths.{slot_bytes}
use Rattle.model.specs.Layout.{view}
use Rattle.model.specs.Sound.{sound}
use Rattle.refusal.specs.Number.{code}
use Rattle.refusal.specs.declared.Refusal.{Refusal}
use Rattle.reading.specs.declared.records.Records.{Records}
use Rattle.reading.specs.Rows.{list_number}

-- a list into n bytes is granted, and x are the records of the store s
pub record Listed (s : List ℕ) (n : ℕ) (x : Records) : Type 0 where
  pub given : 0 ≡ list_number (sound s) (view s) n
  pub store : x.survey.store.now ≡ s
  pub room : slot_bytes * x.count ≤ n

abbrev pub Counted : List ℕ → ℕ → Result Records Refusal → Type 0
Counted s n (Err refusal) = code refusal ≡ list_number (sound s) (view s) n
Counted s n (Ok x) = Listed s n x
