-- A store with one of its parts replaced: its front, the states of its units, its slots or its check records.
use Rattle.std.specs.Prelude.{ℕ, List}
use Rattle.model.specs.Layout.{Store, changed}
use Rattle.model.specs.Places.{Region, data_units, check_units}

unfoldable pub with_front : Store → List ℕ → Store
with_front s f = changed s f s.dstate s.cstate s.slot s.check

unfoldable pub with_dstates : Store → (ℕ → ℕ) → Store
with_dstates s f = changed s s.front f s.cstate s.slot s.check

unfoldable pub with_cstates : Store → (ℕ → ℕ) → Store
with_cstates s f = changed s s.front s.dstate f s.slot s.check

unfoldable pub with_slots : Store → (ℕ → ℕ → List ℕ) → Store
with_slots s f = changed s s.front s.dstate s.cstate f s.check

unfoldable pub with_checks : Store → (ℕ → ℕ → List ℕ) → Store
with_checks s f = changed s s.front s.dstate s.cstate s.slot f

-- what the ranks of a region's units hold, and the store with other chunks there
abbrev pub chunks_in : Region → Store → ℕ → ℕ → List ℕ
chunks_in data_units s = s.slot
chunks_in check_units s = s.check

abbrev pub with_chunks : Region → Store → (ℕ → ℕ → List ℕ) → Store
with_chunks data_units = with_slots
with_chunks check_units = with_checks
