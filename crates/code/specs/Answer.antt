-- What rebuilding answers with. Document 01: "it returns its number and the four data symbols, all 0 when refused"; the number of a refusal is the one
-- of its row in the table.
use Rattle.std.specs.Prelude.{List, [], ◌∷◌, ℕ, Result, Ok, Err}
use Rattle.refusal.specs.declared.Refusal.{Refusal}

-- the four data symbols
abbrev pub data_in : Result (List ℕ) Refusal → List ℕ
data_in (Ok ds) = ds
data_in (Err _) = 0 ∷ 0 ∷ 0 ∷ 0 ∷ []
