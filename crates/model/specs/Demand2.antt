-- Demand 2: the statements. A key's unit is the one that linear hashing gives. Check records are the group's records times the paper's matrix over
-- GF(16). Four members under any four different columns, of all seventeen, fix the data, and rebuilding returns just that data.
use Rattle.std.specs.Prelude.{ℕ, ◌+◌, ◌*◌, ◌-◌, ◌%◌, ◌^◌, ◌≤◌, ◌<◌, ◌≡◌, List, ◌++◌, map, true, ltb, length, get_or, drop}
use Rattle.buffer.specs.Choice.{pick}
use Rattle.buffer.specs.Bytes.{bytes32, part}
use Rattle.buffer.specs.Table.{tab}
use Rattle.code.specs.Matrix.{encode, within, Rebuilds}
use Rattle.code.specs.Columns.{FourColumns}
use Rattle.group.specs.Widths.{keys_bytes, body_bytes}
use Rattle.group.specs.Body.{Bodies}
use Rattle.group.specs.Parity.{body_at}
use Rattle.group.specs.Rebuilding.{rebuilt_from}
use Rattle.model.specs.Units.{digit_sum, unit_of}
use Rattle.model.specs.Layout.{Store, view}
use Rattle.model.specs.Field.{body_of, stamp_of}
use Rattle.model.specs.Perform.{lay_out_number}
use Rattle.model.specs.MadeAnew.{MadeAnew}
use Rattle.model.specs.Recovered.{Recovered}
use Rattle.model.specs.RepairKeeps.{RepairKeeps}
use Rattle.model.specs.LeftAlone.{LeftAlone}
use Rattle.model.specs.history.Ledger.{Ledger, record_at}
use Rattle.model.specs.history.Typed.{Bytes}
use Rattle.model.specs.history.Steps.{Step, StepsTyped}
use Rattle.model.specs.history.Claims.{left, recorded}

-- linear hashing over m units: there is a largest j for which 2^j ≤ m, and the unit of a key with digit sum x is x mod 2^j, or x mod 2^(j+1) where
-- the former is below n = m - 2^j
pub record LinearHashing (m : ℕ) : Type 0 where
  pub level : (j : ℕ) × (2 ^ j ≤ m) × (m < 2 ^ (j + 1))
  pub unit : (j : ℕ) → 2 ^ j ≤ m → m < 2 ^ (j + 1) → (k x : ℕ) → digit_sum k ≡ x → unit_of m k ≡ pick (ltb (x % 2 ^ j) (m - 2 ^ j)) (x % 2 ^ (j + 1)) (x % 2 ^ j)

-- each of m units has keys, and posts numbered in sixteens reach all of them
pub record UnitsReached (m : ℕ) : Type 0 where
  pub sixteens : (u : ℕ) → u < m → unit_of m (16 * u) ≡ u
  pub has_key : (u : ℕ) → u < m → (k : ℕ) × (1 ≤ k) × (k < 4294967296) × (unit_of m k ≡ u)

-- each check unit in service holds, at each rank, the four keys of the ledger's records of its group, and their fields at column 4 + j
abbrev pub HoldsLedger : Store → Ledger → Type 0
HoldsLedger v l = (g j r : ℕ) → g < 4 → j < 3 → r < v.size → v.cstate (3 * g + j) ≡ 1
    → v.check (3 * g + j) r ≡ tab 4 (λ p. bytes32 (record_at l (4 * g + p) r).key) ++ body_at (4 + j) (λ p. (record_at l (4 * g + p) r).field)

-- the parity covers body and stamp: its front is the bodies of the ledger's records at that column, and what stands behind is the bytes of their stamps
pub record CoversStamps (v : Store) (l : Ledger) (g j r : ℕ) : Type 0 where
  pub bodies : part keys_bytes body_bytes (v.check (3 * g + j) r) ≡ body_at (4 + j) (λ p. body_of (record_at l (4 * g + p) r).field)
  pub stamps : drop (keys_bytes + body_bytes) (v.check (3 * g + j) r) ≡ body_at (4 + j) (λ p. bytes32 (stamp_of (record_at l (4 * g + p) r).field))

-- symbols at four columns
pub record SymbolsFixed (cs : List ℕ) : Type 0 where
  -- data that have the same symbols there are the same
  pub fixed : (ds es : List ℕ) → length ds ≡ 4 → length es ≡ 4 → within 15 ds ≡ true → within 15 es ≡ true
      → ((i : ℕ) → i < 4 → encode ds (get_or cs i 0) ≡ encode es (get_or cs i 0)) → ds ≡ es
  -- rebuilding from the symbols of data is granted, and returns just them
  pub returned : (ds : List ℕ) → length ds ≡ 4 → within 15 ds ≡ true → (n : ℕ) (es : List ℕ) → Rebuilds cs (map (encode ds) cs) n es → (n ≡ 0) × (es ≡ ds)

-- bodies of n bytes at four columns
pub record BodiesFixed (n : ℕ) (cs : List ℕ) : Type 0 where
  -- bodies that are the same there are the same
  pub fixed : (f g : ℕ → List ℕ) → Bodies n f → Bodies n g → ((i : ℕ) → i < 4 → body_at (get_or cs i 0) f ≡ body_at (get_or cs i 0) g)
      → (p : ℕ) → p < 4 → f p ≡ g p
  -- rebuilding from them returns just them
  pub returned : (f : ℕ → List ℕ) → Bodies n f → (p : ℕ) → p < 4 → rebuilt_from cs (λ i. body_at (get_or cs i 0) f) p ≡ f p
  -- whatever is held there, right or wrong, rebuilding gives bodies that have it
  pub bodies : (hold : ℕ → List ℕ) → Bodies n hold → Bodies n (rebuilt_from cs hold)
  pub held : (hold : ℕ → List ℕ) → Bodies n hold → (i : ℕ) → i < 4 → body_at (get_or cs i 0) (rebuilt_from cs hold) ≡ hold i

-- DEMAND 2
pub record Demand2 : Type 0 where
  -- "A key's unit is the one that linear hashing gives."
  pub hashed : (m : ℕ) → 1 ≤ m → m ≤ 16 → LinearHashing m
  pub reached : (m : ℕ) → 1 ≤ m → m ≤ 16 → UnitsReached m
  -- "Check records are the group's records times the paper's matrix": in every history, and of every check unit that a call makes anew
  pub in_histories : (s : List ℕ) (b : ℕ) → lay_out_number s b ≡ 0 → (xs : List Step) → StepsTyped xs → HoldsLedger (view (left s b xs)) (recorded s b xs)
  pub covers_stamps : (s : List ℕ) (b : ℕ) → lay_out_number s b ≡ 0 → (xs : List Step) → StepsTyped xs → (g j r : ℕ) → g < 4 → j < 3
      → r < (view (left s b xs)).size → (view (left s b xs)).cstate (3 * g + j) ≡ 1 → CoversStamps (view (left s b xs)) (recorded s b xs) g j r
  pub made_anew : (s : List ℕ) → MadeAnew s
  -- "Four members under any four different columns fix the data, and rebuilding returns just that data": of symbols and of bodies of any width
  pub symbols : (cs : List ℕ) → FourColumns cs → SymbolsFixed cs
  pub bodies : (n : ℕ) (cs : List ℕ) → FourColumns cs → BodiesFixed n cs
  -- rebuilding of symbols has an answer for any columns and symbols, and only one
  pub answered : (cs ys : List ℕ) → length cs ≡ 4 → length ys ≡ 4 → (n : ℕ) × (ds : List ℕ) × Rebuilds cs ys n ds
  pub only : (cs ys : List ℕ) → length cs ≡ 4 → (n k : ℕ) (ds es : List ℕ) → Rebuilds cs ys n ds → Rebuilds cs ys k es → (n ≡ k) × (ds ≡ es)
  -- rebuilding in a store, by repair, read and list
  pub recovered : (s : List ℕ) → Bytes s → Recovered s
  -- what repair leaves alone, and the other calls, also where parity was wrong before
  pub repair_keeps : (s : List ℕ) (g : ℕ) → RepairKeeps s g
  pub left_alone : (s : List ℕ) → LeftAlone s
