-- Bytes that are an index: of which entries, where a key has its place in them, and what the writes leave.
use Rattle.std.specs.Prelude.{ℕ, suc, ◌+◌, ◌*◌, ◌-◌, ◌<◌, ◌≡◌, Bool, List, [], ◌∷◌, ◌++◌, eqb, leb, ltb, length, drop, Option, Some, None}
use Rattle.buffer.specs.Choice.{pick}
use Rattle.buffer.specs.Bytes.{zeros, part, splice}
use Rattle.buffer.specs.Range.{first}
use Rattle.buffer.specs.Loops.{all_zero}
use Rattle.index.specs.Entries.{Entry, count_bytes, entry_width, unit_offset, entry_at, entry_bytes, bytes16, index_bytes}
use Rattle.index.specs.Order.{Keys32, Rising}
use Rattle.index.specs.Reading.{read_key}

-- x is the index of entries whose keys rise
pub record Index (x : List ℕ) (es : List Entry) : Type 0 where
  pub bytes : x ≡ index_bytes (length x) es
  pub rises : Rising es
  pub few : length es < 65536
  pub small : Keys32 es

-- ---- reads
-- the keys of the first n entries rise
abbrev pub KeysRise : List ℕ → ℕ → Type 0
KeysRise x n = (i : ℕ) → suc i < n → read_key x i < read_key x (suc i)

-- the first place of n whose key is not below k, or n where there is none
unfoldable pub place_for : List ℕ → ℕ → ℕ → ℕ
place_for x n k = first n (λ i. leb k (read_key x i))

-- the first place of n that has the key k, or n where there is none
unfoldable pub found_at : List ℕ → ℕ → ℕ → ℕ
found_at x n k = first n (λ i. eqb (read_key x i) k)

-- that place, where there is one
unfoldable pub found_in : List ℕ → ℕ → ℕ → Option ℕ
found_in x n k = pick (ltb (found_at x n k) n) (Some (found_at x n k)) None

-- behind n entries there are zeros
unfoldable pub zero_behind : List ℕ → ℕ → Bool
zero_behind x n = all_zero (drop (entry_at n) x)

-- ---- writes; n is the count
-- an entry put in at place i
unfoldable pub inserted_in : ℕ → ℕ → Entry → List ℕ → List ℕ
inserted_in n i e x =
    splice 0 count_bytes (bytes16 (n + 1))
    (splice (entry_at i) (entry_width + entry_width * (n - i)) (entry_bytes e ++ part (entry_at i) (entry_width * (n - i)) x) x)

-- the entry at place i taken out
unfoldable pub removed_in : ℕ → ℕ → List ℕ → List ℕ
removed_in n i x =
    splice 0 count_bytes (bytes16 (n - 1))
    (splice (entry_at i) (entry_width * (n - 1 - i) + entry_width)
    (part (entry_at (i + 1)) (entry_width * (n - 1 - i)) x ++ zeros entry_width) x)

-- another unit and rank at place i
unfoldable pub changed_in : ℕ → ℕ → ℕ → List ℕ → List ℕ
changed_in i u r x = splice (entry_at i + unit_offset) 2 (u ∷ r ∷ []) x
