-- Lists of entries: when their keys rise, when they are different, and where a key has its place.
use Rattle.std.specs.Prelude.{ℕ, ◌<◌, ◌≢◌, List, [], ◌∷◌, eqb, leb, length, get_or}
use Rattle.buffer.specs.Choice.{pick}
use Rattle.buffer.specs.Range.{first}
use Rattle.buffer.specs.Membership.{In}
use Rattle.index.specs.Entries.{Entry, entry}

-- each key is above k; none is k; each has 32 bits
abbrev pub Above : ℕ → List Entry → Type 0
Above k es = (e : Entry) → In e es → k < e.key

abbrev pub Fresh : ℕ → List Entry → Type 0
Fresh k es = (e : Entry) → In e es → e.key ≢ k

abbrev pub Keys32 : List Entry → Type 0
Keys32 es = (e : Entry) → In e es → e.key < 4294967296

-- the keys rise; the keys are different
abbrev pub Rising : List Entry → Type 0
Rising [] = Unit {0}
Rising (e ∷ es) = Above e.key es × Rising es

abbrev pub Different : List Entry → Type 0
Different [] = Unit {0}
Different (e ∷ es) = Fresh e.key es × Different es

-- the entries of other keys than k
unfoldable pub without : ℕ → List Entry → List Entry
without k [] = []
without k (e ∷ es) = pick (eqb e.key k) (without k es) (e ∷ without k es)

-- an entry, with another unit and rank where it has this key
unfoldable pub moved : ℕ → ℕ → ℕ → Entry → Entry
moved k u r e = pick (eqb e.key k) (entry k u r) e

-- what stands behind the last entry
unfoldable pub no_entry : Entry
no_entry = entry 0 0 0

-- the key at a place, and the first place whose key is not below k, or the length where there is none
abbrev pub key_at : List Entry → ℕ → ℕ
key_at es i = (get_or es i no_entry).key

unfoldable pub spot : ℕ → List Entry → ℕ
spot k es = first (length es) (λ i. leb k (key_at es i))
