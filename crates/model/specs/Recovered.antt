-- Rebuilding in a store, judged by the matrix: what repair, read and list give of units that are out. Document 01: "Repair rebuilds data from the first
-- four members in service .., takes keys from a check unit (a rank it lists no key for stays zero)"; "Read uses the same rebuilding"; "List writes ..
-- out units rebuilt". The four are chosen rank by rank (document 02, ask 5). The store is any on which the call is granted: it need not come from a
-- history, and its parity may be wrong. The rebuilt fields are those that have, by the matrix, what each of the four members used holds; by demand 2
-- there are no others.
use Rattle.std.specs.Prelude.{ℕ, ◌+◌, ◌*◌, ◌/◌, ◌%◌, ◌<◌, ◌≡◌, ◌≢◌, List, ◌++◌, ◌&&◌, eqb, length, drop, get_or}
use Rattle.buffer.specs.Choice.{pick}
use Rattle.buffer.specs.Range.{sum}
use Rattle.buffer.specs.Bytes.{zeros, part}
use Rattle.group.specs.Widths.{field_bytes, slot_bytes}
use Rattle.group.specs.Body.{Bodies}
use Rattle.group.specs.Members.{first_four}
use Rattle.group.specs.Parity.{body_at}
use Rattle.model.specs.Layout.{Store, view, key_of}
use Rattle.model.specs.Reads.{home_in, serves_in, holds, listed_key, listed_fill, listed_rank, total_in}
use Rattle.model.specs.Numbers.{read, list, repair, number_in}
use Rattle.model.specs.Perform.{copied, listed, perform}
use Rattle.model.specs.MadeAnew.{left_by}

-- f are fields of group g at rank r by its first four members in service there: at each one's column they are what it holds
pub record HeldFields (v : Store) (g r : ℕ) (f : ℕ → List ℕ) : Type 0 where
  pub fields : Bodies field_bytes f
  pub held : (i : ℕ) → i < 4 → body_at (get_or (first_four (serves_in v g r)) i 0) f ≡ holds v g r (get_or (first_four (serves_in v g r)) i 0)

-- the output buffer of a granted list: a record for each listed key, by unit and then rank, and the old rest
pub record Listing (s out : List ℕ) : Type 0 where
  pub written : List ℕ
  pub answered : (perform s (list out)).answer ≡ listed 0 (total_in (view s)) written
  pub long : length written ≡ length out
  -- a record of a unit that is not out is its slot
  pub own : (u r : ℕ) → u < 16 → r < listed_fill (view s) u → (view s).dstate u ≢ 2
      → part (slot_bytes * (sum u (listed_fill (view s)) + r)) slot_bytes written ≡ (view s).slot u r
  -- of a unit out it is the listed key and the rebuilt field
  pub rebuilt : (u r : ℕ) → u < 16 → r < listed_fill (view s) u → (view s).dstate u ≡ 2
      → (f : ℕ → List ℕ) × HeldFields (view s) (u / 4) r f
      × (part (slot_bytes * (sum u (listed_fill (view s)) + r)) slot_bytes written ≡ listed_key (view s) u r ++ f (u % 4))
  pub behind : drop (slot_bytes * total_in (view s)) written ≡ drop (slot_bytes * total_in (view s)) out

pub record Recovered (s : List ℕ) : Type 0 where
  -- after a granted repair a slot of the group has its own or the listed key, and its field; where its unit was out and no key is listed it is zero
  pub by_repair : (g : ℕ) → number_in s (repair g) ≡ 0 → (r : ℕ) → r < (view s).size
      → (f : ℕ → List ℕ) × HeldFields (view s) g r f
      × ((p : ℕ) → p < 4 → (left_by s (repair g)).slot (4 * g + p) r
      ≡ pick (eqb ((view s).dstate (4 * g + p)) 2 && eqb (key_of (listed_key (view s) (4 * g + p) r)) 0) (zeros slot_bytes)
      (listed_key (view s) (4 * g + p) r ++ f p))
  -- a granted read of a key whose unit is out hands back the field at the rank at which the key is listed
  pub by_read : (k : ℕ) (out : List ℕ) → number_in s (read k out) ≡ 0 → (view s).dstate (home_in (view s) k) ≡ 2
      → (f : ℕ → List ℕ) × HeldFields (view s) (home_in (view s) k / 4) (listed_rank (view s) (home_in (view s) k) k) f
      × ((perform s (read k out)).answer ≡ copied 0 (f (home_in (view s) k % 4)))
  pub by_list : (out : List ℕ) → number_in s (list out) ≡ 0 → Listing s out
