-- What the index of a list is good for: what is read from it, how a key is found in it, and that the writes keep it an index, of the list with the same
-- change.
use Rattle.std.specs.Prelude.{ℕ, suc, ◌+◌, ◌-◌, ◌≤◌, ◌<◌, ◌≡◌, true, List, [], ◌∷◌, ◌++◌, map, eqb, leb, length, get_or, take, drop}
use Rattle.std.proofs.Math.Path.{refl, ap}
use Rattle.std.proofs.Common.{sym, ap₂, ◌∙◌, subst, ⊎_elim, arith, length-append, length-take, length-drop, eq-eqb, eqb-true}
use Rattle.std.proofs.lemmas.Simd.{map-map}
use Rattle.std.proofs.lemmas.List.{length-map}
use Rattle.buffer.specs.Bytes.{byte, zeros}
use Rattle.buffer.specs.Loops.{all_zero}
use Rattle.buffer.specs.Membership.{In, place_in, in_map, map_alike}
use Rattle.buffer.specs.RangeLaws.{all_true, all_holds, first_ext}
use Rattle.buffer.specs.ByteLaws.{length_zeros, zeros_append, zeros_of, byte_zeros}
use Rattle.index.specs.Entries.{Entry, count_bytes, entry_at, entries_bytes, bytes16, index_bytes, placed}
use Rattle.index.specs.Order.{Fresh, Rising, without, moved, no_entry, key_at, spot}
use Rattle.index.specs.Reading.{count_in, read_key, entry_in}
use Rattle.index.specs.Form.{Index, KeysRise, place_for, zero_behind, inserted_in, removed_in, changed_in}
use Rattle.index.proofs.EntryLaws.{length_placed, placed_in, placed_rising, rising_places, map_rising, map_small, without_in, without_rising}
use Rattle.index.proofs.EntryLaws.{length_without as fewer-without}
use Rattle.index.proofs.PlaceLaws.{spot_found, without_at, moved_key}
use Rattle.index.proofs.ReadingLaws.{index_count, index_entry, index_room, length_index}
use Rattle.index.proofs.WriteLaws.{inserted_placed, removed_without, changed_moved}

-- ---- the test of the zeros
pub zero_ends : (x : List ℕ) (n : ℕ) → zero_behind x n ≡ true → drop (entry_at n) x ≡ zeros (length x - entry_at n)
unfolding zero_behind all_zero
zero_ends x n t =
    let rest : List ℕ = drop (entry_at n) x in
    zeros_of (length rest) rest refl (λ i h. eqb-true (byte rest i) 0 (all_true (length rest) (λ i. eqb (byte rest i) 0) t i h))
    ∙ ap zeros (length-drop (entry_at n) x)

pub ends_zero : (x : List ℕ) (n : ℕ) → drop (entry_at n) x ≡ zeros (length x - entry_at n) → zero_behind x n ≡ true
unfolding zero_behind all_zero
ends_zero x n e = ap all_zero e ∙ all_holds (length (zeros (length x - entry_at n))) _ (λ i h. eq-eqb _ _ (byte_zeros (length x - entry_at n) i))

-- ---- no entry
pub index_empty : (n : ℕ) → count_bytes ≤ n → Index (zeros n) []
unfolding index_bytes entries_bytes bytes16
index_empty n h = record {
  bytes = ap zeros (sym (length_zeros n)) ∙ bare (length (zeros n)) (omega (arith, length_zeros n));
  rises = tt;
  few = omega arith;
  small = λ e m. absurd m;
}
  where
    two : (t : List ℕ) → zeros 2 ++ t ≡ 0 ∷ 0 ∷ t
    two t = unfold zeros in refl

    bare : (m : ℕ) → count_bytes ≤ m → zeros m ≡ 0 ∷ 0 ∷ zeros (m - entry_at 0)
    bare m l =
        let long : m ≡ 2 + (m - entry_at 0) = omega arith in
        ap zeros long ∙ sym (zeros_append 2 (m - entry_at 0)) ∙ two (zeros (m - entry_at 0))

-- ---- read from it
module _ (x : List ℕ) (es : List Entry) (ix : Index x es) where
  pub fitting : entry_at (length es) ≤ length x
  fitting = index_room x es ix.bytes

  pub count_of : count_in x ≡ length es
  count_of = ap count_in ix.bytes ∙ index_count (length x) es ix.few

  pub entry_of : (i : ℕ) → i < length es → entry_in x i ≡ get_or es i no_entry
  entry_of i h = ap (λ (y : List ℕ). entry_in y i) ix.bytes ∙ index_entry (length x) es ix.small i h

  pub key_of : (i : ℕ) → i < length es → read_key x i ≡ key_at es i
  key_of i h = ap (λ (e : Entry). e.key) (entry_of i h)

  pub keys_rise : {n : ℕ} → n ≡ length es → KeysRise x n
  keys_rise e i h =
      let last : suc i < length es = omega arith in
      omega (arith, key_of i (omega arith), key_of (suc i) last, rising_places es no_entry ix.rises i (suc i) (omega arith) last)

  -- ---- a key in it
  pub place_of : (k : ℕ) → place_for x (length es) k ≡ spot k es
  unfolding place_for spot
  place_of k = first_ext (length es) _ _ (λ i h. ap (leb k) (key_of i h))

  module _ (e : Entry) (m : In e es) where
    pub place_found : place_for x (length es) e.key < length es
    place_found = omega (arith, place_of e.key, (spot_found es ix.rises e m).0)

    place_there : get_or es (place_for x (length es) e.key) no_entry ≡ e
    place_there = ap (λ (i : ℕ). get_or es i no_entry) (place_of e.key) ∙ (spot_found es ix.rises e m).1

    key_there : key_at es (place_for x (length es) e.key) ≡ e.key
    key_there = ap (λ (f : Entry). f.key) place_there

-- ---- the writes
index_by : (y : List ℕ) (n : ℕ) (fs : List Entry) → y ≡ index_bytes n fs → entry_at (length fs) ≤ n → y ≡ index_bytes (length y) fs
index_by y n fs e h = e ∙ ap (λ (m : ℕ). index_bytes m fs) (sym (ap length e ∙ length_index n fs h))

module _ (x : List ℕ) (es : List Entry) (ix : Index x es) where
  at_length : entry_at (length es) ≤ length x
  at_length = fitting x es ix

  -- an entry put into its place
  pub added_index : (e : Entry) → Fresh e.key es → e.key < 4294967296 → length es + 1 < 65536 → entry_at (length es + 1) ≤ length x
      → Index (inserted_in (length es) (place_for x (length es) e.key) e x) (placed e es)
  added_index e f s few room =
      let long : length (placed e es) ≡ length es + 1 = length_placed e es ∙ omega arith in
      let done : inserted_in (length es) (place_for x (length es) e.key) e x ≡ index_bytes (length x) (placed e es) =
      ap₂ (λ (i : ℕ) (y : List ℕ). inserted_in (length es) i e y) (place_of x es ix e.key) ix.bytes ∙ inserted_placed (length x) es e f room in
      record {
        bytes = index_by _ (length x) (placed e es) done (omega arith);
        rises = placed_rising e es ix.rises f;
        few = omega arith;
        small = λ g m. ⊎_elim (λ p. rw p s) (λ n. ix.small g n) (placed_in e es g m);
      }

  module _ (e : Entry) (m : In e es) where
    abbrev place : ℕ
    place = place_for x (length es) e.key

    fewer_left : length (without e.key es) ≤ length es
    fewer_left = fewer-without e.key es

    -- the entry of a key taken out
    pub taken_index : Index (removed_in (length es) place x) (without e.key es)
    taken_index =
        let done : removed_in (length es) place x ≡ index_bytes (length x) (without e.key es) =
        ap (removed_in (length es) place) ix.bytes
        ∙ removed_without (length x) es ix.rises place (place_found x es ix e m) at_length
        ∙ ap (λ (k : ℕ). index_bytes (length x) (without k es)) (key_there x es ix e m) in
        record {
          bytes = index_by _ (length x) (without e.key es) done (omega (arith, fewer_left, at_length));
          rises = without_rising e.key es ix.rises;
          few = omega (arith, fewer_left, ix.few);
          small = λ g n. ix.small g (without_in e.key es g n).0;
        }

    -- the entry of a key with another unit and rank
    pub moved_index : (u r : ℕ) → Index (changed_in place u r x) (map (moved e.key u r) es)
    moved_index u r =
        let f : Entry → Entry = moved e.key u r in
        let long : length (map f es) ≡ length es = length-map es f in
        let done : changed_in place u r x ≡ index_bytes (length x) (map f es) =
        ap (changed_in place u r) ix.bytes
        ∙ changed_moved (length x) es ix.rises place (place_found x es ix e m) at_length u r
        ∙ ap (λ (k : ℕ). index_bytes (length x) (map (moved k u r) es)) (key_there x es ix e m) in
        record {
          bytes = index_by _ (length x) (map f es) done (omega (arith, at_length));
          rises = map_rising f (moved_key e.key u r) es ix.rises;
          few = omega (arith, ix.few);
          small = map_small f (moved_key e.key u r) es ix.small;
        }

-- an entry less is one fewer
pub length_without : (es : List Entry) → Rising es → (e : Entry) → In e es → length (without e.key es) + 1 ≡ length es
length_without es r e m =
    let t = place_in es no_entry e m in
    let here : without e.key es ≡ take t.0 es ++ drop (suc t.0) es =
    ap (λ (f : Entry). without f.key es) (sym t.2) ∙ without_at es r t.0 t.1 in
    omega (arith, ap length here, length-append (take t.0 es) (drop (suc t.0) es), length-take t.0 es, length-drop (suc t.0) es, t.1)

-- ---- entries that move one after the other: f says where each is so far, g where after one more
pub moving_turn : (x : List ℕ) (es : List Entry) (f g : Entry → Entry) → ((d : Entry) → (f d).key ≡ d.key) → Index x (map f es) → (e : Entry) → In e es
    → (u r : ℕ) → ((d : Entry) → In d es → moved e.key u r (f d) ≡ g d) → Index (changed_in (place_for x (length es) e.key) u r x) (map g es)
moving_turn x es f g keeps ix e m u r h =
    let step : Index (changed_in (place_for x (length (map f es)) (f e).key) u r x) (map (moved (f e).key u r) (map f es)) =
    moved_index x (map f es) ix (f e) (in_map f es e m) u r in
    let long : length (map f es) ≡ length es = length-map es f in
    let after : map (moved e.key u r) (map f es) ≡ map g es = map-map (moved e.key u r) f es ∙ map_alike _ g es h in
    subst (λ (fs : List Entry). Index (changed_in (place_for x (length es) e.key) u r x) fs) after
    (subst (λ (n : ℕ). Index (changed_in (place_for x n e.key) u r x) (map (moved e.key u r) (map f es))) long
    (subst (λ (k : ℕ). Index (changed_in (place_for x (length (map f es)) k) u r x) (map (moved k u r) (map f es))) (keeps e) step))
