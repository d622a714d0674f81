-- Laws of a store's layout: places lie within bytes that are long enough; parts of the right sizes fill bytes from which they are read back, and
-- the parts of bytes that are long enough fill these bytes again.
use Prim.Native.Nat.{ℕ, suc, ◌+◌, ◌*◌, ◌≤◌, ◌<◌}
use Rattle.std.specs.Prelude.{◌≡◌, refl, List, [], ◌∷◌, ◌++◌, length, take}
use Rattle.std.proofs.Common.{sym, ◌∙◌, append_assoc, mul-le-mul_right, length-append, take-append-drop, drop-cons, drop-drop}
use Rattle.std.proofs.Math.Path.{ap}
use native.Mathlib.Omega.{arith}
use Rattle.std.proofs.Math.ListN.{drop}
use Rattle.std.proofs.Math.Seq.{take_at, length-take-le, get_or-take}
use Rattle.buffer.specs.Bytes.{byte, part}
use Rattle.buffer.specs.Table.{tab}
use Rattle.buffer.specs.SpliceLaws.{length_part, part_left, drop_right}
use Rattle.buffer.specs.ByteLaws.{byte_left, byte_right, be32_part}
use Rattle.buffer.specs.TableLaws.{tab_ext, tab_cut, length_tab, byte_ones}
use Rattle.group.specs.Widths.{key_bytes, slot_bytes, check_bytes}
use Rattle.model.specs.Layout.{Store, bytes, view, header_bytes, store_bytes, slot_at, check_at, key_of}
use Rattle.model.specs.Places.{Region, data_units, check_units, units, width, start, chunk_at, Long, PlaceIn}
use Rattle.model.specs.Parts.{chunks_in}
use Rattle.model.specs.UnitTableLaws.{unit_table, Chunked, table_ext, length_table, read_chunk}

-- the key of a record stands in its first bytes
pub key_first : (x : List ℕ) → key_of (take key_bytes x) ≡ key_of x
unfolding key_of part
key_first x = be32_part 0 key_bytes x 0 (omega arith)

-- ---- places within the bytes: m ranks of a unit from q on, and one rank
pub ranks_within : (k : Region) (b u q m n : ℕ) → u < units k → q + m ≤ b → store_bytes b ≤ n → chunk_at k b u q + width k * m ≤ n
ranks_within data_units b u q m n hu hq h = omega (arith, mul-le-mul_right {m = suc u} {n = 16} b hu)
ranks_within check_units b u q m n hu hq h = omega (arith, mul-le-mul_right {m = suc u} {n = 12} b hu)

pub rank_within : (k : Region) (b u r n : ℕ) → u < units k → r < b → store_bytes b ≤ n → chunk_at k b u r + width k ≤ n
rank_within k b u r n hu hr h = omega (arith, ranks_within k b u r 1 n hu (omega arith) h)

pub place_end : {k : Region} {x : List ℕ} {u r : ℕ} → PlaceIn k x u r → chunk_at k (byte x 5) u r + width k ≤ length x
place_end {k} {x} {u} {r} p = rank_within k (byte x 5) u r (length x) p.unit p.rank p.long

-- ---- the parts have the sizes that the layout gives them
pub record Shaped (s : Store) : Type 0 where
  pub front : length s.front ≡ 8
  pub size : byte s.front 5 ≡ s.size
  pub slot : (u r : ℕ) → u < 16 → r < s.size → length (s.slot u r) ≡ slot_bytes
  pub check : (c r : ℕ) → c < 12 → r < s.size → length (s.check c r) ≡ check_bytes

pub chunked : (k : Region) {s : Store} → Shaped s → Chunked (units k) s.size (width k) (chunks_in k s)
chunked data_units h = h.slot
chunked check_units h = h.check

-- the parts that the bytes show are the same
pub record Same (s t : Store) : Type 0 where
  pub front : s.front ≡ t.front
  pub size : s.size ≡ t.size
  pub dstate : (u : ℕ) → u < 16 → s.dstate u ≡ t.dstate u
  pub cstate : (c : ℕ) → c < 12 → s.cstate c ≡ t.cstate c
  pub slot : (u r : ℕ) → u < 16 → r < t.size → s.slot u r ≡ t.slot u r
  pub check : (c r : ℕ) → c < 12 → r < t.size → s.check c r ≡ t.check c r
  pub rest : s.rest ≡ t.rest

pub same_refl : (v : Store) → Same v v
same_refl v = record {
  front = refl;
  size = refl;
  dstate = λ u l. refl;
  cstate = λ c l. refl;
  slot = λ u r l m. refl;
  check = λ c r l m. refl;
  rest = refl;
}

-- parts that are the same have the same sizes
pub same_shaped : (s t : Store) → Same s t → Shaped t → Shaped s
same_shaped s t h k = record {
  front = ap length h.front ∙ k.front;
  size = ap (λ (x : List ℕ). byte x 5) h.front ∙ k.size ∙ sym h.size;
  slot = λ u r l m. let n : r < t.size = omega (arith, h.size) in ap length (h.slot u r l n) ∙ k.slot u r l n;
  check = λ c r l m. let n : r < t.size = omega (arith, h.size) in ap length (h.check c r l n) ∙ k.check c r l n;
}

-- ---- the states of n units, a byte each; one of them read, where they stand behind x and before y
abbrev pub state_bytes : ℕ → (ℕ → ℕ) → List ℕ
state_bytes n f = tab n (λ u. f u ∷ [])

pub states_ext : (n : ℕ) (f g : ℕ → ℕ) → ((u : ℕ) → u < n → f u ≡ g u) → state_bytes n f ≡ state_bytes n g
states_ext n f g h = tab_ext n _ _ (λ u l. ap (λ x. x ∷ []) (h u l))

pub length_states : (n : ℕ) (f : ℕ → ℕ) → length (state_bytes n f) ≡ n
length_states n f = length_tab n 1 _ (λ u l. refl) ∙ omega arith

state_byte : (n : ℕ) (f : ℕ → ℕ) (x y : List ℕ) (at : ℕ) → length x ≡ at → (u : ℕ) → u < n → byte (x ++ (state_bytes n f ++ y)) (at + u) ≡ f u
state_byte n f x y at e u l =
    byte_right at x _ u e ∙ byte_left (state_bytes n f) y u (omega (arith, length_states n f)) ∙ byte_ones n f u l

-- ---- stores of the same parts have the same bytes
pub bytes_ext : (s t : Store) → Same s t → bytes s ≡ bytes t
unfolding bytes
bytes_ext s t h =
    rw (
      h.front,
      h.size,
      states_ext 16 s.dstate t.dstate h.dstate,
      states_ext 12 s.cstate t.cstate h.cstate,
      table_ext 16 t.size s.slot t.slot h.slot,
      table_ext 12 t.size s.check t.check h.check,
      h.rest,
    )

-- ---- the bytes of a store before and behind the units of a region
abbrev pub header : Store → List ℕ
header s = s.front ++ (state_bytes 16 s.dstate ++ state_bytes 12 s.cstate)

abbrev pub before : Region → Store → List ℕ
before data_units s = header s
before check_units s = header s ++ unit_table 16 s.size s.slot

abbrev pub behind : Region → Store → List ℕ
behind data_units s = unit_table 12 s.size s.check ++ s.rest
behind check_units s = s.rest

pub apart : (k : Region) (s : Store) → bytes s ≡ before k s ++ (unit_table (units k) s.size (chunks_in k s) ++ behind k s)
unfolding bytes
apart data_units s = simp append_assoc
apart check_units s = simp append_assoc

-- before and behind the states of check units
abbrev pub before_cstates : Store → List ℕ
before_cstates s = s.front ++ state_bytes 16 s.dstate

pub cstates_apart : (s : Store) → bytes s ≡ before_cstates s ++ (state_bytes 12 s.cstate ++ (unit_table 16 s.size s.slot ++ behind data_units s))
unfolding bytes
cstates_apart s = simp append_assoc

-- ---- what is read back from the bytes of parts of the right sizes
module _ (s : Store) (h : Shaped s) where
  length_chunks : (k : Region) → length (unit_table (units k) s.size (chunks_in k s)) ≡ units k * width k * s.size
  length_chunks k = length_table (units k) s.size (width k) (chunks_in k s) (chunked k h)

  pub length_header : length (header s) ≡ header_bytes
  length_header = simp length-append (omega (arith, h.front, length_states 16 s.dstate, length_states 12 s.cstate))

  pub length_before : (k : Region) → length (before k s) ≡ start k s.size
  length_before data_units = length_header
  length_before check_units = length-append (header s) (unit_table 16 s.size s.slot) ∙ omega (arith, length_header, length_chunks data_units)

  pub length_before_cstates : length (before_cstates s) ≡ 24
  length_before_cstates = length-append s.front (state_bytes 16 s.dstate) ∙ omega (arith, h.front, length_states 16 s.dstate)

  pub length_bytes : length (bytes s) ≡ store_bytes s.size + length s.rest
  length_bytes =
      ap length (apart check_units s)
      ∙ length-append (before check_units s) (unit_table 12 s.size s.check ++ s.rest)
      ∙ omega (arith, length_before check_units, length_chunks check_units, length-append (unit_table 12 s.size s.check) s.rest)

  -- the first eight bytes
  pub byte_front : (i : ℕ) → i < 8 → byte (bytes s) i ≡ byte s.front i
  unfolding bytes
  byte_front i a = byte_left s.front _ i (omega (arith, h.front))

  pub part_front : (o n : ℕ) → o + n ≤ 8 → part o n (bytes s) ≡ part o n s.front
  unfolding bytes
  part_front o n a = part_left o n s.front _ (omega (arith, h.front))

  view_front : (view (bytes s)).front ≡ s.front
  unfolding bytes view
  view_front = take_at s.front _ 8 h.front

  view_size : (view (bytes s)).size ≡ s.size
  unfolding view
  view_size = byte_front 5 (omega arith) ∙ h.size

  -- a state, a slot or check record, and what stands behind the store
  view_dstate : (u : ℕ) → u < 16 → (view (bytes s)).dstate u ≡ s.dstate u
  unfolding bytes view
  view_dstate = state_byte 16 s.dstate s.front _ 8 h.front

  pub view_cstate : (c : ℕ) → c < 12 → (view (bytes s)).cstate c ≡ s.cstate c
  unfolding view
  view_cstate c l = ap (λ x. byte x (24 + c)) (cstates_apart s) ∙ state_byte 12 s.cstate (before_cstates s) _ 24 length_before_cstates c l

  pub chunk_read : (k : Region) (u r : ℕ) → u < units k → r < s.size → part (chunk_at k s.size u r) (width k) (bytes s) ≡ chunks_in k s u r
  chunk_read k u r l m =
      ap (part (chunk_at k s.size u r) (width k)) (apart k s)
      ∙ read_chunk (units k) s.size (width k) (chunks_in k s) (chunked k h) (before k s) (behind k s) (start k s.size) (length_before k) u r l m

  rest_read : drop (store_bytes s.size) (bytes s) ≡ s.rest
  rest_read =
      let checks : ℕ = 12 * check_bytes * s.size in
      let place : store_bytes s.size ≡ start check_units s.size + (checks + 0) = omega arith in
      ap (λ x. drop (store_bytes s.size) x) (apart check_units s)
      ∙ ap (λ (o : ℕ). drop o (before check_units s ++ (unit_table 12 s.size s.check ++ s.rest))) place
      ∙ drop_right (start check_units s.size) (checks + 0) (before check_units s) _ (length_before check_units)
      ∙ drop_right checks 0 (unit_table 12 s.size s.check) s.rest (length_chunks check_units)

  pub view_bytes : Same (view (bytes s)) s
  unfolding view
  view_bytes = record {
    front = view_front;
    size = view_size;
    dstate = view_dstate;
    cstate = view_cstate;
    slot = λ u r l m. ap (λ (b : ℕ). part (slot_at b u r) slot_bytes (bytes s)) view_size ∙ chunk_read data_units u r l m;
    check = λ u r l m. ap (λ (b : ℕ). part (check_at b u r) check_bytes (bytes s)) view_size ∙ chunk_read check_units u r l m;
    rest = ap (λ (b : ℕ). drop (store_bytes b) (bytes s)) view_size ∙ rest_read;
  }

-- ---- the parts of bytes
-- a part, and what stands behind it
part_drop : (x : List ℕ) (o n : ℕ) → part o n x ++ drop (o + n) x ≡ drop o x
unfolding part
part_drop x o n = ap (λ (r : List ℕ). take n (drop o x) ++ r) (sym (drop-drop n o x)) ∙ take-append-drop n (drop o x)

single : (x : List ℕ) (i : ℕ) → i < length x → byte x i ∷ [] ≡ part i 1 x
unfolding part
single x i h = rw (drop-cons x i 0 h)

-- a region of n units of b chunks
region : (n b w : ℕ) (x : List ℕ) (o : ℕ) → unit_table n b (λ u r. part (o + (u * b + r) * w) w x) ≡ part o (n * w * b) x
region n b w x o =
    let place : (u r : ℕ) → o + (u * b + r) * w ≡ o + w * b * u + w * r = λ u r. omega arith in
    let size : w * b * n ≡ n * w * b = omega arith in
    tab_ext n _ _ (λ u l. tab_ext b _ _ (λ r m. ap (λ (k : ℕ). part k w x) (place u r)) ∙ tab_cut b w (o + w * b * u) x)
    ∙ tab_cut n (w * b) o x
    ∙ ap (λ (k : ℕ). part o k x) size

singles : (n : ℕ) (x : List ℕ) (o : ℕ) → o + n ≤ length x → state_bytes n (λ u. byte x (o + u)) ≡ part o n x
singles n x o h =
    let size : 1 * n ≡ n = omega arith in
    let place : (u : ℕ) → o + u ≡ o + 1 * u = λ u. omega arith in
    tab_ext n _ _ (λ u l. single x (o + u) (omega arith) ∙ ap (λ (k : ℕ). part k 1 x) (place u))
    ∙ tab_cut n 1 o x
    ∙ ap (λ (k : ℕ). part o k x) size

module _ (x : List ℕ) (long : Long x) where
  pub bytes_view : bytes (view x) ≡ x
  unfolding bytes view
  bytes_view =
      let b : ℕ = byte x 5 in
      let size : 36 + 16 * slot_bytes * b + 12 * check_bytes * b ≡ store_bytes b = omega arith in
      rw (
        singles 16 x 8 (omega arith),
        singles 12 x 24 (omega arith),
        region 16 b slot_bytes x 36,
        region 12 b check_bytes x (36 + 16 * slot_bytes * b),
        ← size,
        part_drop x (36 + 16 * slot_bytes * b) (12 * check_bytes * b),
        part_drop x 36 (16 * slot_bytes * b),
        part_drop x 24 12,
        part_drop x 8 16,
      )
      (take-append-drop 8 x)

  pub view_shaped : Shaped (view x)
  unfolding view
  view_shaped =
      let held : (k : Region) → Chunked (units k) (byte x 5) (width k) (λ u r. part (chunk_at k (byte x 5) u r) (width k) x) =
      λ k u r l m. length_part (chunk_at k (byte x 5) u r) (width k) x (rank_within k (byte x 5) u r (length x) l m long) in
      record { front = length-take-le 8 x (omega arith); size = get_or-take 8 x 5 0 (omega arith); slot = held data_units; check = held check_units }
