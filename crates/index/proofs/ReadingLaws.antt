-- An index read back from its bytes, and bytes that are an index.
use Rattle.std.specs.Prelude.{ℕ, zero, suc, ◌+◌, ◌*◌, ◌-◌, ◌/◌, ◌%◌, ◌≤◌, ◌<◌, ◌≡◌, List, [], ◌∷◌, ◌++◌, length, take, drop, get_or}
use Rattle.std.proofs.Math.Path.{refl}
use Rattle.std.proofs.Common.{sym, ap, ap₂, ◌∙◌, inl, inr, append_assoc, arith, le_of_suc-le-suc, not-suc-le-zero, take-append-drop, drop_at, drop-drop, take-add, length-take-le}
use Rattle.std.proofs.Math.ListN.{length-append}
use Rattle.buffer.specs.Bytes.{byte, be32, bytes32, zeros, part}
use Rattle.buffer.specs.ByteLaws.{byte_right, be32_ext, be32_left, length_bytes32, be32_bytes32, bytes32_be32, length_zeros}
use Rattle.buffer.specs.Loops.{entries}
use Rattle.buffer.specs.RangeLaws.{length_entries, entries_ext}
use Rattle.index.specs.Entries.{Entry, entry, count_bytes, entry_width, unit_offset, rank_offset, entry_at, entry_bytes, entries_bytes, bytes16, index_bytes}
use Rattle.index.specs.Order.{Keys32, no_entry}
use Rattle.index.specs.Reading.{count_in, entry_in}

-- the entry at a place behind the count
unfoldable at : List ℕ → ℕ → Entry
at y i = entry (be32 y (entry_width * i)) (byte y (entry_width * i + unit_offset)) (byte y (entry_width * i + rank_offset))

same_entry : {k j u w r q : ℕ} → k ≡ j → u ≡ w → r ≡ q → entry k u r ≡ entry j w q
same_entry a b c = rw (a, b, c)

-- two places whose bytes are the same
same_place : (x y : List ℕ) (n m : ℕ) → ((i : ℕ) → byte x (n + i) ≡ byte y (m + i))
    → entry (be32 x n) (byte x (n + unit_offset)) (byte x (n + rank_offset)) ≡ entry (be32 y m) (byte y (m + unit_offset)) (byte y (m + rank_offset))
same_place x y n m h = same_entry (be32_ext x n y m (λ i _. h i)) (h unit_offset) (h rank_offset)

-- behind so many bytes
shift : (w : ℕ) (x y : List ℕ) → length x ≡ w → (n m : ℕ) → n ≡ w + m → (i : ℕ) → byte (x ++ y) (n + i) ≡ byte y (m + i)
shift w x y e n m q i = let moved : n + i ≡ w + (m + i) = omega arith in ap (byte (x ++ y)) moved ∙ byte_right w x y (m + i) e

at_next : (x y : List ℕ) → length x ≡ entry_width → (i : ℕ) → at (x ++ y) (suc i) ≡ at y i
unfolding at
at_next x y e i = same_place (x ++ y) y (entry_width * suc i) (entry_width * i) (shift entry_width x y e (entry_width * suc i) (entry_width * i) (omega arith))

-- behind the two bytes of the count
at_entry : (a b : ℕ) (y : List ℕ) (i : ℕ) → entry_in (a ∷ b ∷ y) i ≡ at y i
unfolding at
at_entry a b y i =
    same_place (a ∷ b ∷ y) y (entry_at i) (entry_width * i) (shift count_bytes (a ∷ b ∷ []) y refl (entry_at i) (entry_width * i) refl)

pub length_entry : (e : Entry) → length (entry_bytes e) ≡ entry_width
unfolding entry_bytes bytes32
length_entry e = refl

at_first : (e : Entry) (y : List ℕ) → e.key < 4294967296 → at (entry_bytes e ++ y) 0 ≡ e
unfolding at
at_first e y l = same_entry (first_key ∙ be32_bytes32 e.key l) first_unit first_rank
  where
    first_key : be32 (entry_bytes e ++ y) 0 ≡ be32 (bytes32 e.key) 0
    first_key = unfold entry_bytes in
        be32_left (bytes32 e.key ++ (e.unit ∷ e.rank ∷ [])) y 0
        (omega (arith, length-append (bytes32 e.key) (e.unit ∷ e.rank ∷ []), length_bytes32 e.key))
        ∙ be32_left (bytes32 e.key) (e.unit ∷ e.rank ∷ []) 0 (omega (arith, length_bytes32 e.key))

    first_unit : byte (entry_bytes e ++ y) unit_offset ≡ e.unit
    first_unit = unfold entry_bytes bytes32 in refl

    first_rank : byte (entry_bytes e ++ y) rank_offset ≡ e.rank
    first_rank = unfold entry_bytes bytes32 in refl

pub length_entries_bytes : (es : List Entry) → length (entries_bytes es) ≡ entry_width * length es
unfolding entries_bytes
length_entries_bytes [] = refl
length_entries_bytes (e ∷ es) = length-append (entry_bytes e) (entries_bytes es) ∙ omega (arith, length_entry e, length_entries_bytes es)

pub length_bytes16 : (x : ℕ) → length (bytes16 x) ≡ count_bytes
unfolding bytes16
length_bytes16 x = refl

-- count and entries
front_length : (es : List Entry) → length (bytes16 (length es) ++ entries_bytes es) ≡ entry_at (length es)
front_length es = length-append (bytes16 (length es)) (entries_bytes es) ∙ omega (arith, length_bytes16 (length es), length_entries_bytes es)

-- ---- read back

at_place : (es : List Entry) (y : List ℕ) → Keys32 es → (i : ℕ) → i < length es → at (entries_bytes es ++ y) i ≡ get_or es i no_entry
unfolding entries_bytes
at_place [] y m i l = absurd (not-suc-le-zero l)
at_place (e ∷ es) y m i l = rw (append_assoc (entry_bytes e) (entries_bytes es) y) (go i l (λ j k. at_place es y (λ f n. m f (inr n)) j k))
  where
    go : (i : ℕ) → i < suc (length es) → ((j : ℕ) → j < length es → at (entries_bytes es ++ y) j ≡ get_or es j no_entry)
        → at (entry_bytes e ++ (entries_bytes es ++ y)) i ≡ get_or (e ∷ es) i no_entry
    go zero l ih = at_first e (entries_bytes es ++ y) (m e (inl refl))
    go (suc i) l ih = at_next (entry_bytes e) (entries_bytes es ++ y) (length_entry e) i ∙ ih i (le_of_suc-le-suc l)

pub index_count : (n : ℕ) (es : List Entry) → length es < 65536 → count_in (index_bytes n es) ≡ length es
unfolding count_in index_bytes bytes16
index_count n es l = omega arith

pub index_entry : (n : ℕ) (es : List Entry) → Keys32 es → (i : ℕ) → i < length es → entry_in (index_bytes n es) i ≡ get_or es i no_entry
unfolding index_bytes bytes16
index_entry n es m i l =
    at_entry (length es / 256 % 256) (length es % 256) (entries_bytes es ++ zeros (n - entry_at (length es))) i
    ∙ at_place es (zeros (n - entry_at (length es))) m i l

pub length_index : (n : ℕ) (es : List Entry) → entry_at (length es) ≤ n → length (index_bytes n es) ≡ n
unfolding index_bytes
length_index n es l =
    length-append (bytes16 (length es)) (entries_bytes es ++ zeros (n - entry_at (length es)))
    ∙ omega (
      arith,
      l,
      length_bytes16 (length es),
      length-append (entries_bytes es) (zeros (n - entry_at (length es))),
      length_entries_bytes es,
      length_zeros (n - entry_at (length es)),
    )

-- an index that fills its slice has room
pub index_room : (x : List ℕ) (es : List Entry) → x ≡ index_bytes (length x) es → entry_at (length es) ≤ length x
unfolding index_bytes
index_room x es e =
    omega (
      arith,
      ap length e,
      length-append (bytes16 (length es)) (entries_bytes es ++ zeros (length x - entry_at (length es))),
      length_bytes16 (length es),
      length-append (entries_bytes es) (zeros (length x - entry_at (length es))),
      length_entries_bytes es,
    )

-- zeros to its end
pub index_zeros : (n : ℕ) (es : List Entry) → drop (entry_at (length es)) (index_bytes n es) ≡ zeros (n - entry_at (length es))
unfolding index_bytes
index_zeros n es =
    ap (drop (entry_at (length es))) (sym (append_assoc (bytes16 (length es)) (entries_bytes es) (zeros (n - entry_at (length es)))))
    ∙ drop_at (bytes16 (length es) ++ entries_bytes es) (zeros (n - entry_at (length es))) (entry_at (length es)) (front_length es)

-- ---- bytes that are an index

first_six : (y : List ℕ) → entry_width ≤ length y → ((i : ℕ) → byte y i < 256) → entry_bytes (at y 0) ≡ take entry_width y
unfolding at entry_bytes part
first_six [] l b = absurd (omega arith)
first_six (a0 ∷ []) l b = absurd (omega arith)
first_six (a0 ∷ a1 ∷ []) l b = absurd (omega arith)
first_six (a0 ∷ a1 ∷ a2 ∷ []) l b = absurd (omega arith)
first_six (a0 ∷ a1 ∷ a2 ∷ a3 ∷ []) l b = absurd (omega arith)
first_six (a0 ∷ a1 ∷ a2 ∷ a3 ∷ a4 ∷ []) l b = absurd (omega arith)
first_six (a0 ∷ a1 ∷ a2 ∷ a3 ∷ a4 ∷ a5 ∷ y) l b =
    ap (λ (z : List ℕ). z ++ (a4 ∷ a5 ∷ [])) (bytes32_be32 (a0 ∷ a1 ∷ a2 ∷ a3 ∷ a4 ∷ a5 ∷ y) 0 (omega arith) b)

entries_bytes_lem : (c : ℕ) (y : List ℕ) → entry_width * c ≤ length y → ((i : ℕ) → byte y i < 256) → entries_bytes (entries c (at y)) ≡ take (entry_width * c) y
unfolding entries_bytes entries
entries_bytes_lem zero y l b = refl
entries_bytes_lem (suc c) y l b =
    let x : List ℕ = take entry_width y in
    let z : List ℕ = drop entry_width y in
    let whole : x ++ z ≡ y = take-append-drop entry_width y in
    let six : length x ≡ entry_width = length-take-le entry_width y (omega arith) in
    let next : entry_width * suc c ≡ entry_width + entry_width * c = omega arith in
    ap₂ (λ (p q : List ℕ). p ++ q) (first_six y (omega arith) b)
    (ap entries_bytes (entries_ext c (λ (k : ℕ). at y (suc k)) (at z) (λ k _. ap (λ (t : List ℕ). at t (suc k)) (sym whole) ∙ at_next x z six k))
    ∙ entries_bytes_lem c z (omega (arith, ap length whole, length-append x z)) (λ i. low i (sym (byte_right entry_width x z i six) ∙ ap (λ (t : List ℕ). byte t (entry_width + i)) whole)))
    ∙ sym (ap (λ (n : ℕ). take n y) next ∙ take-add entry_width (entry_width * c) y)
  where
    low : (i : ℕ) {n : ℕ} → n ≡ byte y (entry_width + i) → n < 256
    low i e = omega (arith, b (entry_width + i))

pub index_of : (x : List ℕ) → ((i : ℕ) → byte x i < 256) → entry_at (count_in x) ≤ length x
    → drop (entry_at (count_in x)) x ≡ zeros (length x - entry_at (count_in x)) → x ≡ index_bytes (length x) (entries (count_in x) (entry_in x))
unfolding count_in index_bytes bytes16
index_of [] b l z = absurd (omega arith)
index_of (a0 ∷ []) b l z = absurd (omega arith)
index_of (a0 ∷ a1 ∷ y) b l z =
    let c : ℕ = a0 * 256 + a1 in
    let es : List Entry = entries c (entry_in (a0 ∷ a1 ∷ y)) in
    let n : length es ≡ c = length_entries c (entry_in (a0 ∷ a1 ∷ y)) in
    let high : a0 ≡ c / 256 % 256 = omega (arith, b 0, b 1) in
    let low : a1 ≡ c % 256 = omega (arith, b 0, b 1) in
    let same : entries_bytes es ≡ take (entry_width * c) y =
    ap entries_bytes (entries_ext c (entry_in (a0 ∷ a1 ∷ y)) (at y) (λ i _. at_entry a0 a1 y i)) ∙ entries_bytes_lem c y (omega (arith, l)) (λ i. behind i) in
    let end : drop (entry_width * c) y ≡ zeros (suc (suc (length y)) - entry_at c) = drop-drop (entry_width * c) count_bytes (a0 ∷ a1 ∷ y) ∙ z in
    rw (n, same, ← high, ← low, ← end) (ap (λ (t : List ℕ). a0 ∷ a1 ∷ t) (sym (take-append-drop (entry_width * c) y)))
  where
    behind : (i : ℕ) → byte y i < 256
    behind i = omega (arith, b (count_bytes + i), byte_right count_bytes (a0 ∷ a1 ∷ []) y i refl)
