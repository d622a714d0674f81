-- What the writes make of an index: one of the list with an entry put in, taken out, or changed.
use Rattle.std.specs.Prelude.{◌≡◌, get_or, take, drop, set}
use Rattle.std.proofs.Math.Path.{refl, sym, ap, ap₂}
use Rattle.std.proofs.Common.{◌∙◌, length-drop, take-append-drop, length-take-le}
use mathlib.Core.List.{List, [], ◌∷◌, ◌++◌, map, append_assoc}
use Prim.Native.Nat.{ℕ, suc, ◌+◌, ◌*◌, ◌-◌, ◌/◌, ◌%◌, ◌≤◌, ◌<◌}
use native.Mathlib.Omega.{arith}
use Rattle.std.proofs.Math.ListN.{length, length-append}
use Rattle.std.proofs.Math.Seq.{take_at, drop_at, drop-drop, split_at}
use Rattle.std.specs.List.{copy_within}
use Rattle.std.proofs.lemmas.List.{set_split}
use Rattle.buffer.specs.Bytes.{bytes32, zeros, part, splice}
use Rattle.buffer.specs.SpliceLaws.{length_part, length_splice, splice_next, splice_before, set_splice}
use Rattle.buffer.specs.ByteLaws.{length_bytes32, length_zeros, zeros_append}
use Rattle.index.specs.Entries.{Entry, entry, count_bytes, entry_width, unit_offset, rank_offset, entry_at, entry_bytes, entries_bytes, bytes16, index_bytes, placed}
use Rattle.index.specs.Order.{Fresh, Rising, without, moved, no_entry, key_at, spot}
use Rattle.index.specs.Form.{inserted_in, removed_in, changed_in}
use Rattle.index.proofs.PlaceLaws.{placed_at, without_at, map_moved, spot_le}
use Rattle.index.proofs.ReadingLaws.{length_entry, length_entries_bytes, length_bytes16}

-- the bytes of entries, of some and of others behind them
entries_append : (xs ys : List Entry) → entries_bytes (xs ++ ys) ≡ entries_bytes xs ++ entries_bytes ys
unfolding entries_bytes
entries_append [] ys = refl
entries_append (x ∷ xs) ys = ap (λ (t : List ℕ). entry_bytes x ++ t) (entries_append xs ys) ∙ sym (append_assoc (entry_bytes x) (entries_bytes xs) (entries_bytes ys))

entries_first : (e : Entry) (es : List Entry) → entries_bytes (e ∷ es) ≡ entry_bytes e ++ entries_bytes es
unfolding entries_bytes
entries_first e es = refl

-- ---- a stretch of w bytes at a place, behind a, before t
module _ (at w : ℕ) (a b t new : List ℕ) (ea : length a ≡ at) (eb : length b ≡ w) where
  splice_stretch : splice at w new (a ++ (b ++ t)) ≡ a ++ (new ++ t)
  unfolding splice
  splice_stretch =
      ap₂ (λ (p q : List ℕ). p ++ (new ++ q)) (take_at a (b ++ t) at ea) (ap (drop w) (drop_at a (b ++ t) at ea) ∙ drop_at b t w eb)

  part_stretch : part at w (a ++ (b ++ t)) ≡ b
  unfolding part
  part_stretch = ap (take w) (drop_at a (b ++ t) at ea) ∙ take_at b t w eb

-- ---- an index by its parts
-- the bytes of some entries, and of others behind them
pub index_parts : (n : ℕ) (xs ys : List Entry) → index_bytes n (xs ++ ys)
    ≡ bytes16 (length xs + length ys) ++ (entries_bytes xs ++ (entries_bytes ys ++ zeros (n - entry_at (length xs + length ys))))
unfolding index_bytes bytes16
index_parts n xs ys =
    ap (λ (m : ℕ). bytes16 m ++ (entries_bytes (xs ++ ys) ++ zeros (n - entry_at m))) (length-append xs ys)
    ∙ ap (λ (t : List ℕ). bytes16 (length xs + length ys) ++ t)
    (ap (λ (t : List ℕ). t ++ zeros (n - entry_at (length xs + length ys))) (entries_append xs ys)
    ∙ append_assoc (entries_bytes xs) (entries_bytes ys) (zeros (n - entry_at (length xs + length ys))))

front_length : (c : ℕ) (xs : List Entry) → length (bytes16 c ++ entries_bytes xs) ≡ entry_at (length xs)
front_length c xs = simp (length-append, length_bytes16, length_entries_bytes)

-- the count replaced
splice_count : (c d : ℕ) (t : List ℕ) → splice 0 count_bytes (bytes16 d) (bytes16 c ++ t) ≡ bytes16 d ++ t
unfolding splice
splice_count c d t = ap (λ (q : List ℕ). bytes16 d ++ q) (drop_at (bytes16 c) t count_bytes (length_bytes16 c))

module _ (n : ℕ) (xs ys : List Entry) (e : Entry) where
  -- with an entry between, and without
  abbrev both : ℕ
  both = length xs + length ys

  between : index_bytes n (xs ++ (e ∷ ys))
      ≡ bytes16 (both + 1) ++ (entries_bytes xs ++ (entry_bytes e ++ (entries_bytes ys ++ zeros (n - entry_at (both + 1)))))
  between =
      let m : length xs + length (e ∷ ys) ≡ both + 1 = omega arith in
      index_parts n xs (e ∷ ys)
      ∙ ap₂ (λ (c : ℕ) (t : List ℕ). bytes16 c ++ (entries_bytes xs ++ (t ++ zeros (n - entry_at c)))) m (entries_first e ys)
      ∙ ap (λ (t : List ℕ). bytes16 (both + 1) ++ (entries_bytes xs ++ t))
      (append_assoc (entry_bytes e) (entries_bytes ys) (zeros (n - entry_at (both + 1))))

  -- the zeros behind the entries, of which an entry more takes some
  zeros_more : entry_at (both + 1) ≤ n → zeros (n - entry_at both) ≡ zeros entry_width ++ zeros (n - entry_at (both + 1))
  zeros_more h =
      let m : n - entry_at both ≡ entry_width + (n - entry_at (both + 1)) = omega arith in
      ap zeros m ∙ sym (zeros_append entry_width (n - entry_at (both + 1)))

  apart : entry_at (both + 1) ≤ n → index_bytes n (xs ++ ys)
      ≡ bytes16 both ++ (entries_bytes xs ++ (entries_bytes ys ++ (zeros entry_width ++ zeros (n - entry_at (both + 1)))))
  apart h = index_parts n xs ys ∙ ap (λ (t : List ℕ). bytes16 both ++ (entries_bytes xs ++ (entries_bytes ys ++ t))) (zeros_more h)

  abbrev front : ℕ → List ℕ
  front c = bytes16 c ++ entries_bytes xs

  abbrev rest : List ℕ
  rest = zeros (n - entry_at (both + 1))

  behind : both - length xs ≡ length ys
  behind = omega arith

  -- ---- an entry put in
  put : entry_at (both + 1) ≤ n → inserted_in both (length xs) e (index_bytes n (xs ++ ys)) ≡ index_bytes n (xs ++ (e ∷ ys))
  unfolding inserted_in
  put h =
      let at : ℕ = entry_at (length xs) in
      let w : ℕ = entry_width * length ys in
      let x : List ℕ = front both ++ (entries_bytes ys ++ (zeros entry_width ++ rest)) in
      let x' : List ℕ = front both ++ ((entries_bytes ys ++ zeros entry_width) ++ rest) in
      let is : index_bytes n (xs ++ ys) ≡ x = apart h ∙ sym (append_assoc (bytes16 both) (entries_bytes xs) (entries_bytes ys ++ (zeros entry_width ++ rest))) in
      let alike : x ≡ x' = ap (λ (t : List ℕ). front both ++ t) (sym (append_assoc (entries_bytes ys) (zeros entry_width) rest)) in
      let taken : part at w x ≡ entries_bytes ys =
      part_stretch at w (front both) (entries_bytes ys) (zeros entry_width ++ rest) [] (front_length both xs) (length_entries_bytes ys) in
      let long : length (entries_bytes ys ++ zeros entry_width) ≡ entry_width + w =
      length-append (entries_bytes ys) (zeros entry_width) ∙ omega (arith, length_entries_bytes ys, length_zeros entry_width) in
      let new : List ℕ = entry_bytes e ++ entries_bytes ys in
      let shifted : splice at (entry_width + w) new x ≡ front both ++ (new ++ rest) =
      ap (splice at (entry_width + w) new) alike
      ∙ splice_stretch at (entry_width + w) (front both) (entries_bytes ys ++ zeros entry_width) rest new (front_length both xs) long in
      ap₂ (λ (m : ℕ) (y : List ℕ). splice 0 count_bytes (bytes16 (both + 1)) (splice at (entry_width + entry_width * m) (entry_bytes e ++ part at (entry_width * m) y) y))
      behind is
      ∙ ap (λ (y : List ℕ). splice 0 count_bytes (bytes16 (both + 1)) (splice at (entry_width + w) (entry_bytes e ++ y) x)) taken
      ∙ ap (splice 0 count_bytes (bytes16 (both + 1))) (shifted ∙ append_assoc (bytes16 both) (entries_bytes xs) (new ++ rest))
      ∙ splice_count both (both + 1) (entries_bytes xs ++ (new ++ rest))
      ∙ ap (λ (t : List ℕ). bytes16 (both + 1) ++ (entries_bytes xs ++ t)) (append_assoc (entry_bytes e) (entries_bytes ys) rest)
      ∙ sym between

  -- ---- an entry taken out
  taken_out : entry_at (both + 1) ≤ n → removed_in (both + 1) (length xs) (index_bytes n (xs ++ (e ∷ ys))) ≡ index_bytes n (xs ++ ys)
  unfolding removed_in
  taken_out h =
      let at : ℕ = entry_at (length xs) in
      let w : ℕ = entry_width * length ys in
      let c : ℕ = both + 1 in
      let less : c - 1 ≡ both = omega arith in
      let count : c - 1 - length xs ≡ length ys = omega arith in
      let x : List ℕ = front c ++ (entry_bytes e ++ (entries_bytes ys ++ rest)) in
      let x₁ : List ℕ = (front c ++ entry_bytes e) ++ (entries_bytes ys ++ rest) in
      let x₂ : List ℕ = front c ++ ((entry_bytes e ++ entries_bytes ys) ++ rest) in
      let is : index_bytes n (xs ++ (e ∷ ys)) ≡ x = between ∙ sym (append_assoc (bytes16 c) (entries_bytes xs) (entry_bytes e ++ (entries_bytes ys ++ rest))) in
      let first : x ≡ x₁ = sym (append_assoc (front c) (entry_bytes e) (entries_bytes ys ++ rest)) in
      let second : x ≡ x₂ = ap (λ (t : List ℕ). front c ++ t) (sym (append_assoc (entry_bytes e) (entries_bytes ys) rest)) in
      let ahead : length (front c ++ entry_bytes e) ≡ entry_at (length xs + 1) =
      length-append (front c) (entry_bytes e) ∙ omega (arith, front_length c xs, length_entry e) in
      let moved : part (entry_at (length xs + 1)) w x ≡ entries_bytes ys =
      ap (part (entry_at (length xs + 1)) w) first
      ∙ part_stretch (entry_at (length xs + 1)) w (front c ++ entry_bytes e) (entries_bytes ys) rest [] ahead (length_entries_bytes ys) in
      let long : length (entry_bytes e ++ entries_bytes ys) ≡ w + entry_width =
      length-append (entry_bytes e) (entries_bytes ys) ∙ omega (arith, length_entry e, length_entries_bytes ys) in
      let new : List ℕ = entries_bytes ys ++ zeros entry_width in
      let shifted : splice at (w + entry_width) new x ≡ front c ++ (new ++ rest) =
      ap (splice at (w + entry_width) new) second
      ∙ splice_stretch at (w + entry_width) (front c) (entry_bytes e ++ entries_bytes ys) rest new (front_length c xs) long in
      ap₂ (λ (m : ℕ) (y : List ℕ). splice 0 count_bytes (bytes16 (c - 1))
      (splice at (entry_width * m + entry_width) (part (entry_at (length xs + 1)) (entry_width * m) y ++ zeros entry_width) y)) count is
      ∙ ap₂ (λ (d : ℕ) (y : List ℕ). splice 0 count_bytes (bytes16 d) (splice at (w + entry_width) (y ++ zeros entry_width) x)) less moved
      ∙ ap (splice 0 count_bytes (bytes16 both)) (shifted ∙ append_assoc (bytes16 c) (entries_bytes xs) (new ++ rest))
      ∙ splice_count c both (entries_bytes xs ++ (new ++ rest))
      ∙ ap (λ (t : List ℕ). bytes16 both ++ (entries_bytes xs ++ t)) (append_assoc (entries_bytes ys) (zeros entry_width) rest)
      ∙ sym (apart h)

  -- ---- another unit and rank
  changed : (u r : ℕ) → changed_in (length xs) u r (index_bytes n (xs ++ (e ∷ ys)))
      ≡ bytes16 (both + 1) ++ (entries_bytes xs ++ (entry_bytes (entry e.key u r) ++ (entries_bytes ys ++ rest)))
  unfolding changed_in
  changed u r =
      let c : ℕ = both + 1 in
      let key : List ℕ = bytes32 e.key in
      let tail : List ℕ = entries_bytes ys ++ rest in
      let ahead : length (front c ++ key) ≡ entry_at (length xs) + unit_offset =
      length-append (front c) key ∙ omega (arith, front_length c xs, length_bytes32 e.key) in
      ap (splice (entry_at (length xs) + unit_offset) 2 (u ∷ r ∷ [])) (between ∙ sym (opened e))
      ∙ splice_stretch (entry_at (length xs) + unit_offset) 2 (front c ++ key) (e.unit ∷ e.rank ∷ []) tail (u ∷ r ∷ []) ahead refl
      ∙ opened (entry e.key u r)
    where
      opened : (f : Entry) → (front (both + 1) ++ bytes32 f.key) ++ ((f.unit ∷ f.rank ∷ []) ++ (entries_bytes ys ++ rest))
          ≡ bytes16 (both + 1) ++ (entries_bytes xs ++ (entry_bytes f ++ (entries_bytes ys ++ rest)))
      opened f = unfold entry_bytes in simp append_assoc

-- ---- at a place
module _ (n : ℕ) (es : List Entry) (i : ℕ) where
  pub inserted_index : (e : Entry) → i ≤ length es → entry_at (length es + 1) ≤ n
      → inserted_in (length es) i e (index_bytes n es) ≡ index_bytes n (take i es ++ (e ∷ drop i es))
  inserted_index e l h =
      let xs : List Entry = take i es in
      let ys : List Entry = drop i es in
      let front : length xs ≡ i = length-take-le i es l in
      let sum : length xs + length ys ≡ length es = omega (arith, front, length-drop i es) in
      sym (ap₂ (λ (m j : ℕ). inserted_in m j e (index_bytes n (xs ++ ys))) sum front ∙ ap (λ (t : List Entry). inserted_in (length es) i e (index_bytes n t)) (take-append-drop i es))
      ∙ put n xs ys e (omega (arith, sum, h))

  module _ (l : i < length es) (h : entry_at (length es) ≤ n) where
    abbrev xs : List Entry
    xs = take i es

    abbrev ys : List Entry
    ys = drop (suc i) es

    at_front : length xs ≡ i
    at_front = length-take-le i es (omega arith)

    at_sum : length xs + length ys + 1 ≡ length es
    at_sum = omega (arith, at_front, length-drop (suc i) es)

    at_split : es ≡ xs ++ (get_or es i no_entry ∷ ys)
    at_split = split_at es i no_entry l

    pub removed_index : removed_in (length es) i (index_bytes n es) ≡ index_bytes n (xs ++ ys)
    removed_index =
        ap (λ (t : List Entry). removed_in (length es) i (index_bytes n t)) at_split
        ∙ sym (ap₂ (λ (m j : ℕ). removed_in m j (index_bytes n (xs ++ (get_or es i no_entry ∷ ys)))) at_sum at_front)
        ∙ taken_out n xs ys (get_or es i no_entry) (omega (arith, at_sum, h))

    pub changed_index : (u r : ℕ) → changed_in i u r (index_bytes n es) ≡ index_bytes n (set es i (entry (key_at es i) u r))
    changed_index u r =
        let f : Entry = entry (key_at es i) u r in
        ap₂ (λ (j : ℕ) (t : List Entry). changed_in j u r (index_bytes n t)) (sym at_front) at_split
        ∙ changed n xs ys (get_or es i no_entry) u r
        ∙ sym (between n xs ys f)
        ∙ ap (index_bytes n) (sym (set_split es i f l))

-- ---- by key
pub inserted_placed : (n : ℕ) (es : List Entry) (e : Entry) → Fresh e.key es → entry_at (length es + 1) ≤ n
    → inserted_in (length es) (spot e.key es) e (index_bytes n es) ≡ index_bytes n (placed e es)
inserted_placed n es e f h = inserted_index n es (spot e.key es) e (spot_le e.key es) h ∙ ap (index_bytes n) (sym (placed_at e es f))

module _ (n : ℕ) (es : List Entry) (r : Rising es) (i : ℕ) (l : i < length es) (h : entry_at (length es) ≤ n) where
  pub removed_without : removed_in (length es) i (index_bytes n es) ≡ index_bytes n (without (key_at es i) es)
  removed_without = removed_index n es i l h ∙ ap (index_bytes n) (sym (without_at es r i l))

  pub changed_moved : (u q : ℕ) → changed_in i u q (index_bytes n es) ≡ index_bytes n (map (moved (key_at es i) u q) es)
  changed_moved u q = changed_index n es i l h u q ∙ ap (index_bytes n) (sym (map_moved es r i l u q))

-- ---- single bytes written one behind the other
pub pair_written : (x : List ℕ) (at u r : ℕ) → at + 2 ≤ length x → set (set x at u) (at + 1) r ≡ splice at 2 (u ∷ r ∷ []) x
pair_written x at u r h =
    let y : List ℕ = splice at 1 (u ∷ []) x in
    let long : length y ≡ length x = length_splice at 1 (u ∷ []) x (omega arith) refl in
    ap (λ (z : List ℕ). set z (at + 1) r) (set_splice x at u (omega arith))
    ∙ set_splice y (at + 1) r (omega arith)
    ∙ splice_next at 1 1 (u ∷ []) (r ∷ []) x (omega arith) refl

pub entry_written : (x : List ℕ) (at k u r : ℕ) → at + entry_width ≤ length x
    → set (set (splice at 4 (bytes32 k) x) (at + unit_offset) u) (at + rank_offset) r ≡ splice at entry_width (entry_bytes (entry k u r)) x
unfolding entry_bytes
entry_written x at k u r h =
    let y : List ℕ = splice at 4 (bytes32 k) x in
    let last : at + rank_offset ≡ at + 4 + 1 = omega arith in
    let long : length y ≡ length x = length_splice at 4 (bytes32 k) x (omega arith) (length_bytes32 k) in
    ap (λ (j : ℕ). set (set y (at + 4) u) j r) last
    ∙ pair_written y (at + 4) u r (omega arith)
    ∙ splice_next at 4 2 (bytes32 k) (u ∷ r ∷ []) x (omega arith) (length_bytes32 k)

-- ---- bytes copied within a list
pub copied : (x : List ℕ) (i j at : ℕ) → copy_within x i j at ≡ splice at (j - i) (part i (j - i) x) x
unfolding splice part
copied x i j at = rw (drop-drop (j - i) at x) (append_assoc (take at x) (take (j - i) (drop i x)) (drop (at + (j - i)) x))

-- the two bytes of a number of 16 bits
pub low16 : (n : ℕ) → n % 65536 / 256 % 256 ∷ n % 65536 % 256 ∷ [] ≡ bytes16 n
unfolding bytes16
low16 n =
    let high : n % 65536 / 256 % 256 ≡ n / 256 % 256 = omega arith in
    let low : n % 65536 % 256 ≡ n % 256 = omega arith in
    rw (high, low)

-- ---- the writes by their steps: the entries behind shifted, the entry written or cleared, the count written
pub inserted_steps : (n i : ℕ) (e : Entry) (x : List ℕ) {x₁ x₂ x₃ : List ℕ} → i ≤ n → entry_at (n + 1) ≤ length x
    → x₁ ≡ splice (entry_at i + entry_width) (entry_at n - entry_at i) (part (entry_at i) (entry_at n - entry_at i) x) x
    → x₂ ≡ splice (entry_at i) entry_width (entry_bytes e) x₁ → x₃ ≡ splice 0 count_bytes (bytes16 (n + 1)) x₂ → x₃ ≡ inserted_in n i e x
unfolding inserted_in
inserted_steps n i e x h l p q r =
    let at : ℕ = entry_at i in
    let w : ℕ = entry_width * (n - i) in
    let wide : entry_at n - at ≡ w = omega arith in
    r
    ∙ ap (splice 0 count_bytes (bytes16 (n + 1)))
    (q
    ∙ ap (splice at entry_width (entry_bytes e)) (p ∙ ap (λ (m : ℕ). splice (at + entry_width) m (part at m x) x) wide)
    ∙ splice_before at entry_width w (entry_bytes e) (part at w x) x (omega arith))

pub removed_steps : (n i : ℕ) (x : List ℕ) {x₁ x₂ x₃ : List ℕ} → i < n → entry_at n ≤ length x
    → x₁ ≡ splice (entry_at i) (entry_at (n - 1) - entry_at i) (part (entry_at i + entry_width) (entry_at (n - 1) - entry_at i) x) x
    → x₂ ≡ splice (entry_at (n - 1)) entry_width (zeros entry_width) x₁ → x₃ ≡ splice 0 count_bytes (bytes16 (n - 1)) x₂ → x₃ ≡ removed_in n i x
unfolding removed_in
removed_steps n i x h l p q r =
    let at : ℕ = entry_at i in
    let w : ℕ = entry_width * (n - 1 - i) in
    let wide : entry_at (n - 1) - at ≡ w = omega arith in
    let last : entry_at (n - 1) ≡ at + w = omega arith in
    let next : at + entry_width ≡ entry_at (i + 1) = omega arith in
    let moved : List ℕ = part (entry_at (i + 1)) w x in
    r
    ∙ ap (splice 0 count_bytes (bytes16 (n - 1)))
    (q
    ∙ ap₂ (λ (j : ℕ) (y : List ℕ). splice j entry_width (zeros entry_width) y) last
    (p ∙ ap₂ (λ (m o : ℕ). splice at m (part o m x) x) wide next)
    ∙ splice_next at w entry_width moved (zeros entry_width) x (omega arith) (length_part (entry_at (i + 1)) w x (omega arith)))
