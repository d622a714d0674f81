-- Writing into the bytes of a store: a run of slots or check records, one of them, a state byte or a byte of the front replaced there gives the
-- bytes of the store with that part replaced.
use Rattle.std.specs.Prelude.{ℕ, ◌+◌, ◌*◌, ◌≤◌, ◌<◌, ◌≡◌, refl, List, [], ◌∷◌, ◌++◌, set, eqb}
use Rattle.std.proofs.Math.Path.{sym, ap}
use Rattle.std.proofs.Common.{◌∙◌, arith, one-mul, get_or-take}
use Rattle.std.proofs.Math.ListN.{length}
use Rattle.buffer.specs.Choice.{pick}
use Rattle.buffer.specs.Bytes.{byte, zeros, part, splice}
use Rattle.buffer.specs.SpliceLaws.{splice_left, splice_right, set_splice}
use Rattle.buffer.specs.Table.{tab, upd}
use Rattle.buffer.specs.TableLaws.{tab_ext, tab_one, tab_zeros, splice_chunk, upd-map}
use Rattle.group.specs.Widths.{slot_bytes}
use Rattle.model.specs.Layout.{Store, bytes, view, units_in, level_in, slot_at}
use Rattle.model.specs.Places.{Region, data_units, check_units, units, width, start, chunk_at, Long, SlotIn}
use Rattle.model.specs.Parts.{with_front, with_dstates, with_cstates, with_slots, with_checks, chunks_in, with_chunks}
use Rattle.model.specs.RunLaws.{upd2, run, run_one, run_unit}
use Rattle.model.specs.UnitTableLaws.{unit_table, Chunked, table_ext, splice_run}
use Rattle.model.specs.LayoutLaws as layout
use Rattle.model.specs.LayoutLaws.{Shaped, chunked, state_bytes, bytes_view, view_shaped, length_states, length_bytes, byte_front}

-- ---- other chunks in a region
chunks_none : (k : Region) (s : Store) → with_chunks k s (chunks_in k s) ≡ s
unfolding with_slots with_checks
chunks_none data_units s = refl
chunks_none check_units s = refl

pub chunks_size : (k : Region) (s : Store) (f : ℕ → ℕ → List ℕ) → (with_chunks k s f).size ≡ s.size
unfolding with_slots with_checks
chunks_size data_units s f = refl
chunks_size check_units s f = refl

pub chunks_there : (k : Region) (s : Store) (f : ℕ → ℕ → List ℕ) → chunks_in k (with_chunks k s f) ≡ f
unfolding with_slots with_checks
chunks_there data_units s f = refl
chunks_there check_units s f = refl

pub chunks_again : (k : Region) (s : Store) (f : ℕ → ℕ → List ℕ) (u r : ℕ) (z : List ℕ)
    → with_chunks k (with_chunks k s f) (upd2 (chunks_in k (with_chunks k s f)) u r z) ≡ with_chunks k s (upd2 f u r z)
unfolding with_slots with_checks
chunks_again data_units s f u r z = refl
chunks_again check_units s f u r z = refl

pub chunks_shaped : (k : Region) (s : Store) (f : ℕ → ℕ → List ℕ) → Shaped s → Chunked (units k) s.size (width k) f → Shaped (with_chunks k s f)
unfolding with_slots with_checks
chunks_shaped data_units s f h g = record { front = h.front; size = h.size; slot = g; check = h.check }
chunks_shaped check_units s f h g = record { front = h.front; size = h.size; slot = h.slot; check = g }

-- their bytes
chunks_apart : (k : Region) (s : Store) (f : ℕ → ℕ → List ℕ)
    → bytes (with_chunks k s f) ≡ layout.before k s ++ (unit_table (units k) s.size f ++ layout.behind k s)
unfolding with_slots with_checks
chunks_apart data_units s f = layout.apart data_units (with_slots s f)
chunks_apart check_units s f = layout.apart check_units (with_checks s f)

pub chunks_ext : (k : Region) (s : Store) (f g : ℕ → ℕ → List ℕ) → ((u r : ℕ) → u < units k → r < s.size → f u r ≡ g u r)
    → bytes (with_chunks k s f) ≡ bytes (with_chunks k s g)
chunks_ext k s f g h =
    chunks_apart k s f
    ∙ ap (λ t. layout.before k s ++ (t ++ layout.behind k s)) (table_ext (units k) s.size f g h)
    ∙ sym (chunks_apart k s g)

-- bytes are those of their parts, with the chunks that they have
pub chunks_same : (k : Region) (x : List ℕ) (f : ℕ → ℕ → List ℕ) → Long x → ((u r : ℕ) → u < units k → r < (view x).size → chunks_in k (view x) u r ≡ f u r)
    → x ≡ bytes (with_chunks k (view x) f)
chunks_same k x f l h = sym (bytes_view x l) ∙ ap bytes (sym (chunks_none k (view x))) ∙ chunks_ext k (view x) _ f h

-- ---- replaced in the bytes of a store
-- the state of unit u, among the states of n units behind x and before y
splice_state : (n : ℕ) (f : ℕ → ℕ) (x y : List ℕ) (at : ℕ) → length x ≡ at → (u z : ℕ) → u < n
    → splice (at + u) 1 (z ∷ []) (x ++ (state_bytes n f ++ y)) ≡ x ++ (state_bytes n (upd f u z) ++ y)
splice_state n f x y at e u z l =
    splice_right at u 1 (z ∷ []) x _ e
    ∙ ap (λ t. x ++ t) (splice_left u 1 (z ∷ []) (state_bytes n f) y (omega (arith, length_states n f)))
    ∙ ap (λ o. x ++ (splice o 1 (z ∷ []) (state_bytes n f) ++ y)) (sym (one-mul u))
    ∙ ap (λ t. x ++ (t ++ y)) (
    splice_chunk n 1 (λ v. f v ∷ []) (λ i d. refl) u (z ∷ []) l
    ∙ tab_ext n _ (λ v. upd f u z v ∷ []) (λ v d. sym (upd-map (λ i. i ∷ []) f u z v)))

module _ (k : Region) (s : Store) (h : Shaped s) where
  -- m ranks of one unit from q on
  pub splice_ranks : (u q m : ℕ) (g : ℕ → List ℕ) → u < units k → q + m ≤ s.size
      → splice (chunk_at k s.size u q) (width k * m) (tab m (λ i. g (q + i))) (bytes s) ≡ bytes (with_chunks k s (run (chunks_in k s) u q m g))
  splice_ranks u q m g a l =
      let b : ℕ = s.size in
      let f : ℕ → ℕ → List ℕ = chunks_in k s in
      ap (splice (chunk_at k b u q) (width k * m) (tab m (λ i. g (q + i)))) (layout.apart k s)
      ∙ splice_run (units k) b (width k) f (chunked k h) (layout.before k s) (layout.behind k s) (start k b) (layout.length_before s h k) u q m g a l
      ∙ sym (chunks_apart k s (run f u q m g))

  -- one rank
  splice_rank : (u r : ℕ) (z : List ℕ) → u < units k → r < s.size
      → splice (chunk_at k s.size u r) (width k) z (bytes s) ≡ bytes (with_chunks k s (upd2 (chunks_in k s) u r z))
  splice_rank u r z a l =
      let one : width k ≡ width k * 1 = omega arith in
      ap (λ w. splice (chunk_at k s.size u r) w z (bytes s)) one
      ∙ ap (λ x. splice (chunk_at k s.size u r) (width k * 1) x (bytes s)) (sym (tab_one (λ _. z)))
      ∙ splice_ranks u r 1 (λ _. z) a (omega arith)
      ∙ chunks_ext k s _ _ (λ v q d e. run_one (chunks_in k s) u r z v q)

  -- all ranks of a unit
  pub splice_unit : (u : ℕ) (g : ℕ → List ℕ) → u < units k
      → splice (chunk_at k s.size u 0) (width k * s.size) (tab s.size g) (bytes s)
      ≡ bytes (with_chunks k s (λ v r. pick (eqb v u) (g r) (chunks_in k s v r)))
  splice_unit u g a =
      ap (λ x. splice (chunk_at k s.size u 0) (width k * s.size) x (bytes s)) (tab_ext s.size g (λ i. g (0 + i)) (λ i d. ap g (omega arith)))
      ∙ splice_ranks u 0 s.size g a (omega arith)
      ∙ chunks_ext k s _ _ (λ v r d e. run_unit (chunks_in k s) u s.size g v r e)

-- one byte: of the front, the state of a data unit, the state of a check unit
module _ (s : Store) (h : Shaped s) where
  byte_splice : (i z : ℕ) → i < 36 → set (bytes s) i z ≡ splice i 1 (z ∷ []) (bytes s)
  byte_splice i z l = set_splice (bytes s) i z (omega (arith, length_bytes s h))

  set_front : (i z : ℕ) → i < 8 → set (bytes s) i z ≡ bytes (with_front s (set s.front i z))
  unfolding bytes with_front
  set_front i z l =
      let low : i < length s.front = omega (arith, h.front) in
      byte_splice i z (omega arith) ∙ rw (set_splice s.front i z low) (splice_left i 1 (z ∷ []) s.front _ (omega arith))

  set_dstate : (u z : ℕ) → u < 16 → set (bytes s) (8 + u) z ≡ bytes (with_dstates s (upd s.dstate u z))
  unfolding bytes with_dstates
  set_dstate u z l = byte_splice (8 + u) z (omega arith) ∙ splice_state 16 s.dstate s.front _ 8 h.front u z l

  set_cstate : (c z : ℕ) → c < 12 → set (bytes s) (24 + c) z ≡ bytes (with_cstates s (upd s.cstate c z))
  unfolding with_cstates
  set_cstate c z l =
      byte_splice (24 + c) z (omega arith)
      ∙ ap (splice (24 + c) 1 (z ∷ [])) (layout.cstates_apart s)
      ∙ splice_state 12 s.cstate (layout.before_cstates s) _ 24 (layout.length_before_cstates s h) c z l
      ∙ sym (layout.cstates_apart (with_cstates s (upd s.cstate c z)))

-- ---- the bytes of a store as code holds them: s ≡ bytes t, with b read from byte 5 and a place computed from it
pub size_of : (x : List ℕ) → byte x 5 ≡ (view x).size
unfolding view
size_of x = refl

pub units_of : (x : List ℕ) → byte x 6 ≡ units_in (view x)
unfolding view units_in
units_of x = sym (get_or-take 8 x 6 0 (omega arith))

pub level_of : (x : List ℕ) → byte x 7 ≡ level_in (view x)
unfolding view level_in
level_of x = sym (get_or-take 8 x 7 0 (omega arith))

-- a slot as the part that code lends
pub slot_lent : (s : List ℕ) (b at u r : ℕ) → b ≡ byte s 5 → at ≡ slot_at b u r → part at slot_bytes s ≡ (view s).slot u r
unfolding view
slot_lent s b at u r eb ea = ap (λ i. part i slot_bytes s) (ea ∙ ap (λ i. slot_at i u r) eb)

-- a store of the same b and the same rest fills as many bytes
pub same_long : (t : Store) (x : List ℕ) → Shaped t → Long x → t.size ≡ (view x).size → t.rest ≡ (view x).rest → length (bytes t) ≡ length x
same_long t x h l e f = length_bytes t h ∙ rw (e, f) (sym (length_bytes (view x) (view_shaped x l))) ∙ ap length (bytes_view x l)

module _ (t : Store) (h : Shaped t) (s : List ℕ) (e : s ≡ bytes t) where
  pub size_at : byte s 5 ≡ t.size
  size_at = ap (λ x. byte x 5) e ∙ byte_front t h 5 (omega arith) ∙ h.size

  pub long_at : Long s
  long_at = rw (size_at, e) (omega (arith, length_bytes t h))

  pub slot_in : (u r : ℕ) → u < 16 → r < t.size → SlotIn s u r
  slot_in u r hu hr = record { long = long_at; unit = hu; rank = rw size_at hr }

  pub cstate_at : (c : ℕ) → c < 12 → byte s (24 + c) ≡ t.cstate c
  unfolding view
  cstate_at c l = ap (λ x. byte x (24 + c)) e ∙ layout.view_cstate t h c l

  pub front_set : (s' : List ℕ) (i z : ℕ) → i < 8 → s' ≡ set s i z → s' ≡ bytes (with_front t (set t.front i z))
  front_set s' i z l es = es ∙ rw e (set_front t h i z l)

  pub dstate_set : (s' : List ℕ) (at u z : ℕ) → at ≡ 8 + u → u < 16 → s' ≡ set s at z → s' ≡ bytes (with_dstates t (upd t.dstate u z))
  dstate_set s' at u z ea l es = es ∙ rw (e, ea) (set_dstate t h u z l)

  pub cstate_set : (s' : List ℕ) (at c z : ℕ) → at ≡ 24 + c → c < 12 → s' ≡ set s at z → s' ≡ bytes (with_cstates t (upd t.cstate c z))
  cstate_set s' at c z ea l es = es ∙ rw (e, ea) (set_cstate t h c z l)

module _ (k : Region) (t : Store) (h : Shaped t) (s : List ℕ) (e : s ≡ bytes t) (b : ℕ) (eb : b ≡ t.size) where
  pub chunk_at_lem : (at u r : ℕ) → at ≡ chunk_at k b u r → u < units k → r < b → part at (width k) s ≡ chunks_in k t u r
  chunk_at_lem at u r ea hu hr = rw (e, ea, eb) (layout.chunk_read t h k u r hu (rw (← eb) hr))

  pub chunk_put : (s' z : List ℕ) (at u r : ℕ) → at ≡ chunk_at k b u r → u < units k → r < b → s' ≡ splice at (width k) z s
      → s' ≡ bytes (with_chunks k t (upd2 (chunks_in k t) u r z))
  chunk_put s' z at u r ea hu hr es = es ∙ rw (e, ea, eb) (splice_rank k t h u r z hu (rw (← eb) hr))

  -- m ranks of a unit cleared from q on
  pub chunks_clear : (s' : List ℕ) (at n u q m : ℕ) → at ≡ chunk_at k b u q → n ≡ width k * m → u < units k → q + m ≤ b → s' ≡ splice at n (zeros n) s
      → s' ≡ bytes (with_chunks k t (run (chunks_in k t) u q m (λ _. zeros (width k))))
  chunks_clear s' at n u q m ea en hu hq es =
      es ∙ rw (e, ea, en, eb, ← tab_zeros m (width k)) (splice_ranks k t h u q m (λ _. zeros (width k)) hu (rw (← eb) hq))
