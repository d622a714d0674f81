-- Places in lists of entries by rising key: where a key is found, where an entry goes, which place changes.
use Rattle.std.specs.Prelude.{◌≡◌, refl, false, List, [], ◌∷◌, ◌++◌, map, ℕ, zero, suc, ◌≤◌, ◌<◌, leb, ltb, eqb, length, get_or, set, take, drop}
use Rattle.std.proofs.Common.{sym, ap, ap₂, ◌∙◌, inl, inr, le_of_suc-le-suc, not-suc-le-zero, arith, ltb-true, ltb-false, le-leb, eqb-true, eq-eqb, ne_eqb}
use Rattle.std.proofs.lemmas.Bool.{lt-leb}
use Rattle.buffer.specs.Choice.{pick}
use Rattle.buffer.specs.ChoiceLaws.{by-test, by-pick, pick_true, pick-false}
use Rattle.buffer.specs.Range.{first}
use Rattle.buffer.specs.RangeLaws.{first_le, first_at}
use Rattle.buffer.specs.Membership.{In, in_place, place_in, map_none}
use Rattle.index.specs.Entries.{Entry, entry, placed}
use Rattle.index.specs.Order.{Above, Fresh, Rising, without, moved, no_entry, key_at, spot}
use Rattle.index.proofs.EntryLaws.{rising_places}

-- ---- where a key is found
pub spot_le : (k : ℕ) (es : List Entry) → spot k es ≤ length es
unfolding spot
spot_le k es = first_le (length es) (λ i. leb k (key_at es i))

pub spot_at : (es : List Entry) → Rising es → (i : ℕ) → i < length es → spot (key_at es i) es ≡ i
unfolding spot
spot_at es r i h =
    first_at (length es) (λ j. leb (key_at es i) (key_at es j)) i h (λ j l. lt-leb (key_at es i) (key_at es j) (rising_places es no_entry r j i l h))
    (le-leb (key_at es i) (key_at es i) (omega arith))

pub spot_found : (es : List Entry) → Rising es → (e : Entry) → In e es → (spot e.key es < length es) × (get_or es (spot e.key es) no_entry ≡ e)
spot_found es r e m =
    let t = place_in es no_entry e m in
    let s : spot e.key es ≡ t.0 = ap (λ (g : Entry). spot g.key es) (sym t.2) ∙ spot_at es r t.0 t.1 in
    (omega (arith, t.1), ap (λ (i : ℕ). get_or es i no_entry) s ∙ t.2)

-- ---- where an entry goes
-- a key that is not below another, nor the same, is above it
fresh_above : (e f : Entry) → (f.key ≡ e.key → ⊥) → ltb e.key f.key ≡ false → f.key < e.key
fresh_above e f o t = let q : f.key ≤ e.key = ltb-false e.key f.key t in omega arith

pub placed_at : (e : Entry) (es : List Entry) → Fresh e.key es → placed e es ≡ take (spot e.key es) es ++ (e ∷ drop (spot e.key es) es)
unfolding placed spot first
placed_at e [] h = refl
placed_at e (f ∷ fs) h =
    by-test
    (λ t. pick t (e ∷ f ∷ fs) (f ∷ placed e fs) ≡ take s (f ∷ fs) ++ (e ∷ drop s (f ∷ fs)))
    (ltb e.key f.key)
    (λ t.
    let l : e.key < f.key = ltb-true e.key f.key t in
    let q : s ≡ 0 = pick_true (le-leb e.key f.key (omega arith)) _ _ in
    pick_true refl _ _ ∙ sym (ap (λ (i : ℕ). take i (f ∷ fs) ++ (e ∷ drop i (f ∷ fs))) q))
    (λ t.
    let q : s ≡ suc (spot e.key fs) = pick-false (lt-leb e.key f.key (fresh_above e f (h f (inl refl)) t)) _ _ in
    pick-false refl _ _
    ∙ ap (λ (l : List Entry). f ∷ l) (placed_at e fs (λ g m. h g (inr m)))
    ∙ sym (ap (λ (i : ℕ). take i (f ∷ fs) ++ (e ∷ drop i (f ∷ fs))) q))
  where
    s : ℕ
    s = spot e.key (f ∷ fs)

-- ---- an entry taken out, and one changed
above_fresh : (k : ℕ) (es : List Entry) → Above k es → Fresh k es
above_fresh k es a e m p = let l : k < e.key = a e m in omega arith

-- no entry of the key: nothing goes
without_fresh : (k : ℕ) (es : List Entry) → Fresh k es → without k es ≡ es
unfolding without
without_fresh k [] h = refl
without_fresh k (e ∷ es) h = pick-false (ne_eqb e.key k (h e (inl refl))) _ _ ∙ ap (λ (t : List Entry). e ∷ t) (without_fresh k es (λ g m. h g (inr m)))

-- the first key is below that at any later place
first_below : (e : Entry) (es : List Entry) → Rising (e ∷ es) → (i : ℕ) → i < length es → e.key ≡ key_at es i → ⊥
first_below e es r i h p = let l : e.key < key_at es i = r.0 (get_or es i no_entry) (in_place es i no_entry h) in omega arith

pub without_at : (es : List Entry) → Rising es → (i : ℕ) → i < length es → without (key_at es i) es ≡ take i es ++ drop (suc i) es
unfolding without
without_at [] r i h = absurd (not-suc-le-zero h)
without_at (e ∷ es) r zero h = pick_true (eq-eqb e.key e.key refl) _ _ ∙ without_fresh e.key es (above_fresh e.key es r.0)
without_at (e ∷ es) r (suc i) h =
    pick-false (ne_eqb e.key (key_at es i) (first_below e es r i (le_of_suc-le-suc h))) _ _
    ∙ ap (λ (t : List Entry). e ∷ t) (without_at es r.1 i (le_of_suc-le-suc h))

-- f changes that one alone
pub map_at : (f : Entry → Entry) (es : List Entry) → Rising es → (i : ℕ) → i < length es → ((g : Entry) → (g.key ≡ key_at es i → ⊥) → f g ≡ g)
    → map f es ≡ set es i (f (get_or es i no_entry))
map_at f [] r i h o = absurd (not-suc-le-zero h)
map_at f (e ∷ es) r zero h o = ap (λ (t : List Entry). f e ∷ t) (map_none f es (λ g m. o g (above_fresh e.key es r.0 g m)))
map_at f (e ∷ es) r (suc i) h o =
    ap₂ ◌∷◌ (o e (first_below e es r i (le_of_suc-le-suc h))) (map_at f es r.1 i (le_of_suc-le-suc h) o)

pub moved_key : (k u r : ℕ) (e : Entry) → (moved k u r e).key ≡ e.key
unfolding moved
moved_key k u r e = by-pick (λ (f : Entry). f.key ≡ e.key) (eqb e.key k) _ _ (λ t. sym (eqb-true e.key k t)) (λ t. refl)

pub moved_hit : (k u r : ℕ) (e : Entry) → e.key ≡ k → moved k u r e ≡ entry k u r
unfolding moved
moved_hit k u r e p = pick_true (eq-eqb e.key k p) (entry k u r) e

pub moved_miss : (k u r : ℕ) (e : Entry) → (e.key ≡ k → ⊥) → moved k u r e ≡ e
unfolding moved
moved_miss k u r e n = pick-false (ne_eqb e.key k n) (entry k u r) e

pub map_moved : (es : List Entry) → Rising es → (i : ℕ) → i < length es → (u q : ℕ) → map (moved (key_at es i) u q) es ≡ set es i (entry (key_at es i) u q)
map_moved es r i h u q =
    map_at (moved (key_at es i) u q) es r i h (moved_miss (key_at es i) u q)
    ∙ ap (λ (e : Entry). set es i e) (moved_hit (key_at es i) u q (get_or es i no_entry) refl)
