-- Entries by rising key: a list whose keys rise is fixed by what stands in it, and so what comes of entries that are put in, taken out or changed.
use Rattle.std.specs.Prelude.{ℕ, zero, suc, ◌≤◌, ◌<◌, ◌≡◌, refl, ◌≢◌, ◌⊎◌, List, [], ◌∷◌, ◌++◌, map, eqb, ltb, length, get_or}
use Rattle.std.proofs.Common.{sym, ap, ap₂, ◌∙◌, inl, inr, ⊎_elim, le_of_suc-le-suc, not-suc-le-zero, arith, eqb-true, ltb-true, ltb-false}
use Rattle.std.proofs.lemmas.Bool.{eqb-false}
use Rattle.buffer.specs.ChoiceLaws.{by-pick}
use Rattle.buffer.specs.Loops.{entries}
use Rattle.buffer.specs.Membership.{In, Inside, in_either, entries_in_lem, in_place, map_in}
use Rattle.index.specs.Entries.{Entry, placed, rising}
use Rattle.index.specs.Order.{Above, Fresh, Keys32, Rising, Different, without}

-- ---- an entry put among others

pub length_placed : (e : Entry) (es : List Entry) → length (placed e es) ≡ suc (length es)
unfolding placed
length_placed e [] = refl
length_placed e (f ∷ fs) =
    let ih : length (placed e fs) ≡ suc (length fs) = length_placed e fs in
    by-pick (λ (xs : List Entry). length xs ≡ suc (suc (length fs))) (ltb e.key f.key) _ _ (λ _. refl) (λ _. ap suc ih)

pub placed_in : (e : Entry) (es : List Entry) (g : Entry) → In g (placed e es) → (g ≡ e) ⊎ In g es
unfolding placed
placed_in e [] g i = i
placed_in e (f ∷ fs) g i = by-pick (λ (xs : List Entry). In g xs → (g ≡ e) ⊎ In g (f ∷ fs)) (ltb e.key f.key) (e ∷ f ∷ fs) (f ∷ placed e fs)
    (λ _ j. j) (λ _ j. ⊎_elim (λ q. inr (inl q)) (λ k. ⊎_elim (λ q. inl q) (λ m. inr (inr m)) (placed_in e fs g k)) j) i

pub in_placed : (e : Entry) (es : List Entry) (g : Entry) → (g ≡ e) ⊎ In g es → In g (placed e es)
unfolding placed
in_placed e [] g i = i
in_placed e (f ∷ fs) g i = by-pick (In g) (ltb e.key f.key) (e ∷ f ∷ fs) (f ∷ placed e fs)
    (λ _. i) (λ _. ⊎_elim (λ q. inr (in_placed e fs g (inl q))) (λ j. ⊎_elim (λ q. inl q) (λ k. inr (in_placed e fs g (inr k))) j) i)

-- above the first of a list that rises
above_all : (k : ℕ) (f : Entry) (fs : List Entry) → k < f.key → Above f.key fs → Above k (f ∷ fs)
above_all k f fs l a e i = ⊎_elim (λ q. rw q l) (λ j. omega (arith, l, a e j)) i

pub placed_rising : (e : Entry) (es : List Entry) → Rising es → Fresh e.key es → Rising (placed e es)
unfolding placed
placed_rising e [] r d = (λ g i. absurd i, tt)
placed_rising e (f ∷ fs) r d = by-pick Rising (ltb e.key f.key) (e ∷ f ∷ fs) (f ∷ placed e fs)
    (λ q. (above_all e.key f fs (ltb-true e.key f.key q) r.0, r))
    (λ q. (
      λ g i. ⊎_elim (λ p. rw p (below (ltb-false e.key f.key q))) (λ j. r.0 g j) (placed_in e fs g i),
      placed_rising e fs r.1 (λ g i. d g (inr i)),
    ))
  where
    below : f.key ≤ e.key → f.key < e.key
    below l = omega (arith, d f (inl refl))

-- ---- all of a list

pub length_rising : (es : List Entry) → length (rising es) ≡ length es
unfolding rising
length_rising [] = refl
length_rising (e ∷ es) = length_placed e (rising es) ∙ ap suc (length_rising es)

pub rising_in : (es : List Entry) → Inside (rising es) es
unfolding rising
rising_in [] g i = i
rising_in (e ∷ es) g i = ⊎_elim (λ q. inl q) (λ j. inr (rising_in es g j)) (placed_in e (rising es) g i)

pub in_rising : (es : List Entry) → Inside es (rising es)
unfolding rising
in_rising [] g i = i
in_rising (e ∷ es) g i = in_placed e (rising es) g (⊎_elim (λ q. inl q) (λ j. inr (in_rising es g j)) i)

pub rising_rises : (es : List Entry) → Different es → Rising (rising es)
unfolding rising
rising_rises [] d = tt
rising_rises (e ∷ es) d = placed_rising e (rising es) (rising_rises es d.1) (λ g i. d.0 g (rising_in es g i))

-- ---- rising lists, one inside the other

-- what is inside, but for the first, is inside the rest
inside_rest : (k : ℕ) (xs : List Entry) (y : Entry) (ys : List Entry) → Above k xs → y.key ≤ k → Inside xs (y ∷ ys) → Inside xs ys
inside_rest k xs y ys a l h e i = ⊎_elim (λ q. absurd (omega (arith, a e i, ap (λ (f : Entry). f.key) q))) (λ j. j) (h e i)

-- the first inside the rest: then all are
inside_later : (x : Entry) (xs : List Entry) (y : Entry) (ys : List Entry) → Above x.key xs → Above y.key ys → In x ys
    → Inside (x ∷ xs) (y ∷ ys) → Inside (x ∷ xs) ys
inside_later x xs y ys a b j h e i =
    let above : y.key < x.key = b x j in
    ⊎_elim (λ q. rw q j) (λ m. inside_rest x.key xs y ys a (omega arith) (λ e i. h e (inr i)) e m) i

pub inside_shorter : (xs ys : List Entry) → Rising xs → Rising ys → Inside xs ys → length xs ≤ length ys
inside_shorter [] ys r t h = omega arith
inside_shorter (x ∷ xs) [] r t h = absurd (h x (inl refl))
inside_shorter (x ∷ xs) (y ∷ ys) r t h = ⊎_elim
    (λ q. let same : x.key ≡ y.key = ap (λ (f : Entry). f.key) q in
    let rest : length xs ≤ length ys =
    inside_shorter xs ys r.1 t.1 (inside_rest x.key xs y ys r.0 (omega arith) (λ e i. h e (inr i))) in omega arith)
    (λ j.
    let rest : length (x ∷ xs) ≤ length ys = inside_shorter (x ∷ xs) ys r t.1 (inside_later x xs y ys r.0 t.0 j h) in
    omega arith)
    (h x (inl refl))

-- as long as the other, it is the other
pub inside_whole : (xs ys : List Entry) → Rising xs → Rising ys → Inside xs ys → length ys ≤ length xs → xs ≡ ys
inside_whole [] [] r t h l = refl
inside_whole [] (y ∷ ys) r t h l = absurd (omega arith)
inside_whole (x ∷ xs) [] r t h l = absurd (h x (inl refl))
inside_whole (x ∷ xs) (y ∷ ys) r t h l = ⊎_elim
    (λ q. let same : x.key ≡ y.key = ap (λ (f : Entry). f.key) q in
    ap₂ ◌∷◌ q (inside_whole xs ys r.1 t.1 (inside_rest x.key xs y ys r.0 (omega arith) (λ e i. h e (inr i))) (omega arith)))
    (λ j. absurd (omega (arith, l, inside_shorter (x ∷ xs) ys r t.1 (inside_later x xs y ys r.0 t.0 j h))))
    (h x (inl refl))

-- and so are two lists, each inside the other
same_inside : (xs ys : List Entry) → Rising xs → Rising ys → Inside xs ys → Inside ys xs → xs ≡ ys
same_inside xs ys r t h k = inside_whole xs ys r t h (inside_shorter ys xs t r k)

-- ---- from place to place

pub rising_places : (es : List Entry) (d : Entry) → Rising es → (i j : ℕ) → i < j → j < length es → (get_or es i d).key < (get_or es j d).key
rising_places [] d r i j l m = absurd (not-suc-le-zero m)
rising_places (e ∷ es) d r i zero l m = absurd (not-suc-le-zero l)
rising_places (e ∷ es) d r zero (suc j) l m = r.0 (get_or es j d) (in_place es j d (le_of_suc-le-suc m))
rising_places (e ∷ es) d r (suc i) (suc j) l m = rising_places es d r.1 i j (le_of_suc-le-suc l) (le_of_suc-le-suc m)

pub places_rising : (es : List Entry) (d : Entry) → ((i : ℕ) → suc i < length es → (get_or es i d).key < (get_or es (suc i) d).key) → Rising es
places_rising [] d h = tt
places_rising (e ∷ []) d h = (λ g i. absurd i, tt)
places_rising (e ∷ f ∷ fs) d h =
    let rest : Rising (f ∷ fs) = places_rising (f ∷ fs) d (λ i l. h (suc i) (omega arith)) in
    (above_all e.key f fs (h 0 (omega arith)) rest.0, rest)

-- ---- different keys

pub different_append : (xs ys : List Entry) → Different xs → Different ys → ((e f : Entry) → In e xs → In f ys → e.key ≢ f.key) → Different (xs ++ ys)
different_append [] ys a b h = b
different_append (x ∷ xs) ys a b h = (
  λ e i. ⊎_elim (λ j. a.0 e j) (λ j q. h x e (inl refl) j (sym q)) (in_either e xs ys i),
  different_append xs ys a.1 b (λ e f i j. h e f (inr i) j),
)

pub different_entries : (n : ℕ) (f : ℕ → Entry) → ((i j : ℕ) → i < j → j < n → (f i).key ≢ (f j).key) → Different (entries n f)
unfolding entries
different_entries zero f h = tt
different_entries (suc n) f h = (
  λ e i q. let r = entries_in_lem n (λ (k : ℕ). f (suc k)) e i in
      h 0 (suc r.0) (omega arith) (omega (arith, r.1)) (sym q ∙ ap (λ (d : Entry). d.key) r.2),
  different_entries n (λ (k : ℕ). f (suc k)) (λ i j l m. h (suc i) (suc j) (omega arith) (omega arith)),
)

-- each key has one entry
pub different_one : (es : List Entry) → Different es → (e f : Entry) → In e es → In f es → e.key ≡ f.key → e ≡ f
different_one [] d e f i j q = absurd i
different_one (g ∷ gs) d e f i j q = ⊎_elim
    (λ a. ⊎_elim (λ b. a ∙ sym b) (λ b. absurd (d.0 f b (sym q ∙ ap (λ (x : Entry). x.key) a))) j)
    (λ a. ⊎_elim (λ b. absurd (d.0 e a (q ∙ ap (λ (x : Entry). x.key) b))) (λ b. different_one gs d.1 e f a b q) j)
    i

-- ---- entries changed one by one, keys kept

module _ (g : Entry → Entry) (same : (e : Entry) → (g e).key ≡ e.key) where
  pub map_rising : (es : List Entry) → Rising es → Rising (map g es)
  map_rising [] r = tt
  map_rising (e ∷ es) r = (
    λ d i. let f = map_in g es d i in rw (f.2, same e, same f.0) (r.0 f.0 f.1),
    map_rising es r.1,
  )

  pub map_small : (es : List Entry) → Keys32 es → Keys32 (map g es)
  map_small es s d i = let f = map_in g es d i in rw (f.2, same f.0) (s f.0 f.1)

-- ---- those of other keys than k

pub without_in : (k : ℕ) (es : List Entry) (e : Entry) → In e (without k es) → In e es × (e.key ≢ k)
unfolding without
without_in k [] e i = absurd i
without_in k (f ∷ fs) e i = by-pick (λ (xs : List Entry). In e xs → In e (f ∷ fs) × (e.key ≢ k)) (eqb f.key k) (without k fs) (f ∷ without k fs)
    (λ _ j. let r = without_in k fs e j in (inr r.0, r.1))
    (λ d j. ⊎_elim (λ q. (inl q, rw q (eqb-false f.key k d))) (λ m. let r = without_in k fs e m in (inr r.0, r.1)) j) i

pub in_without : (k : ℕ) (es : List Entry) (e : Entry) → In e es → e.key ≢ k → In e (without k es)
unfolding without
in_without k [] e i d = absurd i
in_without k (f ∷ fs) e i d = by-pick (In e) (eqb f.key k) (without k fs) (f ∷ without k fs)
    (λ q. ⊎_elim (λ s. absurd (d (ap (λ (x : Entry). x.key) s ∙ eqb-true f.key k q))) (λ j. in_without k fs e j d) i)
    (λ _. ⊎_elim (λ s. inl s) (λ j. inr (in_without k fs e j d)) i)

pub without_rising : (k : ℕ) (es : List Entry) → Rising es → Rising (without k es)
unfolding without
without_rising k [] r = tt
without_rising k (e ∷ es) r = by-pick Rising (eqb e.key k) (without k es) (e ∷ without k es)
    (λ _. without_rising k es r.1)
    (λ _. (λ f i. r.0 f (without_in k es f i).0, without_rising k es r.1))

pub length_without : (k : ℕ) (es : List Entry) → length (without k es) ≤ length es
unfolding without
length_without k [] = omega arith
length_without k (e ∷ es) =
    let ih : length (without k es) ≤ length es = length_without k es in
    by-pick (λ (xs : List Entry). length xs ≤ suc (length es)) (eqb e.key k) (without k es) (e ∷ without k es) (λ _. omega arith) (λ _. omega arith)

-- ---- which list the entries come to by rising key

-- a rising list of entries of es, with an entry for each key of es
pub rising_is : (es zs : List Entry) → Different es → Rising zs → Inside zs es → ((e : Entry) → In e es → (f : Entry) × In f zs × (f.key ≡ e.key))
    → rising es ≡ zs
rising_is es zs d r inside each =
    same_inside (rising es) zs (rising_rises es d) r
    (λ e i. let f = each e (rising_in es e i) in rw (← (different_one es d f.0 e (inside f.0 f.1) (rising_in es e i) f.2)) f.1)
    (λ e i. in_rising es e (inside e i))
