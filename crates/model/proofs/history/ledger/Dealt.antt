-- Lists that are dealt out, and lists put one behind the other: what holds of their elements.
use Prim.Native.Nat.{ℕ, zero, suc, ◌+◌, ◌-◌, ◌≤◌, ◌<◌}
use mathlib.Core.Path.{◌≡◌, refl, sym, ap, ◌∙◌, subst}
use mathlib.Core.Logic.{◌≢◌}
use mathlib.Core.List.{List, [], ◌∷◌, ◌++◌, map}
use mathlib.Core.Bool.{Bool, true}
use native.Mathlib.Omega.{arith}
use native.Mathlib.Nat.{zero-add, add_comm, not-suc-le-zero, zero-lt-suc}
use native.Mathlib.Numerals.{add-one}
use lib.Dec.{ltb}
use lib.ListN.{length, get_or, length-append, length-map, get_or-append, get_or-map}
use lib.Seq.{get_or-append-add, get_or_at, ext_get_or}
use borrow.Author.Tests.{ltb-true, ltb-false}
use Rattle.buffer.specs.Choice.{pick}
use Rattle.buffer.specs.ChoiceLaws.{by-test, by-pick, pick-map}
use Rattle.buffer.specs.Range.{count}
use Rattle.buffer.specs.RangeLaws.{below_suc, count_none, count_front}
use Rattle.model.specs.Changes.{filter_by, rows}

-- ---- the list of f 0 to f (n - 1)

module _ {A : Type 0} where
  pub length_rows : (n : ℕ) (f : ℕ → A) → length (rows n f) ≡ n
  unfolding rows
  length_rows zero f = refl
  length_rows (suc n) f = simp length-append (omega (arith, length_rows n f))

  pub get_d_rows : (n : ℕ) (f : ℕ → A) (d : A) (r : ℕ) → r < n → get_or (rows n f) r d ≡ f r
  unfolding rows
  get_d_rows zero f d r a = absurd (not-suc-le-zero a)
  get_d_rows (suc n) f d r a =
      below_suc
      (λ k. get_or (rows n f ++ (f n ∷ [])) k d ≡ f k)
      n
      (λ k l. get_or-append (rows n f) (f n ∷ []) d k (omega (arith, length_rows n f)) ∙ get_d_rows n f d k l)
      (get_or_at (rows n f) (f n) [] d n (length_rows n f))
      r
      a

  pub rows_ext : (n : ℕ) (f g : ℕ → A) → ((k : ℕ) → k < n → f k ≡ g k) → rows n f ≡ rows n g
  unfolding rows
  rows_ext zero f g h = refl
  rows_ext (suc n) f g h = rw (h n (omega arith), rows_ext n f g (λ k l. h k (omega arith)))

module _ {A B : Type 0} where
  -- a list by its own elements
  pub rows_map : (f : A → B) (d : A) (l : List A) → rows (length l) (λ r. f (get_or l r d)) ≡ map f l
  rows_map f d l =
      let n : length (rows (length l) (λ r. f (get_or l r d))) ≡ length l = length_rows (length l) (λ r. f (get_or l r d)) in
      ext_get_or (f d) (rows (length l) (λ r. f (get_or l r d))) (map f l) (n ∙ sym (length-map l f))
      (λ i a. get_d_rows (length l) (λ r. f (get_or l r d)) (f d) i (omega arith) ∙ sym (get_or-map f l i d))

  pub filter_map : (f : A → B) (p : B → Bool) (l : List A) → filter_by p (map f l) ≡ map f (filter_by (λ x. p (f x)) l)
  unfolding filter_by
  filter_map f p [] = refl
  filter_map f p (x ∷ xs) = rw (filter_map f p xs) (sym (pick-map (map f) (p (f x)) (x ∷ filter_by (λ x. p (f x)) xs) (filter_by (λ x. p (f x)) xs)))

-- ---- those for which a test holds

module _ {A : Type 0} where
  pub filter_length : (p : A → Bool) (l : List A) → length (filter_by p l) ≤ length l
  unfolding filter_by
  filter_length p [] = omega arith
  filter_length p (x ∷ xs) =
      let ih : length (filter_by p xs) ≤ length xs = filter_length p xs in
      by-pick (λ ys. length ys ≤ suc (length xs)) (p x) (x ∷ filter_by p xs) (filter_by p xs) (λ e. omega arith) (λ e. omega arith)

  -- of each that is kept the test holds, and what holds of all
  abbrev pub Kept : (A → Type 0) → (A → Bool) → A → List A → Type 0
  Kept P p d l = (r : ℕ) → r < length l → P (get_or l r d) × (p (get_or l r d) ≡ true)

  pub filter_all : (P : A → Type 0) (p : A → Bool) (d : A) (l : List A) → ((r : ℕ) → r < length l → P (get_or l r d)) → Kept P p d (filter_by p l)
  unfolding filter_by
  filter_all P p d [] h = λ r a. absurd (not-suc-le-zero a)
  filter_all P p d (x ∷ xs) h = go (filter_all P p d xs (λ q b. h (suc q) (omega arith)))
    where
      more : p x ≡ true → Kept P p d (filter_by p xs) → Kept P p d (x ∷ filter_by p xs)
      more e ih zero a = (h zero (zero-lt-suc (length xs)), e)
      more e ih (suc r) a = ih r (omega arith)

      go : Kept P p d (filter_by p xs) → Kept P p d (pick (p x) (x ∷ filter_by p xs) (filter_by p xs))
      go ih = by-pick (Kept P p d) (p x) (x ∷ filter_by p xs) (filter_by p xs) (λ e. more e ih) (λ e. ih)

  pub filter_ext : (p q : A → Bool) (d : A) (l : List A) → ((r : ℕ) → r < length l → p (get_or l r d) ≡ q (get_or l r d)) → filter_by p l ≡ filter_by q l
  unfolding filter_by
  filter_ext p q d [] h = refl
  filter_ext p q d (x ∷ xs) h = rw (h zero (zero-lt-suc (length xs)), filter_ext p q d xs (λ r a. h (suc r) (omega arith)))

  -- one for which the test holds stands behind those before it for which it does
  pub filter_place : (p : A → Bool) (d : A) (l : List A) (r : ℕ) → r < length l → p (get_or l r d) ≡ true
      → (count r (λ q. p (get_or l q d)) < length (filter_by p l)) × (get_or (filter_by p l) (count r (λ q. p (get_or l q d))) d ≡ get_or l r d)
  unfolding filter_by pick
  filter_place p d [] r a e = absurd (not-suc-le-zero a)
  filter_place p d (x ∷ xs) zero a e = rw (count_none (λ q. p (get_or (x ∷ xs) q d)), e) (omega arith, refl)
  filter_place p d (x ∷ xs) (suc r) a e =
      let ih = filter_place p d xs r (omega arith) e in
      rw (count_front r (λ q. p (get_or (x ∷ xs) q d)))
      (by-test (λ t. (pick t 1 0 + count r (λ q. p (get_or xs q d)) < length (pick t (x ∷ filter_by p xs) (filter_by p xs)))
      × (get_or (pick t (x ∷ filter_by p xs) (filter_by p xs)) (pick t 1 0 + count r (λ q. p (get_or xs q d))) d ≡ get_or xs r d))
      (p x)
      (λ _. (omega (arith, ih.0), ap (λ (k : ℕ). get_or (x ∷ filter_by p xs) k d) (add_comm 1 (count r (λ q. p (get_or xs q d))) ∙ add-one _) ∙ ih.1))
      (λ _. (omega (arith, ih.0), ap (λ (k : ℕ). get_or (filter_by p xs) k d) (zero-add (count r (λ q. p (get_or xs q d)))) ∙ ih.1)))

  -- an element of one of two lists, one behind the other
  pub joint : (P : A → Type 0) (d : A) (xs ys : List A) (r : ℕ) → (r < length xs → P (get_or xs r d)) → ((i : ℕ) → r ≡ length xs + i → P (get_or ys i d))
      → P (get_or (xs ++ ys) r d)
  joint P d xs ys r a b =
      by-test
      (λ t. P (get_or (xs ++ ys) r d))
      (ltb r (length xs))
      (λ e. subst P (sym (get_or-append xs ys d r (ltb-true r (length xs) e))) (a (ltb-true r (length xs) e)))
      (λ e.
      let i : ℕ = r - length xs in
      let q : r ≡ length xs + i = omega (arith, ltb-false r (length xs) e) in
      subst P (sym (ap (λ (k : ℕ). get_or (xs ++ ys) k d) q ∙ get_or-append-add xs ys i d)) (b i q))

-- ---- different keys

module _ {A : Type 0} (key : A → ℕ) (d : A) where
  abbrev pub Differ : List A → Type 0
  Differ l = (r q : ℕ) → r < q → q < length l → key (get_or l r d) ≢ key (get_or l q d)

  pub filter_differ : (p : A → Bool) (l : List A) → Differ l → Differ (filter_by p l)
  unfolding filter_by
  filter_differ p [] h = λ r q a b. absurd (not-suc-le-zero b)
  filter_differ p (x ∷ xs) h = go (filter_differ p xs (λ r q a b. h (suc r) (suc q) (omega arith) (omega arith)))
    where
      more : Differ (filter_by p xs) → Differ (x ∷ filter_by p xs)
      more ih r zero a b = absurd (omega arith)
      more ih zero (suc q) a b = (filter_all (λ (y : A). key x ≢ key y) p d xs (λ i c. h zero (suc i) (omega arith) (omega arith)) q (omega arith)).0
      more ih (suc r) (suc q) a b = ih r q (omega arith) (omega arith)

      go : Differ (filter_by p xs) → Differ (pick (p x) (x ∷ filter_by p xs) (filter_by p xs))
      go ih = by-pick Differ (p x) (x ∷ filter_by p xs) (filter_by p xs) (λ e. more ih) (λ e. ih)
