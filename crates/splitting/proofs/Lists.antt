-- Lists that a loop makes longer at the end: what stands at a rank, what is kept of them, and another default behind the end.
use Prim.Native.Nat.{ℕ, zero, suc, ◌<◌}
use mathlib.Core.Path.{◌≡◌, refl, sym, ap, ◌∙◌}
use mathlib.Core.Bool.{Bool, true, false}
use mathlib.Core.List.{List, [], ◌∷◌, ◌++◌, append-nil, append_assoc}
use native.Mathlib.Omega.{arith}
use lib.Dec.{eqb, leb, eqb-suc-suc, eqb-zero-suc, eqb-suc-zero}
use lib.ListN.{length, get_or, length-append}
use borrow.Author.Tests.{eqb-true, le-leb, lt-leb, leb-true}
use Rattle.buffer.specs.Choice.{pick}
use Rattle.buffer.specs.ChoiceLaws.{by-test, by-pick, pick_true, pick-false}
use Rattle.buffer.specs.TestLaws.{same_test}
use Rattle.model.specs.Changes.{filter_by, rows}

leb_suc : (a b : ℕ) → leb (suc a) (suc b) ≡ leb a b
leb_suc a b =
    same_test (leb (suc a) (suc b)) (leb a b) (λ e. le-leb a b (omega (arith, leb-true (suc a) (suc b) e)))
    (λ e. le-leb (suc a) (suc b) (omega (arith, leb-true a b e)))

module _ {A : Type 0} where
  -- one element more
  pub get_or_snoc : (l : List A) (x d : A) (r : ℕ) → get_or (l ++ (x ∷ [])) r d ≡ pick (eqb r (length l)) x (get_or l r d)
  unfolding pick
  get_or_snoc [] x d zero = refl
  get_or_snoc [] x d (suc r) = rw eqb-suc-zero
  get_or_snoc (y ∷ l) x d zero = rw eqb-zero-suc
  get_or_snoc (y ∷ l) x d (suc r) = rw eqb-suc-suc (get_or_snoc l x d r)

  pub length_snoc : (l : List A) (x : A) → length (l ++ (x ∷ [])) ≡ suc (length l)
  length_snoc l x = simp length-append (omega arith)

  -- another default, from the end of the list on
  pub get_d_default : (l : List A) (d z : A) (r : ℕ) → pick (leb (length l) r) z (get_or l r d) ≡ get_or l r z
  get_d_default [] d z r = pick_true (le-leb 0 r (omega arith)) z d
  get_d_default (y ∷ l) d z zero = pick-false (lt-leb (suc (length l)) 0 (omega arith)) z y
  get_d_default (y ∷ l) d z (suc r) = ap (λ t. pick t z (get_or l r d)) (leb_suc (length l) r) ∙ get_d_default l d z r

  -- ---- f 0 to f (n - 1) behind a list
  pub length_rows : (n : ℕ) (f : ℕ → A) → length (rows n f) ≡ n
  unfolding rows
  length_rows zero f = refl
  length_rows (suc n) f = length_snoc (rows n f) (f n) ∙ ap suc (length_rows n f)

  pub behind_none : (xs : List A) (f : ℕ → A) → xs ++ rows 0 f ≡ xs
  unfolding rows
  behind_none xs f = append-nil xs

  pub behind_more : (xs : List A) (n : ℕ) (f : ℕ → A) → xs ++ rows (suc n) f ≡ (xs ++ rows n f) ++ (f n ∷ [])
  unfolding rows
  behind_more xs n f = sym (append_assoc xs (rows n f) (f n ∷ []))

  pub behind_holds : (P : A → Type 0) (xs : List A) (n : ℕ) (f : ℕ → A) → ((k : ℕ) → k < n → P (f k)) → (r : ℕ) (d : A) → P (get_or xs r d)
      → P (get_or (xs ++ rows n f) r d)
  behind_holds P xs zero f h r d e = rw (behind_none xs f) e
  behind_holds P xs (suc n) f h r d e =
      let ih : P (get_or (xs ++ rows n f) r d) = behind_holds P xs n f (λ k l. h k (omega arith)) r d e in
      rw (behind_more xs n f, get_or_snoc (xs ++ rows n f) (f n) d r)
      (by-pick P (eqb r (length (xs ++ rows n f))) (f n) (get_or (xs ++ rows n f) r d) (λ _. h n (omega arith)) (λ _. ih))

  -- with the old element as the default, a list of the first elements shows no difference
  pub rows_self : (n : ℕ) (f : ℕ → A) (r : ℕ) → get_or (rows n f) r (f r) ≡ f r
  unfolding rows
  rows_self zero f r = refl
  rows_self (suc n) f r =
      let ih : get_or (rows n f) r (f r) ≡ f r = rows_self n f r in
      get_or_snoc (rows n f) (f n) (f r) r
      ∙ by-pick (λ x. x ≡ f r) (eqb r (length (rows n f))) (f n) (get_or (rows n f) r (f r))
      (λ e. ap f (sym (eqb-true r (length (rows n f)) e ∙ length_rows n f))) (λ _. ih)

  -- ---- what is kept of the first elements
  filter_snoc : (p : A → Bool) (xs : List A) (x : A) → filter_by p (xs ++ (x ∷ [])) ≡ pick (p x) (filter_by p xs ++ (x ∷ [])) (filter_by p xs)
  unfolding filter_by pick
  filter_snoc p [] x = refl
  filter_snoc p (y ∷ xs) x = rw (filter_snoc p xs x) (go (p y) (p x))
    where
      go : (a b : Bool) → pick a (y ∷ pick b (filter_by p xs ++ (x ∷ [])) (filter_by p xs)) (pick b (filter_by p xs ++ (x ∷ [])) (filter_by p xs))
          ≡ pick b (pick a (y ∷ filter_by p xs) (filter_by p xs) ++ (x ∷ [])) (pick a (y ∷ filter_by p xs) (filter_by p xs))
      go true true = refl
      go true false = refl
      go false true = refl
      go false false = refl

  pub kept_none : (p : A → Bool) (f : ℕ → A) → filter_by p (rows 0 f) ≡ []
  unfolding filter_by rows
  kept_none p f = refl

  pub kept_yes : (p : A → Bool) (t : ℕ) (f : ℕ → A) → p (f t) ≡ true → filter_by p (rows (suc t) f) ≡ filter_by p (rows t f) ++ (f t ∷ [])
  unfolding rows
  kept_yes p t f e = filter_snoc p (rows t f) (f t) ∙ pick_true e _ _

  pub kept_no : (p : A → Bool) (t : ℕ) (f : ℕ → A) → p (f t) ≡ false → filter_by p (rows (suc t) f) ≡ filter_by p (rows t f)
  unfolding rows
  kept_no p t f e = filter_snoc p (rows t f) (f t) ∙ pick-false e _ _

  pub kept_holds : (P : A → Type 0) (p : A → Bool) (t : ℕ) (f : ℕ → A) → ((k : ℕ) → k < t → P (f k)) → (r : ℕ) (d : A) → P d
      → P (get_or (filter_by p (rows t f)) r d)
  kept_holds P p zero f h r d e = rw (kept_none p f) e
  kept_holds P p (suc t) f h r d e =
      let ih : P (get_or (filter_by p (rows t f)) r d) = kept_holds P p t f (λ k l. h k (omega arith)) r d e in
      by-test
      (λ _. P (get_or (filter_by p (rows (suc t) f)) r d))
      (p (f t))
      (λ q.
      rw (kept_yes p t f q, get_or_snoc (filter_by p (rows t f)) (f t) d r)
      (by-pick P (eqb r (length (filter_by p (rows t f)))) (f t) (get_or (filter_by p (rows t f)) r d) (λ _. h t (omega arith)) (λ _. ih)))
      (λ q. rw (kept_no p t f q) ih)
