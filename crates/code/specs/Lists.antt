-- What the tests `within` and `different` say of a list, entry by entry, and how a fact about lists of four is shown: `four`, by its entries, and
-- `all_four`, from the four indices.
use Rattle.std.specs.Prelude.{◌≡◌, refl, Bool, true, false, not, ◌&&◌, List, [], ◌∷◌, map, ℕ, zero, suc, ◌≤◌, ◌<◌, leb, eqb, length, get_or}
use Rattle.std.proofs.Common.{ap, ◌∙◌, not-suc-le-zero, le_of_suc-le-suc, arith, lit<, leb-true, le-leb}
use Rattle.std.proofs.lemmas.Bool.{eqb-false, not-true}
use Rattle.algebra.specs.Every.{yes_true}
use Rattle.algebra.specs.Polynomial.{All}
use Rattle.code.specs.Matrix.{within, absent, different}

pub both_first : (a b : Bool) → (a && b) ≡ true → a ≡ true
both_first true b e = refl
both_first false b e = e

pub both_second : (a b : Bool) → (a && b) ≡ true → b ≡ true
both_second true b e = e
both_second false b e = absurd (yes_true e)

pub within_head : (n x : ℕ) (l : List ℕ) → within n (x ∷ l) ≡ true → x ≤ n
within_head n x l e = leb-true x n (both_first (leb x n) (within n l) e)

pub within_tail : (n x : ℕ) (l : List ℕ) → within n (x ∷ l) ≡ true → within n l ≡ true
within_tail n x l e = both_second (leb x n) (within n l) e

pub within_cons : (n x : ℕ) (l : List ℕ) → x ≤ n → within n l ≡ true → within n (x ∷ l) ≡ true
within_cons n x l h e = ap (λ (b : Bool). b && within n l) (le-leb x n h) ∙ e

pub within_at : (n : ℕ) (l : List ℕ) → within n l ≡ true → (k : ℕ) → k < length l → get_or l k 0 ≤ n
within_at n [] e k h = absurd (not-suc-le-zero h)
within_at n (x ∷ l) e zero h = within_head n x l e
within_at n (x ∷ l) e (suc k) h = within_at n l (within_tail n x l e) k (le_of_suc-le-suc h)

pub within_four : (n a b c d : ℕ) → a ≤ n → b ≤ n → c ≤ n → d ≤ n → within n (a ∷ b ∷ c ∷ d ∷ []) ≡ true
within_four n a b c d ha hb hc hd =
    within_cons n a (b ∷ c ∷ d ∷ []) ha (within_cons n b (c ∷ d ∷ []) hb (within_cons n c (d ∷ []) hc (within_cons n d [] hd refl)))

pub within_map : (n m : ℕ) (f : ℕ → ℕ) → ((x : ℕ) → x ≤ n → f x ≤ m) → (l : List ℕ) → within n l ≡ true → within m (map f l) ≡ true
within_map n m f h [] e = refl
within_map n m f h (x ∷ l) e = within_cons m (f x) (map f l) (h x (within_head n x l e)) (within_map n m f h l (within_tail n x l e))

pub absent_head : (x y : ℕ) (l : List ℕ) → absent x (y ∷ l) ≡ true → x ≡ y → ⊥
absent_head x y l e = eqb-false x y (not-true (eqb x y) (both_first (not (eqb x y)) (absent x l) e))

pub absent_tail : (x y : ℕ) (l : List ℕ) → absent x (y ∷ l) ≡ true → absent x l ≡ true
absent_tail x y l e = both_second (not (eqb x y)) (absent x l) e

pub different_head : (x : ℕ) (l : List ℕ) → different (x ∷ l) ≡ true → absent x l ≡ true
different_head x l e = both_first (absent x l) (different l) e

pub different_tail : (x : ℕ) (l : List ℕ) → different (x ∷ l) ≡ true → different l ≡ true
different_tail x l e = both_second (absent x l) (different l) e

pub get_d_map : (f : ℕ → ℕ) (l : List ℕ) (k : ℕ) → k < length l → get_or (map f l) k 0 ≡ f (get_or l k 0)
get_d_map f [] k h = absurd (not-suc-le-zero h)
get_d_map f (x ∷ l) zero h = refl
get_d_map f (x ∷ l) (suc k) h = get_d_map f l k (le_of_suc-le-suc h)

-- ---- four
pub short : (n : ℕ) → n < 4 → n ≡ 4 → ⊥
short n h e = omega arith

pub long : (n : ℕ) → suc (suc (suc (suc (suc n)))) ≡ 4 → ⊥
long n e = omega arith

past : (j : ℕ) → suc (suc (suc (suc j))) < 4 → ⊥
past j h = omega arith

abbrev pub four {ℓ} : {X : Type 0} (P : List X → Type ℓ) → ((a b c d : X) → P (a ∷ b ∷ c ∷ d ∷ [])) → (l : List X) → length l ≡ 4 → P l
four P f [] e = absurd (short 0 (lit< tt) e)
four P f (a ∷ []) e = absurd (short 1 (lit< tt) e)
four P f (a ∷ (b ∷ [])) e = absurd (short 2 (lit< tt) e)
four P f (a ∷ (b ∷ (c ∷ []))) e = absurd (short 3 (lit< tt) e)
four P f (a ∷ (b ∷ (c ∷ (d ∷ [])))) e = f a b c d
four P f (a ∷ (b ∷ (c ∷ (d ∷ (g ∷ l))))) e = absurd (long (length l) e)

pub all_four : (P : ℕ → Type 0) (l : List ℕ) → length l ≡ 4 → ((j : ℕ) → j < 4 → P (get_or l j 0)) → All P l
all_four P =
    four (λ l. ((j : ℕ) → j < 4 → P (get_or l j 0)) → All P l) (λ a b c d f. (f 0 (lit< tt), (f 1 (lit< tt), (f 2 (lit< tt), (f 3 (lit< tt), tt)))))

-- four indices
pub each_four : (P : ℕ → Type 0) → P 0 → P 1 → P 2 → P 3 → (j : ℕ) → j < 4 → P j
each_four P a b c d zero h = a
each_four P a b c d (suc zero) h = b
each_four P a b c d (suc (suc zero)) h = c
each_four P a b c d (suc (suc (suc zero))) h = d
each_four P a b c d (suc (suc (suc (suc j)))) h = absurd (past j h)
