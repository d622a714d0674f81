-- Facts about lists of numbers, whatever the numbers are. A user finds what holds of all of a list (`All`), lists of different numbers (`Distinct`), and
-- lists of the numbers f 0 to f (n - 1) (`entries`).
use Rattle.std.specs.Prelude.{◌≡◌, refl, List, [], ◌∷◌, ◌++◌, map, ℕ, zero, suc, ◌≤◌, ◌<◌, length, get_or, set, take}
use Rattle.std.proofs.Common.{ap, ap₂, not-suc-le-zero, le_of_suc-le-suc, arith, get_or-set_other}
use Rattle.algebra.specs.Polynomial.{All, Distinct}
use Rattle.buffer.specs.Loops.{entries}

-- an entry written leaves those before it
pub set_before : (l : List ℕ) (x v t : ℕ) → t < x → get_or (set l x v) t 0 ≡ get_or l t 0
set_before l x v t h = let other : t ≡ x → ⊥ = λ e. omega arith in get_or-set_other l x t v 0 other

-- ---- what holds of all
pub all-at {ℓ} : (P : ℕ → Type ℓ) (l : List ℕ) → All P l → (k : ℕ) → k < length l → P (get_or l k 0)
all-at P [] a k h = absurd (not-suc-le-zero h)
all-at P (x ∷ l) a zero h = a.0
all-at P (x ∷ l) a (suc k) h = all-at P l a.1 k (le_of_suc-le-suc h)

-- what holds at the first n places of a list
pub all_first {ℓ} : (P : ℕ → Type ℓ) (n : ℕ) (l : List ℕ) → n ≤ length l → ((k : ℕ) → k < n → P (get_or l k 0)) → All P (take n l)
all_first P zero l h f = tt
all_first P (suc n) [] h f = absurd (not-suc-le-zero h)
all_first P (suc n) (x ∷ l) h f = (f 0 (omega arith), all_first P n l (le_of_suc-le-suc h) (λ k i. f (suc k) (omega arith)))

pub all_map {ℓ κ} : (P : ℕ → Type ℓ) (Q : ℕ → Type κ) → ((x : ℕ) → P x → Q x) → (l : List ℕ) → All P l → All Q l
all_map P Q f [] a = tt
all_map P Q f (x ∷ l) a = (f x a.0, all_map P Q f l a.1)

pub all_both {ℓ κ μ} : (P : ℕ → Type ℓ) (Q : ℕ → Type κ) (R : ℕ → Type μ) → ((x : ℕ) → P x → Q x → R x) → (l : List ℕ) → All P l → All Q l → All R l
all_both P Q R f [] a b = tt
all_both P Q R f (x ∷ l) a b = (f x a.0 b.0, all_both P Q R f l a.1 b.1)

-- maps that agree on all of a list are the same on it
pub map_all : (f g : ℕ → ℕ) (l : List ℕ) → All (λ x. f x ≡ g x) l → map f l ≡ map g l
map_all f g [] a = refl
map_all f g (x ∷ l) a = ap₂ (λ (y : ℕ) (t : List ℕ). y ∷ t) a.0 (map_all f g l a.1)

pub all_append {ℓ} : (P : ℕ → Type ℓ) (l k : List ℕ) → All P l → All P k → All P (l ++ k)
all_append P [] k a b = b
all_append P (x ∷ l) k a b = (a.0, all_append P l k a.1 b)

pub all_take {ℓ} : (P : ℕ → Type ℓ) (n : ℕ) (l : List ℕ) → All P l → All P (take n l)
all_take P zero l a = tt
all_take P (suc n) [] a = tt
all_take P (suc n) (x ∷ l) a = (a.0, all_take P n l a.1)

-- ---- different numbers
pub distinct_snoc : (l : List ℕ) (x : ℕ) → Distinct l → All (λ y. x ≡ y → ⊥) l → Distinct (l ++ (x ∷ []))
distinct_snoc [] x d a = (tt, tt)
distinct_snoc (y ∷ l) x d a = (all_append (λ z. z ≡ y → ⊥) l (x ∷ []) d.0 (a.0, tt), distinct_snoc l x d.1 a.1)

pub distinct_take : (n : ℕ) (l : List ℕ) → Distinct l → Distinct (take n l)
distinct_take zero l d = tt
distinct_take (suc n) [] d = tt
distinct_take (suc n) (x ∷ l) d = (all_take (λ y. y ≡ x → ⊥) n l d.0, distinct_take n l d.1)

-- ---- the numbers f 0 to f (n - 1)
pub all-entries {ℓ} : (P : ℕ → Type ℓ) (n : ℕ) (f : ℕ → ℕ) → ((k : ℕ) → k < n → P (f k)) → All P (entries n f)
unfolding entries
all-entries P zero f h = tt
all-entries P (suc n) f h = (h 0 (omega arith), all-entries P n (λ k. f (suc k)) (λ k l. h (suc k) (omega arith)))

pub map_entries : (g : ℕ → ℕ) (n : ℕ) (f : ℕ → ℕ) → map g (entries n f) ≡ entries n (λ k. g (f k))
unfolding entries
map_entries g zero f = refl
map_entries g (suc n) f = ap (λ (t : List ℕ). g (f 0) ∷ t) (map_entries g n (λ k. f (suc k)))

-- rising numbers are different
rising : (n : ℕ) (f : ℕ → ℕ) → ((i j : ℕ) → i < j → f i < f j) → Distinct (entries n f)
unfolding entries
rising zero f h = tt
rising (suc n) f h = (
  all-entries (λ y. y ≡ f 0 → ⊥) n (λ k. f (suc k)) (λ k l e. omega (arith, h 0 (suc k) (omega arith))),
  rising n (λ k. f (suc k)) (λ i j l. h (suc i) (suc j) (omega arith)),
)

pub firsts_distinct : (m : ℕ) → Distinct (entries m (λ k. k))
firsts_distinct m = rising m (λ k. k) (λ i j l. l)
