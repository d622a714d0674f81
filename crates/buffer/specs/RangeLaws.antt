-- Laws of the definitions of `Range`: tests, counts, first places, sums and lists over 0 to n - 1.
use Rattle.std.specs.Prelude.{◌≡◌, Bool, true, not, ◌&&◌, List, [], ◌∷◌, ◌++◌, ℕ, zero, suc, ◌+◌, ◌*◌, ◌-◌, ◌≤◌, ◌<◌, ltb, length, get_or}
use Rattle.std.proofs.Math.Path.{refl}
use Rattle.std.proofs.Common.{sym, ap, ap₂, ◌∙◌, ⊎_elim, add-zero, le_of_suc-le-suc, not-suc-le-zero, eq-or-lt_of_le, add-one, ext_get_or, ltb-true, ltb-false, lt-ltb, le-ltb}
use Rattle.std.proofs.Math.Bool.{false}
use native.Mathlib.Omega.{arith}
use Rattle.buffer.specs.Choice.{pick}
use Rattle.buffer.specs.ChoiceLaws.{by-test, by-pick, pick_true, pick-false}
use Rattle.buffer.specs.TestLaws.{and-true, and_first, and_second, not-both, same_test}
use Rattle.buffer.specs.Range.{all, count, first, sum}
use Rattle.buffer.specs.Loops.{entries}

-- what holds at n and at each below it holds at each below its successor
pub below_suc {ℓ} : (P : ℕ → Type ℓ) (n : ℕ) → ((k : ℕ) → k < n → P k) → P n → (k : ℕ) → k < suc n → P k
below_suc P n h e k l = ⊎_elim (λ q. rw q e) (λ lt. h k lt) (eq-or-lt_of_le (le_of_suc-le-suc l))

-- what holds at 0 to 3
pub below-four {ℓ} : (P : ℕ → Type ℓ) → P 0 → P 1 → P 2 → P 3 → (k : ℕ) → k < 4 → P k
below-four P p q r t zero l = p
below-four P p q r t (suc zero) l = q
below-four P p q r t (suc (suc zero)) l = r
below-four P p q r t (suc (suc (suc zero))) l = t
below-four P p q r t (suc (suc (suc (suc k)))) l = absurd (omega arith)

-- ---- all
pub all_none : (p : ℕ → Bool) → all 0 p ≡ true
unfolding all
all_none p = refl

pub all_more : (p : ℕ → Bool) (n : ℕ) → all (n + 1) p ≡ (all n p && p n)
unfolding all
all_more p n = rw add-one

pub all_ext : (n : ℕ) (p q : ℕ → Bool) → ((k : ℕ) → k < n → p k ≡ q k) → all n p ≡ all n q
unfolding all
all_ext zero p q h = refl
all_ext (suc n) p q h = rw (h n (omega arith), all_ext n p q (λ k l. h k (omega arith)))

-- where it holds over the range, at each
pub all_true : (n : ℕ) (p : ℕ → Bool) → all n p ≡ true → (k : ℕ) → k < n → p k ≡ true
unfolding all
all_true zero p h k l = absurd (not-suc-le-zero l)
all_true (suc n) p h k l = below_suc (λ k. p k ≡ true) n (all_true n p (and_first (all n p) (p n) h)) (and_second (all n p) (p n) h) k l

-- and the other way
pub all_holds : (n : ℕ) (p : ℕ → Bool) → ((k : ℕ) → k < n → p k ≡ true) → all n p ≡ true
unfolding all
all_holds zero p h = refl
all_holds (suc n) p h = and-true (all_holds n p (λ k l. h k (omega arith))) (h n (omega arith))

-- one place at which it fails
pub all_fails : (n : ℕ) (p : ℕ → Bool) (k : ℕ) → k < n → p k ≡ false → all n p ≡ false
unfolding all
all_fails n p k l e = by-test (λ t. t ≡ false) (all n p) (λ h. not-both (all_true n p h k l) e) (λ h. refl)

-- ---- count
pub count_none : (p : ℕ → Bool) → count 0 p ≡ 0
unfolding count
count_none p = refl

pub count_more : (p : ℕ → Bool) (n : ℕ) → count (n + 1) p ≡ count n p + pick (p n) 1 0
unfolding count
count_more p n = rw add-one

pub count_ext : (n : ℕ) (p q : ℕ → Bool) → ((k : ℕ) → k < n → p k ≡ q k) → count n p ≡ count n q
unfolding count
count_ext zero p q h = refl
count_ext (suc n) p q h = rw (h n (omega arith), count_ext n p q (λ k l. h k (omega arith)))

pub count_le : (n : ℕ) (p : ℕ → Bool) → count n p ≤ n
unfolding count
count_le zero p = omega arith
count_le (suc n) p =
    let ih : count n p ≤ n = count_le n p in
    by-pick (λ c. count n p + c ≤ suc n) (p n) 1 0 (λ e. omega arith) (λ e. omega arith)

-- a test that holds wherever another does counts no less
pub count_mono : (n : ℕ) (p q : ℕ → Bool) → ((k : ℕ) → k < n → p k ≡ true → q k ≡ true) → count n p ≤ count n q
unfolding count
count_mono zero p q h = omega arith
count_mono (suc n) p q h =
    let ih : count n p ≤ count n q = count_mono n p q (λ k l. h k (omega arith)) in
    by-pick (λ c. count n p + c ≤ count n q + pick (q n) 1 0) (p n) 1 0
    (λ e. omega (arith, pick_true {A = ℕ} (h n (omega arith) e) 1 0)) (λ e. omega arith)

-- nothing is counted where the test fails throughout, and the other way
pub count_fails : (n : ℕ) (p : ℕ → Bool) → ((k : ℕ) → k < n → p k ≡ false) → count n p ≡ 0
unfolding count
count_fails zero p h = refl
count_fails (suc n) p h = rw (pick-false (h n (omega arith)), count_fails n p (λ k l. h k (omega arith)))

pub count_zero : (n : ℕ) (p : ℕ → Bool) → count n p ≡ 0 → (k : ℕ) → k < n → p k ≡ false
unfolding count
count_zero zero p e k l = absurd (not-suc-le-zero l)
count_zero (suc n) p e k l =
    below_suc
    (λ k. p k ≡ false)
    n
    (count_zero n p (omega arith))
    (by-test (λ t. t ≡ false) (p n) (λ q. absurd (omega (arith, e, pick_true {A = ℕ} q 1 0))) (λ q. refl))
    k
    l

pub none_counted : (n : ℕ) (p : ℕ → Bool) → ltb 0 (count n p) ≡ false → (k : ℕ) → k < n → p k ≡ false
none_counted n p e = count_zero n p (omega (arith, ltb-false 0 (count n p) e))

-- one place at which it holds
pub count_pos : (n : ℕ) (p : ℕ → Bool) (k : ℕ) → k < n → p k ≡ true → 0 < count n p
count_pos n p k l e =
    by-test
    (λ t. 0 < count n p)
    (ltb 0 (count n p))
    (λ q. ltb-true 0 (count n p) q)
    (λ q. not-both e (none_counted n p q k l))

-- the whole range is counted where the test holds throughout
pub count_holds : (n : ℕ) (p : ℕ → Bool) → ((k : ℕ) → k < n → p k ≡ true) → count n p ≡ n
unfolding count
count_holds zero p h = refl
count_holds (suc n) p h = rw (pick_true (h n (omega arith)), count_holds n p (λ k l. h k (omega arith)), add-one)

-- the count of a range taken apart
pub count_append : (n m : ℕ) (p : ℕ → Bool) → count (n + m) p ≡ count n p + count m (λ k. p (n + k))
unfolding count
count_append n zero p = let e : n + 0 ≡ n = omega arith in rw e (omega arith)
count_append n (suc m) p = let e : n + suc m ≡ suc (n + m) = omega arith in rw (e, count, count_append n m p) (omega arith)

-- the first place by itself
pub count_front : (n : ℕ) (p : ℕ → Bool) → count (suc n) p ≡ pick (p 0) 1 0 + count n (λ k. p (suc k))
unfolding count
count_front zero p = omega arith
count_front (suc n) p = omega (arith, count_front n p)

-- the numbers below k
pub count_below : (n k : ℕ) → k ≤ n → count n (λ j. ltb j k) ≡ k
count_below n k h =
    let d : k + (n - k) ≡ n = omega arith in
    sym (ap (λ (m : ℕ). count m (λ j. ltb j k)) d)
    ∙ count_append k (n - k) (λ j. ltb j k)
    ∙ ap₂ (λ (a b : ℕ). a + b) (count_holds k _ (λ j l. lt-ltb j k l)) (count_fails (n - k) _ (λ j l. le-ltb (k + j) k (omega arith)))
    ∙ add-zero k

-- a test that is counted in two parts
pub count_parts : (n : ℕ) (p q r : ℕ → Bool) → ((k : ℕ) → k < n → pick (p k) 1 0 + pick (q k) 1 0 ≡ pick (r k) 1 0) → count n p + count n q ≡ count n r
unfolding count
count_parts zero p q r h = refl
count_parts (suc n) p q r h = omega (arith, h n (omega arith), count_parts n p q r (λ k l. h k (omega arith)))

pub count_not : (n : ℕ) (p : ℕ → Bool) → count n p + count n (λ k. not (p k)) ≡ n
count_not n p = count_parts n p (λ k. not (p k)) (λ _. true) (λ k l. one (p k)) ∙ count_holds n (λ _. true) (λ k l. refl)
  where
    one : (t : Bool) → pick t 1 0 + pick (not t) 1 0 ≡ pick true 1 0
    one true = unfold pick in refl
    one false = unfold pick in refl

-- ---- first
pub first_le : (n : ℕ) (p : ℕ → Bool) → first n p ≤ n
unfolding first
first_le zero p = omega arith
first_le (suc n) p =
    let ih : first n (λ (k : ℕ). p (suc k)) ≤ n = first_le n (λ (k : ℕ). p (suc k)) in
    by-pick (λ f. f ≤ suc n) (p 0) 0 (suc (first n (λ (k : ℕ). p (suc k)))) (λ e. omega arith) (λ e. omega arith)

pub first_ext : (n : ℕ) (p q : ℕ → Bool) → ((k : ℕ) → k < n → p k ≡ q k) → first n p ≡ first n q
unfolding first
first_ext zero p q h = refl
first_ext (suc n) p q h = rw (h 0 (omega arith), first_ext n (λ (k : ℕ). p (suc k)) (λ (k : ℕ). q (suc k)) (λ k l. h (suc k) (omega arith)))

-- the place at which it holds, if it fails before
pub first_at : (n : ℕ) (p : ℕ → Bool) (i : ℕ) → i < n → ((k : ℕ) → k < i → p k ≡ false) → p i ≡ true → first n p ≡ i
unfolding first
first_at zero p i l h e = absurd (not-suc-le-zero l)
first_at (suc n) p zero l h e = pick_true e 0 (suc (first n (λ (k : ℕ). p (suc k))))
first_at (suc n) p (suc i) l h e =
    rw (pick-false (h 0 (omega arith))) (ap suc (first_at n (λ (k : ℕ). p (suc k)) i (le_of_suc-le-suc l) (λ k q. h (suc k) (omega arith)) e))

-- no place
pub first_none : (n : ℕ) (p : ℕ → Bool) → ((k : ℕ) → k < n → p k ≡ false) → first n p ≡ n
unfolding first
first_none zero p h = refl
first_none (suc n) p h =
    rw (pick-false (h 0 (omega arith))) (ap suc (first_none n (λ (k : ℕ). p (suc k)) (λ k q. h (suc k) (omega arith))))

-- the test holds at the first place at which it does
pub first_holds : (n : ℕ) (p : ℕ → Bool) → first n p < n → p (first n p) ≡ true
unfolding first
first_holds zero p l = absurd (not-suc-le-zero l)
first_holds (suc n) p l =
    by-pick
    (λ f. f < suc n → p f ≡ true)
    (p 0)
    0
    (suc (first n (λ (k : ℕ). p (suc k))))
    (λ e _. e)
    (λ e q. first_holds n (λ (k : ℕ). p (suc k)) (le_of_suc-le-suc q))
    l

-- and fails before it
pub first_misses : (n : ℕ) (p : ℕ → Bool) (k : ℕ) → k < first n p → p k ≡ false
unfolding first
first_misses zero p k l = absurd (not-suc-le-zero l)
first_misses (suc n) p zero l =
    by-test (λ t. t ≡ false) (p 0) (λ e. absurd (not-suc-le-zero (rw (pick_true e) at l))) (λ e. refl)
first_misses (suc n) p (suc k) l =
    by-pick
    (λ f. suc k < f → p (suc k) ≡ false)
    (p 0)
    0
    (suc (first n (λ (k : ℕ). p (suc k))))
    (λ e q. absurd (not-suc-le-zero q))
    (λ e q. first_misses n (λ (k : ℕ). p (suc k)) k (le_of_suc-le-suc q))
    l

-- what is counted is found
pub first_found : (n : ℕ) (p : ℕ → Bool) → 0 < count n p → first n p < n
first_found n p h =
    by-test
    (λ t. first n p < n)
    (ltb (first n p) n)
    (λ e. ltb-true (first n p) n e)
    (λ e.
    let l : n ≤ first n p = ltb-false (first n p) n e in
    absurd (omega (arith, count_fails n p (λ k q. first_misses n p k (omega arith)))))

-- no place at which it holds comes before
pub first_le_at : (n : ℕ) (p : ℕ → Bool) (k : ℕ) → k < n → p k ≡ true → first n p ≤ k
first_le_at n p k l e =
    by-test
    (λ t. first n p ≤ k)
    (ltb k (first n p))
    (λ q. not-both e (first_misses n p k (ltb-true k (first n p) q)))
    (λ q. ltb-false k (first n p) q)

-- the first place is counted once, and those behind it
pub count_first : (n : ℕ) (p : ℕ → Bool) → first n p < n → count n p ≡ suc (count (n - suc (first n p)) (λ k. p (suc (first n p) + k)))
count_first n p h =
    let i : ℕ = first n p in
    let m : ℕ = n - suc i in
    let whole : n ≡ i + (1 + m) = omega arith in
    let none : count i p ≡ 0 = count_fails i p (first_misses n p) in
    let here : pick {A = ℕ} (p (i + 0)) 1 0 ≡ 1 = pick_true (ap p (add-zero i) ∙ first_holds n p h) 1 0 in
    let behind : count m (λ k. p (i + (1 + k))) ≡ count m (λ k. p (suc i + k)) =
    count_ext m (λ k. p (i + (1 + k))) (λ k. p (suc i + k)) (λ k l. let e : i + (1 + k) ≡ suc i + k = omega arith in ap p e) in
    ap (λ j. count j p) whole
    ∙ omega (arith, count_append i (1 + m) p, count_append 1 m (λ k. p (i + k)), one (λ k. p (i + k)))
  where
    one : (q : ℕ → Bool) → count 1 q ≡ pick (q 0) 1 0
    one q = unfold count in omega arith

-- ---- sum
pub sum_none : (f : ℕ → ℕ) → sum 0 f ≡ 0
unfolding sum
sum_none f = refl

pub sum_more : (f : ℕ → ℕ) (n : ℕ) → sum (n + 1) f ≡ sum n f + f n
unfolding sum
sum_more f n = rw add-one

pub sum_ext : (n : ℕ) (f g : ℕ → ℕ) → ((k : ℕ) → k < n → f k ≡ g k) → sum n f ≡ sum n g
unfolding sum
sum_ext zero f g h = refl
sum_ext (suc n) f g h = rw (h n (omega arith), sum_ext n f g (λ k l. h k (omega arith)))

-- the first term apart
pub sum_front : (n : ℕ) (f : ℕ → ℕ) → sum (suc n) f ≡ f 0 + sum n (λ k. f (suc k))
unfolding sum
sum_front zero f = omega arith
sum_front (suc n) f = omega (arith, sum_front n f)

-- a sum of terms below a bound
pub sum_le : (n m : ℕ) (f : ℕ → ℕ) → ((k : ℕ) → k < n → f k ≤ m) → sum n f ≤ m * n
unfolding sum
sum_le zero m f h = omega arith
sum_le (suc n) m f h = omega (arith, h n (omega arith), sum_le n m f (λ k l. h k (omega arith)))

-- a longer sum is no less
pub sum_mono : (n m : ℕ) (f : ℕ → ℕ) → n ≤ m → sum n f ≤ sum m f
unfolding sum
sum_mono n zero f h = let e : n ≡ 0 = omega arith in rw e (omega arith)
sum_mono n (suc m) f h =
    ⊎_elim (λ e. rw e (omega arith)) (λ l. let ih : sum n f ≤ sum m f = sum_mono n m f (le_of_suc-le-suc l) in omega arith) (eq-or-lt_of_le h)

pub sum_add : (n : ℕ) (f g : ℕ → ℕ) → sum n (λ k. f k + g k) ≡ sum n f + sum n g
unfolding sum
sum_add zero f g = refl
sum_add (suc n) f g = rw (sum_add n f g) (omega arith)

-- a count over n blocks of w numbers each
pub count_blocks : (n w : ℕ) (p : ℕ → Bool) → count (w * n) p ≡ sum n (λ k. count w (λ i. p (w * k + i)))
unfolding sum
count_blocks zero w p = let e : w * 0 ≡ 0 = omega arith in rw e (count_none p)
count_blocks (suc n) w p =
    let e : w * suc n ≡ w * n + w = omega arith in
    rw e (count_append (w * n) w p ∙ ap (λ (m : ℕ). m + count w (λ i. p (w * n + i))) (count_blocks n w p))

-- ---- entries
pub length_entries : {A : Type 0} (n : ℕ) (f : ℕ → A) → length (entries n f) ≡ n
unfolding entries
length_entries zero f = refl
length_entries (suc n) f = ap suc (length_entries n (λ (k : ℕ). f (suc k)))

pub get_or_entries : {A : Type 0} (n : ℕ) (f : ℕ → A) (k : ℕ) (d : A) → k < n → get_or (entries n f) k d ≡ f k
unfolding entries
get_or_entries zero f k d h = absurd (not-suc-le-zero h)
get_or_entries (suc n) f zero d h = refl
get_or_entries (suc n) f (suc k) d h = get_or_entries n (λ (k : ℕ). f (suc k)) k d (le_of_suc-le-suc h)

pub entries_ext : {A : Type 0} (n : ℕ) (f g : ℕ → A) → ((k : ℕ) → k < n → f k ≡ g k) → entries n f ≡ entries n g
unfolding entries
entries_ext zero f g h = refl
entries_ext (suc n) f g h =
    ap₂ ◌∷◌ (h 0 (omega arith)) (entries_ext n (λ (k : ℕ). f (suc k)) (λ (k : ℕ). g (suc k)) (λ k l. h (suc k) (omega arith)))

-- one entry more, at the end
entries_suc : {A : Type 0} (n : ℕ) (f : ℕ → A) → entries (suc n) f ≡ entries n f ++ (f n ∷ [])
unfolding entries
entries_suc zero f = refl
entries_suc (suc n) f = ap (λ t. f 0 ∷ t) (entries_suc n (λ (k : ℕ). f (suc k)))

pub entries_more : {A : Type 0} (n : ℕ) (f : ℕ → A) → entries (n + 1) f ≡ entries n f ++ (f n ∷ [])
entries_more n f = rw add-one (entries_suc n f)

-- a list of which the length and each entry are known
pub entries_of : (l : List ℕ) (n : ℕ) (f : ℕ → ℕ) → length l ≡ n → ((k : ℕ) → k < n → get_or l k 0 ≡ f k) → l ≡ entries n f
entries_of l n f e h =
    ext_get_or 0 l (entries n f) (e ∙ sym (length_entries n f)) (λ k q. h k (rw (sym e) q) ∙ sym (get_or_entries n f k 0 (rw (sym e) q)))

-- ---- two tests of each number are one
pub all_both : (n : ℕ) (p q : ℕ → Bool) → all n (λ i. p i && q i) ≡ (all n p && all n q)
all_both n p q =
    same_test (all n (λ i. p i && q i)) (all n p && all n q)
    (λ h.
    let both = all_true n (λ i. p i && q i) h in
    and-true (all_holds n p (λ k l. and_first (p k) (q k) (both k l))) (all_holds n q (λ k l. and_second (p k) (q k) (both k l))))
    (λ h.
    all_holds n (λ i. p i && q i)
    (λ k l. and-true (all_true n p (and_first (all n p) (all n q) h) k l) (all_true n q (and_second (all n p) (all n q) h) k l)))

-- two halves tested together, the second from e on
pub all_halves : (e h n : ℕ) (p : ℕ → Bool) → e + h ≡ n → e ≤ h → (all h p && all h (λ k. p (e + k))) ≡ all n p
all_halves e h n p total least =
    same_test (all h p && all h (λ k. p (e + k))) (all n p)
    (λ t.
    all_holds n p (λ k l.
    by-test (λ _. p k ≡ true) (ltb k h)
    (λ q. all_true h p (and_first (all h p) _ t) k (ltb-true k h q))
    (λ q.
    let past : h ≤ k = ltb-false k h q in
    let back : e + (k - e) ≡ k = omega arith in
    let low : k - e < h = omega arith in
    ap p (sym back) ∙ all_true h (λ k. p (e + k)) (and_second (all h p) _ t) (k - e) low)))
    (λ t.
    let each = all_true n p t in
    and-true (all_holds h p (λ k l. each k (omega arith))) (all_holds h (λ k. p (e + k)) (λ k l. each (e + k) (omega arith))))
