-- Laws of a group's members at a rank: one that can be rebuilt has four members in service (`enough`), and the first four are different, in rising
-- order and in service (`first_four_lem`); each data unit in service is among them (`data_chosen`). Nothing looks at other places (`serves_ext`,
-- `four_ext`).
use Rattle.std.specs.Prelude.{◌≡◌, refl, true, ltb, leb, length}
use Rattle.std.proofs.Math.Path.{ap}
use Rattle.std.proofs.Common.{ap₂, ◌∙◌}
use Rattle.std.proofs.Math.Bool.{Bool, not}
use mathlib.Core.List.{List, [], ◌∷◌}
use Prim.Native.Nat.{ℕ, suc, ◌+◌, ◌-◌, ◌≤◌, ◌<◌}
use native.Mathlib.Omega.{arith}
use Rattle.std.proofs.Math.Dec.{eqb}
use Rattle.std.proofs.Math.ListN.{get_or}
use borrow.Author.Tests.{eqb-true, eqb-false, lt-ltb, le-ltb, ltb-true, ltb-false, leb-true}
use Rattle.buffer.specs.ChoiceLaws.{by-test, pick_true, pick-false, pick-ext}
use Rattle.buffer.specs.Range.{count, first}
use Rattle.buffer.specs.RangeLaws.{below-four, count_ext, count_append, count_not, count_first, first_ext, first_found, first_holds, first_le_at}
use Rattle.group.specs.Members.{checks_serving, rebuildable, serves, next, first_four}

-- ---- who is in service at a rank
module _ (missing : ℕ → Bool) (c : ℕ → ℕ) where
  pub serves_data : (p : ℕ) → p < 4 → serves missing c p ≡ not (missing p)
  unfolding serves
  serves_data p l = pick_true (lt-ltb p 4 l) (not (missing p)) (eqb (c (p - 4)) 1)

  pub serves_check : (j : ℕ) → serves missing c (4 + j) ≡ eqb (c j) 1
  unfolding serves
  serves_check j =
      let e : 4 + j - 4 ≡ j = omega arith in
      pick-false (le-ltb (4 + j) 4 (omega arith)) (not (missing (4 + j))) (eqb (c (4 + j - 4)) 1) ∙ ap (λ i. eqb (c i) 1) e

  -- members in service and records missing, together: the four places and the check units in service
  serving : count 7 (serves missing c) + count 4 missing ≡ 4 + checks_serving c
  unfolding checks_serving
  serving =
      let places : count 4 (serves missing c) ≡ count 4 (λ p. not (missing p)) = count_ext 4 _ _ serves_data in
      let checks : count 3 (λ j. serves missing c (4 + j)) ≡ count 3 (λ j. eqb (c j) 1) = count_ext 3 _ _ (λ j l. serves_check j) in
      omega (arith, count_append 4 3 (serves missing c), places, checks, count_not 4 missing)

  -- a rank that can be rebuilt has four in service
  pub enough : rebuildable missing c ≡ true → 4 ≤ count 7 (serves missing c)
  unfolding rebuildable
  enough e = omega (arith, serving, leb-true (count 4 missing) (checks_serving c) e)

-- ---- what is said of a rank looks at its four places and at the three check units alone
pub rebuildable_ext : (m n : ℕ → Bool) (c e : ℕ → ℕ) → ((p : ℕ) → p < 4 → m p ≡ n p) → ((j : ℕ) → j < 3 → c j ≡ e j)
    → rebuildable m c ≡ rebuildable n e
unfolding rebuildable checks_serving
rebuildable_ext m n c e h q = ap₂ leb (count_ext 4 m n h) (count_ext 3 _ _ (λ j l. ap (λ x. eqb x 1) (q j l)))

pub serves_ext : (m n : ℕ → Bool) (c e : ℕ → ℕ) → ((p : ℕ) → p < 4 → m p ≡ n p) → ((j : ℕ) → j < 3 → c j ≡ e j)
    → (k : ℕ) → k < 7 → serves m c k ≡ serves n e k
unfolding serves
serves_ext m n c e h q k l =
    pick-ext (ltb k 4) (not (m k)) (eqb (c (k - 4)) 1) (not (n k)) (eqb (e (k - 4)) 1)
    (λ t. ap not (h k (ltb-true k 4 t))) (λ t. ap (λ x. eqb x 1) (q (k - 4) (omega (arith, ltb-false k 4 t))))

next_ext : (on go : ℕ → Bool) → ((m : ℕ) → m < 7 → on m ≡ go m) → (a : ℕ) → next on a ≡ next go a
unfolding next
next_ext on go h a = ap (λ x. a + x) (first_ext (7 - a) _ _ (λ k l. h (a + k) (omega arith)))

pub four_ext : (on go : ℕ → Bool) → ((m : ℕ) → m < 7 → on m ≡ go m) → first_four on ≡ first_four go
unfolding first_four
four_ext on go h =
    let n = next_ext on go h in
    simp (n)

-- four different members in service, by rising number
pub record Members (on : ℕ → Bool) (l : List ℕ) : Type 0 where
  pub long : length l ≡ 4
  pub low : (i : ℕ) → i < 4 → get_or l i 0 < 7
  pub serving : (i : ℕ) → i < 4 → on (get_or l i 0) ≡ true
  pub rising : (i k : ℕ) → i < k → k < 4 → get_or l i 0 < get_or l k 0

-- four that rise, compared by their places
rises : (a b e f : ℕ) → a < b → b < e → e < f → (k : ℕ) → k < 4 → (i : ℕ) → i < k → get_or (a ∷ b ∷ e ∷ f ∷ []) i 0 < get_or (a ∷ b ∷ e ∷ f ∷ []) k 0
rises a b e f p q r =
    let l : List ℕ = a ∷ b ∷ e ∷ f ∷ [] in
    below-four
    (λ k. (i : ℕ) → i < k → get_or l i 0 < get_or l k 0)
    (λ i h. omega arith)
    (λ i h. below-four (λ i. i < 1 → get_or l i 0 < b) (λ z. p) (λ z. omega arith) (λ z. omega arith) (λ z. omega arith) i (omega arith) h)
    (λ i h. below-four (λ i. i < 2 → get_or l i 0 < e) (λ z. omega arith) (λ z. q) (λ z. omega arith) (λ z. omega arith) i (omega arith) h)
    (λ i h. below-four (λ i. i < 3 → get_or l i 0 < f) (λ z. omega arith) (λ z. omega arith) (λ z. r) (λ z. omega arith) i (omega arith) h)

module _ (on : ℕ → Bool) where
  -- how many serve from a on
  from : ℕ → ℕ
  from a = count (7 - a) (λ k. on (a + k))

  -- n is the first from a on, and m more serve behind it
  record Next (a m n : ℕ) : Type 0 where
    late : a ≤ n
    low : n < 7
    serves : on n ≡ true
    more : m ≤ from (suc n)

  next_is : (a m : ℕ) → suc m ≤ from a → Next a m (next on a)
  unfolding from next
  next_is a m l =
      let f : ℕ → Bool = λ k. on (a + k) in
      let i : ℕ = first (7 - a) f in
      let lt : i < 7 - a = first_found (7 - a) f (omega arith) in
      let e : 7 - a - suc i ≡ 7 - suc (a + i) = omega arith in
      let behind : count (7 - a - suc i) (λ k. on (a + (suc i + k))) ≡ count (7 - suc (a + i)) (λ k. on (suc (a + i) + k)) =
      ap (λ j. count j (λ k. on (a + (suc i + k)))) e
      ∙ count_ext (7 - suc (a + i)) (λ k. on (a + (suc i + k))) (λ k. on (suc (a + i) + k))
      (λ k q. let d : a + (suc i + k) ≡ suc (a + i) + k = omega arith in ap on d) in
      record { late = omega arith; low = omega arith; serves = first_holds (7 - a) f lt; more = omega (arith, count_first (7 - a) f lt, behind) }

  start : 4 ≤ count 7 on → 4 ≤ from 0
  unfolding from
  start h = omega (arith, count_ext 7 on (λ k. on (0 + k)) (λ k q. let d : k ≡ 0 + k = omega arith in ap on d))

  pub first_four_lem : 4 ≤ count 7 on → Members on (first_four on)
  unfolding first_four
  first_four_lem h =
      let a : ℕ = next on 0 in
      let b : ℕ = next on (suc a) in
      let e : ℕ = next on (suc b) in
      let f : ℕ = next on (suc e) in
      let na : Next 0 3 a = next_is 0 3 (start h) in
      let nb : Next (suc a) 2 b = next_is (suc a) 2 na.more in
      let ne : Next (suc b) 1 e = next_is (suc b) 1 nb.more in
      let nf : Next (suc e) 0 f = next_is (suc e) 0 ne.more in
      let l : List ℕ = a ∷ b ∷ e ∷ f ∷ [] in
      record {
        long = refl;
        low = below-four (λ i. get_or l i 0 < 7) na.low nb.low ne.low nf.low;
        serving = below-four (λ i. on (get_or l i 0) ≡ true) na.serves nb.serves ne.serves nf.serves;
        rising = λ i k q r. rises a b e f nb.late ne.late nf.late k r i q;
      }

  -- no member in service is passed over
  next_most : (a m : ℕ) → a ≤ m → m < 7 → on m ≡ true → next on a ≤ m
  unfolding next
  next_most a m l k e =
      let d : a + (m - a) ≡ m = omega arith in
      omega (arith, first_le_at (7 - a) (λ k. on (a + k)) (m - a) (omega arith) (ap on d ∙ e))

  -- a data unit in service is one of the first four
  pub data_chosen : 4 ≤ count 7 on → (p : ℕ) → p < 4 → on p ≡ true → (i : ℕ) × (i < 4) × (get_or (first_four on) i 0 ≡ p)
  unfolding first_four
  data_chosen h p l e =
      let a : ℕ = next on 0 in
      let b : ℕ = next on (suc a) in
      let c : ℕ = next on (suc b) in
      let d : ℕ = next on (suc c) in
      let m : Members on (first_four on) = first_four_lem h in
      let ab : a < b = m.rising 0 1 (omega arith) (omega arith) in
      let bc : b < c = m.rising 1 2 (omega arith) (omega arith) in
      let cd : c < d = m.rising 2 3 (omega arith) (omega arith) in
      let most : a ≤ p = next_most 0 p (omega arith) (omega arith) e in
      by-test (λ _. Chosen) (eqb a p) (λ t. (0, omega arith, eqb-true a p t)) (λ t.
      let l1 : suc a ≤ p = omega (arith, eqb-false a p t) in
      by-test (λ _. Chosen) (eqb b p) (λ t. (1, omega arith, eqb-true b p t)) (λ t.
      let l2 : suc b ≤ p = omega (arith, eqb-false b p t, next_most (suc a) p l1 (omega arith) e) in
      by-test (λ _. Chosen) (eqb c p) (λ t. (2, omega arith, eqb-true c p t)) (λ t.
      let l3 : suc c ≤ p = omega (arith, eqb-false c p t, next_most (suc b) p l2 (omega arith) e) in
      (3, omega arith, omega (arith, next_most (suc c) p l3 (omega arith) e)))))
    where
      Chosen : Type 0
      Chosen = (i : ℕ) × (i < 4) × (get_or (first_four on) i 0 ≡ p)
