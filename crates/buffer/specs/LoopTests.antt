-- What holds at each turn of a loop that tests, gathers, looks for, counts or adds up something over 0 to n - 1: a record for each kind, which holds
-- at the start, is handed on by a turn, and gives the loop's result at the end.
use Rattle.std.specs.Prelude.{◌≡◌, Bool, true, false, ◌||◌, ℕ, ◌+◌, ◌≤◌, ◌<◌, eqb, ltb}
use Rattle.std.proofs.Common.{sym, ap, ◌∙◌, not-suc-le-zero, arith, below_more, eqb-true, ltb-true, ltb-false, lt-ltb, le-ltb}
use Rattle.std.specs.Int.Bits.{bit_or}
use Rattle.std.proofs.lemmas.Bool.{eqb-false}
use Rattle.buffer.specs.ChoiceLaws.{pick_true, pick-false, by-test}
use Rattle.buffer.specs.TestLaws.{and-true, or_zero}
use Rattle.buffer.specs.Range.{all, count, first, sum}
use Rattle.buffer.specs.RangeLaws.{all_none, all_more, all_holds, all_fails, count_none, count_more, first_at, first_none, sum_none, sum_more}

-- ---- a loop that tests 0 to n - 1 and stops where the test fails
pub record Passing (p : ℕ → Bool) (n i : ℕ) : Type 0 where
  pub within : i ≤ n
  pub passed : all i p ≡ true

pub passing_start : {p : ℕ → Bool} {n : ℕ} → Passing p n 0
passing_start {p} = record { within = omega arith; passed = all_none p }

pub passing_turn : {p : ℕ → Bool} {n i : ℕ} → Passing p n i → i < n → p i ≡ true → Passing p n (i + 1)
passing_turn {p} {n} {i} g h e = record { within = omega arith; passed = all_more p i ∙ and-true g.passed e }

pub passing_fail : {p : ℕ → Bool} {n i : ℕ} → Passing p n i → i < n → p i ≡ false → false ≡ all n p
passing_fail {p} {n} {i} g h e = sym (all_fails n p i h e)

pub passing_end : {p : ℕ → Bool} {n i : ℕ} → Passing p n i → n ≤ i → true ≡ all n p
passing_end {p} {n} {i} g h =
    let same : i ≡ n = omega arith in
    sym (rw same at g.passed)

-- ---- a loop that tests all of 0 to n - 1: it gathers by "or" numbers that are 0 where the test holds, and tests the whole once
pub record Gathering (p : ℕ → Bool) (n i any : ℕ) : Type 0 where
  pub within : i ≤ n
  pub gathered : eqb any 0 ≡ all i p

pub gathering_start : {p : ℕ → Bool} {n : ℕ} → Gathering p n 0 0
gathering_start {p} = record { within = omega arith; gathered = sym (all_none p) }

pub gathering_turn : {p : ℕ → Bool} {n i any : ℕ} (v : ℕ) → Gathering p n i any → i < n → eqb v 0 ≡ p i → Gathering p n (i + 1) (bit_or any v)
gathering_turn {p} {n} {i} {any} v g h e =
    record { within = omega arith; gathered = or_zero any v ∙ rw (g.gathered, e) (sym (all_more p i)) }

pub gathering_end : {p : ℕ → Bool} {n i any : ℕ} → Gathering p n i any → n ≤ i → eqb any 0 ≡ all n p
gathering_end {p} {n} {i} {any} g h =
    let same : i ≡ n = omega arith in
    g.gathered ∙ ap (λ m. all m p) same

-- the same from n on
pub record GatheringBehind (p : ℕ → Bool) (n b i any : ℕ) : Type 0 where
  pub behind : n ≤ i
  pub gathering : Gathering (λ k. ltb k n || p k) b i any

pub gathering_behind : {p : ℕ → Bool} {n b : ℕ} → n ≤ b → GatheringBehind p n b n 0
gathering_behind {p} {n} {b} h =
    record {
      behind = omega arith;
      gathering = record { within = h; gathered = sym (all_holds n (λ k. ltb k n || p k) (λ k l. ap (λ t. t || p k) (lt-ltb k n l))) };
    }

pub gathering_behind_turn : {p : ℕ → Bool} {n b i any : ℕ} (v : ℕ) → GatheringBehind p n b i any → i < b → eqb v 0 ≡ p i
    → GatheringBehind p n b (i + 1) (bit_or any v)
gathering_behind_turn {p} {n} {b} {i} v g h e =
    record { behind = omega (arith, g.behind); gathering = gathering_turn v g.gathering h (rw (le-ltb i n g.behind) e) }

-- ---- a loop that looks for the first of 0 to n - 1 at which the test holds
pub record Missing (p : ℕ → Bool) (n i : ℕ) : Type 0 where
  pub within : i ≤ n
  pub missed : (k : ℕ) → k < i → p k ≡ false

pub missing_start : {p : ℕ → Bool} {n : ℕ} → Missing p n 0
missing_start = record { within = omega arith; missed = λ k h. absurd (not-suc-le-zero h) }

pub missing_turn : {p : ℕ → Bool} {n i : ℕ} → Missing p n i → i < n → p i ≡ false → Missing p n (i + 1)
missing_turn {p} {n} {i} g h e = record { within = omega arith; missed = below_more (λ k. p k ≡ false) i g.missed e }

pub missing_found : {p : ℕ → Bool} {n i : ℕ} → Missing p n i → i < n → p i ≡ true → i ≡ first n p
missing_found {p} {n} {i} g h e = sym (first_at n p i h g.missed e)

pub missing_end : {p : ℕ → Bool} {n i : ℕ} → Missing p n i → n ≤ i → n ≡ first n p
missing_end {p} {n} {i} g h = sym (first_none n p (λ k q. g.missed k (omega arith)))

-- ---- a loop that looks for it from n - 1 down to 0, and never stops on the way
pub record Seeking (p : ℕ → Bool) (n i found : ℕ) : Type 0 where
  pub least : i ≤ found
  pub most : found ≤ n
  pub missed : (k : ℕ) → i ≤ k → k < found → p k ≡ false
  pub held : found < n → p found ≡ true

pub seeking_start : {p : ℕ → Bool} {n : ℕ} → Seeking p n n n
seeking_start = record { least = omega arith; most = omega arith; missed = λ k h l. absurd (omega arith); held = λ l. absurd (omega arith) }

pub seeking_hit : {p : ℕ → Bool} {n i j found : ℕ} → Seeking p n i found → i ≡ j + 1 → p j ≡ true → Seeking p n j j
seeking_hit g h e = record { least = omega arith; most = omega (arith, g.least, g.most); missed = λ k l m. absurd (omega arith); held = λ _. e }

pub seeking_miss : {p : ℕ → Bool} {n i j found : ℕ} → Seeking p n i found → i ≡ j + 1 → p j ≡ false → Seeking p n j found
seeking_miss {p} {n} {i} {j} {found} g h e =
    record {
      least = omega (arith, g.least);
      most = g.most;
      missed =
          λ k l m. by-test (λ _. p k ≡ false) (eqb k j) (λ q. ap p (eqb-true k j q) ∙ e)
          (λ q. let other : k ≡ j → ⊥ = eqb-false k j q in g.missed k (omega arith) m);
      held = g.held;
    }

pub seeking_end : {p : ℕ → Bool} {n i found : ℕ} → Seeking p n i found → i ≤ 0 → found ≡ first n p
seeking_end {p} {n} {i} {found} g h =
    by-test
    (λ _. found ≡ first n p)
    (ltb found n)
    (λ l. let inside : found < n = ltb-true found n l in sym (first_at n p found inside (λ k q. g.missed k (omega arith) q) (g.held inside)))
    (λ l. let past : n ≤ found = ltb-false found n l in
    let same : found ≡ n = omega (arith, g.most) in
    same ∙ sym (first_none n p (λ k q. g.missed k (omega arith) (omega arith))))

-- ---- a loop that counts at how many of 0 to n - 1 the test holds
pub record Counting (p : ℕ → Bool) (n i c : ℕ) : Type 0 where
  pub within : i ≤ n
  pub small : c ≤ i
  pub counted : c ≡ count i p

pub counting_start : {p : ℕ → Bool} {n : ℕ} → Counting p n 0 0
counting_start {p} = record { within = omega arith; small = omega arith; counted = sym (count_none p) }

pub counting_more : {p : ℕ → Bool} {n i c : ℕ} → Counting p n i c → i < n → p i ≡ true → Counting p n (i + 1) (c + 1)
counting_more {p} {n} {i} {c} g h e =
    record {
      within = omega arith;
      small = omega arith;
      counted = sym (count_more p i ∙ rw (pick_true e, ← g.counted));
    }

pub counting_same : {p : ℕ → Bool} {n i c : ℕ} → Counting p n i c → i < n → p i ≡ false → Counting p n (i + 1) c
counting_same {p} {n} {i} {c} g h e =
    record {
      within = omega arith;
      small = omega arith;
      counted = sym (count_more p i ∙ rw (pick-false e, ← g.counted) (omega arith));
    }

pub counting_end : {p : ℕ → Bool} {n i c : ℕ} → Counting p n i c → n ≤ i → c ≡ count n p
counting_end {p} {n} {i} {c} g h =
    let same : i ≡ n = omega arith in
    g.counted ∙ ap (λ m. count m p) same

-- ---- a loop that adds up f 0 to f (n - 1)
pub record Summing (f : ℕ → ℕ) (n i c : ℕ) : Type 0 where
  pub within : i ≤ n
  pub summed : c ≡ sum i f

pub summing_start : {f : ℕ → ℕ} {n : ℕ} → Summing f n 0 0
summing_start {f} = record { within = omega arith; summed = sym (sum_none f) }

pub summing_turn : {f : ℕ → ℕ} {n i c : ℕ} (v : ℕ) → Summing f n i c → i < n → v ≡ f i → Summing f n (i + 1) (c + v)
summing_turn {f} {n} {i} {c} v g h e =
    record { within = omega arith; summed = sym (sum_more f i ∙ rw (← g.summed, ← e)) }

pub summing_end : {f : ℕ → ℕ} {n i c : ℕ} → Summing f n i c → n ≤ i → c ≡ sum n f
summing_end {f} {n} {i} {c} g h =
    let same : i ≡ n = omega arith in
    g.summed ∙ ap (λ m. sum m f) same
