-- What is asked of the keys of one list, as one test of each rank, is what the loop over the keys and the test behind them find.
use mathlib.Core.Path.{◌≡◌, refl, sym, ap, ◌∙◌}
use mathlib.Core.Bool.{Bool, true, ◌&&◌, ◌||◌}
use Prim.Native.Nat.{ℕ, ◌≤◌, ◌<◌}
use native.Mathlib.Omega.{arith}
use lib.Dec.{eqb, ltb, leb}
use borrow.Author.Tests.{eqb-true, eq-eqb, lt-ltb, le-ltb, le-leb, ltb-true, ltb-false}
use Rattle.buffer.specs.Choice.{pick}
use Rattle.buffer.specs.ChoiceLaws.{by-test, by-pick, pick_true, pick-false}
use Rattle.buffer.specs.TestLaws.{not-both, and-true, and_first, and_second}
use Rattle.buffer.specs.Range.{all, first}
use Rattle.buffer.specs.RangeLaws.{all_none, all_true, all_holds, first_le, first_le_at}
use Rattle.model.specs.Units.{unit_of}
use Rattle.soundness.specs.Keys.{fill_of, is_new, new_and_same, matched, own_keys, no_keys}

-- the key at a rank belongs to unit u of m, and is none of those before it
unfoldable pub own_and_new : ℕ → ℕ → (ℕ → ℕ) → ℕ → Bool
own_and_new m u key r = eqb (unit_of m (key r)) u && is_new r key (key r)

-- keys are dense, different and in their own unit: the test of each rank
unfoldable pub keys_good : ℕ → ℕ → ℕ → (ℕ → ℕ) → Bool
keys_good b m u key = all b (λ r. pick (ltb r (fill_of b key)) (own_and_new m u key r) (eqb (key r) 0))

pub fill_le : (b : ℕ) (key : ℕ → ℕ) → fill_of b key ≤ b
unfolding fill_of
fill_le b key = first_le b (λ r. eqb (key r) 0)

-- ---- keys beside those of another list
module _ (b : ℕ) (key other : ℕ → ℕ) where
  -- the loop reaches the first 0 where the keys before it differ and are the other list's, and nowhere else
  pub matched_front : leb (matched b key other) 64 ≡ true → all (fill_of b key) (new_and_same key other) ≡ true
  unfolding matched
  matched_front h =
      by-test
      (λ t. t ≡ true)
      (all (fill_of b key) (new_and_same key other))
      (λ _. refl)
      (λ e. not-both (ap (λ n. leb n 64) (sym (pick-false e (fill_of b key) 65)) ∙ h) refl)

  pub front_matched : b ≤ 64 → all (fill_of b key) (new_and_same key other) ≡ true → leb (matched b key other) 64 ≡ true
  unfolding matched
  front_matched few h = let l : fill_of b key ≤ b = fill_le b key in rw (pick_true h (fill_of b key) 65) (le-leb (fill_of b key) 64 (omega arith))

pub new_same : (n : ℕ) (key other : ℕ → ℕ) → all n (new_and_same key other) ≡ true → (r : ℕ) → r < n → key r ≡ other r
unfolding new_and_same
new_same n key other h r l = eqb-true _ _ (and_second (is_new r key (key r)) _ (all_true n (new_and_same key other) h r l))

-- keys that are the other list's are good where those are in their own unit
module _ (n m u : ℕ) (key other : ℕ → ℕ) where
  pub own_front : all n (new_and_same key other) ≡ true → own_keys m u n other ≡ true → all n (own_and_new m u key) ≡ true
  unfolding new_and_same own_keys own_and_new
  own_front h o =
      all_holds n (own_and_new m u key) (λ r l.
      and-true
      (ap (λ k. eqb (unit_of m k) u) (new_same n key other h r l) ∙ all_true n (λ r. eqb (unit_of m (other r)) u) o r l)
      (and_first (is_new r key (key r)) _ (all_true n (new_and_same key other) h r l)))

  -- and the other way
  module _ (h : all n (own_and_new m u key) ≡ true) (same : (r : ℕ) → r < n → key r ≡ other r) where
    pub front_new : all n (new_and_same key other) ≡ true
    unfolding new_and_same own_and_new
    front_new =
        all_holds n (new_and_same key other) (λ r l.
        and-true (and_second (eqb (unit_of m (key r)) u) _ (all_true n (own_and_new m u key) h r l)) (eq-eqb _ _ (same r l)))

    pub front_own : own_keys m u n other ≡ true
    unfolding own_keys own_and_new
    front_own =
        all_holds n (λ r. eqb (unit_of m (other r)) u) (λ r l.
        ap (λ k. eqb (unit_of m k) u) (sym (same r l)) ∙ and_first (eqb (unit_of m (key r)) u) _ (all_true n (own_and_new m u key) h r l))

pub none_own : (m u : ℕ) (key : ℕ → ℕ) → own_keys m u 0 key ≡ true
unfolding own_keys
none_own m u key = all_none (λ r. eqb (unit_of m (key r)) u)

-- ---- the keys before the first 0 are good, and those behind are 0
module _ (b m u : ℕ) (key : ℕ → ℕ) where
  pub good_parts : keys_good b m u key ≡ true → (all (fill_of b key) (own_and_new m u key) ≡ true) × ((r : ℕ) → fill_of b key ≤ r → r < b → key r ≡ 0)
  unfolding keys_good
  good_parts h =
      let at = all_true b (λ r. pick (ltb r (fill_of b key)) (own_and_new m u key r) (eqb (key r) 0)) h in (
        all_holds (fill_of b key) (own_and_new m u key) (λ r l.
            sym (pick_true (lt-ltb r (fill_of b key) l) _ _) ∙ at r (let w : fill_of b key ≤ b = fill_le b key in omega arith)),
        λ r l k. eqb-true (key r) 0 (sym (pick-false (le-ltb r (fill_of b key) l) _ _) ∙ at r k),
      )

  pub parts_good : all (fill_of b key) (own_and_new m u key) ≡ true → ((r : ℕ) → fill_of b key ≤ r → r < b → key r ≡ 0) → keys_good b m u key ≡ true
  unfolding keys_good
  parts_good f z =
      all_holds b (λ r. pick (ltb r (fill_of b key)) (own_and_new m u key r) (eqb (key r) 0)) (λ r k.
      by-pick
      (λ t. t ≡ true)
      (ltb r (fill_of b key))
      (own_and_new m u key r)
      (eqb (key r) 0)
      (λ e. all_true (fill_of b key) (own_and_new m u key) f r (ltb-true r (fill_of b key) e))
      (λ e. eq-eqb (key r) 0 (z r (ltb-false r (fill_of b key) e) k)))

-- no key from rank n on
pub no_keys_true : (n b : ℕ) (key : ℕ → ℕ) → no_keys n b key ≡ true → (r : ℕ) → n ≤ r → r < b → key r ≡ 0
unfolding no_keys
no_keys_true n b key h r l k =
    eqb-true (key r) 0 (ap (λ t. t || eqb (key r) 0) (sym (le-ltb r n l)) ∙ all_true b (λ r. ltb r n || eqb (key r) 0) h r k)

pub no_keys_holds : (n b : ℕ) (key : ℕ → ℕ) → ((r : ℕ) → n ≤ r → r < b → key r ≡ 0) → no_keys n b key ≡ true
unfolding no_keys
no_keys_holds n b key z =
    all_holds b (λ r. ltb r n || eqb (key r) 0) (λ r k.
    by-test (λ t. (t || eqb (key r) 0) ≡ true) (ltb r n) (λ _. refl) (λ e. eq-eqb (key r) 0 (z r (ltb-false r n e) k)))

-- no key at all
pub no_fill : (b : ℕ) (key : ℕ → ℕ) → ((r : ℕ) → r < b → key r ≡ 0) → fill_of b key ≡ 0
unfolding fill_of
no_fill b key z =
    by-test
    (λ _. first b (λ r. eqb (key r) 0) ≡ 0)
    (ltb 0 b)
    (λ e.
    let l : 0 < b = ltb-true 0 b e in
    let h : first b (λ r. eqb (key r) 0) ≤ 0 = first_le_at b (λ r. eqb (key r) 0) 0 l (eq-eqb (key 0) 0 (z 0 l)) in
    omega arith)
    (λ e.
    let l : b ≤ 0 = ltb-false 0 b e in
    let h : first b (λ r. eqb (key r) 0) ≤ b = first_le b (λ r. eqb (key r) 0) in
    omega arith)

pub no_keys_good : (b m u : ℕ) (key : ℕ → ℕ) → ((r : ℕ) → r < b → key r ≡ 0) → keys_good b m u key ≡ true
no_keys_good b m u key z =
    parts_good b m u key (all_holds (fill_of b key) (own_and_new m u key) (λ r l. absurd (omega (arith, no_fill b key z)))) (λ r _ l. z r l)
