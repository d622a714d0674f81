-- A key in a list of records: the field of the first record with that key, or none.
use Prim.Native.Nat.{ℕ, zero, suc, ◌≤◌, ◌<◌}
use mathlib.Core.Path.{◌≡◌, refl, sym, ap, ◌∙◌}
use mathlib.Core.Logic.{◌≢◌}
use mathlib.Core.List.{List, [], ◌∷◌, ◌++◌}
use mathlib.Core.Option.{Option, none, some}
use mathlib.Core.Bool.{Bool, true, false}
use native.Mathlib.Omega.{arith}
use native.Mathlib.Nat.{not-suc-le-zero, zero-lt-suc}
use lib.Dec.{eqb, ltb, leb}
use lib.ListN.{length, get_or}
use borrow.Author.Tests.{eq-eqb, ne_eqb, eqb-true, eqb-false, ltb-true, ltb-false, leb-true, leb-false}
use Rattle.buffer.specs.Choice.{pick}
use Rattle.buffer.specs.ChoiceLaws.{by-test, by-pick, pick_true, pick-false, pick_same, pick-map}
use Rattle.buffer.specs.RangeLaws.{first_at, first_holds, first_misses}
use Rattle.model.specs.Changes.{filter_by}
use Rattle.model.specs.history.Ledger.{Rec, empty, rank_of}
use Rattle.model.proofs.history.ledger.Dealt.{Differ}

unfoldable pub seek : List Rec → ℕ → Option (List ℕ)
seek [] k = none
seek (x ∷ xs) k = pick (eqb x.key k) (some x.field) (seek xs k)

-- no two records have one key
abbrev pub Different : List Rec → Type 0
Different xs = Differ (λ (x : Rec). x.key) empty xs

-- no record has the key
abbrev pub Without : List Rec → ℕ → Type 0
Without xs k = (r : ℕ) → r < length xs → (get_or xs r empty).key ≢ k

-- ---- two lists one behind the other

unfoldable pub or_else : Option (List ℕ) → Option (List ℕ) → Option (List ℕ)
or_else none t = t
or_else (some x) t = some x

pub or_none : (t : Option (List ℕ)) → or_else t none ≡ t
unfolding or_else
or_none none = refl
or_none (some x) = refl

pub none_or : (t : Option (List ℕ)) → or_else none t ≡ t
unfolding or_else
none_or t = refl

pub seek_append : (xs ys : List Rec) (k : ℕ) → seek (xs ++ ys) k ≡ or_else (seek xs k) (seek ys k)
unfolding seek or_else
seek_append [] ys k = refl
seek_append (x ∷ xs) ys k =
    ap (pick (eqb x.key k) (some x.field)) (seek_append xs ys k)
    ∙ sym (pick-map (λ (t : Option (List ℕ)). or_else t (seek ys k)) (eqb x.key k) (some x.field) (seek xs k))

-- ---- the records for whose key a test holds

pub seek_filter : (p : ℕ → Bool) (xs : List Rec) (k : ℕ) → seek (filter_by (λ (x : Rec). p x.key) xs) k ≡ pick (p k) (seek xs k) none
unfolding seek filter_by pick
seek_filter p [] k = sym (pick_same (p k) none)
seek_filter p (x ∷ xs) k = go (p x.key) (eqb x.key k) refl refl (seek_filter p xs k)
  where
    ks : List Rec
    ks = filter_by (λ (x : Rec). p x.key) xs

    go : (a b : Bool) → p x.key ≡ a → eqb x.key k ≡ b → seek ks k ≡ pick (p k) (seek xs k) none
        → seek (pick a (x ∷ ks) ks) k ≡ pick (p k) (pick b (some x.field) (seek xs k)) none
    go true true e f ih = rw (sym (ap p (eqb-true x.key k f)) ∙ e, f)
    go true false e f ih = rw f ih
    go false true e f ih =
        let q : p k ≡ false = sym (ap p (eqb-true x.key k f)) ∙ e in
        ih ∙ rw q
    go false false e f ih = ih

-- ---- a key that no record has, and one that a record has

pub seek_miss : (xs : List Rec) (k : ℕ) → Without xs k → seek xs k ≡ none
unfolding seek
seek_miss [] k h = refl
seek_miss (x ∷ xs) k h =
    pick-false (ne_eqb x.key k (h zero (zero-lt-suc (length xs)))) (some x.field) (seek xs k) ∙ seek_miss xs k (λ r a. h (suc r) (omega arith))

pub seek_hit : (xs : List Rec) (k r : ℕ) → Different xs → r < length xs → (get_or xs r empty).key ≡ k → seek xs k ≡ some (get_or xs r empty).field
unfolding seek
seek_hit [] k r d a e = absurd (not-suc-le-zero a)
seek_hit (x ∷ xs) k zero d a e = pick_true (eq-eqb x.key k e) (some x.field) (seek xs k)
seek_hit (x ∷ xs) k (suc r) d a e =
    pick-false (ne_eqb x.key k (λ q. d zero (suc r) (zero-lt-suc r) a (q ∙ sym e))) (some x.field) (seek xs k)
    ∙ seek_hit xs k r (λ i j b c. d (suc i) (suc j) (omega arith) (omega arith)) (omega arith) e

-- ---- the rank of a key: of one that stands in a list, and whether it does

pub rank_at : (xs : List Rec) (r : ℕ) → Different xs → r < length xs → rank_of xs (get_or xs r empty).key ≡ r
unfolding rank_of
rank_at xs r d a = first_at (length xs) _ r a (λ q b. ne_eqb _ _ (d q r b a)) (eq-eqb (get_or xs r empty).key _ refl)

module _ (xs : List Rec) (k : ℕ) where
  pub rank_key : rank_of xs k < length xs → (get_or xs (rank_of xs k) empty).key ≡ k
  unfolding rank_of
  rank_key a = eqb-true (get_or xs (rank_of xs k) empty).key k (first_holds (length xs) (λ r. eqb (get_or xs r empty).key k) a)

  pub rank_without : length xs ≤ rank_of xs k → Without xs k
  unfolding rank_of
  rank_without h r a = eqb-false (get_or xs r empty).key k (first_misses (length xs) (λ r. eqb (get_or xs r empty).key k) r (omega arith))

  -- by whether a key stands in a list
  pub by_seek : (P : Type 0) → ((r : ℕ) → r < length xs → (get_or xs r empty).key ≡ k → P) → (Without xs k → P) → P
  by_seek P hit miss =
      by-test
      (λ t. P)
      (ltb (rank_of xs k) (length xs))
      (λ e. let a : rank_of xs k < length xs = ltb-true (rank_of xs k) (length xs) e in hit (rank_of xs k) a (rank_key a))
      (λ e. miss (rank_without (ltb-false (rank_of xs k) (length xs) e)))

  -- what the table's row "not present" asks
  pub seek_rank : Different xs → seek xs k ≡ pick (leb (length xs) (rank_of xs k)) none (some (get_or xs (rank_of xs k) empty).field)
  seek_rank d =
      by-pick
      (λ t. seek xs k ≡ t)
      (leb (length xs) (rank_of xs k))
      none
      (some (get_or xs (rank_of xs k) empty).field)
      (λ e. seek_miss xs k (rank_without (leb-true (length xs) (rank_of xs k) e)))
      (λ e. let a : rank_of xs k < length xs = leb-false (length xs) (rank_of xs k) e in seek_hit xs k (rank_of xs k) d a (rank_key a))
