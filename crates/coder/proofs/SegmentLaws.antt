-- The present members of a segment: each is in it and present, no two are the same, and they are as many as a count says. A user wants `chosen_members`,
-- `chosen_distinct`, `chosen_map` and `presents_long`.
use Rattle.std.specs.Prelude.{◌≡◌, true, false}
use Rattle.std.proofs.Math.Path.{refl, ap, ap₂, subst}
use Rattle.std.proofs.Common.{sym, ◌∙◌, arith}
use mathlib.Core.List.{List, [], ◌∷◌, ◌++◌, append-nil, map}
use Prim.Native.Nat.{ℕ, zero, suc, ◌+◌, ◌<◌}
use Rattle.std.proofs.Math.ListN.{length, length-append}
use Rattle.algebra.specs.Polynomial.{All, Distinct}
use Rattle.buffer.specs.Choice.{pick}
use Rattle.buffer.specs.ChoiceLaws.{pick_true, pick-false, by-test, by-pick}
use Rattle.buffer.specs.Range.{count}
use Rattle.buffer.specs.Table.{tab}
use Rattle.buffer.specs.TableLaws.{tab_more}
use Rattle.coder.specs.ListLaws.{all_map, map_all, all_append, all_take, distinct_snoc, distinct_take}
use Rattle.coder.specs.Segment.{present, presents, chosen}

-- ---- the present members, one more at a time
-- member c where it is present
abbrev own : List ℕ → ℕ → List ℕ
own marks c = pick (present marks c) (c ∷ []) []

-- p is one of the first n members, and present
pub record Member (marks : List ℕ) (n p : ℕ) : Type 0 where
  pub below : p < n
  pub is : present marks p ≡ true

module _ (marks : List ℕ) where
  pub presents_none : presents marks 0 ≡ []
  unfolding presents tab
  presents_none = refl

  pub presents_more : (c : ℕ) → present marks c ≡ true → presents marks (c + 1) ≡ presents marks c ++ (c ∷ [])
  unfolding presents
  presents_more c e = tab_more c (own marks) ∙ ap (λ l. tab c (own marks) ++ l) (pick_true e (c ∷ []) [])

  pub presents_same : (c : ℕ) → present marks c ≡ false → presents marks (c + 1) ≡ presents marks c
  unfolding presents
  presents_same c e = tab_more c (own marks) ∙ ap (λ l. tab c (own marks) ++ l) (pick-false e (c ∷ []) []) ∙ append-nil (tab c (own marks))

  -- as many as are counted
  pub presents_long : (c : ℕ) → length (presents marks c) ≡ count c (present marks)
  unfolding presents tab count
  presents_long zero = refl
  presents_long (suc c) =
      length-append (presents marks c) (own marks c)
      ∙ ap₂ (λ (x y : ℕ). x + y) (presents_long c)
      (by-test (λ t. length (pick t (c ∷ []) []) ≡ pick t 1 0) (present marks c) (λ _. unfold pick in refl) (λ _. unfold pick in refl))

  presents_members : (c : ℕ) → All (Member marks c) (presents marks c)
  unfolding presents tab
  presents_members zero = tt
  presents_members (suc c) =
      all_append (Member marks (suc c)) (presents marks c) (own marks c)
      (all_map (Member marks c) (Member marks (suc c)) (λ p h. record { below = omega (arith, h.below); is = h.is }) (presents marks c) (presents_members c))
      (by-pick (All (Member marks (suc c))) (present marks c) (c ∷ []) [] (λ e. (record { below = omega arith; is = e }, tt)) (λ e. tt))

  presents_distinct : (c : ℕ) → Distinct (presents marks c)
  unfolding presents tab
  presents_distinct zero = tt
  presents_distinct (suc c) =
      by-pick (λ l. Distinct (presents marks c ++ l)) (present marks c) (c ∷ []) []
      (λ e. distinct_snoc (presents marks c) c (presents_distinct c)
      (all_map (Member marks c) (λ p. c ≡ p → ⊥) (λ p h z. omega (arith, h.below)) (presents marks c) (presents_members c)))
      (λ e. subst Distinct (sym (append-nil (presents marks c))) (presents_distinct c))

  -- ---- the first m of them
  pub chosen_members : (m : ℕ) → All (Member marks (length marks)) (chosen m marks)
  unfolding chosen
  chosen_members m = all_take (Member marks (length marks)) m (presents marks (length marks)) (presents_members (length marks))

  pub chosen_distinct : (m : ℕ) → Distinct (chosen m marks)
  unfolding chosen
  chosen_distinct m = distinct_take m (presents marks (length marks)) (presents_distinct (length marks))

  -- maps that agree on present members
  pub chosen_map : (m : ℕ) (f g : ℕ → ℕ) → ((p : ℕ) → Member marks (length marks) p → f p ≡ g p) → map f (chosen m marks) ≡ map g (chosen m marks)
  chosen_map m f g h =
      map_all f g (chosen m marks) (all_map (Member marks (length marks)) (λ p. f p ≡ g p) h (chosen m marks) (chosen_members m))
