-- The chunks of the units of a store, its slots or its check records, where the first t units from unit q on have new ones.
use Prim.Native.Nat.{ℕ, suc, ◌+◌, ◌≤◌, ◌<◌}
use mathlib.Core.Path.{◌≡◌, refl, sym, ap, ◌∙◌}
use mathlib.Core.Bool.{Bool, true, ◌&&◌}
use mathlib.Core.List.{List}
use lib.Dec.{eqb, leb, ltb}
use lib.ListN.{length}
use borrow.Author.Tests.{eqb-true, lt-ltb, ltb-true, le-leb, leb-true}
use Rattle.buffer.specs.Choice.{pick}
use Rattle.buffer.specs.ChoiceLaws.{by-pick}
use Rattle.buffer.specs.TestLaws.{and-true, and_first, and_second, same_test}
use Rattle.model.specs.RunLaws.{upd2, run}
use Rattle.model.specs.RunTurns.{run_none, run_more}

module _ (new old : ℕ → ℕ → List ℕ) (q : ℕ) where
  unfoldable pub renewed : ℕ → ℕ → ℕ → List ℕ
  renewed t u r = pick (leb q u && ltb u (q + t)) (new u r) (old u r)

  -- at each rank it is a run of units
  pub renewed_none : (u r : ℕ) → old u r ≡ renewed 0 u r
  unfolding renewed run
  renewed_none u r = run_none (λ _ w. old w r) 0 q (λ w. new w r) 0 u

  pub renewed_more : (t u r : ℕ) → pick (eqb u (q + t)) (new (q + t) r) (renewed t u r) ≡ renewed (suc t) u r
  unfolding renewed run upd2
  renewed_more t u r = run_more (λ _ w. old w r) 0 q (λ w. new w r) t 0 u

  -- a unit whose new chunks are the old ones
  pub renewed_own : (t u r : ℕ) → new u r ≡ old u r → renewed t u r ≡ old u r
  unfolding renewed
  renewed_own t u r e = by-pick (λ x. x ≡ old u r) (leb q u && ltb u (q + t)) (new u r) (old u r) (λ _. e) (λ _. refl)

  pub renewed_off : (t : ℕ) → ((u r : ℕ) → u ≡ q + t → new u r ≡ old u r) → (u r : ℕ) → renewed t u r ≡ renewed (suc t) u r
  renewed_off t own u r =
      sym (by-pick (λ x. x ≡ renewed t u r) (eqb u (q + t)) (new (q + t) r) (renewed t u r)
      (λ e.
      let same : u ≡ q + t = eqb-true u (q + t) e in
      ap (λ w. new w r) (sym same) ∙ own u r same ∙ sym (renewed_own t u r (own u r same)))
      (λ _. refl))
      ∙ renewed_more t u r

  inside : (t u : ℕ) → (leb q u && ltb u (q + t)) ≡ true → (q ≤ u) × (u < q + t)
  inside t u e = (leb-true q u (and_first (leb q u) (ltb u (q + t)) e), ltb-true u (q + t) (and_second (leb q u) (ltb u (q + t)) e))

  pub length_renewed : (w t u r : ℕ) → (q ≤ u → u < q + t → length (new u r) ≡ w) → length (old u r) ≡ w → length (renewed t u r) ≡ w
  unfolding renewed
  length_renewed w t u r h k =
      by-pick (λ x. length x ≡ w) (leb q u && ltb u (q + t)) (new u r) (old u r) (λ e. let l = inside t u e in h l.0 l.1) (λ _. k)

  -- by another test for these units
  pub renewed_by : (t : ℕ) (due : Bool) (u r : ℕ) → (q ≤ u → u < q + t → due ≡ true) → (due ≡ true → (q ≤ u) × (u < q + t))
      → renewed t u r ≡ pick due (new u r) (old u r)
  unfolding renewed
  renewed_by t due u r h back =
      ap
      (λ b. pick b (new u r) (old u r))
      (same_test
      (leb q u && ltb u (q + t))
      due
      (λ e. let l = inside t u e in h l.0 l.1)
      (λ e. let l = back e in and-true (le-leb q u l.0) (lt-ltb u (q + t) l.1)))
