-- A run that grows by one chunk: where it begins, and one chunk more.
use Prim.Native.Nat.{ℕ, suc, ◌+◌, ◌≤◌}
use Rattle.std.specs.Prelude.{◌≡◌, List, ◌&&◌, eqb, leb}
use Rattle.std.proofs.Math.Path.{refl, sym, ap}
use Rattle.std.proofs.Common.{◌∙◌, arith}
use Rattle.std.proofs.Math.Dec.{ltb}
use borrow.Author.Tests.{eqb-true, eq-eqb, lt-ltb, le-ltb, le-leb, leb-true}
use Rattle.buffer.specs.Choice.{pick}
use Rattle.buffer.specs.ChoiceLaws.{by-test, pick_true, pick-false}
use Rattle.buffer.specs.TestLaws.{and-true, and_false_second, and_ext, by_both, ltb_suc}
use Rattle.model.specs.RunLaws.{upd2, run}

module _ (f : ℕ → ℕ → List ℕ) (u q : ℕ) (g : ℕ → List ℕ) where
  pub run_none : (v r : ℕ) → f v r ≡ run f u q 0 g v r
  unfolding run
  run_none v r =
      by-test
      (λ t. f v r ≡ pick (eqb v u && (t && ltb r (q + 0))) (g r) (f v r))
      (leb q r)
      (λ e. let l : q ≤ r = leb-true q r e in sym (pick-false (and_false_second (eqb v u) (le-ltb r (q + 0) (omega arith))) (g r) (f v r)))
      (λ e. sym (pick-false (and_false_second (eqb v u) refl) (g r) (f v r)))

  pub run_more : (m v r : ℕ) → upd2 (run f u q m g) u (q + m) (g (q + m)) v r ≡ run f u q (suc m) g v r
  unfolding upd2
  run_more m v r =
      by_both
      (λ t. pick t (g (q + m)) (run f u q m g v r) ≡ run f u q (suc m) g v r)
      v
      u
      r
      (q + m)
      (λ d e. pick_true refl (g (q + m)) (run f u q m g v r) ∙ here d e)
      (λ k. pick-false refl (g (q + m)) (run f u q m g v r) ∙ other k)
    where
      here : v ≡ u → r ≡ q + m → g (q + m) ≡ run f u q (suc m) g v r
      here d e =
          ap g (sym e)
          ∙ unfold run in sym (pick_true (and-true (eq-eqb v u d) (and-true (le-leb q r (omega arith)) (lt-ltb r (q + suc m) (omega arith)))) (g r) (f v r))

      grows : (r ≡ q + m → ⊥) → ltb r (q + m) ≡ ltb r (q + suc m)
      grows k = let e : suc (q + m) ≡ q + suc m = omega arith in ltb_suc r (q + m) k ∙ ap (ltb r) e

      other : (v ≡ u → r ≡ q + m → ⊥) → run f u q m g v r ≡ run f u q (suc m) g v r
      other k =
          unfold run in ap
          (λ t. pick t (g r) (f v r))
          (and_ext (eqb v u) (leb q r && ltb r (q + m)) (leb q r && ltb r (q + suc m)) (λ d.
          and_ext (leb q r) (ltb r (q + m)) (ltb r (q + suc m)) (λ _. grows (k (eqb-true v u d)))))
