-- The arguments that demand 1 names, on any bytes.
use Prim.Native.Nat.{ℕ}
use mathlib.Core.Path.{◌≡◌, refl, sym, ap, ◌∙◌}
use mathlib.Core.List.{List, ◌∷◌}
use mathlib.Core.Bool.{Bool, true, false, not}
use native.Mathlib.Omega.{arith}
use lib.Dec.{eqb}
use lib.ListN.{length}
use borrow.Author.Tests.{eq-eqb, ne_eqb, lt-ltb, le-ltb, le-leb}
use Rattle.buffer.specs.Bytes.{zeros}
use Rattle.group.specs.Widths.{field_bytes}
use Rattle.model.specs.Numbers.{Call, teach, correct, erase, read, read_in_place, list, unit_out, repair, first_of, refusals_in, number_in}
use Rattle.model.specs.RowLaws.{row_holds, row_fails}
use Rattle.model.specs.Perform.{refusal, outcome, perform}
use Rattle.model.specs.Demand1.{Misused}
use Rattle.model.specs.history.Further.{plan, commit, further_refusal}
use Rattle.model.proofs.Refusals.{refused_as, in_place_none}
use Rattle.model.proofs.Further.{step_as}
use Rattle.model.proofs.Planning.{two_strokes}

module _ (s : List ℕ) where
  -- a field or an output of the wrong length: the second of two rows
  second : (a : Bool) {b : Bool} (n : ℕ) (ts : List (Bool × ℕ)) → b ≡ true → first_of ((a, n) ∷ (b, n) ∷ ts) ≡ n
  second true n ts e = row_holds n _ refl
  second false n ts e = row_fails n _ refl ∙ row_holds n ts e

  by_2 : (c : Call) → number_in s c ≡ 2 → perform s c ≡ outcome (refusal c 2) s
  by_2 c e = refused_as s c 2 e (omega arith)

  in_place_0 : perform s (read_in_place 0) ≡ outcome (refusal (read_in_place 0) 2) s
  in_place_0 = in_place_none s 0 (λ q. absurd (omega (arith, sym q ∙ read_0))) 2
    where
      read_0 : number_in s (read 0 (zeros field_bytes)) ≡ 2
      read_0 = unfold number_in refusals_in in row_holds _ _ refl

  pub misuses : Misused s
  unfolding number_in refusals_in further_refusal
  misuses = record {
    key_0 = λ x.
        let t = by_2 (teach 0 x) (row_holds _ _ refl) in
        let c = by_2 (correct 0 x) (row_holds _ _ refl) in
        (t, (c, (by_2 (erase 0) (row_holds _ _ refl), (by_2 (read 0 x) (row_holds _ _ refl), (in_place_0, tt)))));
    wrong_length = λ k x z.
        let e = ap not (ne_eqb (length x) field_bytes z) in
        (by_2 (teach k x) (second (eqb k 0) 2 _ e), (by_2 (correct k x) (second (eqb k 0) 2 _ e), (by_2 (read k x) (second (eqb k 0) 2 _ e), tt)));
    no_unit_lem = λ w l. (by_2 (unit_out w) (row_holds _ _ (lt-ltb 27 w l)), tt);
    no_group = λ g l. (by_2 (repair g) (row_holds _ _ (lt-ltb 3 g l)), tt);
    unit_not_in_place = λ w l d e.
        (refused_as s (unit_out w) 3 (row_fails _ _ (le-ltb 27 w l) ∙ row_fails _ _ (ap not d) ∙ row_holds _ _ (eq-eqb _ _ e)) (omega arith), tt);
    group_not_in_place = λ g l d e.
        (refused_as s (repair g) 3 (row_fails _ _ (le-ltb 3 g l) ∙ row_fails _ _ (ap not d) ∙ row_holds _ _ (le-leb _ _ e)) (omega arith), tt);
    short = λ x d f l. (refused_as s (list x) 7 (row_fails _ _ (ap not d) ∙ row_fails _ _ f ∙ row_holds _ _ (lt-ltb _ _ l)) (omega arith), tt);
    short_for_the_plan = λ lent z l. step_as s (plan lent) 7 (((two_strokes s).short lent).1 (z, l)) (omega arith);
    count_above_the_list = λ lent n z l. step_as s (commit lent n) 11 ((two_strokes s).not_the_plan z lent n (λ a _. omega (arith, a, l))) (omega arith);
  }
