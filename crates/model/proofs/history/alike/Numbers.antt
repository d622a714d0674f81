-- On alike stores the calls that change a store get the same numbers: the rows of the table look at states and keys alone.
use Prim.Native.Nat.{ℕ, pred, ◌+◌, ◌*◌, ◌/◌, ◌≤◌, ◌<◌}
use mathlib.Core.Path.{◌≡◌, refl, sym, ap, ap₂, ◌∙◌}
use mathlib.Core.List.{List}
use mathlib.Core.Bool.{Bool, false, not}
use native.Mathlib.Omega.{arith}
use lib.Dec.{eqb, ltb, leb}
use borrow.Author.Tests.{ltb-false, leb-false}
use Rattle.model.specs.Units.{split_pointer}
use Rattle.model.specs.UnitLaws.{split_below, unit_below}
use Rattle.model.specs.Layout.{Store, units_in}
use Rattle.model.specs.Reads.{home_in, fill_in, rank_in, outs_in, state_in}
use Rattle.model.proofs.SameLosses.{beyond_same}
use Rattle.model.specs.Numbers.{teach, correct, erase, unit_out, repair, grow, shrink, raise, refusals_in}
use Rattle.model.specs.RowLaws.{Agree, row}
use Rattle.model.proofs.history.alike.Alike.{Alike, units_alike, level_alike, home_alike, state_alike, outs_alike, units_out_alike, lists_alike}
use Rattle.model.proofs.history.alike.Alike.{fill_alike, rank_alike}

module _ (v w : Store) (a : Alike v w) (some : 1 ≤ units_in v) (few : units_in v ≤ 16) where
  -- ---- a key's unit

  pub home_inside : (k : ℕ) → home_in v k < 16
  unfolding home_in
  home_inside k = omega (arith, unit_below (units_in v) k some)

  pub fill_same : (k : ℕ) → fill_in v (home_in v k) ≡ fill_in w (home_in w k)
  fill_same k = rw (← (home_alike v w a k)) (fill_alike v w a (home_in v k) (home_inside k))

  pub rank_same : (k : ℕ) → rank_in v (home_in v k) k ≡ rank_in w (home_in w k) k
  rank_same k = rw (← (home_alike v w a k)) (rank_alike v w a (home_in v k) (home_inside k) k)

  -- ---- the unit that is split

  pub split_inside : split_pointer (units_in v) < 16
  split_inside = omega (arith, split_below (units_in v) some)

  pub split_before : 2 ≤ units_in v → split_pointer (pred (units_in v)) < 16
  split_before l = omega (arith, split_below (pred (units_in v)) (omega arith))

  -- ---- rows; o and p say whether the two stores are sound

  outs_row : (g i : ℕ) → g ≡ i → g < 4 → ltb 0 (outs_in v g) ≡ ltb 0 (outs_in w i)
  outs_row g i e l = ap (ltb 0) (outs_alike v w a g l ∙ ap (outs_in w) e)

  home_row : (k : ℕ) → ltb 0 (outs_in v (home_in v k / 4)) ≡ ltb 0 (outs_in w (home_in w k / 4))
  home_row k = outs_row (home_in v k / 4) (home_in w k / 4) (ap (λ (u : ℕ). u / 4) (home_alike v w a k)) (omega (arith, home_inside k))

  fill_row : (u i : ℕ) → u ≡ i → u < 16 → fill_in v u ≡ fill_in w i
  fill_row u i e l = fill_alike v w a u l ∙ ap (fill_in w) e

  module _ {o p : Bool} (e : o ≡ p) where
    pub teach_rows : (k : ℕ) (x : List ℕ) → Agree (refusals_in o v (teach k x)) (refusals_in p w (teach k x))
    unfolding refusals_in
    teach_rows k x =
        row refl (λ _. row refl (λ _. row (ap not e) (λ _. row (home_row k) (λ _.
        row (ap₂ ltb (rank_same k) (fill_same k)) (λ _. row (ap₂ leb a.size (fill_same k)) (λ _. tt))))))

    pub correct_rows : (k : ℕ) (x : List ℕ) → Agree (refusals_in o v (correct k x)) (refusals_in p w (correct k x))
    unfolding refusals_in
    correct_rows k x =
        row refl (λ _. row refl (λ _. row (ap not e) (λ _. row (home_row k) (λ _. row (ap₂ leb (fill_same k) (rank_same k)) (λ _. tt)))))

    pub erase_rows : (k : ℕ) → Agree (refusals_in o v (erase k)) (refusals_in p w (erase k))
    unfolding refusals_in
    erase_rows k = row refl (λ _. row (ap not e) (λ _. row (home_row k) (λ _. row (ap₂ leb (fill_same k) (rank_same k)) (λ _. tt))))

    pub out_rows : (n : ℕ) → Agree (refusals_in o v (unit_out n)) (refusals_in p w (unit_out n))
    unfolding refusals_in
    out_rows n =
        row refl (λ q. row (ap not e) (λ _. row (ap (λ (k : ℕ). eqb k 0) (same q)) (λ _. row (ap (λ (k : ℕ). eqb k 2) (same q)) (λ _. tt))))
      where
        same : ltb 27 n ≡ false → state_in v n ≡ state_in w n
        same q = state_alike v w a n (omega (arith, ltb-false 27 n q))

    pub repair_rows : (g : ℕ) → Agree (refusals_in o v (repair g)) (refusals_in p w (repair g))
    unfolding refusals_in
    repair_rows g =
        row refl (λ q. row (ap not e) (λ _. row (ap (λ (m : ℕ). leb m (4 * g)) (units_alike v w a)) (λ _.
        row (sym (beyond_same v w (lists_alike v w a) g (omega (arith, ltb-false 3 g q)))) (λ _. tt))))

    pub grow_rows_lem : Agree (refusals_in o v grow) (refusals_in p w grow)
    unfolding refusals_in
    grow_rows_lem =
        let m : units_in v ≡ units_in w = units_alike v w a in
        row (ap not e) (λ _. row (ap (leb 16) m) (λ q.
        let room : units_in v < 16 = omega (arith, leb-false 16 (units_in w) q) in
        row (outs_row _ _ (ap (λ (n : ℕ). n / 4) m) (omega arith)) (λ _.
        row (outs_row _ _ (ap (λ (n : ℕ). split_pointer n / 4) m) (omega (arith, split_inside))) (λ _. tt))))

    pub shrink_rows_lem : Agree (refusals_in o v shrink) (refusals_in p w shrink)
    unfolding refusals_in
    shrink_rows_lem =
        let m : units_in v ≡ units_in w = units_alike v w a in
        row (ap not e) (λ _. row (ap (λ (n : ℕ). leb n 1) m) (λ q.
        let two : 2 ≤ units_in v = omega (arith, leb-false (units_in w) 1 q) in
        let before : split_pointer (pred (units_in v)) < 16 = split_before two in
        row (outs_row _ _ (ap (λ (n : ℕ). pred n / 4) m) (omega arith)) (λ _.
        row (outs_row _ _ (ap (λ (n : ℕ). split_pointer (pred n) / 4) m) (omega arith)) (λ _.
        row (ap₂ ltb a.size (ap₂ (λ (i j : ℕ). i + j) (fill_row _ _ (ap (λ (n : ℕ). split_pointer (pred n)) m) before)
        (fill_row _ _ (ap pred m) (omega arith))))
        (λ _. tt)))))

    pub raise_rows : Agree (refusals_in o v raise) (refusals_in p w raise)
    unfolding refusals_in
    raise_rows =
        let level = ap (leb 3) (level_alike v w a) in
        let outs = ap (ltb 0) (units_out_alike v w a) in
        row (ap not e) (λ _. row (search (level, outs)) (λ _. row (search (level, outs)) (λ _. tt)))
