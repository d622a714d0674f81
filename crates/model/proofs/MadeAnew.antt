-- The check units that grow, shrink, repair and raise make anew hold the check records of the slots that the call leaves, whatever the store.
use Prim.Native.Nat.{ℕ, pred, ◌+◌, ◌*◌, ◌/◌, ◌%◌, ◌<◌}
use mathlib.Core.Path.{◌≡◌, sym, ◌∙◌}
use mathlib.Core.List.{List}
use mathlib.Core.Bool.{true, ◌&&◌}
use native.Mathlib.Omega.{arith}
use lib.Dec.{eqb, ltb}
use borrow.Author.Tests.{eq-eqb, lt-ltb}
use Rattle.buffer.specs.ChoiceLaws.{pick_true}
use Rattle.buffer.specs.TestLaws.{and-true}
use Rattle.group.proofs.CheckRecordLaws.{check_record_ext}
use Rattle.model.specs.Units.{touched}
use Rattle.model.specs.Layout.{Store, view, units_in, level_in}
use Rattle.model.specs.LayoutLaws.{Same}
use Rattle.model.specs.Changes.{repaired, grown, shrunk, added, raised}
use Rattle.model.specs.Numbers.{repair, grow, shrink, raise}
use Rattle.model.specs.MadeAnew.{HoldsCheckRecords, left_by, MadeAnew}
use Rattle.model.proofs.Left.{repair_left, grow_left, shrink_left}
use Rattle.model.proofs.Raised.{raise_left}

-- what check unit c holds, in stores whose parts are the same
same_holds : (s t : Store) → Same s t → (c : ℕ) → c < 12 → HoldsCheckRecords t c → HoldsCheckRecords s c
same_holds s t h c l f r m =
    let n : r < t.size = omega (arith, h.size) in
    h.check c r l n ∙ f r n
    ∙ sym (check_record_ext (c % 3) (λ p. s.slot (4 * (c / 3) + p) r) (λ p. t.slot (4 * (c / 3) + p) r) (λ p q. h.slot (4 * (c / 3) + p) r (omega arith) n))

-- ---- what each call makes anew

grown_holds : (v : Store) (m c : ℕ) → touched m (c / 3) ≡ true → (grown v m).cstate c ≡ 1 → HoldsCheckRecords (grown v m) c
unfolding grown
grown_holds v m c q e r l = pick_true (and-true q (eq-eqb _ 1 e)) _ (v.check c r)

shrunk_holds : (v : Store) (m c : ℕ) → touched m (c / 3) ≡ true → (shrunk v m).cstate c ≡ 1 → HoldsCheckRecords (shrunk v m) c
unfolding shrunk
shrunk_holds v m c q e r l = pick_true q _ (v.check c r) ∙ pick_true (eq-eqb _ 1 e) _ _

repaired_holds : (v : Store) (g c : ℕ) → c / 3 ≡ g → v.cstate c ≡ 2 → HoldsCheckRecords (repaired v g) c
unfolding repaired
repaired_holds v g c d e r l =
    pick_true (and-true (eq-eqb (c / 3) g d) (eq-eqb (v.cstate c) 2 e)) _ (v.check c r)
    ∙ check_record_ext (c % 3) _ _ (λ p q. rw d (sym (pick_true (eq-eqb ((4 * g + p) / 4) g (omega arith)) _ (v.slot (4 * g + p) r))))

raised_holds : (v : Store) (c : ℕ) → 4 * (c / 3) < units_in v → c % 3 ≡ level_in v → ((raised v).cstate c ≡ 1) × HoldsCheckRecords (raised v) c
unfolding raised added
raised_holds v c a e =
    let on : (ltb (4 * (c / 3)) (units_in v) && eqb (c % 3) (level_in v)) ≡ true = and-true (lt-ltb _ _ a) (eq-eqb _ _ e) in
    (pick_true on 1 (v.cstate c), λ r l. pick_true on _ (v.check c r))

-- EVERY CHECK UNIT THAT A CALL MAKES ANEW
pub made_anew : (s : List ℕ) → MadeAnew s
made_anew s = record {
  by_grow = λ z c l q e.
      let v : Store = view s in
      let m : ℕ = units_in (view s) in
      let h : Same (left_by s grow) (grown v m) = grow_left s z in
      same_holds (left_by s grow) (grown v m) h c l (grown_holds v m c q (sym (h.cstate c l) ∙ e));
  by_shrink = λ z c l q e.
      let v : Store = view s in
      let m : ℕ = pred (units_in (view s)) in
      let h : Same (left_by s shrink) (shrunk v m) = shrink_left s z in
      same_holds (left_by s shrink) (shrunk v m) h c l (shrunk_holds v m c q (sym (h.cstate c l) ∙ e));
  by_repair = λ g z c l d e. same_holds (left_by s (repair g)) (repaired (view s) g) (repair_left s g z) c l (repaired_holds (view s) g c d e);
  by_raise = λ z c l a e.
      let h : Same (left_by s raise) (raised (view s)) = raise_left s z in
      let new = raised_holds (view s) c a e in
      (h.cstate c l ∙ new.0, same_holds (left_by s raise) (raised (view s)) h c l new.1);
}
