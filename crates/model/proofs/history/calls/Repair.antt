-- Repair: every unit of the group is in service again, with its bytes.
use Prim.Native.Nat.{ℕ, ◌+◌, ◌*◌, ◌-◌, ◌/◌, ◌%◌, ◌<◌}
use mathlib.Core.Path.{◌≡◌, refl, sym, ap, ◌∙◌}
use mathlib.Core.List.{List}
use mathlib.Core.Bool.{Bool, true, false, not, ◌&&◌, and-false}
use native.Mathlib.Omega.{arith}
use lib.Dec.{eqb, ltb}
use borrow.Author.Tests.{eq-eqb, eqb-true, ltb-false, lt-ltb, le-ltb}
use Rattle.buffer.specs.Choice.{pick}
use Rattle.buffer.specs.ChoiceLaws.{by-test, by-pick, pick_true, pick-false}
use Rattle.buffer.specs.TestLaws.{and_false_second, and_first}
use Rattle.buffer.specs.Bytes.{zeros}
use Rattle.group.specs.Widths.{check_bytes}
use Rattle.group.specs.CheckRecord.{check_record}
use Rattle.model.specs.Layout.{Store, view, bytes}
use Rattle.model.specs.LayoutLaws.{Same, bytes_ext}
use Rattle.model.specs.Reads.{whole_slot}
use Rattle.model.specs.Numbers.{repair, refusals_in}
use Rattle.model.specs.RowLaws.{row}
use Rattle.model.specs.Changes.{repaired}
use Rattle.model.specs.Perform.{reply, given_in, granted_in}
use Rattle.model.specs.history.Ledger.{Ledger, record_at, placed, is_out, state, beyond_of, group_of, granted}
use Rattle.model.specs.history.Picture.{record_bytes, picture_slot, check_over, picture_check, image, picture}
use Rattle.model.specs.history.Table.{refusals}
use Rattle.model.specs.history.Answers.{given}
use Rattle.model.proofs.history.ledger.Valid.{Valid, marked_valid}
use Rattle.model.proofs.history.picture.Records.{anew_over}
use Rattle.model.proofs.history.picture.Picture.{seen}
use Rattle.model.proofs.history.picture.Seen.{slot_kept, units_seen}
use Rattle.model.proofs.history.picture.Losses.{beyond_seen}
use Rattle.model.proofs.history.picture.Rebuilt.{near, whole_slot_lem}
use Rattle.model.proofs.history.calls.Simulation.{Simulated}
use Rattle.model.proofs.history.calls.OneList.{sound_row}

-- the group of a data unit, and of a check unit
group_data : (u : ℕ) → u < 16 → group_of u ≡ u / 4
unfolding group_of
group_data u a = pick_true (lt-ltb u 16 a) (u / 4) ((u - 16) / 3)

group_check : (c : ℕ) → group_of (16 + c) ≡ c / 3
unfolding group_of
group_check c =
    let e : 16 + c - 16 ≡ c = omega arith in
    pick-false (le-ltb (16 + c) 16 (omega arith)) ((16 + c) / 4) ((16 + c - 16) / 3) ∙ ap (λ (n : ℕ). n / 3) e

-- ---- the ledger with the units of group g back in service

module _ (l : Ledger) (g : ℕ) where
  in_valid : Valid l → Valid (granted l (repair g))
  unfolding granted
  in_valid h = marked_valid l _ h (λ w e. and_false_second (not (eqb (group_of w) g)) (h.calm w e))

  in_state_lem : (w q : ℕ) → group_of w ≡ q → pick (eqb q g && eqb (state l w) 2) 1 (state l w) ≡ state (granted l (repair g)) w
  unfolding state placed granted pick
  in_state_lem w q e = rw e (go (eqb q g) (placed l w) (l.out w))
    where
      go : (a p o : Bool) → ◌≡◌ {A = ℕ} (pick (a && eqb (pick p (pick o 2 1) 0) 2) 1 (pick p (pick o 2 1) 0)) (pick p (pick (not a && o) 2 1) 0)
      go true true true = refl
      go true true false = refl
      go true false o = refl
      go false p o = refl

  -- none of them is out
  in_none : (w : ℕ) → group_of w ≡ g → is_out (granted l (repair g)) w ≡ false
  unfolding is_out granted
  in_none w e = rw (eq-eqb (group_of w) g e) (and-false (placed (granted l (repair g)) w))

  in_at : (u r : ℕ) → record_at (granted l (repair g)) u r ≡ record_at l u r
  unfolding record_at granted
  in_at u r = refl

  module _ (rest : List ℕ) (h : Valid l) (hg : g < 4) (nb : beyond_of l g ≡ false) where
    abbrev v : Store
    v = view (picture l rest)

    s : Same (view (picture l rest)) (image l rest)
    s = seen l rest h.good

    whole : (u r : ℕ) → u < 16 → u / 4 ≡ g → r < l.size → whole_slot v u r ≡ record_bytes (record_at l u r)
    whole u r a d b = whole_slot_lem l rest h u a r b (near l u r (ap (beyond_of l) d ∙ nb) b)

    in_slot : (u r : ℕ) → u < 16 → r < l.size → pick (eqb (u / 4) g) (whole_slot v u r) (v.slot u r) ≡ picture_slot (granted l (repair g)) u r
    unfolding image
    in_slot u r a b = by-pick (λ (x : List ℕ). x ≡ picture_slot (granted l (repair g)) u r) (eqb (u / 4) g) (whole_slot v u r) (v.slot u r)
        (λ e.
        let d : u / 4 ≡ g = eqb-true (u / 4) g e in
        whole u r a d b ∙ sym (slot_kept (granted l (repair g)) (in_valid h) u r a (in_none u (group_data u a ∙ d)) ∙ ap record_bytes (in_at u r)))
        (λ e. s.slot u r a b
        ∙ same_slot u r (sym (ap (λ (t : Bool). pick (t && eqb (state l u) 2) 1 (state l u)) e ∙ pick-false refl 1 (state l u))
        ∙ in_state_lem u (u / 4) (group_data u a)))
      where
        same_slot : (u r : ℕ) → state l u ≡ state (granted l (repair g)) u → picture_slot l u r ≡ picture_slot (granted l (repair g)) u r
        same_slot u r e = unfold picture_slot record_at granted in rw e

    in_check : (c r : ℕ) → c < 12 → r < l.size
        → pick (eqb (c / 3) g && eqb (state l (16 + c)) 2) (check_record (c % 3) (λ p. whole_slot v (4 * g + p) r)) (v.check c r)
        ≡ picture_check (granted l (repair g)) c r
    unfolding image
    in_check c r a b =
        by-test (λ (t : Bool). pick t 1 (state l (16 + c)) ≡ state (granted l (repair g)) (16 + c)
        → pick t (check_record (c % 3) (λ p. whole_slot v (4 * g + p) r)) (v.check c r) ≡ picture_check (granted l (repair g)) c r)
        (eqb (c / 3) g && eqb (state l (16 + c)) 2)
        (λ e q. pick_true refl _ _
        ∙ made (eqb-true (c / 3) g (and_first (eqb (c / 3) g) (eqb (state l (16 + c)) 2) e)) (sym (pick_true refl 1 (state l (16 + c))) ∙ q))
        (λ e q. pick-false refl _ _ ∙ s.check c r a b ∙ kept (sym (pick-false refl 1 (state l (16 + c))) ∙ q))
        (in_state_lem (16 + c) (c / 3) (group_check c))
      where
        -- made anew from the rebuilt slots, and as it was
        made : c / 3 ≡ g → 1 ≡ state (granted l (repair g)) (16 + c)
            → check_record (c % 3) (λ p. whole_slot v (4 * g + p) r) ≡ picture_check (granted l (repair g)) c r
        made d e =
            anew_over (c % 3) (λ p. whole_slot v (4 * g + p) r) (λ p. record_at l (4 * g + p) r) (λ p i. whole (4 * g + p) r (omega arith) (omega arith) b)
            ∙ unfold picture_check record_at granted in rw (← e, d) (sym (pick_true refl (check_over (c % 3) (λ p. record_at l (4 * g + p) r)) (zeros check_bytes)))

        kept : state l (16 + c) ≡ state (granted l (repair g)) (16 + c) → picture_check l c r ≡ picture_check (granted l (repair g)) c r
        kept e = unfold picture_check record_at granted in rw e

    repair_picture : bytes (repaired v g) ≡ picture (granted l (repair g)) rest
    unfolding repaired image granted
    repair_picture = bytes_ext (repaired v g) (image (granted l (repair g)) rest) (record {
      front = s.front;
      size = s.size;
      dstate = λ u a. rw (s.dstate u a) (in_state_lem u (u / 4) (group_data u a));
      cstate = λ c a. rw (s.cstate c a) (in_state_lem (16 + c) (c / 3) (group_check c));
      slot = λ u r a b. in_slot u r a b;
      check = λ c r a b. rw (s.cstate c a) (in_check c r a b);
      rest = s.rest;
    })

module _ (l : Ledger) (rest : List ℕ) (h : Valid l) where
  pub repair_simulated : (g : ℕ) → Simulated l rest (repair g)
  unfolding reply refusals_in refusals granted granted_in given given_in
  repair_simulated g = record {
    tests = row refl (λ e. row (sound_row l rest h) (λ _. row (rw (units_seen l rest h)) (λ _. row (beyond_seen l rest h g (low e)) (λ _. tt))));
    hands = λ f. refl;
    counts = λ f n y. refl;
    bytes = λ f. repair_picture l g rest h (low f.0) f.1.1.1.0;
    valid = λ f. in_valid l g h;
  }
    where
      low : ltb 3 g ≡ false → g < 4
      low e = omega (arith, ltb-false 3 g e)
