-- Grow and shrink lead from alike stores to alike stores: records are dealt out and put together by their keys.
use Prim.Native.Nat.{ℕ, zero, suc, ◌+◌, ◌*◌, ◌/◌, ◌%◌, ◌<◌}
use mathlib.Core.Path.{◌≡◌, refl, sym, ap, ◌∙◌}
use mathlib.Core.List.{List, [], ◌∷◌, ◌++◌}
use mathlib.Core.Logic.{inl}
use mathlib.Core.Bool.{Bool, true, false, not, ◌&&◌}
use native.Mathlib.Omega.{arith}
use lib.Dec.{eqb, ltb}
use lib.ListN.{length, get_or, set, length-set}
use lib.Seq.{get_or-set_other}
use borrow.Author.Tests.{ne_eqb}
use Rattle.buffer.specs.Choice.{pick}
use Rattle.buffer.specs.ChoiceLaws.{by-test, pick_true, pick-false, pick-ext}
use Rattle.buffer.specs.TestLaws.{not-both, and_false_second}
use Rattle.buffer.specs.Bytes.{byte, zeros}
use Rattle.buffer.specs.Table.{upd}
use Rattle.group.specs.Widths.{slot_bytes, check_bytes}
use Rattle.group.specs.CheckRecord.{check_record}
use Rattle.model.specs.Units.{split_pointer, moves, touched, begins}
use Rattle.model.specs.Layout.{Store, level_in, key_of}
use Rattle.model.specs.LayoutLaws.{Shaped}
use Rattle.model.specs.Reads.{fill_in}
use Rattle.model.proofs.ReadLaws.{fill_le}
use Rattle.model.specs.Changes.{filter_by, rows, records_in, dealt, grown_state, grown, merged, shrunk_state, shrunk}
use Rattle.model.proofs.history.alike.Alike.{LikeSlot, LikeCheck, Alike, pick_both, no_slot, no_check, key_like, level_alike, fill_alike}
use Rattle.model.proofs.history.ledger.Touched.{is_touched}
use Rattle.model.proofs.history.alike.Repaired.{anew_like}

-- ---- lists of alike slots

data Pairs : List (List ℕ) → List (List ℕ) → Type 0 where
  none : Pairs [] []
  more : {x y : List ℕ} {xs ys : List (List ℕ)} → LikeSlot x y → Pairs xs ys → Pairs (x ∷ xs) (y ∷ ys)

-- the slot at a rank, zeros behind the last
pairs_at : {xs ys : List (List ℕ)} → Pairs xs ys → (r : ℕ) → LikeSlot (get_or xs r (zeros slot_bytes)) (get_or ys r (zeros slot_bytes))
pairs_at none r = no_slot
pairs_at (more h t) zero = h
pairs_at (more h t) (suc r) = pairs_at t r

pairs_append : {xs ys ss ts : List (List ℕ)} → Pairs xs ys → Pairs ss ts → Pairs (xs ++ ss) (ys ++ ts)
pairs_append none k = k
pairs_append (more h t) k = more h (pairs_append t k)

pairs_rows : (n : ℕ) (f g : ℕ → List ℕ) → ((r : ℕ) → r < n → LikeSlot (f r) (g r)) → Pairs (rows n f) (rows n g)
unfolding rows
pairs_rows zero f g h = none
pairs_rows (suc n) f g h = pairs_append (pairs_rows n f g (λ r l. h r (omega arith))) (more (h n (omega arith)) none)

-- those whose key passes a test
module _ (p : ℕ → Bool) where
  abbrev kept : List (List ℕ) → List (List ℕ)
  kept = filter_by (λ x. p (key_of x))

  pairs_more : {x y : List ℕ} (xs ys : List (List ℕ)) → LikeSlot x y → Pairs xs ys → Pairs (pick (p (key_of x)) (x ∷ xs) xs) (pick (p (key_of y)) (y ∷ ys) ys)
  pairs_more {x} {y} xs ys h t = rw (← (key_like h)) (pick_both Pairs (p (key_of x)) (x ∷ xs) (y ∷ ys) xs ys (λ _. more h t) (λ _. t))

  pairs_filter : {xs ys : List (List ℕ)} → Pairs xs ys → Pairs (filter_by (λ x. p (key_of x)) xs) (filter_by (λ x. p (key_of x)) ys)
  unfolding filter_by
  pairs_filter none = none
  pairs_filter (more {xs = xs} {ys = ys} h t) = pairs_more (kept xs) (kept ys) h (pairs_filter t)

-- ---- two alike stores; unit m is added or removed, n is the unit that it is split from

module _ (v w : Store) (a : Alike v w) (m : ℕ) (hm : m < 16) (hn : split_pointer m < 16) where
  records_alike : (u : ℕ) → u < 16 → Pairs (records_in v u) (records_in w u)
  unfolding records_in
  records_alike u l = rw (← (fill_alike v w a u l)) (pairs_rows (fill_in v u) (v.slot u) (w.slot u) (λ r q. a.slot u r l (omega (arith, fill_le v u))))

  -- another number of units in the header
  units_front : (k : ℕ) → set v.front 6 k ≡ set w.front 6 k
  units_front k = ap (λ (x : List ℕ). set x 6 k) a.front

  units_whole : (k : ℕ) → length (set v.front 6 k) ≡ 8
  units_whole k = length-set v.front 6 k ∙ a.whole

  units_sized : (k : ℕ) → byte (set v.front 6 k) 5 ≡ v.size
  units_sized k = get_or-set_other v.front 6 5 k 0 (omega arith) ∙ a.sized

  -- ---- grow

  dealt_like : (u r : ℕ) → u < 16 → r < v.size → LikeSlot (dealt v m u r) (dealt w m u r)
  unfolding dealt
  dealt_like u r l q =
      pick_both LikeSlot (eqb u m) _ _ _ _
      (λ _. pairs_at (pairs_filter (moves m) (records_alike (split_pointer m) hn)) r)
      (λ _. pick_both LikeSlot (eqb u (split_pointer m)) _ _ (v.slot u r) (w.slot u r)
      (λ _. pairs_at (pairs_filter (λ k. not (moves m k)) (records_alike (split_pointer m) hn)) r)
      (λ _. a.slot u r l q))

  grown_state_lem : (c : ℕ) → c < 12 → grown_state v m c ≡ grown_state w m c
  unfolding grown_state
  grown_state_lem c l = rw (level_alike v w a, a.cstate c l)

  abbrev anew_grown : Store → ℕ → ℕ → List ℕ
  anew_grown s c r = check_record (c % 3) (λ p. dealt s m (4 * (c / 3) + p) r)

  grown_check : (c r : ℕ) → c < 12 → r < v.size → LikeCheck ((grown v m).check c r) ((grown w m).check c r)
  unfolding grown
  grown_check c r l q = rw (← (grown_state_lem c l))
      (pick_both LikeCheck (touched m (c / 3) && eqb (grown_state v m c) 1) (anew_grown v c r) (anew_grown w c r) (v.check c r) (w.check c r)
      (λ _. anew_like (c % 3) (λ p. dealt v m (4 * (c / 3) + p) r) (λ p. dealt w m (4 * (c / 3) + p) r) (λ p i. dealt_like (4 * (c / 3) + p) r (omega arith) q))
      (λ _. a.check c r l q))

  pub grown_shaped : Shaped (grown v m)
  grown_shaped = record {
    front = unfold grown in units_whole (suc m);
    size = unfold grown in units_sized (suc m);
    slot = λ u r l q. unfold grown in (dealt_like u r l q).left;
    check = λ c r l q. (grown_check c r l (unfold grown in q)).left;
  }

  module _ (within : (c : ℕ) → c < 12 → eqb (v.cstate c) 1 ≡ true → ltb (c % 3) (level_in v) ≡ true) where
    -- a check unit that is not in service after the grow was not before
    grown_idle : (c : ℕ) → c < 12 → eqb (grown_state v m c) 1 ≡ false → eqb (v.cstate c) 1 ≡ false
    unfolding grown_state
    grown_idle c l =
        by-test (λ (t : Bool). eqb (pick t (pick (ltb (c % 3) (level_in v)) 1 0) (v.cstate c)) 1 ≡ false → eqb (v.cstate c) 1 ≡ false) (begins m (c / 3))
        (λ _ e. by-test (λ (t : Bool). t ≡ false) (eqb (v.cstate c) 1)
        (λ q. not-both (ap (λ (n : ℕ). eqb n 1) (pick_true refl (pick (ltb (c % 3) (level_in v)) 1 0) (v.cstate c) ∙ pick_true (within c l q) 1 0)) e)
        (λ _. refl))
        (λ _ e. ap (λ (n : ℕ). eqb n 1) (sym (pick-false refl (pick (ltb (c % 3) (level_in v)) 1 0) (v.cstate c))) ∙ e)

    pub grown_alike : Alike (grown v m) (grown w m)
    unfolding grown upd
    grown_alike = record {
      front = units_front (suc m);
      whole = units_whole (suc m);
      sized = units_sized (suc m);
      size = a.size;
      dstate = λ u l. ap (pick (eqb u m) 1) (a.dstate u l);
      cstate = grown_state_lem;
      slot = dealt_like;
      check = grown_check;
      idle = λ c r l q e.
          pick-false (and_false_second (touched m (c / 3)) e) (anew_grown v c r) (v.check c r)
          ∙ a.idle c r l q (grown_idle c l e)
          ∙ sym (pick-false (and_false_second (touched m (c / 3)) (ap (λ (n : ℕ). eqb n 1) (sym (grown_state_lem c l)) ∙ e)) (anew_grown w c r) (w.check c r));
      rest = a.rest;
    }

  -- ---- shrink

  merged_like : (u r : ℕ) → u < 16 → r < v.size → LikeSlot (merged v m u r) (merged w m u r)
  unfolding merged
  merged_like u r l q =
      pick_both LikeSlot (eqb u m) (zeros slot_bytes) (zeros slot_bytes) _ _ (λ _. no_slot)
      (λ _. pick_both LikeSlot (eqb u (split_pointer m)) _ _ (v.slot u r) (w.slot u r)
      (λ _. pairs_at (pairs_append (records_alike (split_pointer m) hn) (records_alike m hm)) r)
      (λ _. a.slot u r l q))

  shrunk_state_lem : (c : ℕ) → c < 12 → shrunk_state v m c ≡ shrunk_state w m c
  unfolding shrunk_state
  shrunk_state_lem c l = rw (a.cstate c l)

  -- a group that unit m begins is touched
  not_begun : (g : ℕ) → touched m g ≡ false → begins m g ≡ false
  unfolding begins
  not_begun g e = ne_eqb (4 * g) m (λ d. not-both (is_touched m g (inl (omega arith))) e)

  shrunk_idle : (c : ℕ) → touched m (c / 3) ≡ false → eqb (shrunk_state v m c) 1 ≡ false → eqb (v.cstate c) 1 ≡ false
  unfolding shrunk_state
  shrunk_idle c t e = ap (λ (n : ℕ). eqb n 1) (sym (pick-false (not_begun (c / 3) t) 0 (v.cstate c))) ∙ e

  pub shrunk_alike : Alike (shrunk v m) (shrunk w m)
  unfolding shrunk upd
  shrunk_alike = record {
    front = units_front m;
    whole = units_whole m;
    sized = units_sized m;
    size = a.size;
    dstate = λ u l. ap (pick (eqb u m) 0) (a.dstate u l);
    cstate = shrunk_state_lem;
    slot = merged_like;
    check = λ c r l q. rw (← (shrunk_state_lem c l))
        (pick_both LikeCheck (touched m (c / 3)) _ _ (v.check c r) (w.check c r)
        (λ _. pick_both LikeCheck (eqb (shrunk_state v m c) 1) (made v c r) (made w c r) (zeros check_bytes) (zeros check_bytes)
        (λ _. anew_like (c % 3) _ _ (λ p i. merged_like (4 * (c / 3) + p) r (omega arith) q))
        (λ _. no_check))
        (λ _. a.check c r l q));
    idle = λ c r l q e. rw (← (shrunk_state_lem c l))
        (pick-ext (touched m (c / 3)) _ (v.check c r) _ (w.check c r)
        (λ _. pick-false e (made v c r) (zeros check_bytes) ∙ sym (pick-false e (made w c r) (zeros check_bytes)))
        (λ t. a.idle c r l q (shrunk_idle c t e)));
    rest = a.rest;
  }
    where
      made : Store → ℕ → ℕ → List ℕ
      made s c r = check_record (c % 3) (λ p. merged s m (4 * (c / 3) + p) r)
