-- A unit in service has the same bytes on the picture of a ledger and on that of the same ledger with no unit out.
use Prim.Native.Nat.{ℕ, ◌+◌, ◌-◌, ◌≤◌, ◌<◌}
use mathlib.Core.Path.{◌≡◌, refl, sym, ap, ◌∙◌}
use mathlib.Core.List.{List}
use native.Mathlib.Omega.{arith}
use lib.Dec.{ltb}
use borrow.Author.Tests.{ltb-true, ltb-false}
use Rattle.buffer.specs.ChoiceLaws.{pick-ext}
use Rattle.buffer.specs.Table.{tab}
use Rattle.buffer.specs.TableLaws.{tab_ext}
use Rattle.model.specs.Layout.{Store, view}
use Rattle.model.specs.LayoutLaws.{Same}
use Rattle.model.specs.history.Ledger.{Ledger, record_at, state}
use Rattle.model.specs.history.Picture.{picture_slot, picture_check, image, picture}
use Rattle.model.specs.history.Runs.{unit_in}
use Rattle.model.proofs.history.ledger.Valid.{Valid, marked_valid}
use Rattle.model.proofs.history.picture.Picture.{seen}
use Rattle.model.proofs.history.alone.Lossless.{lossless, lossless_state}

-- ---- the ledger with no unit out

lossless_slot : (l : Ledger) (u r : ℕ) → state l u ≡ 1 → picture_slot l u r ≡ picture_slot (lossless l) u r
unfolding picture_slot record_at lossless
lossless_slot l u r e = rw (e, lossless_state l u e)

lossless_check : (l : Ledger) (c r : ℕ) → state l (16 + c) ≡ 1 → picture_check l c r ≡ picture_check (lossless l) c r
unfolding picture_check record_at lossless
lossless_check l c r e = rw (e, lossless_state l (16 + c) e)

pub lossless_valid : (l : Ledger) → Valid l → Valid (lossless l)
unfolding lossless
lossless_valid l h = marked_valid l _ h (λ w e. refl)

module _ (l : Ledger) (rest : List ℕ) (h : Valid l) where
  abbrev v : Store
  v = view (picture l rest)

  abbrev w : Store
  w = view (picture (lossless l) rest)

  s : Same (view (picture l rest)) (image l rest)
  s = seen l rest h.good

  t : Same (view (picture (lossless l) rest)) (image (lossless l) rest)
  t = seen (lossless l) rest (lossless_valid l h).good

  same_ranks : (f g : ℕ → List ℕ) → ((r : ℕ) → r < l.size → f r ≡ g r) → tab v.size f ≡ tab w.size g
  unfolding image lossless
  same_ranks f g e = ap (λ (n : ℕ). tab n f) s.size ∙ tab_ext l.size f g e ∙ ap (λ (n : ℕ). tab n g) (sym t.size)

  pub same_unit : (i : ℕ) → i < 28 → state l i ≡ 1 → unit_in (view (picture l rest)) i ≡ unit_in (view (picture (lossless l) rest)) i
  unfolding unit_in image lossless
  same_unit i a e =
      pick-ext (ltb i 16) (tab v.size (v.slot i)) (tab v.size (v.check (i - 16))) (tab w.size (w.slot i)) (tab w.size (w.check (i - 16)))
      (λ q.
      let b : i < 16 = ltb-true i 16 q in
      same_ranks (v.slot i) (w.slot i) (λ r m. s.slot i r b m ∙ lossless_slot l i r e ∙ sym (t.slot i r b m)))
      (λ q.
      let b : 16 ≤ i = ltb-false i 16 q in
      let c : i - 16 < 12 = omega arith in
      let d : 16 + (i - 16) ≡ i = omega arith in
      same_ranks (v.check (i - 16)) (w.check (i - 16)) (λ r m.
      s.check (i - 16) r c m ∙ lossless_check l (i - 16) r (ap (state l) d ∙ e) ∙ sym (t.check (i - 16) r c m)))
