-- The plan on a picture is the ledger's: each record goes where the grown ledger has its key.
use Prim.Native.Nat.{ℕ, suc, ◌/◌, ◌≤◌, ◌<◌}
use mathlib.Core.Path.{◌≡◌, refl, sym, ap, ◌∙◌, subst}
use mathlib.Core.Logic.{◌⊎◌, inl, inr, ⊎_elim}
use mathlib.Core.List.{List}
use mathlib.Core.Bool.{Bool, false, not}
use native.Mathlib.Omega.{arith}
use lib.Dec.{eqb, ltb}
use lib.ListN.{length, get_or}
use borrow.Author.Tests.{eq-eqb, not-true}
use Rattle.buffer.specs.Choice.{pick}
use Rattle.buffer.specs.ChoiceLaws.{pick_true, pick-false}
use Rattle.buffer.specs.Range.{count}
use Rattle.buffer.specs.RangeLaws.{count_ext, entries_ext}
use Rattle.moves.specs.Moves.{move}
use Rattle.model.specs.Units.{split_pointer, unit_of, moves}
use Rattle.model.specs.UnitLaws.{split_below}
use Rattle.model.specs.Layout.{Store, view, key_of}
use Rattle.model.specs.history.Ledger.{Rec, Ledger, empty, home, record_at, rank_of, state, outs_of, grown_ledger}
use Rattle.model.specs.history.Picture.{picture}
use Rattle.model.specs.history.Plan.{leaves, move_in, plan_in, move_of, plan_of}
use Rattle.model.proofs.history.ledger.Valid.{Valid}
use Rattle.model.proofs.history.ledger.Dealt.{filter_place, filter_differ}
use Rattle.model.proofs.history.ledger.Seek.{rank_at}
use Rattle.model.proofs.history.ledger.Split.{split_key, not_moves}
use Rattle.model.proofs.history.ledger.Grown.{goes_to, dealt_to, by-dealt}
use Rattle.model.proofs.history.picture.Records.{key_record_lem}
use Rattle.model.proofs.history.picture.Seen.{units_seen, slot_seen, fill_seen, serving}

module _ (l : Ledger) (rest : List ℕ) (h : Valid l) (top : l.units ≤ 15) (old : ltb 0 (outs_of l (split_pointer l.units / 4)) ≡ false) where
  abbrev m : ℕ
  m = l.units

  abbrev n : ℕ
  n = split_pointer l.units

  abbrev rs : List Rec
  rs = l.records (split_pointer l.units)

  abbrev v : Store
  v = view (picture l rest)

  before : n < m
  before = split_below m h.some

  here : state l n ≡ 1
  here = serving l rest h n before old

  -- a key of the split unit, by the number of units then
  own : (r : ℕ) → r < length rs → unit_of m (get_or rs r empty).key ≡ n
  unfolding record_at
  own r a = h.own n r a

  home_grown : (k : ℕ) → home (grown_ledger l) k ≡ unit_of (suc m) k
  unfolding home grown_ledger
  home_grown k = refl

  -- the records that leave the split unit, and those that stay
  leaving : (r : ℕ) → r < length rs → leaves v r ≡ goes_to l m (get_or rs r empty)
  unfolding leaves moves record_at
  leaving r a =
      rw (units_seen l rest h)
      (ap (λ (x : List ℕ). eqb (unit_of (suc m) (key_of x)) m) (slot_seen l rest h n (omega (arith, before, h.few)) here r (omega (arith, h.fits n)))
      ∙ ap (λ (k : ℕ). eqb (unit_of (suc m) k) m) (key_record_lem (get_or rs r empty) (h.good n r).key))

  staying : (r : ℕ) → r < length rs → not (leaves v r) ≡ goes_to l n (get_or rs r empty)
  staying r a = ap not (leaving r a) ∙ (unfold moves in not_moves m (get_or rs r empty).key h.some top (own r a))

  -- a record's new rank: those before it that go to the same unit u stand before it there
  behind : (u r : ℕ) → (u ≡ m) ⊎ (u ≡ n) → r < length rs → unit_of (suc m) (get_or rs r empty).key ≡ u → (t : ℕ → Bool)
      → ((q : ℕ) → q < length rs → t q ≡ goes_to l u (get_or rs q empty)) → count r t ≡ rank_of ((grown_ledger l).records u) (get_or rs r empty).key
  unfolding record_at
  behind u r one a e t f =
      count_ext r t (λ q. goes_to l u (get_or rs q empty)) (λ q b. f q (omega arith))
      ∙ sym (by-dealt l (λ (xs : List Rec). rank_of xs (get_or rs r empty).key ≡ count r (λ q. goes_to l u (get_or rs q empty))) u
      (λ _.
      let at = filter_place (goes_to l u) empty rs r a (eq-eqb (unit_of (suc m) (get_or rs r empty).key) u e) in
      ap (λ (x : Rec). rank_of (dealt_to l u) x.key) (sym at.1)
      ∙ rank_at (dealt_to l u) _ (filter_differ (λ (x : Rec). x.key) empty (goes_to l u) rs (h.differ n)) at.0)
      (λ b c. absurd (⊎_elim b c one)))

  -- one record
  move_seen : (r : ℕ) → r < length rs → move_in v r ≡ move_of l r
  unfolding move_in move_of record_at
  move_seen r a = rw (units_seen l rest h, home_grown (get_or rs r empty).key) (⊎_elim stays goes (split_key m k h.some top (own r a)))
    where
      k : ℕ
      k = (get_or rs r empty).key

      -- it goes to unit u
      At : ℕ → Type 0
      At u =
          pick (leaves v r) (move n (suc r) m (suc (count r (leaves v)))) (move n (suc r) n (suc (count r (λ q. not (leaves v q)))))
          ≡ move n (suc r) u (suc (rank_of ((grown_ledger l).records u) k))

      stays : unit_of (suc m) k ≡ n → At (unit_of (suc m) k)
      stays e = subst At (sym e) (
          pick-false (not-true (leaves v r) (staying r a ∙ eq-eqb (unit_of (suc m) k) n e)) _ _
          ∙ ap (λ (i : ℕ). move n (suc r) n (suc i)) (behind n r (inr refl) a e (λ q. not (leaves v q)) staying))

      goes : unit_of (suc m) k ≡ m → At (unit_of (suc m) k)
      goes e = subst At (sym e) (
          pick_true (leaving r a ∙ eq-eqb (unit_of (suc m) k) m e) _ _
          ∙ ap (λ (i : ℕ). move n (suc r) m (suc i)) (behind m r (inl refl) a e (leaves v) leaving))

  pub plan_seen : plan_in (view (picture l rest)) ≡ plan_of l
  unfolding plan_in plan_of
  plan_seen =
      rw (units_seen l rest h, fill_seen l rest h n (omega (arith, before, h.few)) here) (entries_ext (length rs) (move_in v) (move_of l) move_seen)
