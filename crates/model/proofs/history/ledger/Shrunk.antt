-- The ledger after a shrink: it is valid where it was before.
use Prim.Native.Nat.{ℕ, suc, ◌+◌, ◌*◌, ◌-◌, ◌/◌, ◌≤◌, ◌<◌}
use mathlib.Core.Path.{◌≡◌, refl, sym, ap, ◌∙◌, subst}
use mathlib.Core.Logic.{◌≢◌, inl}
use mathlib.Core.List.{List, [], ◌++◌}
use mathlib.Core.Bool.{Bool, false}
use native.Mathlib.Omega.{arith}
use native.Mathlib.Nat.{not-suc-le-zero}
use lib.Dec.{eqb, ltb}
use lib.ListN.{length, get_or, length-append, get_or-append}
use borrow.Author.Tests.{eqb-true, eqb-false, ltb-true, ltb-false}
use Rattle.buffer.specs.Choice.{pick}
use Rattle.buffer.specs.ChoiceLaws.{by-test, by-pick}
use Rattle.buffer.specs.TestLaws.{ltb_suc}
use Rattle.model.specs.Units.{split_pointer, unit_of}
use Rattle.model.specs.UnitLaws.{split_below}
use Rattle.model.specs.history.Ledger.{Rec, empty, Ledger, record_at, placed, outs_of, shrunk_ledger}
use Rattle.model.proofs.history.ledger.Valid.{Good, empty_good, Valid}
use Rattle.model.proofs.history.ledger.States.{placed_unit, place_kept}
use Rattle.model.proofs.history.ledger.Dealt.{joint}
use Rattle.model.proofs.history.ledger.Split.{new_key, old_key}
use Rattle.model.proofs.history.ledger.Touched.{is_touched, quiet_data, quiet_check}

-- the records of the last unit behind those of the unit that it was split from
abbrev pub both_lists : Ledger → ℕ → List Rec
both_lists l m = l.records (split_pointer m) ++ l.records m

-- the last unit is left with no records, the one that it was split from has both lists, and any other is as it was
pub by-merged {ℓ} : (l : Ledger) (m : ℕ) (P : List Rec → Type ℓ) (u : ℕ) → (u ≡ m → P []) → ((u ≡ m → ⊥) → u ≡ split_pointer m → P (both_lists l m))
    → ((u ≡ m → ⊥) → (u ≡ split_pointer m → ⊥) → P (l.records u)) → P ((shrunk_ledger l m).records u)
unfolding shrunk_ledger
by-merged l m P u gone both kept =
    by-pick P (eqb u m) [] (pick (eqb u (split_pointer m)) (both_lists l m) (l.records u))
    (λ e. gone (eqb-true u m e))
    (λ e. by-pick P (eqb u (split_pointer m)) (both_lists l m) (l.records u)
    (λ f. both (eqb-false u m e) (eqb-true u (split_pointer m) f))
    (λ f. kept (eqb-false u m e) (eqb-false u (split_pointer m) f)))

module _ (l : Ledger) (h : Valid l) (m : ℕ) (is : l.units ≡ suc m) (pos : 1 ≤ m) where
  top : m ≤ 15
  top = omega (arith, h.few)

  pub before : split_pointer m < m
  before = split_below m pos

  -- ---- lists

  own_unit : (u r : ℕ) → r < length (l.records u) → unit_of (suc m) (get_or (l.records u) r empty).key ≡ u
  unfolding record_at
  own_unit u r a = ap (λ (k : ℕ). unit_of k (get_or (l.records u) r empty).key) (sym is) ∙ h.own u r a

  own_shrunk : (u r : ℕ) → r < length ((shrunk_ledger l m).records u) → unit_of m (get_or ((shrunk_ledger l m).records u) r empty).key ≡ u
  own_shrunk u r =
      by-merged l m (λ (xs : List Rec). r < length xs → unit_of m (get_or xs r empty).key ≡ u) u
      (λ e a. absurd (not-suc-le-zero a))
      (λ _ e a. joint (λ (x : Rec). unit_of m x.key ≡ u) empty (l.records (split_pointer m)) (l.records m) r
      (λ b. kept (split_pointer m) r b (omega (arith, before)) ∙ sym e)
      (λ i q. new_key m (get_or (l.records m) i empty).key pos top (own_unit m i (omega (arith, length-append (l.records (split_pointer m)) (l.records m))))
      ∙ sym e))
      (λ d _ a. kept u r a d)
    where
      kept : (u r : ℕ) → r < length (l.records u) → (u ≡ m → ⊥) → unit_of m (get_or (l.records u) r empty).key ≡ u
      kept u r a d = old_key m (get_or (l.records u) r empty).key pos top (λ f. d (sym (own_unit u r a) ∙ f)) ∙ own_unit u r a

  keyed_shrunk : (u r : ℕ) → r < length ((shrunk_ledger l m).records u) → (get_or ((shrunk_ledger l m).records u) r empty).key ≢ 0
  unfolding record_at
  keyed_shrunk u r =
      by-merged l m (λ (xs : List Rec). r < length xs → (get_or xs r empty).key ≢ 0) u
      (λ e a. absurd (not-suc-le-zero a))
      (λ _ e a. joint (λ (x : Rec). x.key ≢ 0) empty (l.records (split_pointer m)) (l.records m) r
      (h.keyed (split_pointer m) r)
      (λ i q. h.keyed m i (omega (arith, length-append (l.records (split_pointer m)) (l.records m)))))
      (λ _ _. h.keyed u r)

  -- two keys of the same list differ, and keys of two lists have different units
  differ_both : (r q : ℕ) → r < q → q < length (both_lists l m) → (get_or (both_lists l m) r empty).key ≢ (get_or (both_lists l m) q empty).key
  unfolding record_at
  differ_both r q a b =
      joint (λ (y : Rec). (get_or (both_lists l m) r empty).key ≢ y.key) empty (l.records (split_pointer m)) (l.records m) q
      (λ c. subst (λ (x : Rec). x.key ≢ (get_or (l.records (split_pointer m)) q empty).key)
      (sym (get_or-append (l.records (split_pointer m)) (l.records m) empty r (omega arith))) (h.differ (split_pointer m) r q a c))
      (λ i c.
      let d : i < length (l.records m) = omega (arith, length-append (l.records (split_pointer m)) (l.records m)) in
      joint (λ (x : Rec). x.key ≢ (get_or (l.records m) i empty).key) empty (l.records (split_pointer m)) (l.records m) r
      (λ e f. apart (sym (own_unit (split_pointer m) r e) ∙ ap (unit_of (suc m)) f ∙ own_unit m i d))
      (λ j e. h.differ m j i (omega arith) d))
    where
      apart : split_pointer m ≡ m → ⊥
      apart e = omega (arith, before)

  differ_shrunk : (u r q : ℕ) → r < q → q < length ((shrunk_ledger l m).records u)
      → (get_or ((shrunk_ledger l m).records u) r empty).key ≢ (get_or ((shrunk_ledger l m).records u) q empty).key
  unfolding record_at
  differ_shrunk u r q a =
      by-merged l m (λ (xs : List Rec). q < length xs → (get_or xs r empty).key ≢ (get_or xs q empty).key) u
      (λ e b. absurd (not-suc-le-zero b)) (λ _ e. differ_both r q a) (λ _ _. h.differ u r q a)

  good_shrunk : (u r : ℕ) → Good (get_or ((shrunk_ledger l m).records u) r empty)
  unfolding record_at
  good_shrunk u r =
      by-merged l m (λ (xs : List Rec). Good (get_or xs r empty)) u
      (λ e. empty_good)
      (λ _ e. joint Good empty (l.records (split_pointer m)) (l.records m) r (λ a. h.good (split_pointer m) r) (λ i q. h.good m i))
      (λ _ _. h.good u r)

  none_shrunk : (u : ℕ) → m ≤ u → (shrunk_ledger l m).records u ≡ []
  none_shrunk u a = by-merged l m (λ (xs : List Rec). xs ≡ []) u (λ e. refl) (λ _ e. absurd (omega (arith, before))) (λ d _. h.none u (omega arith))

  -- ---- no unit out of place is marked out

  module _ (new : ltb 0 (outs_of l (m / 4)) ≡ false) (old : ltb 0 (outs_of l (split_pointer m / 4)) ≡ false) where
    calm_data : (w : ℕ) → w < 16 → ltb w m ≡ false → l.out w ≡ false
    calm_data w a e =
        by-test (λ (t : Bool). l.out w ≡ false) (eqb w m)
        (λ d. quiet_data l h.calm m new old w (is_touched m (w / 4) (inl (ap (λ (k : ℕ). k / 4) (eqb-true w m d)))))
        (λ d. h.calm w (placed_unit l w a ∙ ap (ltb w) is ∙ sym (ltb_suc w m (eqb-false w m d)) ∙ e))

    calm_check : (c : ℕ) → placed (shrunk_ledger l m) (16 + c) ≡ false → l.out (16 + c) ≡ false
    unfolding shrunk_ledger
    calm_check c e =
        by-test (λ (t : Bool). l.out (16 + c) ≡ false) (eqb (4 * (c / 3)) m)
        (λ d. let f : 4 * (c / 3) ≡ m = eqb-true (4 * (c / 3)) m d in quiet_check l h.calm m new old c (is_touched m (c / 3) (inl (omega arith))))
        (λ d. h.calm (16 + c) (sym (place_kept (shrunk_ledger l m) l m refl is refl c (eqb-false (4 * (c / 3)) m d)) ∙ e))

    calm_shrunk : (w : ℕ) → placed (shrunk_ledger l m) w ≡ false → l.out w ≡ false
    calm_shrunk w e =
        by-test (λ (t : Bool). l.out w ≡ false) (ltb w 16)
        (λ a. calm_data w (ltb-true w 16 a) (unfold shrunk_ledger in sym (placed_unit (shrunk_ledger l m) w (ltb-true w 16 a)) ∙ e))
        (λ a. let q : 16 + (w - 16) ≡ w = omega (arith, ltb-false w 16 a) in ap l.out (sym q) ∙ calm_check (w - 16) (ap (placed (shrunk_ledger l m)) q ∙ e))

    pub valid_shrunk : length (l.records (split_pointer m)) + length (l.records m) ≤ l.size → Valid (shrunk_ledger l m)
    unfolding shrunk_ledger record_at
    valid_shrunk fit = record {
      some = pos;
      few = omega (arith, top);
      least = h.least;
      most = h.most;
      levelled = h.levelled;
      topped = h.topped;
      fits = λ u. by-merged l m (λ (xs : List Rec). length xs ≤ l.size) u
          (λ e. omega arith) (λ _ e. omega (arith, length-append (l.records (split_pointer m)) (l.records m))) (λ _ _. h.fits u);
      good = good_shrunk;
      keyed = keyed_shrunk;
      own = own_shrunk;
      differ = differ_shrunk;
      none = none_shrunk;
      calm = calm_shrunk;
    }
