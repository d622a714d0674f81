-- The state of a unit in a ledger, and what it says: in place, in service, out. Of a unit that is not out nothing is lost.
use Prim.Native.Nat.{ℕ, suc, ◌+◌, ◌*◌, ◌-◌, ◌/◌, ◌%◌, ◌≤◌, ◌<◌}
use mathlib.Core.Path.{◌≡◌, refl, sym, ap, ◌∙◌}
use mathlib.Core.Bool.{Bool, true, false, ◌&&◌, not}
use native.Mathlib.Omega.{arith}
use lib.Dec.{eqb, ltb}
use borrow.Author.Tests.{ltb-true, ltb-false, lt-ltb, le-ltb}
use Rattle.buffer.specs.Choice.{pick}
use Rattle.buffer.specs.ChoiceLaws.{by-test}
use Rattle.buffer.specs.Range.{count}
use Rattle.buffer.specs.RangeLaws.{count_zero}
use Rattle.buffer.specs.TestLaws.{not-both, and-true, and_first, and_second, and_false_first, ltb_suc}
use Rattle.model.specs.Sound.{state_fits}
use Rattle.model.proofs.SoundSays.{Stateful}
use Rattle.model.specs.history.Ledger.{Ledger, home, rank_of, placed, is_out, state, outs_of, missing_of, keys_lost_of, key_beyond_of}

-- with more units and a higher level no unit loses its place
pub fewer_placed : (l next : Ledger) → l.units ≤ next.units → l.level ≤ next.level → (w : ℕ) → placed next w ≡ false → placed l w ≡ false
unfolding placed
fewer_placed l next m k w =
    by-test
    (λ (t : Bool). pick t (ltb w next.units) (ltb (4 * ((w - 16) / 3)) next.units && ltb ((w - 16) % 3) next.level) ≡ false
    → pick t (ltb w l.units) (ltb (4 * ((w - 16) / 3)) l.units && ltb ((w - 16) % 3) l.level) ≡ false)
    (ltb w 16)
    (λ _. unfold pick in fewer (ltb w l.units) (ltb w next.units) (λ e. higher w l.units next.units m e))
    (λ _. unfold pick in fewer _ _ (λ e.
    and-true (higher _ l.units next.units m (and_first _ (ltb ((w - 16) % 3) l.level) e))
    (higher _ l.level next.level k (and_second (ltb (4 * ((w - 16) / 3)) l.units) _ e))))
  where
    fewer : (s t : Bool) → (s ≡ true → t ≡ true) → t ≡ false → s ≡ false
    fewer true t h e = not-both (h refl) e
    fewer false t h e = refl

    higher : (a b c : ℕ) → b ≤ c → ltb a b ≡ true → ltb a c ≡ true
    higher a b c i e = lt-ltb a c (omega (arith, ltb-true a b e))

module _ (l : Ledger) where
  -- a unit is out, in service, or not in place: whether it is in place, whether it is marked out, and its state
  pub by_state {ℓ} : (P : Bool → Bool → ℕ → Type ℓ) (w : ℕ) → P true true 2 → P true false 1 → ((o : Bool) → P false o 0)
      → P (placed l w) (l.out w) (state l w)
  unfolding state pick
  by_state P w lost serves absent = go (placed l w) (l.out w)
    where
      go : (p o : Bool) → P p o (pick p (pick o 2 1) 0)
      go true true = lost
      go true false = serves
      go false o = absent o

  pub state_out : (w : ℕ) → eqb (state l w) 2 ≡ is_out l w
  unfolding is_out
  state_out w = by_state (λ p o n. eqb n 2 ≡ (p && o)) w refl refl (λ o. refl)

  pub state_in_lem : (w : ℕ) → placed l w ≡ true → is_out l w ≡ false → state l w ≡ 1
  unfolding is_out
  state_in_lem w = by_state (λ p o n. p ≡ true → (p && o) ≡ false → n ≡ 1) w (λ e f. not-both refl f) (λ e f. refl) (λ o e f. not-both e refl)

  -- a unit in service is in place
  pub in_place : (w : ℕ) → eqb (state l w) 1 ≡ true → placed l w ≡ true
  in_place w = by_state (λ p o n. eqb n 1 ≡ true → p ≡ true) w (λ _. refl) (λ _. refl) (λ o e. not-both e refl)

  pub state_none : (w : ℕ) → eqb (state l w) 0 ≡ not (placed l w)
  state_none w = by_state (λ p o n. eqb n 0 ≡ not p) w refl refl (λ o. refl)

  -- it is one that a sound store may have
  pub state_fits_lem : (w : ℕ) → Stateful (placed l w) (state l w)
  unfolding state_fits pick
  state_fits_lem w = by_state (λ p o n. Stateful p n) w refl refl (λ o. refl)

  -- a data unit, and a check unit
  pub placed_unit : (u : ℕ) → u < 16 → placed l u ≡ ltb u l.units
  unfolding placed pick
  placed_unit u a = rw (lt-ltb u 16 a)

  pub placed_check : (c : ℕ) → placed l (16 + c) ≡ (ltb (4 * (c / 3)) l.units && ltb (c % 3) l.level)
  unfolding placed pick
  placed_check c =
      let e : 16 + c - 16 ≡ c = omega arith in
      rw (le-ltb (16 + c) 16 (omega arith), e)

  pub data_state : (u : ℕ) → u < 16 → state l u ≡ pick (ltb u l.units) (pick (l.out u) 2 1) 0
  unfolding state
  data_state u a = rw (placed_unit u a)

  pub check_state : (c : ℕ) → state l (16 + c) ≡ pick (ltb (4 * (c / 3)) l.units && ltb (c % 3) l.level) (pick (l.out (16 + c)) 2 1) 0
  unfolding state
  check_state c = rw (placed_check c)

  -- a group with no unit out: no data unit, and no check unit
  none_data : (g : ℕ) → ltb 0 (outs_of l g) ≡ false → count 4 (λ p. is_out l (4 * g + p)) ≡ 0
  unfolding outs_of
  none_data g e = omega (arith, ltb-false 0 (outs_of l g) e)

  none_check : (g : ℕ) → ltb 0 (outs_of l g) ≡ false → count 3 (λ j. is_out l (16 + (3 * g + j))) ≡ 0
  unfolding outs_of
  none_check g e = omega (arith, ltb-false 0 (outs_of l g) e)

  pub data_kept : (u : ℕ) → ltb 0 (outs_of l (u / 4)) ≡ false → is_out l u ≡ false
  data_kept u e =
      let d : u ≡ 4 * (u / 4) + u % 4 = omega arith in
      ap (is_out l) d ∙ count_zero 4 (λ p. is_out l (4 * (u / 4) + p)) (none_data (u / 4) e) (u % 4) (omega arith)

  pub check_kept : (c : ℕ) → ltb 0 (outs_of l (c / 3)) ≡ false → is_out l (16 + c) ≡ false
  check_kept c e =
      let d : c ≡ 3 * (c / 3) + c % 3 = omega arith in
      ap (λ (k : ℕ). is_out l (16 + k)) d ∙ count_zero 3 (λ j. is_out l (16 + (3 * (c / 3) + j))) (none_check (c / 3) e) (c % 3) (omega arith)

  -- a unit that is not out: no record is missing, its keys are not lost, and no key of it is beyond recovery
  pub not_missing : (u r : ℕ) → is_out l u ≡ false → missing_of l u r ≡ false
  unfolding missing_of
  not_missing u r e = and_false_first e _

  pub keys_not_lost : (u : ℕ) → is_out l u ≡ false → keys_lost_of l u ≡ false
  unfolding keys_lost_of
  keys_not_lost u e = and_false_first e _

  pub key_not_beyond : (k : ℕ) → is_out l (home l k) ≡ false → key_beyond_of l k ≡ false
  unfolding key_beyond_of
  key_not_beyond k e = rw (keys_not_lost (home l k) e, not_missing (home l k) (rank_of (l.records (home l k)) k) e)

-- two ledgers of one level, the second with unit m more: a check unit has its place in both, but for the group that unit m begins
pub place_kept : (l next : Ledger) (m : ℕ) → l.units ≡ m → next.units ≡ suc m → l.level ≡ next.level → (c : ℕ) → (4 * (c / 3) ≡ m → ⊥)
    → placed l (16 + c) ≡ placed next (16 + c)
place_kept l next m e f k c d = placed_check l c ∙ rw (e, k, ltb_suc (4 * (c / 3)) m d, ← f) (sym (placed_check next c))
