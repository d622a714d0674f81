-- The loop of `deal_out`: the first t records of unit n are dealt out to units n and m, and what both units hold behind is as it was.
use Prim.Native.Nat.{ℕ, suc, ◌+◌, ◌≤◌, ◌<◌}
use mathlib.Core.Path.{◌≡◌, refl, sym, ap, ◌∙◌}
use mathlib.Core.List.{List}
use mathlib.Core.Bool.{Bool, true, false, not, ◌&&◌}
use native.Mathlib.Omega.{arith}
use native.Mathlib.Numerals.{add-one}
use lib.Dec.{eqb, leb}
use lib.ListN.{length, get_or, get_or-eq_default}
use borrow.Author.Tests.{eq-eqb, ne_eqb, eqb-true}
use Rattle.buffer.specs.Choice.{pick}
use Rattle.buffer.specs.ChoiceLaws.{by-pick, pick_true, pick-false}
use Rattle.buffer.specs.Bytes.{byte, zeros, splice}
use Rattle.group.specs.Widths.{slot_bytes}
use Rattle.model.specs.Units.{unit_of, moves}
use Rattle.model.specs.Layout.{Store, bytes, view, slot_at, key_of}
use Rattle.model.specs.Places.{SlotIn, data_units}
use Rattle.model.specs.Parts.{with_slots}
use Rattle.model.specs.LayoutLaws.{Shaped, bytes_ext, view_bytes, view_shaped}
use Rattle.model.specs.RunLaws.{upd2}
use Rattle.model.specs.StoreLaws.{size_of, size_at, chunk_put, chunks_again, chunks_ext, chunks_same, chunks_shaped, chunks_there}
use Rattle.model.specs.Reads.{fill_in}
use Rattle.model.specs.Changes.{filter_by, rows, records_in, dealt}
use Rattle.lookup.specs.Sized.{Sized}
use Rattle.splitting.specs.Steps.{Split, cleared}
use Rattle.splitting.proofs.Lists.{get_or_snoc, length_snoc, get_d_default, kept_none, kept_yes, kept_no, kept_holds}
use Rattle.encoding.specs.Holding.{Holds, holds_step, holds_five, holds_length}
use Rattle.splitting.proofs.StepLaws.{slots_sized, cleared_change}
use Rattle.splitting.proofs.Added.{fill_most}

-- of the first t records of unit n, those that move to unit m and those that stay
abbrev gone : Store → ℕ → ℕ → ℕ → List (List ℕ)
gone v n m t = filter_by (λ x. moves m (key_of x)) (rows t (v.slot n))

abbrev kept : Store → ℕ → ℕ → ℕ → List (List ℕ)
kept v n m t = filter_by (λ x. not (moves m (key_of x))) (rows t (v.slot n))

-- the slots while the records are dealt out: behind the dealt ones each unit holds what it held
unfoldable pub dealing : Store → ℕ → ℕ → ℕ → ℕ → ℕ → List ℕ
dealing v n m t u r =
    pick (eqb u m) (get_or (gone v n m t) r (v.slot m r))
    (pick (eqb u n) (get_or (kept v n m t) r (v.slot n r))
    (v.slot u r))

module _ (v : Store) (n m : ℕ) (apart : n ≡ m → ⊥) where
  dealing_none : (u r : ℕ) → v.slot u r ≡ dealing v n m 0 u r
  unfolding dealing pick filter_by rows
  dealing_none u r = go (eqb u m) (eqb u n) refl refl
    where
      go : (a b : Bool) → eqb u m ≡ a → eqb u n ≡ b → v.slot u r ≡ pick a (v.slot m r) (pick b (v.slot n r) (v.slot u r))
      go true b e f = ap (λ k. v.slot k r) (eqb-true u m e)
      go false true e f = ap (λ k. v.slot k r) (eqb-true u n f)
      go false false e f = refl

  -- the record at the next rank is not written over yet
  dealing_next : (t : ℕ) → length (kept v n m t) ≤ t → dealing v n m t n t ≡ v.slot n t
  unfolding dealing
  dealing_next t h =
      pick-false (ne_eqb n m apart) _ _ ∙ pick_true (eq-eqb n n refl) _ _ ∙ get_or-eq_default (kept v n m t) (v.slot n t) {n = t} h

  dealing_goes : (t u r : ℕ) → moves m (key_of (v.slot n t)) ≡ true
      → upd2 (dealing v n m t) m (length (gone v n m t)) (v.slot n t) u r ≡ dealing v n m (suc t) u r
  unfolding dealing upd2 pick
  dealing_goes t u r e =
      let goes = kept_yes (λ x. moves m (key_of x)) t (v.slot n) e in
      let rest = kept_no (λ x. not (moves m (key_of x))) t (v.slot n) (ap not e) in
      rw (goes, rest, get_or_snoc (gone v n m t) (v.slot n t) (v.slot m r) r)
      (go (eqb u m) (eqb r (length (gone v n m t))) (v.slot n t) (get_or (gone v n m t) r (v.slot m r))
      (pick (eqb u n) (get_or (kept v n m t) r (v.slot n r)) (v.slot u r)))
    where
      go : (a b : Bool) (x y z : List ℕ) → pick (a && b) x (pick a y z) ≡ pick a (pick b x y) z
      go true b x y z = refl
      go false b x y z = refl

  dealing_stays : (t u r : ℕ) → moves m (key_of (v.slot n t)) ≡ false
      → upd2 (dealing v n m t) n (length (kept v n m t)) (v.slot n t) u r ≡ dealing v n m (suc t) u r
  unfolding dealing upd2 pick
  dealing_stays t u r e =
      let rest = kept_no (λ x. moves m (key_of x)) t (v.slot n) e in
      let stays = kept_yes (λ x. not (moves m (key_of x))) t (v.slot n) (ap not e) in
      rw (rest, stays, get_or_snoc (kept v n m t) (v.slot n t) (v.slot n r) r)
      (go (eqb u m) (eqb u n) (eqb r (length (kept v n m t))) (v.slot n t) (get_or (gone v n m t) r (v.slot m r))
      (get_or (kept v n m t) r (v.slot n r)) (v.slot u r) refl refl)
    where
      go : (a b c : Bool) (x y z w : List ℕ) → eqb u m ≡ a → eqb u n ≡ b → pick (b && c) x (pick a y (pick b z w)) ≡ pick a y (pick b (pick c x z) w)
      go true true c x y z w p q = absurd (apart (sym (eqb-true u n q) ∙ eqb-true u m p))
      go true false c x y z w p q = refl
      go false true c x y z w p q = refl
      go false false c x y z w p q = refl

  dealing_long : (t : ℕ) → Shaped v → n < 16 → m < 16 → t ≤ v.size → (u r : ℕ) → u < 16 → r < v.size → length (dealing v n m t u r) ≡ slot_bytes
  unfolding dealing
  dealing_long t h hn hm ht u r a b =
      let each : (p : List ℕ → Bool) (w : ℕ) → w < 16 → length (get_or (filter_by p (rows t (v.slot n))) r (v.slot w r)) ≡ slot_bytes =
      λ p w hw. kept_holds (λ x. length x ≡ slot_bytes) p t (v.slot n) (λ k l. h.slot n k hn (omega arith)) r (v.slot w r) (h.slot w r hw b) in
      by-pick (λ (x : List ℕ). length x ≡ slot_bytes) (eqb u m) _ _ (λ _. each (λ x. moves m (key_of x)) m hm) (λ _.
      by-pick (λ (x : List ℕ). length x ≡ slot_bytes) (eqb u n) _ _ (λ _. each (λ x. not (moves m (key_of x))) n hn) (λ _. h.slot u r a b))

  -- what is behind the dealt records is emptied, of unit n and then of unit m
  dealing_cleared : (t u r : ℕ)
      → pick (eqb u m && leb (length (gone v n m t)) r) (zeros slot_bytes)
      (pick (eqb u n && leb (length (kept v n m t)) r) (zeros slot_bytes) (dealing v n m t u r))
      ≡ pick (eqb u m) (get_or (gone v n m t) r (zeros slot_bytes)) (pick (eqb u n) (get_or (kept v n m t) r (zeros slot_bytes)) (v.slot u r))
  unfolding dealing pick
  dealing_cleared t u r = go (eqb u m) (eqb u n) refl refl
    where
      go : (a b : Bool) → eqb u m ≡ a → eqb u n ≡ b
          → pick (a && leb (length (gone v n m t)) r) (zeros slot_bytes) (pick (b && leb (length (kept v n m t)) r) (zeros slot_bytes)
          (pick a (get_or (gone v n m t) r (v.slot m r)) (pick b (get_or (kept v n m t) r (v.slot n r)) (v.slot u r))))
          ≡ pick a (get_or (gone v n m t) r (zeros slot_bytes)) (pick b (get_or (kept v n m t) r (zeros slot_bytes)) (v.slot u r))
      go true true p q = absurd (apart (sym (eqb-true u n q) ∙ eqb-true u m p))
      go true false p q = get_d_default (gone v n m t) (v.slot m r) (zeros slot_bytes) r
      go false true p q = get_d_default (kept v n m t) (v.slot n r) (zeros slot_bytes) r
      go false false p q = refl

-- ---- the loop: stay records stayed and left records left among the first t
pub record Dealing (s₀ : List ℕ) (n m count : ℕ) (s : List ℕ) (stay left t : ℕ) : Type 0 where
  pub within : t ≤ count
  pub most : count ≤ byte s₀ 5
  pub few : stay + left ≡ t
  pub stayed : stay ≡ length (kept (view s₀) n m t)
  pub went : left ≡ length (gone (view s₀) n m t)
  pub long : length s ≡ length s₀
  pub five : byte s 5 ≡ byte s₀ 5
  pub sized : Sized s
  pub holds : Holds s₀ s (with_slots (view s₀) (dealing (view s₀) n m t))

module _ (s₀ : List ℕ) (n m count : ℕ) (sp : Split s₀ n m) (ec : count ≡ fill_in (view s₀) n) where
  apart : n ≡ m → ⊥
  apart e = omega (arith, sp.apart)

  most : count ≤ byte s₀ 5
  most = omega (arith, fill_most (view s₀) n, size_of s₀)

  shaped : (t : ℕ) → t ≤ count → Shaped (with_slots (view s₀) (dealing (view s₀) n m t))
  shaped t h =
      chunks_shaped data_units (view s₀) _ (view_shaped s₀ sp.sized.long)
      (dealing_long (view s₀) n m apart t (view_shaped s₀ sp.sized.long) (omega (arith, sp.apart, sp.unit)) sp.unit (omega (arith, most, size_of s₀)))

  dealt_so_far : (s : List ℕ) (stay left t : ℕ) → t ≤ count → stay + left ≡ t → stay ≡ length (kept (view s₀) n m t) → left ≡ length (gone (view s₀) n m t)
      → s ≡ bytes (with_slots (view s₀) (dealing (view s₀) n m t)) → Dealing s₀ n m count s stay left t
  dealt_so_far s stay left t w f a b e =
      let h : Holds s₀ s (with_slots (view s₀) (dealing (view s₀) n m t)) =
      unfold with_slots in record { shaped = shaped t w; size = refl; rest = refl; state = e } in
      record {
        within = w;
        most = most;
        few = f;
        stayed = a;
        went = b;
        long = holds_length h sp.sized.long;
        five = holds_five h;
        sized = slots_sized _ sp.sized h;
        holds = h;
      }

  pub dealing_start : Dealing s₀ n m count s₀ 0 0 0
  dealing_start =
      dealt_so_far s₀ 0 0 0 (omega arith) refl (sym (ap length (kept_none (λ x. not (moves m (key_of x))) ((view s₀).slot n))))
      (sym (ap length (kept_none (λ x. moves m (key_of x)) ((view s₀).slot n))))
      (chunks_same data_units s₀ _ sp.sized.long (λ u r a b. dealing_none (view s₀) n m apart u r))

  -- the places that a record is moved from and to
  pub deal_places : {s : List ℕ} {stay left t : ℕ} → Dealing s₀ n m count s stay left t → t < count → (u q : ℕ) → u < 16 → q ≤ t → SlotIn s n t × SlotIn s u q
  deal_places d ht u q hu hq = (
    record { long = d.sized.long; unit = omega (arith, sp.apart, sp.unit); rank = omega (arith, most, d.five) },
    record { long = d.sized.long; unit = hu; rank = omega (arith, most, d.five) },
  )

  module _ {s : List ℕ} {stay left t key w : ℕ} (d : Dealing s₀ n m count s stay left t) (ht : t < count)
      (ek : key ≡ key_of ((view s).slot n t)) (ew : w ≡ unit_of (m + 1) key) where
    next : (view s).slot n t ≡ (view s₀).slot n t
    next =
        let h : Holds s₀ s (with_slots (view s₀) (dealing (view s₀) n m t)) = d.holds in
        let size : (with_slots (view s₀) (dealing (view s₀) n m t)).size ≡ byte s₀ 5 = h.size ∙ sym (size_of s₀) in
        ap (λ x. (view x).slot n t) h.state
        ∙ (view_bytes _ h.shaped).slot n t (omega (arith, sp.apart, sp.unit)) (omega (arith, most))
        ∙ ap (λ f. f n t) (chunks_there data_units (view s₀) (dealing (view s₀) n m t))
        ∙ dealing_next (view s₀) n m apart t (omega (arith, d.few, d.stayed))

    same_test : eqb w m ≡ moves m (key_of ((view s₀).slot n t))
    unfolding moves
    same_test = rw (ew, ek, next, add-one)

    put : {s' : List ℕ} (u q : ℕ) → u < 16 → q ≤ t → s' ≡ splice (slot_at (byte s 5) u q) slot_bytes ((view s).slot n t) s
        → s' ≡ bytes (with_slots (view s₀) (upd2 (dealing (view s₀) n m t) u q ((view s₀).slot n t)))
    put {s'} u q hu hq e =
        let h : Holds s₀ s (with_slots (view s₀) (dealing (view s₀) n m t)) = d.holds in
        chunk_put data_units _ h.shaped s h.state (byte s 5) (size_at _ h.shaped s h.state) s' ((view s₀).slot n t)
        (slot_at (byte s 5) u q) u q refl hu (omega (arith, most, d.five))
        (e ∙ ap (λ x. splice (slot_at (byte s 5) u q) slot_bytes x s) next)
        ∙ ap bytes (chunks_again data_units (view s₀) (dealing (view s₀) n m t) u q ((view s₀).slot n t))

    pub deal_goes : {s' : List ℕ} → eqb w m ≡ true → s' ≡ splice (slot_at (byte s 5) m left) slot_bytes ((view s).slot n t) s
        → Dealing s₀ n m count s' stay (left + 1) (t + 1)
    deal_goes {s'} test e =
        let go : moves m (key_of ((view s₀).slot n t)) ≡ true = sym same_test ∙ test in
        rw (add-one t)
        (dealt_so_far s' stay (left + 1) (suc t) ht (omega (arith, d.few))
        (d.stayed ∙ sym (ap length (kept_no (λ x. not (moves m (key_of x))) t ((view s₀).slot n) (ap not go))))
        (sym (ap length (kept_yes (λ x. moves m (key_of x)) t ((view s₀).slot n) go) ∙ length_snoc (gone (view s₀) n m t) ((view s₀).slot n t)
        ∙ omega (arith, d.went)))
        (put m left sp.unit (omega (arith, d.few)) e
        ∙ rw d.went (chunks_ext data_units (view s₀) _ _ (λ u r a b. dealing_goes (view s₀) n m apart t u r go))))

    pub deal_stays : {s' : List ℕ} → eqb w m ≡ false → s' ≡ splice (slot_at (byte s 5) n stay) slot_bytes ((view s).slot n t) s
        → Dealing s₀ n m count s' (stay + 1) left (t + 1)
    deal_stays {s'} test e =
        let stand : moves m (key_of ((view s₀).slot n t)) ≡ false = sym same_test ∙ test in
        rw (add-one t)
        (dealt_so_far s' (stay + 1) left (suc t) ht (omega (arith, d.few))
        (sym (ap length (kept_yes (λ x. not (moves m (key_of x))) t ((view s₀).slot n) (ap not stand)) ∙ length_snoc (kept (view s₀) n m t) ((view s₀).slot n t)
        ∙ omega (arith, d.stayed)))
        (d.went ∙ sym (ap length (kept_no (λ x. moves m (key_of x)) t ((view s₀).slot n) stand)))
        (put n stay (omega (arith, sp.apart, sp.unit)) (omega (arith, d.few)) e
        ∙ rw d.stayed (chunks_ext data_units (view s₀) _ _ (λ u r a b. dealing_stays (view s₀) n m apart t u r stand))))

  pub dealing_end : {s s₁ s₂ : List ℕ} {stay left t : ℕ} → Dealing s₀ n m count s stay left t → count ≤ t
      → s₁ ≡ bytes (cleared (view s) n stay) → s₂ ≡ bytes (cleared (view s₁) m left) → s₂ ≡ bytes (with_slots (view s₀) (dealt (view s₀) m))
  dealing_end {s} {s₁} {s₂} {stay} {left} {t} d ht e₁ e₂ =
      let all : t ≡ fill_in (view s₀) n = omega (arith, d.within) in
      (holds_step (cleared_change m left) (holds_step (cleared_change n stay) d.holds e₁) e₂).state
      ∙ rw (d.stayed, d.went, all) whole
    where
      whole : bytes (cleared (cleared (with_slots (view s₀) (dealing (view s₀) n m (fill_in (view s₀) n))) n (length (kept (view s₀) n m (fill_in (view s₀) n)))) m
          (length (gone (view s₀) n m (fill_in (view s₀) n))))
          ≡ bytes (with_slots (view s₀) (dealt (view s₀) m))
      whole = unfold cleared with_slots dealt records_in in
          bytes_ext _ _ (record {
            front = refl;
            size = refl;
            dstate = λ u l. refl;
            cstate = λ u l. refl;
            slot = λ u r a b. rw (← sp.from) (dealing_cleared (view s₀) n m apart (fill_in (view s₀) n) u r);
            check = λ u r a b. refl;
            rest = refl;
          })
