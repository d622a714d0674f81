-- The check units in service follow a slot that is written, and two slots of one unit that are, in any store whose parts have the right sizes: whatever
-- parity they had before. Nothing here rests on a history.
use Prim.Native.Nat.{ℕ, ◌+◌, ◌*◌, ◌/◌, ◌%◌, ◌≤◌, ◌<◌}
use mathlib.Core.Path.{◌≡◌, refl, sym, ap, ap₂, ◌∙◌}
use mathlib.Core.Logic.{◌≢◌}
use mathlib.Core.List.{List}
use mathlib.Core.Bool.{Bool, true, false, ◌&&◌, ◌||◌}
use native.Mathlib.Omega.{arith}
use lib.Dec.{eqb}
use lib.ListN.{length, take, drop, length-drop}
use borrow.Author.Tests.{eqb-true, eqb-false, eq-eqb}
use Rattle.buffer.specs.Choice.{pick}
use Rattle.buffer.specs.ChoiceLaws.{by-test, by-pick, pick_true, pick-false}
use Rattle.buffer.specs.TestLaws.{not-both, and-true, and_first, and_second, or_false_first, or_false_second}
use Rattle.buffer.specs.Bytes.{byte, part}
use Rattle.buffer.specs.Table.{upd}
use Rattle.buffer.specs.TableLaws.{upd-at, upd_other}
use Rattle.group.specs.Widths.{key_bytes, field_bytes, keys_bytes, slot_bytes}
use Rattle.group.specs.Body.{add_body, scale_body}
use Rattle.group.specs.BodyLaws.{add_assoc, add_self, add_zeros, add_back, scale_sum, scale_zeros}
use Rattle.group.specs.Parity.{coefficient, adjusted}
use Rattle.group.proofs.ParityLaws.{coefficient_bound, parity_ext, parity_error}
use Rattle.group.proofs.CheckRecordLaws.{length_key, length_body, patched_parity, patched_listed}
use Rattle.model.specs.Layout.{Store}
use Rattle.model.specs.LayoutLaws.{Shaped, Same}
use Rattle.model.specs.Changes.{written}
use Rattle.model.specs.LeftAlone.{field_at, parity_at, listed_at, error_at, Follows}

-- ---- the change of a field times a coefficient: no change, and two changes one behind the other

module _ (c : ℕ) (small : c < 16) (x : List ℕ) where
  no_change : (y : List ℕ) → length x ≡ field_bytes → length y ≡ field_bytes → x ≡ add_body x (scale_body c (add_body y y))
  no_change y e f = sym (rw (add_self field_bytes y f, scale_zeros c field_bytes small) (add_zeros field_bytes x e))

  two_changes : (f g h : List ℕ) → length g ≡ field_bytes → length h ≡ field_bytes
      → add_body (add_body x (scale_body c (add_body f g))) (scale_body c (add_body g h)) ≡ add_body x (scale_body c (add_body f h))
  two_changes f g h p q =
      add_assoc x (scale_body c (add_body f g)) (scale_body c (add_body g h))
      ∙ ap (add_body x) (sym (scale_sum c small (add_body f g) (add_body g h))
      ∙ ap (scale_body c) (add_assoc f g (add_body g h) ∙ ap (add_body f) (add_back field_bytes g h p q)))

-- ---- stores of the right sizes

module _ (v : Store) (h : Shaped v) where
  length_field : (u r : ℕ) → u < 16 → r < v.size → length (field_at v u r) ≡ field_bytes
  length_field u r l m = length_body field_bytes (v.slot u r) (h.slot u r l m)

  length_parity_bytes : (c r : ℕ) → c < 12 → r < v.size → length (parity_at v c r) ≡ field_bytes
  length_parity_bytes c r l m = simp length-drop (omega (arith, h.check c r l m))

-- ---- an error in a parity stays what it was, where no other unit's slots change and the parity follows those of unit u

module _ (v t : Store) (hv : Shaped v) (ht : Shaped t) (size : t.size ≡ v.size) (u : ℕ) (hu : u < 16)
    (c r : ℕ) (l : c < 12) (m : r < v.size) (d : c / 3 ≡ u / 4)
    (others : (w : ℕ) → w < 16 → w ≢ u → t.slot w r ≡ v.slot w r)
    (changed : parity_at t c r ≡ add_body (parity_at v c r) (scale_body (coefficient (u % 4) (c % 3)) (add_body (field_at v u r) (field_at t u r)))) where
  error_kept : error_at t c r ≡ error_at v c r
  unfolding adjusted
  error_kept =
      ap₂ add_body
      (changed ∙ ap (λ (w : ℕ). add_body (parity_at v c r) (scale_body (coefficient (u % 4) (c % 3)) (add_body (field_at v w r) (field_at t u r)))) (sym place))
      (parity_ext (c % 3) _ _ now)
      ∙ parity_error field_bytes (c % 3) (u % 4) (omega arith) (omega arith) old (λ p n. length_field v hv (4 * (c / 3) + p) r (omega arith) m)
      (field_at t u r) (length_field t ht u r hu (omega arith)) (parity_at v c r) (length_parity_bytes v hv c r l m)
    where
      old : ℕ → List ℕ
      old p = field_at v (4 * (c / 3) + p) r

      place : 4 * (c / 3) + u % 4 ≡ u
      place = omega arith

      now : (p : ℕ) → p < 4 → field_at t (4 * (c / 3) + p) r ≡ upd old (u % 4) (field_at t u r) p
      now p n =
          by-test (λ _. field_at t (4 * (c / 3) + p) r ≡ upd old (u % 4) (field_at t u r) p) (eqb p (u % 4))
          (λ e.
          let here : 4 * (c / 3) + p ≡ u = omega (arith, eqb-true p (u % 4) e) in
          ap (λ (w : ℕ). field_at t w r) here ∙ sym (upd-at old (u % 4) (field_at t u r) p (eqb-true p (u % 4) e)))
          (λ e.
          ap (drop key_bytes) (others (4 * (c / 3) + p) (omega arith) (λ f. eqb-false p (u % 4) e (omega arith)))
          ∙ sym (upd_other old (u % 4) (field_at t u r) p (eqb-false p (u % 4) e)))

-- ---- one slot written

module _ (v : Store) (hv : Shaped v) (u r : ℕ) (hu : u < 16) (hr : r < v.size) (x : List ℕ) (hx : length x ≡ slot_bytes)
    (t : Store) (ht : Shaped t) (same : Same t (written v u r x)) where
  size_kept : t.size ≡ v.size
  unfolding written
  size_kept = same.size

  slot_written : t.slot u r ≡ x
  unfolding written
  slot_written = same.slot u r hu hr ∙ pick_true (and-true (eq-eqb u u refl) (eq-eqb r r refl)) x (v.slot u r)

  slot_kept : (w q : ℕ) → w < 16 → q < v.size → (w ≡ u → eqb q r ≡ false) → t.slot w q ≡ v.slot w q
  unfolding written
  slot_kept w q l m k =
      same.slot w q l m
      ∙ by-pick (λ y. y ≡ v.slot w q) (eqb w u && eqb q r) x (v.slot w q)
      (λ e. not-both (and_second (eqb w u) (eqb q r) e) (k (eqb-true w u (and_first (eqb w u) (eqb q r) e)))) (λ _. refl)

  check_kept : (c q : ℕ) → c < 12 → q < v.size → (c / 3 ≡ u / 4 → v.cstate c ≡ 1 → eqb q r ≡ false) → t.check c q ≡ v.check c q
  unfolding written
  check_kept c q l m k =
      let a : Bool = eqb (c / 3) (u / 4) in
      let b : Bool = eqb q r in
      let on : Bool = eqb (v.cstate c) 1 in
      same.check c q l m
      ∙ by-pick (λ y. y ≡ v.check c q) (a && b && on) _ (v.check c q)
      (λ e.
      let ab : (a && b) ≡ true = and_first (a && b) on e in
      not-both (and_second a b ab) (k (eqb-true (c / 3) (u / 4) (and_first a b ab)) (eqb-true (v.cstate c) 1 (and_second (a && b) on e))))
      (λ _. refl)

  -- the change of the field
  abbrev change : List ℕ
  change = add_body (field_at v u r) (drop key_bytes x)

  -- a check unit in service of the unit's group: at the written rank
  module _ (c : ℕ) (l : c < 12) (d : c / 3 ≡ u / 4) (on : v.cstate c ≡ 1) where
    long : keys_bytes ≤ length (v.check c r)
    long = omega (arith, hv.check c r l hr)

    touched : (eqb (c / 3) (u / 4) && eqb r r && eqb (v.cstate c) 1) ≡ true
    touched = and-true (and-true (eq-eqb (c / 3) (u / 4) d) (eq-eqb r r refl)) (eq-eqb (v.cstate c) 1 on)

    parity_written : parity_at t c r ≡ add_body (parity_at v c r) (scale_body (coefficient (u % 4) (c % 3)) change)
    unfolding written adjusted
    parity_written =
        ap (drop keys_bytes) (same.check c r l hr ∙ pick_true touched _ (v.check c r))
        ∙ patched_parity (c % 3) (u % 4) (omega arith) (take key_bytes x) change (v.check c r) (length_key field_bytes x hx) long

    listed_written : (p : ℕ) → p < 4 → listed_at t c r p ≡ pick (eqb p (u % 4)) (take key_bytes x) (listed_at v c r p)
    unfolding written
    listed_written p n =
        ap (part (key_bytes * p) key_bytes) (same.check c r l hr ∙ pick_true touched _ (v.check c r))
        ∙ patched_listed (c % 3) (u % 4) (omega arith) (take key_bytes x) change (v.check c r) (length_key field_bytes x hx) long p n

    -- and at every rank
    parity_follows : (q : ℕ) → q < v.size
        → parity_at t c q ≡ add_body (parity_at v c q) (scale_body (coefficient (u % 4) (c % 3)) (add_body (field_at v u q) (field_at t u q)))
    parity_follows q m =
        let k : ℕ = coefficient (u % 4) (c % 3) in
        by-test (λ _. parity_at t c q ≡ add_body (parity_at v c q) (scale_body k (add_body (field_at v u q) (field_at t u q)))) (eqb q r)
        (λ e. rw (eqb-true q r e, slot_written) parity_written)
        (λ e. rw (check_kept c q l m (λ _ _. e), slot_kept u q hu m (λ _. e))
        (no_change k (coefficient_bound (u % 4) (c % 3) (omega arith) (omega arith)) (parity_at v c q) (field_at v u q)
        (length_parity_bytes v hv c q l m) (length_field v hv u q hu m)))

    listed_follows : (q p : ℕ) → q < v.size → p < 4
        → listed_at t c q p ≡ pick (eqb q r && eqb p (u % 4)) (take key_bytes (t.slot u q)) (listed_at v c q p)
    listed_follows q p m n =
        by-test (λ b. listed_at t c q p ≡ pick (b && eqb p (u % 4)) (take key_bytes (t.slot u q)) (listed_at v c q p)) (eqb q r)
        (λ e. rw (eqb-true q r e, slot_written) (listed_written p n))
        (λ e. ap (part (key_bytes * p) key_bytes) (check_kept c q l m (λ _ _. e)) ∙ sym (pick-false refl _ (listed_at v c q p)))

  write_follows : Follows v t u (λ q. eqb q r)
  write_follows = record {
    front = unfold written in same.front;
    dstate = unfold written in same.dstate;
    cstate = unfold written in same.cstate;
    rest = unfold written in same.rest;
    slots = slot_kept;
    checks = check_kept;
    parity = λ c q l m d on. parity_follows c l d on q m;
    error = λ c q l m d on. error_kept v t hv ht size_kept u hu c q l m d (λ w i n. slot_kept w q i m (λ e. absurd (n e))) (parity_follows c l d on q m);
    listed = λ c q p l m n d on. listed_follows c l d on q p m n;
  }

  pub write_leaves : Follows v t u (λ q. eqb q r) × (t.slot u r ≡ x)
  write_leaves = (write_follows, slot_written)

-- ---- slots of one unit written twice

-- a key that is listed anew by the second write, or by the first
listed_twice : {A : Type 0} (a b e : Bool) (x y z : A) → (b ≡ false → x ≡ y) → pick (b && e) y (pick (a && e) x z) ≡ pick ((a || b) && e) y z
unfolding pick
listed_twice true true true x y z h = refl
listed_twice true true false x y z h = refl
listed_twice true false true x y z h = h refl
listed_twice true false false x y z h = refl
listed_twice false true true x y z h = refl
listed_twice false true false x y z h = refl
listed_twice false false e x y z h = refl

module _ (v t w : Store) (hv : Shaped v) (ht : Shaped t) (hw : Shaped w) (u : ℕ) (hu : u < 16) (a b : ℕ → Bool)
    (f : Follows v t u a) (g : Follows t w u b) where
  size_first : t.size ≡ v.size
  size_first = sym ht.size ∙ ap (λ (x : List ℕ). byte x 5) f.front ∙ hv.size

  size_second : w.size ≡ t.size
  size_second = sym hw.size ∙ ap (λ (x : List ℕ). byte x 5) g.front ∙ ht.size

  inside : (r : ℕ) → r < v.size → r < t.size
  inside r m = omega (arith, size_first)

  pub both_follow : Follows v w u (λ r. a r || b r)
  both_follow = record {
    front = g.front ∙ f.front;
    dstate = λ x l. g.dstate x l ∙ f.dstate x l;
    cstate = λ c l. g.cstate c l ∙ f.cstate c l;
    rest = g.rest ∙ f.rest;
    slots = λ x r l m k.
        g.slots x r l (inside r m) (λ e. or_false_second (a r) (b r) (k e)) ∙ f.slots x r l m (λ e. or_false_first (a r) (b r) (k e));
    checks = λ c r l m k.
        g.checks c r l (inside r m) (λ d on. or_false_second (a r) (b r) (k d (sym (f.cstate c l) ∙ on)))
        ∙ f.checks c r l m (λ d on. or_false_first (a r) (b r) (k d on));
    parity = λ c r l m d on.
        let k : ℕ = coefficient (u % 4) (c % 3) in
        g.parity c r l (inside r m) d (f.cstate c l ∙ on)
        ∙ ap (λ (x : List ℕ). add_body x (scale_body k (add_body (field_at t u r) (field_at w u r)))) (f.parity c r l m d on)
        ∙ two_changes k (coefficient_bound (u % 4) (c % 3) (omega arith) (omega arith)) (parity_at v c r) (field_at v u r) (field_at t u r) (field_at w u r)
        (length_field t ht u r hu (inside r m)) (length_field w hw u r hu (omega (arith, size_first, size_second)));
    error = λ c r l m d on. g.error c r l (inside r m) d (f.cstate c l ∙ on) ∙ f.error c r l m d on;
    listed = λ c r p l m n d on.
        g.listed c r p l (inside r m) n d (f.cstate c l ∙ on)
        ∙ ap (pick (b r && eqb p (u % 4)) (take key_bytes (w.slot u r))) (f.listed c r p l m n d on)
        ∙ listed_twice (a r) (b r) (eqb p (u % 4)) (take key_bytes (t.slot u r)) (take key_bytes (w.slot u r)) (listed_at v c r p)
        (λ e. ap (take key_bytes) (sym (g.slots u r hu (inside r m) (λ _. e))));
  }
