-- The units of a group that are out are put in service: what a write into the state bytes leaves in a store.
use Prim.Native.Nat.{ℕ, zero, suc, ◌+◌, ◌*◌, ◌-◌, ◌/◌, ◌≤◌, ◌<◌}
use mathlib.Core.Path.{◌≡◌, refl, sym, ap, ◌∙◌}
use mathlib.Core.Bool.{Bool, true, false, ◌&&◌}
use mathlib.Core.List.{List, [], ◌∷◌, map}
use native.Mathlib.Omega.{arith}
use lib.Dec.{eqb, ltb}
use lib.ListN.{length, take, drop, length-map}
use lib.Seq.{drop-drop, length-take-le}
use borrow.Author.Tests.{eq-eqb, ne_eqb, eqb-true, eqb-false, ltb-true, ltb-false}
use Rattle.buffer.specs.Choice.{pick}
use Rattle.buffer.specs.ChoiceLaws.{by-test, pick_true, pick-false}
use Rattle.buffer.specs.Bytes.{byte, part, splice}
use Rattle.buffer.specs.SpliceLaws.{length_part, length_splice, part_splice_before, drop_right}
use Rattle.buffer.specs.ByteLaws.{byte_part, byte_splice_before, byte_splice_inside, byte_splice_behind}
use Rattle.group.specs.Widths.{slot_bytes, check_bytes}
use Rattle.model.specs.Layout.{bytes, view, store_bytes, slot_at, check_at, changed, header_bytes}
use Rattle.model.specs.Places.{Long}
use Rattle.model.specs.LayoutLaws.{bytes_ext, bytes_view}
use Rattle.repairing.specs.Groups.{Group}
use Rattle.repairing.specs.Steps.{in_service, units_serving}

-- ---- the state of one unit, among others and by itself
pub byte_served : (l : List ℕ) (i : ℕ) → byte (map in_service l) i ≡ in_service (byte l i)
unfolding in_service pick
byte_served [] i = refl
byte_served (x ∷ l) zero = refl
byte_served (x ∷ l) (suc i) = byte_served l i

pub served_out : (x : ℕ) → x ≡ 2 → 1 ≡ in_service x
unfolding in_service
served_out x e = sym (pick_true (eq-eqb x 2 e) 1 x)

pub served_in : (x : ℕ) → (x ≡ 2 → ⊥) → x ≡ in_service x
unfolding in_service
served_in x n = sym (pick-false (ne_eqb x 2 n) 1 x)

-- ---- other state bytes: what stands before them and behind them is as it was
record Restated (s s' : List ℕ) : Type 0 where
  front : part 0 8 s' ≡ part 0 8 s
  behind : (o : ℕ) → header_bytes ≤ o → drop o s' ≡ drop o s
  size : length s' ≡ length s

restated_store : {s s' : List ℕ} → Restated s s' → Long s
    → s' ≡ bytes (changed (view s) (view s).front (λ u. byte s' (8 + u)) (λ c. byte s' (24 + c)) (view s).slot (view s).check)
unfolding view part
restated_store {s} {s'} k long =
    let five : byte s' 5 ≡ byte s 5 = sym (byte_part 0 8 s' 5 (omega arith)) ∙ ap (λ x. byte x 5) k.front ∙ byte_part 0 8 s 5 (omega arith) in
    sym (bytes_view s' (rw (five, k.size) long))
    ∙ bytes_ext _ _ (record {
      front = k.front;
      size = five;
      dstate = λ u a. refl;
      cstate = λ c a. refl;
      slot = λ u r a b. ap (λ n. part (slot_at n u r) slot_bytes s') five ∙ ap (take slot_bytes) (k.behind (slot_at (byte s 5) u r) (omega arith));
      check = λ c r a b. ap (λ n. part (check_at n c r) check_bytes s') five ∙ ap (take check_bytes) (k.behind (check_at (byte s 5) c r) (omega arith));
      rest = ap (λ n. drop (store_bytes n) s') five ∙ k.behind (store_bytes (byte s 5)) (omega arith);
    })

-- ---- s' is s with n of its state bytes, from `at` on, put in service
record Served (at n : ℕ) (s s' : List ℕ) : Type 0 where
  low : 8 ≤ at
  high : at + n ≤ 36
  room : header_bytes ≤ length s
  state : s' ≡ splice at n (map in_service (part at n s)) s

module _ {at n : ℕ} {s s' : List ℕ} (h : Served at n s s') where
  abbrev new : List ℕ
  new = map in_service (part at n s)

  within : at + n ≤ length s
  within = omega (arith, h.high, h.room)

  width : length new ≡ n
  width = length-map (part at n s) in_service ∙ length_part at n s within

  beyond : (o : ℕ) → at + n ≤ o → drop o (splice at n new s) ≡ drop o s
  unfolding splice
  beyond o l =
      let k : ℕ = o - (at + n) in
      let place : o ≡ at + (n + k) = omega arith in
      ap (λ j. drop j (splice at n new s)) place
      ∙ drop_right at (n + k) (take at s) _ (length-take-le at s (omega (arith, within)))
      ∙ drop_right n k new _ width
      ∙ drop-drop k n (drop at s)
      ∙ drop-drop (n + k) at s
      ∙ ap (λ j. drop j s) (sym place)

  served_restated : Restated s s'
  served_restated = record {
    front = ap (part 0 8) h.state ∙ part_splice_before at n 0 8 new s (omega (arith, within)) h.low;
    behind = λ o l. ap (drop o) h.state ∙ beyond o (omega (arith, h.high));
    size = ap length h.state ∙ length_splice at n new s within width;
  }

  served_other : (i : ℕ) → (at ≤ i → at + n ≤ i) → byte s' i ≡ byte s i
  served_other i other =
      ap (λ x. byte x i) h.state
      ∙ by-test
      (λ _. byte (splice at n new s) i ≡ byte s i)
      (ltb i at)
      (λ e. byte_splice_before at n new s i (omega (arith, within)) (ltb-true i at e))
      (λ e. byte_splice_behind at n new s i within width (other (ltb-false i at e)))

  served_here : (k : ℕ) → k < n → byte s' (at + k) ≡ in_service (byte s (at + k))
  served_here k l =
      ap (λ x. byte x (at + k)) h.state
      ∙ byte_splice_inside at n new s k (omega (arith, within)) width l
      ∙ byte_served (part at n s) k
      ∙ ap in_service (byte_part at n s k l)

  -- a state, where a test says whether it is one of them
  served_state : (i : ℕ) (due : Bool) → (due ≡ true → (at ≤ i) × (i < at + n)) → (due ≡ false → at ≤ i → at + n ≤ i)
      → byte s' i ≡ pick (due && eqb (byte s i) 2) 1 (byte s i)
  served_state i due inside outside =
      by-test
      (λ t. byte s' i ≡ pick (t && eqb (byte s i) 2) 1 (byte s i))
      due
      (λ e.
      let q = inside e in
      let place : at + (i - at) ≡ i = omega (arith, q.0) in
      rw place at (served_here (i - at) (omega (arith, q.0, q.1))) ∙ unfold in_service in refl)
      (λ e. served_other i (outside e) ∙ sym (pick-false refl 1 (byte s i)))

-- ---- the data units of a group, then its check units
pub units_served : {s z₁ z₂ s₂ : List ℕ} {g : ℕ} (d c : ℕ) → Group s g → d ≡ 8 + 4 * g → c ≡ 24 + 3 * g → z₁ ≡ map in_service (part d 4 s)
    → z₂ ≡ map in_service (part c 3 (splice d 4 z₁ s)) → s₂ ≡ splice c 3 z₂ (splice d 4 z₁ s) → s₂ ≡ bytes (units_serving (view s) g)
unfolding view units_serving
units_served {s} {z₁} {z₂} {s₂} {g} d c h ed ec e₁ e₂ e =
    let s₁ : List ℕ = splice d 4 z₁ s in
    let low : g < 4 = h.group in
    let first : Served d 4 s s₁ = record { low = omega arith; high = omega arith; room = omega (arith, h.long); state = ap (λ z. splice d 4 z s) e₁ } in
    let second : Served c 3 s₁ s₂ =
    record { low = omega arith; high = omega arith; room = omega (arith, h.long, (served_restated first).size); state = e ∙ ap (λ z. splice c 3 z s₁) e₂ } in
    let one = served_restated first in
    let two = served_restated second in
    let both : Restated s s₂ = record { front = two.front ∙ one.front; behind = λ o k. two.behind o k ∙ one.behind o k; size = two.size ∙ one.size } in
    restated_store both h.long
    ∙ bytes_ext _ _ (record {
      front = refl;
      size = refl;
      dstate = λ u a.
          served_other second (8 + u) (λ k. omega arith)
          ∙ served_state first (8 + u) (eqb (u / 4) g)
          (λ e. let q = eqb-true (u / 4) g e in (omega arith, omega arith))
          (λ e k. let q = eqb-false (u / 4) g e in omega arith);
      cstate = λ w a.
          served_state second (24 + w) (eqb (w / 3) g)
          (λ e. let q = eqb-true (w / 3) g e in (omega arith, omega arith))
          (λ e k. let q = eqb-false (w / 3) g e in omega arith)
          ∙ ap (λ x. pick (eqb (w / 3) g && eqb x 2) 1 x) (served_other first (24 + w) (λ k. omega arith));
      slot = λ u r a b. refl;
      check = λ w r a b. refl;
      rest = refl;
    })
