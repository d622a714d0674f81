-- The check units of a group follow a write, one after the other: what holds at each turn of that loop, and the slot that is written behind it.
use Prim.Native.Nat.{ℕ, suc, ◌+◌, ◌*◌, ◌/◌, ◌%◌, ◌≤◌, ◌<◌}
use mathlib.Core.Path.{◌≡◌, refl, sym, ap, ap₂, ◌∙◌}
use mathlib.Core.List.{List}
use mathlib.Core.Bool.{Bool, true, ◌&&◌}
use mathlib.Core.Bool as bool
use native.Mathlib.Omega.{arith}
use native.Mathlib.Numerals.{add-one}
use lib.Dec.{eqb, ltb}
use lib.ListN.{length, take, drop}
use borrow.Author.Tests.{eq-eqb, eqb-true, lt-ltb, le-ltb}
use Rattle.buffer.specs.Choice.{pick}
use Rattle.buffer.specs.ChoiceLaws.{by-pick, pick_true, pick-false}
use Rattle.buffer.specs.TestLaws.{and-true, and_first, and_second, and_false_second, and_ext, ltb_suc, by_both}
use Rattle.buffer.specs.Bytes.{byte, part, splice}
use Rattle.group.specs.Widths.{key_bytes, field_bytes, slot_bytes, check_bytes}
use Rattle.group.specs.Body.{add_body}
use Rattle.group.specs.CheckRecord.{patched}
use Rattle.group.proofs.CheckRecordLaws.{length_key, length_patched}
use Rattle.model.specs.Layout.{Store, bytes, view, slot_at, check_at}
use Rattle.model.specs.Places.{SlotIn, data_units, check_units}
use Rattle.model.specs.Parts.{with_slots, with_checks}
use Rattle.model.specs.LayoutLaws.{Shaped, Same, bytes_ext, view_shaped}
use Rattle.model.specs.RunLaws.{upd2}
use Rattle.model.specs.StoreLaws.{size_of, cstate_at, same_long, chunk_at_lem, chunk_put, chunks_again, chunks_ext, chunks_same, chunks_shaped, chunks_size}
use Rattle.model.specs.StoreLaws.{chunks_there}
use Rattle.model.specs.Changes.{written}
use Rattle.model.specs.ChangeLaws.{length_change}
use Rattle.writing.specs.Following.{followed}

-- ---- one turn, of the definition
module _ (s : Store) (u r : ℕ) (key change : List ℕ) where
  -- this check record is one of the group, at that rank, and in service
  abbrev due : ℕ → ℕ → Bool
  due c q = eqb (c / 3) (u / 4) && eqb q r && eqb (s.cstate c) 1

  same_group : (c q : ℕ) → due c q ≡ true → c / 3 ≡ u / 4
  same_group c q t = eqb-true (c / 3) (u / 4) (and_first (eqb (c / 3) (u / 4)) (eqb q r) (and_first _ (eqb (s.cstate c) 1) t))

  same_rank : (c q : ℕ) → due c q ≡ true → q ≡ r
  same_rank c q t = eqb-true q r (and_second (eqb (c / 3) (u / 4)) (eqb q r) (and_first _ (eqb (s.cstate c) 1) t))

  followed_none : (c q : ℕ) → s.check c q ≡ followed 0 s u r key change c q
  unfolding followed
  followed_none c q = sym (pick-false (and_false_second (due c q) (le-ltb (c % 3) 0 (omega arith))) _ (s.check c q))

  -- a check unit that has not followed yet
  followed_later : (n c q : ℕ) → n ≤ c % 3 → followed n s u r key change c q ≡ s.check c q
  unfolding followed
  followed_later n c q h = pick-false (and_false_second (due c q) (le-ltb (c % 3) n h)) _ (s.check c q)

  followed_here : (n c q : ℕ) → due c q ≡ true → c % 3 < n → followed n s u r key change c q ≡ patched (c % 3) (u % 4) key change (s.check c q)
  unfolding followed
  followed_here n c q on h = pick_true (and-true on (lt-ltb (c % 3) n h)) _ (s.check c q)

  -- check unit n of the group follows, or is not in service
  followed_more : (n c q : ℕ) → (due c q ≡ true → c % 3 ≡ n → ⊥) → followed n s u r key change c q ≡ followed (suc n) s u r key change c q
  unfolding followed
  followed_more n c q h =
      ap (λ t. pick t (patched (c % 3) (u % 4) key change (s.check c q)) (s.check c q))
      (and_ext (due c q) (ltb (c % 3) n) (ltb (c % 3) (suc n)) (λ t. ltb_suc (c % 3) n (h t)))

  followed_on : (n c q : ℕ) → n < 3 → s.cstate (3 * (u / 4) + n) ≡ 1
      → upd2 (followed n s u r key change) (3 * (u / 4) + n) r (patched n (u % 4) key change (s.check (3 * (u / 4) + n) r))
      c q ≡ followed (suc n) s u r key change c q
  unfolding upd2
  followed_on n c q l e =
      by_both
      (λ t. pick t (patched n (u % 4) key change (s.check (3 * (u / 4) + n) r)) (followed n s u r key change c q) ≡ followed (suc n) s u r key change c q)
      c
      (3 * (u / 4) + n)
      q
      r
      (λ d f. pick_true refl _ (followed n s u r key change c q) ∙ here d f)
      (λ k. pick-false refl _ (followed n s u r key change c q)
      ∙ followed_more n c q (λ t m. k (let g : c / 3 ≡ u / 4 = same_group c q t in omega arith) (same_rank c q t)))
    where
      here : c ≡ 3 * (u / 4) + n → q ≡ r → patched n (u % 4) key change (s.check (3 * (u / 4) + n) r) ≡ followed (suc n) s u r key change c q
      here d f =
          let m : c % 3 ≡ n = omega arith in
          let g : c / 3 ≡ u / 4 = omega arith in
          let on : due c q ≡ true = and-true (and-true (eq-eqb (c / 3) (u / 4) g) (eq-eqb q r f)) (eq-eqb (s.cstate c) 1 (ap (λ k. s.cstate k) d ∙ e)) in
          ap (λ k. patched k (u % 4) key change (s.check (3 * (u / 4) + n) r)) (sym m)
          ∙ ap (λ k. patched (c % 3) (u % 4) key change (s.check k r)) (sym d)
          ∙ ap (λ k. patched (c % 3) (u % 4) key change (s.check c k)) (sym f)
          ∙ sym (followed_here (suc n) c q on (omega arith))

  followed_off : (n c q : ℕ) → (s.cstate (3 * (u / 4) + n) ≡ 1 → ⊥) → followed n s u r key change c q ≡ followed (suc n) s u r key change c q
  followed_off n c q e =
      followed_more n c q (λ t m.
      let g : c / 3 ≡ u / 4 = same_group c q t in
      let d : 3 * (u / 4) + n ≡ c = omega arith in
      e (ap (λ k. s.cstate k) d ∙ eqb-true (s.cstate c) 1 (and_second (eqb (c / 3) (u / 4) && eqb q r) (eqb (s.cstate c) 1) t)))

  followed_long : (n c q : ℕ) → length key ≡ key_bytes → length change ≡ field_bytes → length (s.check c q) ≡ check_bytes
      → length (followed n s u r key change c q) ≡ check_bytes
  unfolding followed
  followed_long n c q a b h =
      by-pick
      (λ y. length y ≡ check_bytes)
      (due c q && ltb (c % 3) n)
      (patched (c % 3) (u % 4) key change (s.check c q))
      (s.check c q)
      (λ _. length_patched field_bytes (c % 3) (u % 4) key change (s.check c q) (omega arith) a b h)
      (λ _. h)

-- ---- the loop: j check units have followed
abbrev after : List ℕ → ℕ → ℕ → List ℕ → List ℕ → ℕ → Store
after s₀ u r key change j = with_checks (view s₀) (followed j (view s₀) u r key change)

pub record Following (s₀ : List ℕ) (u r : ℕ) (key change s : List ℕ) (j : ℕ) : Type 0 where
  pub within : j ≤ 3
  pub long : length s ≡ length s₀
  pub state : s ≡ bytes (with_checks (view s₀) (followed j (view s₀) u r key change))

module _ (s₀ : List ℕ) (u r : ℕ) (key change : List ℕ) (slot : SlotIn s₀ u r) (hk : length key ≡ key_bytes) (hc : length change ≡ field_bytes) where
  abbrev v : Store
  v = view s₀

  after_shaped : (j : ℕ) → Shaped (after s₀ u r key change j)
  after_shaped j =
      let h : Shaped v = view_shaped s₀ slot.long in
      chunks_shaped check_units v (followed j v u r key change) h (λ c q a b. followed_long v u r key change j c q hk hc (h.check c q a b))

  after_rest : (j : ℕ) → (after s₀ u r key change j).rest ≡ v.rest
  unfolding with_checks
  after_rest j = refl

  after_size : (j : ℕ) → (after s₀ u r key change j).size ≡ v.size
  after_size j = chunks_size check_units v (followed j v u r key change)

  pub following_start : Following s₀ u r key change s₀ 0
  following_start = record {
    within = omega arith;
    long = refl;
    state = chunks_same check_units s₀ (followed 0 v u r key change) slot.long (λ c q a b. followed_none v u r key change c q);
  }

  follows : (s : List ℕ) (j : ℕ) → j ≤ 3 → s ≡ bytes (after s₀ u r key change j) → Following s₀ u r key change s j
  follows s j h e =
      record {
        within = h;
        long = ap length e ∙ same_long (after s₀ u r key change j) s₀ (after_shaped j) slot.long (after_size j) (after_rest j);
        state = e;
      }

  module _ (s : List ℕ) (j : ℕ) (w : Following s₀ u r key change s j) (hj : j < 3) where
    abbrev i : ℕ
    i = 3 * (u / 4) + j

    below : i < 12
    below = let h : u < 16 = slot.unit in omega arith

    unchanged : (c : ℕ) → (after s₀ u r key change j).cstate c ≡ v.cstate c
    unfolding with_checks
    unchanged c = refl

    state_read : byte s (24 + i) ≡ v.cstate i
    state_read = cstate_at (after s₀ u r key change j) (after_shaped j) s w.state i below ∙ unchanged i

    pub following_off : (byte s (24 + i) ≡ 1 → ⊥) → Following s₀ u r key change s (j + 1)
    following_off n =
        follows s (j + 1) (omega arith)
        (w.state
        ∙ chunks_ext check_units v (followed j v u r key change) (followed (suc j) v u r key change)
        (λ c q a b. followed_off v u r key change j c q (λ e. n (state_read ∙ e)))
        ∙ ap (λ k. bytes (after s₀ u r key change k)) (sym (add-one j)))

    pub following_on : (b at : ℕ) (s' : List ℕ) → byte s (24 + i) ≡ 1 → b ≡ byte s₀ 5 → at ≡ check_at b i r
        → s' ≡ splice at check_bytes (patched j (u % 4) key change (part at check_bytes s)) s → Following s₀ u r key change s' (j + 1)
    following_on b at s' on eb ea es =
        let eb' : b ≡ (after s₀ u r key change j).size = eb ∙ size_of s₀ ∙ sym (after_size j) in
        let hr : r < b = rw eb slot.rank in
        let old : part at check_bytes s ≡ v.check i r =
        chunk_at_lem check_units (after s₀ u r key change j) (after_shaped j) s w.state b eb' at i r ea below hr
        ∙ ap (λ f. f i r) (chunks_there check_units v (followed j v u r key change))
        ∙ followed_later v u r key change j i r (omega arith) in
        follows s' (j + 1) (omega arith)
        (chunk_put check_units (after s₀ u r key change j) (after_shaped j) s w.state b eb' s' _ at i r ea below hr es
        ∙ ap bytes (chunks_again check_units v (followed j v u r key change) i r (patched j (u % 4) key change (part at check_bytes s)))
        ∙ ap (λ z. bytes (with_checks v (upd2 (followed j v u r key change) i r (patched j (u % 4) key change z)))) old
        ∙ chunks_ext check_units v _ (followed (suc j) v u r key change) (λ c q a d. followed_on v u r key change j c q hj (sym state_read ∙ on))
        ∙ ap (λ k. bytes (after s₀ u r key change k)) (sym (add-one j)))

  pub following_end : (s : List ℕ) (j : ℕ) → Following s₀ u r key change s j → 3 ≤ j → s ≡ bytes (after s₀ u r key change 3)
  following_end s j w h =
      let same : j ≡ 3 = let l = w.within in omega arith in
      w.state ∙ ap (λ k. bytes (after s₀ u r key change k)) same

-- ---- the slot, when all have followed
all_there : (s : Store) (u r : ℕ) (x : List ℕ)
    → Same (with_slots (with_checks s (followed 3 s u r (take key_bytes x) (add_body (drop key_bytes (s.slot u r)) (drop key_bytes x))))
    (upd2 (with_checks s (followed 3 s u r (take key_bytes x) (add_body (drop key_bytes (s.slot u r)) (drop key_bytes x)))).slot u r x)) (written s u r x)
unfolding with_slots with_checks written followed upd2
all_there s u r x = record {
  front = refl;
  size = refl;
  dstate = λ w a. refl;
  cstate = λ c a. refl;
  slot = λ w q a b. refl;
  check = λ c q a b. rw (lt-ltb (c % 3) 3 (omega arith), bool.and-true);
  rest = refl;
}

pub followed_written : (s₀ s s' x key change : List ℕ) (u r b at : ℕ) → SlotIn s₀ u r → length x ≡ slot_bytes → b ≡ byte s₀ 5 → at ≡ slot_at b u r
    → key ≡ take key_bytes x → change ≡ add_body (drop key_bytes ((view s₀).slot u r)) (drop key_bytes x)
    → s ≡ bytes (with_checks (view s₀) (followed 3 (view s₀) u r key change)) → s' ≡ splice at slot_bytes x s → s' ≡ bytes (written (view s₀) u r x)
followed_written s₀ s s' x key change u r b at slot hx eb ea ek ec e es =
    let hr : r < (view s₀).size = rw (← size_of s₀) slot.rank in
    let lk : length key ≡ key_bytes = ap length ek ∙ length_key field_bytes x hx in
    let lc : length change ≡ field_bytes = ap length ec ∙ length_change ((view s₀).slot u r) x ((view_shaped s₀ slot.long).slot u r slot.unit hr) hx in
    chunk_put data_units (after s₀ u r key change 3) (after_shaped s₀ u r key change slot lk lc 3) s e b
    (eb ∙ size_of s₀ ∙ sym (after_size s₀ u r key change slot lk lc 3)) s' x at u r ea slot.unit (rw eb slot.rank) es
    ∙ ap₂ (λ k d. bytes (with_slots (after s₀ u r k d 3) (upd2 (after s₀ u r k d 3).slot u r x))) ek ec
    ∙ bytes_ext _ (written (view s₀) u r x) (all_there (view s₀) u r x)
