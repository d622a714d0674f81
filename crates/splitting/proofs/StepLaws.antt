-- The steps of grow and shrink are changes of a store's parts.
use Prim.Native.Nat.{ℕ, ◌<◌}
use mathlib.Core.Path.{◌≡◌, refl, ap, ◌∙◌}
use mathlib.Core.List.{List}
use mathlib.Core.Bool.{Bool, true, false, ◌&&◌, ◌||◌}
use native.Mathlib.Omega.{arith}
use lib.Dec.{eqb, leb}
use lib.ListN.{length, set, length-set}
use lib.Seq.{get_or-take, get_or-set_other}
use Rattle.buffer.specs.Choice.{pick}
use Rattle.buffer.specs.ChoiceLaws.{by-pick}
use Rattle.buffer.specs.TestLaws.{not-both}
use Rattle.buffer.specs.Bytes.{byte, zeros}
use Rattle.buffer.specs.ByteLaws.{length_zeros}
use Rattle.buffer.specs.Table.{upd}
use Rattle.group.specs.Widths.{slot_bytes, check_bytes}
use Rattle.model.specs.Layout.{Store, view}
use Rattle.model.specs.Parts.{with_front, with_dstates, with_cstates, with_slots}
use Rattle.model.specs.LayoutLaws.{Shaped, Same, byte_front}
use Rattle.lookup.specs.Sized.{Sized}
use Rattle.encoding.specs.Holding.{Holds, Change, holds_five, holds_long, checks_change}
use Rattle.splitting.specs.Steps.{cleared, marked, levelled, wiped}

-- ---- tests joined by "or", of which none holds
pub or_first : (s t : Bool) → (s || t) ≡ false → s ≡ false
or_first true t e = e
or_first false t e = refl

pub or_second : (s t : Bool) → (s || t) ≡ false → t ≡ false
or_second true t e = not-both refl e
or_second false t e = e

-- ---- other slots
slots_change : (f : Store → ℕ → ℕ → List ℕ) → ((t : Store) → Shaped t → (u r : ℕ) → u < 16 → r < t.size → length (f t u r) ≡ slot_bytes)
    → ((s t : Store) → Same s t → (u r : ℕ) → u < 16 → r < t.size → f s u r ≡ f t u r) → Change (λ t. with_slots t (f t))
unfolding with_slots
slots_change f long same = record {
  shaped = λ t h. record { front = h.front; size = h.size; slot = long t h; check = h.check };
  same = λ s t h. record { front = h.front; size = h.size; dstate = h.dstate; cstate = h.cstate; slot = same s t h; check = h.check; rest = h.rest };
  size = λ t. refl;
  rest = λ t. refl;
}

-- the header is as it was
pub slots_sized : {s₀ s : List ℕ} (f : ℕ → ℕ → List ℕ) → Sized s₀ → Holds s₀ s (with_slots (view s₀) f) → Sized s
unfolding with_slots view
slots_sized {s₀} {s} f z h =
    let five : byte s 5 ≡ byte s₀ 5 = holds_five h in
    let six : byte s 6 ≡ byte s₀ 6 =
    ap (λ x. byte x 6) h.state ∙ byte_front (with_slots (view s₀) f) h.shaped 6 (omega arith) ∙ get_or-take 8 s₀ 6 0 (omega arith) in
    record {
      some = rw five z.some;
      ranks = rw five z.ranks;
      unit = rw six z.unit;
      units = rw six z.units;
      long = holds_long h;
    }

-- ---- the slots of a unit from a rank on
pub cleared_change : (u q : ℕ) → Change (λ t. cleared t u q)
unfolding cleared
cleared_change u q =
    slots_change
    (λ t w r. pick (eqb w u && leb q r) (zeros slot_bytes) (t.slot w r))
    (λ t h w r a b. by-pick (λ (x : List ℕ). length x ≡ slot_bytes) (eqb w u && leb q r) (zeros slot_bytes)
    (t.slot w r) (λ _. length_zeros slot_bytes) (λ _. h.slot w r a b))
    (λ s t h w r a b. rw (h.slot w r a b))

-- ---- how many units there are, and the state of one
pub marked_change : (m u state : ℕ) → Change (λ t. marked t m u state)
unfolding marked with_front with_dstates upd
marked_change m u state = record {
  shaped = λ t h. record {
    front = length-set t.front 6 m ∙ h.front;
    size = get_or-set_other t.front 6 5 m 0 (λ e. omega arith) ∙ h.size;
    slot = h.slot;
    check = h.check;
  };
  same = λ s t h. record {
    front = ap (λ x. set x 6 m) h.front;
    size = h.size;
    dstate = λ w l. rw (h.dstate w l);
    cstate = h.cstate;
    slot = h.slot;
    check = h.check;
    rest = h.rest;
  };
  size = λ t. refl;
  rest = λ t. refl;
}

-- ---- the check units that a test picks
module _ (p : ℕ → Bool) where
  pub levelled_change : (k : ℕ) → Change (levelled p k)
  unfolding levelled with_cstates
  levelled_change k = record {
    shaped = λ t h. record { front = h.front; size = h.size; slot = h.slot; check = h.check };
    same = λ s t h. record {
      front = h.front;
      size = h.size;
      dstate = h.dstate;
      cstate = λ c l. rw (h.cstate c l);
      slot = h.slot;
      check = h.check;
      rest = h.rest;
    };
    size = λ t. refl;
    rest = λ t. refl;
  }

  pub wiped_change : Change (wiped p)
  unfolding wiped
  wiped_change =
      checks_change
      (λ t c r. pick (p c) (zeros check_bytes) (t.check c r))
      (λ t h c r a b. by-pick (λ (x : List ℕ). length x ≡ check_bytes) (p c) (zeros check_bytes)
      (t.check c r) (λ _. length_zeros check_bytes) (λ _. h.check c r a b))
      (λ s t h c r a b. rw (h.check c r a b))
