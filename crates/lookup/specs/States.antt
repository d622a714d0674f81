-- The states of units, as the bytes of a store show them.
use Rattle.std.specs.Prelude.{ℕ, ◌+◌, ◌*◌, ◌-◌, ◌<◌, ◌≡◌, refl, Bool, List, eqb, ltb}
use Rattle.std.proofs.Common.{ap, arith, lt-ltb, ltb-false}
use Rattle.buffer.specs.ChoiceLaws.{by-pick, pick_true}
use Rattle.buffer.specs.Range.{first}
use Rattle.buffer.specs.Bytes.{byte}
use Rattle.model.specs.Layout.{view}
use Rattle.model.specs.Reads.{state_in, first_check}

-- the states of data units and then check units stand one behind the other
pub state_byte : (s : List ℕ) (w : ℕ) → byte s (8 + w) ≡ state_in (view s) w
unfolding state_in view
state_byte s w =
    by-pick
    (λ x. byte s (8 + w) ≡ x)
    (ltb w 16)
    (byte s (8 + w))
    (byte s (24 + (w - 16)))
    (λ e. refl)
    (λ e. let e16 = ltb-false w 16 e in ap (λ i. byte s i) (omega arith))

pub state_data : (s : List ℕ) (u : ℕ) → u < 16 → state_in (view s) u ≡ (view s).dstate u
unfolding state_in
state_data s u l = pick_true (lt-ltb u 16 l) _ _

-- the first check unit in service
abbrev pub in_service : List ℕ → ℕ → ℕ → Bool
in_service s g j = eqb (byte s (24 + (3 * g + j))) 1

pub first_check_found : (s : List ℕ) (g j : ℕ) → j ≡ first 3 (in_service s g) → 3 * g + j ≡ first_check (view s) g
unfolding first_check view
first_check_found s g j e = rw e
