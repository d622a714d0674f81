-- `soundness::keys::mask_of` meets its contract.
use mathlib.Core.Path.{◌∙◌}
use Prim.Native.Nat.{ℕ, ◌-◌, ◌%◌, ◌≤◌}
use native.Mathlib.Omega.{arith}
use native.Mathlib.Nat.{mod-lt, lt_of_le_of_lt}
use Rattle.lookup.specs.Below.{bit_mul_le, add_bit_mul_le}
use Rattle.lookup.specs.UnitLaws.{bit_exactly}
use Rattle.soundness.proofs.Masks.{mask_by_bit}
use Rattle.soundness.proofs.keys.mask_of.Goals as goal

pub overflow_sub-below : goal.overflow_sub-below
overflow_sub-below c =
    let power : ℕ = c.from-p.result in
    let first : ℕ = c.from-unit.result % power in
    let first_small : first ≤ 15 = omega (arith, mod-lt c.from-unit.result {m = power} (omega arith)) in
    omega (arith, first_small)

pub overflow_mul-result : goal.overflow_mul-result
overflow_mul-result c =
    let power : ℕ = c.from-p.result in
    let first : ℕ = c.from-unit.result % power in
    let first_small : first ≤ 15 = omega (arith, mod-lt c.from-unit.result {m = power} (omega arith)) in
    record { fits = lt_of_le_of_lt (bit_mul_le (omega (arith, first_small))) (omega arith) }

pub overflow_add-result : goal.overflow_add-result
overflow_add-result c =
    let power : ℕ = c.from-p.result in
    let first : ℕ = c.from-unit.result % power in
    let first_small : first ≤ 15 = omega (arith, mod-lt c.from-unit.result {m = power} (omega arith)) in
    record { fits = lt_of_le_of_lt (add_bit_mul_le (power - 1) power (omega (arith, first_small))) (omega arith) }

pub returns : goal.returns
returns c =
    let power-is = c.from-p.ensures ∙ c.power_below.ensures.0 in
    let split-is = c.from-n.ensures ∙ c.split_pointer.ensures.0 in
    let some = c.requires in
    mask_by_bit _ _ _ _ _ _ power-is split-is c.from-unit.ensures (bit_exactly _ _ _ _ _ power-is split-is some (omega arith) (omega arith))
