-- `soundness::absent::behind_zero` meets its contract.
use Prim.Native.Nat.{◌+◌, ◌*◌, ◌/◌, ◌≤◌}
use mathlib.Core.Path.{refl, sym, ap, ap₂, ◌∙◌}
use native.Mathlib.Nat.{mul-le-mul_right}
use native.Mathlib.Omega.{arith}
use Rattle.buffer.specs.Bytes.{byte}
use Rattle.soundness.specs.Pieces.{zero_between, groups_in, behind_zero}
use Rattle.soundness.proofs.Endings.{unit_place, check_place}
use Rattle.soundness.proofs.absent.behind_zero.Goals as goal

-- ---- the needs
pub zero_stretch-requires : goal.zero_stretch-requires
zero_stretch-requires c =
    let ranged = c.args.header.ranged in
    let most : c.units-m.result ≤ 16 = omega (arith, c.units-m.ensures, ranged.most) in
    let l = mul-le-mul_right c.size-b.result most in
    let at = c.slot_at.ensures.0 in
    let end = c.slot_at-2.ensures.0 in
    (omega arith, omega (arith, unit_place c.args.header.store.now 16 c.size-b.ensures refl end, ranged.long))

pub returns-then-not-zero_stretch : goal.returns-then-not-zero_stretch
unfolding behind_zero
returns-then-not-zero_stretch c =
    let at = unit_place c.args.header.store.now (byte c.args.header.store.now 6) c.size-b.ensures c.units-m.ensures c.slot_at.ensures.0 in
    let end = unit_place c.args.header.store.now 16 c.size-b.ensures refl c.slot_at-2.ensures.0 in
    rw (ap₂ (λ a b. zero_between c.args.header.store.now a b) (sym at) (sym end) ∙ sym c.zero_stretch.ensures ∙ c.if-not-zero_stretch.true) refl

pub zero_stretch-requires-2 : goal.zero_stretch-requires-2
zero_stretch-requires-2 c =
    let s = c.args.header.store.now in
    let ranged = c.args.header.ranged in
    let most : 3 * ((byte s 6 + 3) / 4) ≤ 12 = omega (arith, ranged.most) in
    let l = mul-le-mul_right (byte s 5) most in
    let at = check_place c.args.header.store.now (3 * ((byte c.args.header.store.now 6 + 3) / 4)) c.size-b.ensures (ap (λ m. 3 * ((m + 3) / 4)) c.units-m.ensures) c.check_at.ensures.0 in
    let end = check_place c.args.header.store.now 12 c.size-b.ensures refl c.check_at-2.ensures.0 in
    (omega (arith, at, end, l), omega (arith, end, ranged.long))

pub returns : goal.returns
unfolding behind_zero groups_in
returns c =
    let at = unit_place c.args.header.store.now (byte c.args.header.store.now 6) c.size-b.ensures c.units-m.ensures c.slot_at.ensures.0 in
    let end = unit_place c.args.header.store.now 16 c.size-b.ensures refl c.slot_at-2.ensures.0 in
    let rows = check_place c.args.header.store.now (3 * ((byte c.args.header.store.now 6 + 3) / 4)) c.size-b.ensures (ap (λ m. 3 * ((m + 3) / 4)) c.units-m.ensures) c.check_at.ensures.0 in
    let last = check_place c.args.header.store.now 12 c.size-b.ensures refl c.check_at-2.ensures.0 in
    rw (ap₂ (λ a b. zero_between c.args.header.store.now a b) (sym at) (sym end) ∙ sym c.zero_stretch.ensures ∙ c.if-not-zero_stretch.false)
    (c.zero_stretch-2.ensures ∙ ap₂ (λ a b. zero_between c.args.header.store.now a b) rows last)
