-- `encoding::write_parity` meets its contract.
use Prim.Native.Nat.{ℕ, ◌+◌, ◌*◌}
use mathlib.Core.Path.{sym, ap, ◌∙◌}
use mathlib.Core.List.{List}
use native.Mathlib.Omega.{arith}
use lib.Bits.{bit_xor}
use lib.ListN.{drop}
use Rattle.buffer.specs.Bytes.{splice}
use Rattle.group.specs.Widths.{key_bytes, field_bytes}
use Rattle.group.proofs.ExchangeLaws.{exchanged, parity_exchanged}
use Rattle.model.specs.Layout.{view}
use Rattle.encoding.proofs.Ranks.{slot_field, exchanged_low, exchanged_before, parity_four}
use Rattle.encoding.proofs.write_parity.Goals as goal

pub overflow_add-g-2 : goal.overflow_add-g-2
overflow_add-g-2 c =
    omega (arith, c.requires.0.group, exchanged_low c.args.j 1 c.requires.1 (omega arith))

pub overflow_add-g-3 : goal.overflow_add-g-3
overflow_add-g-3 c =
    omega (arith, c.requires.0.group, exchanged_low c.args.j 2 c.requires.1 (omega arith))

pub overflow_add-g-4 : goal.overflow_add-g-4
overflow_add-g-4 c =
    omega (arith, c.requires.0.group, exchanged_low c.args.j 3 c.requires.1 (omega arith))

pub write_first-requires : goal.write_first-requires
write_first-requires c =
    let p = c.requires in
    let before = exchanged_before p.0 c.args.j in (
      p.3,
      omega (arith, p.2, before 0 p.1 (omega arith), c.slot_at-a.ensures.0),
      omega (arith, p.2, before 1 p.1 (omega arith), c.slot_at-b.ensures.0),
      omega (arith, p.2, before 2 p.1 (omega arith), c.slot_at-c.ensures.0),
      omega (arith, p.2, before 3 p.1 (omega arith), c.slot_at-d.ensures.0),
    )

pub returns : goal.returns
returns c =
    let s = c.args.s.now in
    let j = c.args.j in
    let f : ℕ → List ℕ = λ p. drop key_bytes ((view s).slot (4 * c.args.g + p) c.args.r) in
    let u : ℕ → ℕ = λ p. 4 * c.args.g + bit_xor p j in
    c.write_first.ensures
    ∙ ap (λ x. splice c.args.to field_bytes x s) (
    parity_four 0 (λ p. f (exchanged j p))
    (slot_field s (u 0) c.args.r _ c.slot_at-a.ensures.0)
    (slot_field s (u 1) c.args.r _ c.slot_at-b.ensures.0)
    (slot_field s (u 2) c.args.r _ c.slot_at-c.ensures.0)
    (slot_field s (u 3) c.args.r _ c.slot_at-d.ensures.0)
    ∙ sym (parity_exchanged j c.requires.1 f))
