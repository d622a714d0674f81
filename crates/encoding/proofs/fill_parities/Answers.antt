-- `encoding::fill_parities` meets its contract.
use mathlib.Core.Path.{◌≡◌, ap, ◌∙◌}
use mathlib.Core.List.{List}
use native.Mathlib.Omega.{arith}
use lib.ListN.{drop}
use Prim.Native.Nat.{ℕ, ◌+◌, ◌*◌}
use Rattle.buffer.specs.Bytes.{byte, part}
use Rattle.group.specs.Widths.{key_bytes}
use Rattle.model.specs.Layout.{view, slot_at}
use Rattle.encoding.proofs.Ranks.{slot_parts, parity_four}
use Rattle.encoding.proofs.fill_parities.Goals as goal

pub returns : goal.returns
unfolding part
returns c =
    let s = c.args.s.now in
    let f : ℕ → List ℕ = λ p. drop key_bytes ((view s).slot (4 * c.args.g + p) c.args.r) in
    let none : 4 * c.args.g ≡ 4 * c.args.g + 0 = omega arith in
    let first = c.slot_at-a.ensures.0 ∙ ap (λ u. slot_at (byte s 5) u c.args.r) none in
    let pa = (slot_parts s (4 * c.args.g + 0) c.args.r _ first).1 in
    let pb = (slot_parts s (4 * c.args.g + 1) c.args.r _ c.slot_at-b.ensures.0).1 in
    let pc = (slot_parts s (4 * c.args.g + 2) c.args.r _ c.slot_at-c.ensures.0).1 in
    let pd = (slot_parts s (4 * c.args.g + 3) c.args.r _ c.slot_at-d.ensures.0).1 in (
      c.fill.ensures.0 ∙ parity_four 0 f pa pb pc pd,
      c.fill.ensures.1 ∙ parity_four 1 f pa pb pc pd,
      c.fill.ensures.2 ∙ parity_four 2 f pa pb pc pd,
    )
