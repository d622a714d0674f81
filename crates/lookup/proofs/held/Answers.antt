-- `lookup::held` meets its contract.
use mathlib.Core.Path.{sym, ◌∙◌}
use native.Mathlib.Omega.{arith}
use Rattle.buffer.specs.Bytes.{byte}
use Rattle.group.specs.Widths.{field_bytes}
use Rattle.lookup.specs.Parts.{handed_back}
use Rattle.lookup.specs.Slots.{held_at}
use Rattle.lookup.specs.SlotLaws.{held_fits, held_part}
use Rattle.lookup.proofs.held.Goals as goal

pub slice_bounds-result-end : goal.slice_bounds-result-end
slice_bounds-result-end c =
    omega (arith, held_fits c.requires.0 c.args.g c.args.r c.args.m c.requires.1 c.requires.2 c.requires.3)

pub returns : goal.returns
returns c =
    let a = c.args in
    let s = a.s.now in
    let lent = handed_back s _ _ c.held_at-at.result field_bytes (held_at (byte s 5) a.g a.r a.m) c.held_at-at.ensures.0 in
    record { bytes = lent.0 ∙ sym (held_part s a.g a.r a.m); start = lent.1 }
