-- `writing::clear_unit` meets its contract.
use native.Mathlib.Omega.{arith}
use mathlib.Core.Path.{refl}
use lib.ListN.{length, get_or}
use Rattle.buffer.specs.Bytes.{part, splice}
use Rattle.writing.proofs.Lost.{unit_within, lost_unit}
use Rattle.writing.proofs.clear_unit.Goals as goal

-- the part that is cleared starts before it ends, and ends within the store
pub slice_bounds-clear-count : goal.slice_bounds-clear-count
slice_bounds-clear-count c =
    let a = c.args in
    omega (arith, unit_within (get_or a.s.now 5 0) a.w (length a.s.now) c.requires.1 c.requires.0, c.unit_at-to.ensures, c.unit_at-from.ensures)

-- the part that is cleared starts before it ends, and ends within the store
pub slice_bounds-clear-start : goal.slice_bounds-clear-start
slice_bounds-clear-start c =
    let a = c.args in
    omega (arith, unit_within (get_or a.s.now 5 0) a.w (length a.s.now) c.requires.1 c.requires.0, c.unit_at-to.ensures, c.unit_at-from.ensures)

pub slice_bounds-clear-end : goal.slice_bounds-clear-end
slice_bounds-clear-end c =
    let a = c.args in
    omega (arith, unit_within (get_or a.s.now 5 0) a.w (length a.s.now) c.requires.1 c.requires.0, c.unit_at-to.ensures, c.unit_at-from.ensures)

pub returns : goal.returns
unfolding part splice
returns c =
    lost_unit c.args.s.now _ _ _ _ _ _ c.requires.0 refl c.clear.ensures _ c.requires.1 c.unit_at-from.ensures c.unit_at-to.ensures (omega arith) refl
