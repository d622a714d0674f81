-- `soundness::units::lost` meets its contract.
use mathlib.Core.Path.{sym, ◌∙◌}
use native.Mathlib.Omega.{arith}
use Rattle.buffer.specs.Bytes.{byte}
use Rattle.soundness.specs.Keys.{fill_of}
use Rattle.soundness.specs.Pieces.{column_keys}
use Rattle.soundness.proofs.Told.{some_told}
use Rattle.soundness.proofs.Counting.{fill_most}
use Rattle.soundness.proofs.UnitCounts.{Passes, reached, unit_zero_lem, lost_zeros, lost_none, lost_keys}
use Rattle.soundness.proofs.units.lost.Goals as goal

pub returns-then-not-is_zero_from : goal.returns-then-not-is_zero_from
returns-then-not-is_zero_from g c =
    let s = c.args.unit.store.now in
    let u = c.args.unit.number in
    lost_zeros g.R.Reach.own s u (sym (unit_zero_lem g.R.Reach.own s u) ∙ sym c.is_zero_from.ensures ∙ c.if-not-is_zero_from.true)

pub returns-then-unkept : goal.returns-then-unkept
returns-then-unkept g c =
    let s = c.args.unit.store.now in
    let u = c.args.unit.number in
    lost_none g.R.Reach.own s u (g.R.Reach.none _ _ _) (sym (unit_zero_lem g.R.Reach.own s u) ∙ sym c.is_zero_from.ensures ∙ c.if-not-is_zero_from.false)
    (sym c.unkept.ensures ∙ c.if-unkept.true)

pub column-column-requires : goal.column-column-requires
column-column-requires g c =
    sym c.unkept.ensures ∙ c.if-unkept.false

pub returns-in_err-n : goal.returns-in_err-n
returns-in_err-n g c =
    let s = c.args.unit.store.now in
    let u = c.args.unit.number in
    let own = g.R.Reach.own in
    let list = c.column-column.ensures in
    let count = reached own s u c.args.unit.ranged.few c.units.ensures list.1 list.0 list.0 c.reach.ensures in
    c.from_residual.ensures
    ∙ lost_keys own s u (sym (unit_zero_lem own s u) ∙ sym c.is_zero_from.ensures ∙ c.if-not-is_zero_from.false)
    (sym c.unkept.ensures ∙ c.if-unkept.false) (sym c.in_err-n.was ∙ count)

pub overflow_cast-result : goal.overflow_cast-result
overflow_cast-result g c =
    let s = c.args.unit.store.now in
    let u = c.args.unit.number in
    let own = g.R.Reach.own in
    let list = c.column-column.ensures in
    let count = reached own s u c.args.unit.ranged.few c.units.ensures list.1 list.0 list.0 c.reach.ensures in
    let told = some_told (Passes own s u (column_keys s u) (column_keys s u)) (fill_of (byte s 5) (column_keys s u)) (sym c.in_ok-n.was ∙ count) in
    omega (arith, told.1, fill_most (byte s 5) (column_keys s u), c.args.unit.ranged.few)

pub returns : goal.returns
returns g c =
    let s = c.args.unit.store.now in
    let u = c.args.unit.number in
    let own = g.R.Reach.own in
    let list = c.column-column.ensures in
    let count = reached own s u c.args.unit.ranged.few c.units.ensures list.1 list.0 list.0 c.reach.ensures in
    lost_keys own s u (sym (unit_zero_lem own s u) ∙ sym c.is_zero_from.ensures ∙ c.if-not-is_zero_from.false)
    (sym c.unkept.ensures ∙ c.if-unkept.false) (sym c.in_ok-n.was ∙ count)
