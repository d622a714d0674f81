-- `soundness::units::served` meets its contract.
use mathlib.Core.Path.{ap₂, ◌∙◌}
use native.Mathlib.Omega.{arith}
use Rattle.std.specs.Bool.{then_some}
use Rattle.soundness.specs.Pieces.{data_keys, beside_keys, data_fill, rest_zero}
use Rattle.soundness.proofs.Told.{never, further}
use Rattle.soundness.proofs.Counting.{data_fill_most}
use Rattle.soundness.proofs.UnitCounts.{Passes, served_reached, served_law, rest_zero_lem}
use Rattle.soundness.proofs.units.served.Goals as goal

pub returns-in_err-n : goal.returns-in_err-n
returns-in_err-n g c =
    let s = c.args.unit.store.now in
    let u = c.args.unit.number in
    let own = g.R.Reach.own in
    let count = served_reached own s u c.args.unit.ranged.few c.units.ensures c.slots.ensures.1 c.slots.ensures.0 c.beside.ensures.0 c.reach.ensures in
    c.from_residual.ensures ∙ never (data_fill s u) (Passes own s u (data_keys s u) (beside_keys s u)) (rest_zero s u) (served_law own s u) count c.in_err-n.was

pub is_zero_from-requires : goal.is_zero_from-requires
is_zero_from-requires g c =
    let s = c.args.unit.store.now in
    let u = c.args.unit.number in
    let own = g.R.Reach.own in
    let count = served_reached own s u c.args.unit.ranged.few c.units.ensures c.slots.ensures.1 c.slots.ensures.0 c.beside.ensures.0 c.reach.ensures in
    let told = further (data_fill s u) (Passes own s u (data_keys s u) (beside_keys s u)) (rest_zero s u) (served_law own s u) count c.in_ok-n.was in
    omega (arith, told.0, data_fill_most s u)

pub overflow_cast-n : goal.overflow_cast-n
overflow_cast-n g c =
    let s = c.args.unit.store.now in
    let u = c.args.unit.number in
    let own = g.R.Reach.own in
    let count = served_reached own s u c.args.unit.ranged.few c.units.ensures c.slots.ensures.1 c.slots.ensures.0 c.beside.ensures.0 c.reach.ensures in
    let told = further (data_fill s u) (Passes own s u (data_keys s u) (beside_keys s u)) (rest_zero s u) (served_law own s u) count c.in_ok-n.was in
    omega (arith, told.0, data_fill_most s u, c.args.unit.ranged.few)

pub returns : goal.returns
returns g c =
    let s = c.args.unit.store.now in
    let u = c.args.unit.number in
    let own = g.R.Reach.own in
    let count = served_reached own s u c.args.unit.ranged.few c.units.ensures c.slots.ensures.1 c.slots.ensures.0 c.beside.ensures.0 c.reach.ensures in
    let told = further (data_fill s u) (Passes own s u (data_keys s u) (beside_keys s u)) (rest_zero s u) (served_law own s u) count c.in_ok-n.was in
    c.then_some.ensures ∙ ap₂ then_some (c.is_zero_from.ensures ∙ rest_zero_lem own s u told.0 ∙ told.1) told.0
