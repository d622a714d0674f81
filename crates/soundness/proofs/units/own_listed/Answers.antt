-- `soundness::units::own_listed` meets its contract.
use mathlib.Core.Path.{sym, ◌∙◌}
use mathlib.Core.Bool.{and-true}
use native.Mathlib.Omega.{arith}
use Rattle.soundness.specs.Pieces.{none_behind}
use Rattle.soundness.proofs.Located.{beside_own, beside_listed}
use Rattle.soundness.proofs.Counting.{unit_fill_most}
use Rattle.soundness.proofs.Endings.{column_none}
use Rattle.soundness.proofs.Together.{from_list}
use Rattle.soundness.proofs.units.own_listed.Goals as goal

-- ---- the needs
pub own_keys-requires : goal.own_keys-requires
own_keys-requires c =
    let most = unit_fill_most c.args.unit.store.now c.args.unit.number in
    let ranged = c.args.unit.ranged in (
      omega (arith, c.from-w.ensures, c.slots.ensures.1, c.requires.1, most),
      omega (arith, c.from.ensures, c.requires.2, c.from-w.ensures),
      omega (arith, c.units-m.ensures, ranged.some),
      omega (arith, c.units-m.ensures, ranged.most),
    )

pub returns-then-unkept : goal.returns-then-unkept
unfolding none_behind
returns-then-unkept c =
    let unkept = sym c.unkept.ensures ∙ c.if-unkept.true in
    let own = from_list _ _ (beside_own _ _ unkept c.slots.ensures.0) c.units-m.ensures c.from.ensures c.from-w.ensures c.own_keys.ensures in
    rw unkept (own ∙ sym (and-true _))

pub own_keys-requires-2 : goal.own_keys-requires-2
own_keys-requires-2 c =
    let most = unit_fill_most c.args.unit.store.now c.args.unit.number in
    let ranged = c.args.unit.ranged in (
      omega (arith, c.from-w.ensures, c.column-column.ensures.1, c.requires.1, most),
      omega (arith, c.from-2.ensures, c.requires.2, c.from-w.ensures),
      omega (arith, c.units-m.ensures, ranged.some),
      omega (arith, c.units-m.ensures, ranged.most),
    )

pub no_keys-requires : goal.no_keys-requires
no_keys-requires c =
    let most = unit_fill_most c.args.unit.store.now c.args.unit.number in
    omega (arith, c.from-w.ensures, c.column-column.ensures.1, c.requires.1, most)

pub returns-then-own_keys : goal.returns-then-own_keys
unfolding none_behind
returns-then-own_keys c =
    let unkept = sym c.unkept.ensures ∙ c.if-unkept.false in
    let own = from_list _ _ (beside_listed _ _ unkept c.column-column.ensures.0) c.units-m.ensures c.from-2.ensures c.from-w.ensures c.own_keys-2.ensures in
    rw (sym own ∙ c.if-own_keys.true, unkept)
    (column_none _ _ c.column-column.ensures.1 c.column-column.ensures.0 c.from-w.ensures c.no_keys.ensures)

pub returns-else-own_keys : goal.returns-else-own_keys
returns-else-own_keys c =
    let unkept = sym c.unkept.ensures ∙ c.if-unkept.false in
    let own = from_list _ _ (beside_listed _ _ unkept c.column-column.ensures.0) c.units-m.ensures c.from-2.ensures c.from-w.ensures c.own_keys-2.ensures in
    rw (sym own ∙ c.if-own_keys.false) c.if-own_keys.false
