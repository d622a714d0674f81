-- `splitting::add_next` meets its contract.
use mathlib.Core.Path.{refl, ap, ◌∙◌}
use native.Mathlib.Omega.{arith}
use Rattle.model.specs.Layout.{bytes, view}
use Rattle.model.specs.Changes.{grown}
use Rattle.model.specs.Perform.{granted_in}
use Rattle.model.specs.StoreLaws.{units_of}
use Rattle.splitting.specs.NextUnit.{next_unit}
use Rattle.splitting.proofs.add_next.Goals as goal

pub bounds-s-6 : goal.bounds-s-6
bounds-s-6 c =
    omega (arith, (next_unit _ c.requires.0 refl).0.long)

pub split_pointer-requires : goal.split_pointer-requires
split_pointer-requires c =
    (next_unit _ c.requires.0 refl).1

pub add_unit-requires : goal.add_unit-requires
add_unit-requires c =
    let next = next_unit _ c.requires.0 refl in
    let from = c.split_pointer.ensures in
    (record { sized = next.0; from = from.0; apart = from.1; unit = next.2 }, c.requires.1 ∙ rw (← from.0))

pub returns : goal.returns
unfolding granted_in
returns c =
    let s = c.args.s.now in
    c.add_unit.ensures ∙ ap (λ k. bytes (grown (view s) k)) (units_of s)
