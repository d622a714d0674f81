-- `encoding::make_rank` meets its contract.
use native.Mathlib.Omega.{arith}
use Prim.Native.Nat.{◌+◌, ◌*◌}
use Rattle.model.specs.Layout.{view}
use Rattle.encoding.proofs.Records.{record_parts, next_put, first_put, second_put, all_put}
use Rattle.encoding.proofs.make_rank.Goals as goal

pub put_serving-requires : goal.put_serving-requires
put_serving-requires c =
    let g = c.args.g in
    let h = c.requires in (
      record { long = h.long; unit = omega (arith, h.group); rank = h.rank },
      record_parts (view c.args.s.now) g c.args.r (3 * g) 0 _ _ (omega arith) (omega arith) c.keys_of_rank-keys.ensures c.fill_parities.ensures.0,
    )

pub put_serving-requires-2 : goal.put_serving-requires-2
put_serving-requires-2 c =
    let g = c.args.g in
    next_put c.requires (first_put c.requires c.put_serving.ensures) (3 * g + 1) (omega (arith, c.requires.group))
    (record_parts (view c.args.s.now) g c.args.r (3 * g + 1) 1 _ _ (omega arith) (omega arith) c.keys_of_rank-keys.ensures c.fill_parities.ensures.1)

pub put_serving-requires-3 : goal.put_serving-requires-3
put_serving-requires-3 c =
    let g = c.args.g in
    next_put c.requires (second_put c.requires c.put_serving.ensures c.put_serving-2.ensures) (3 * g + 2) (omega (arith, c.requires.group))
    (record_parts (view c.args.s.now) g c.args.r (3 * g + 2) 2 _ _ (omega arith) (omega arith) c.keys_of_rank-keys.ensures c.fill_parities.ensures.2)

pub returns : goal.returns
returns c =
    all_put c.requires c.put_serving.ensures c.put_serving-2.ensures c.put_serving-3.ensures
