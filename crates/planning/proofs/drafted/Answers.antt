-- `planning::drafted` meets its contract. What is known at a place is said once, and the needs behind it use it.
use Rattle.std.specs.Prelude.{ℕ, List}
use Rattle.std.proofs.Common.{sym, ap, ◌∙◌}
use Rattle.model.specs.Units.{split_pointer}
use Rattle.model.specs.Layout.{view}
use Rattle.model.specs.Reads.{fill_in}
use Rattle.splitting.specs.NextUnit.{next_unit}
use Rattle.planning.proofs.drafted.Goals as goal

pub split_pointer-requires : goal.split_pointer-requires
split_pointer-requires c = (next_unit c.args.s.now (sym c.in_ok-count.ensures.number) c.byte_at-m.ensures).1

pub dealt-requires : goal.dealt-requires
dealt-requires c =
    let store : List ℕ = c.args.s.now in
    let next = next_unit store (sym c.in_ok-count.ensures.number) c.byte_at-m.ensures in
    let from = c.split_pointer.ensures in (
      record { sized = next.0; from = from.0; apart = from.1; unit = next.2 },
      c.byte_at-m.ensures,
      c.in_ok-count.ensures.records ∙ ap (fill_in (view store)) (sym (from.0 ∙ ap split_pointer c.byte_at-m.ensures)),
    )
