-- `lookup::rebuild_field` meets its contract.
use mathlib.Core.Path.{◌≡◌, sym, ap, ◌∙◌}
use Prim.Native.Nat.{ℕ, ◌<◌}
use native.Mathlib.Omega.{arith}
use lib.ListN.{length, get_or}
use Rattle.model.specs.Layout.{view}
use Rattle.model.specs.Reads.{holds}
use Rattle.lookup.specs.SlotLaws.{length_holds, weighed_held}
use Rattle.lookup.proofs.rebuild_field.Goals as goal

pub rebuild_body-requires : goal.rebuild_body-requires
rebuild_body-requires c =
    let p = c.requires in
    let long : (i : ℕ) → i < 4
    → length (holds (view c.args.s.now) c.args.g c.args.r (get_or c.args.decoder.members i 0)) ≡ length c.args.out.now =
    λ i l. length_holds p.1 c.args.g c.args.r (get_or c.args.decoder.members i 0) p.2 p.3 (p.4 i l) ∙ sym p.0 in (
      ap length c.held-a.ensures.bytes ∙ long 0 (omega arith),
      ap length c.held-b.ensures.bytes ∙ long 1 (omega arith),
      ap length c.held-c.ensures.bytes ∙ long 2 (omega arith),
      ap length c.held-d.ensures.bytes ∙ long 3 (omega arith),
      p.5,
    )

pub returns : goal.returns
returns c =
    c.rebuild_body.ensures
    ∙ weighed_held _ _ _ _ _ (λ i. holds (view c.args.s.now) c.args.g c.args.r (get_or c.args.decoder.members i 0)) c.held-a.ensures.bytes
    c.held-b.ensures.bytes c.held-c.ensures.bytes c.held-d.ensures.bytes
