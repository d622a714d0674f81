-- `lookup::key_at` meets its contract.
use mathlib.Core.Path.{ap, ◌∙◌}
use Rattle.buffer.specs.Bytes.{be32}
use Rattle.lookup.specs.KeyLaws.{slot_key}
use Rattle.lookup.proofs.key_at.Goals as goal

pub returns : goal.returns
returns c =
    c.load32.ensures ∙ ap (be32 c.args.s.now) c.slot_at.ensures.0 ∙ slot_key c.args.s.now c.args.u c.args.r
