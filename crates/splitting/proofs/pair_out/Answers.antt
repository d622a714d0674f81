-- `splitting::pair_out` meets its contract.
use mathlib.Core.Path.{refl, ◌∙◌}
use borrow.Author.Tests.{lt-ltb, le-ltb}
use Rattle.splitting.proofs.Rows.{pair_read}
use Rattle.splitting.proofs.pair_out.Goals as goal

pub returns-then-outs-from-gt0 : goal.returns-then-outs-from-gt0
returns-then-outs-from-gt0 c =
    let own = lt-ltb _ _ c.if-outs-from-gt0.true in
    own ∙ rw own at (pair_read c.args.outs c.args.m refl c.from.ensures refl)

pub returns-else-outs-from-gt0 : goal.returns-else-outs-from-gt0
returns-else-outs-from-gt0 c =
    rw (le-ltb _ _ c.if-outs-from-gt0.false) at (pair_read c.args.outs c.args.m c.split_pointer.ensures.0 c.from.ensures c.from-else-outs-from-gt0.ensures)
