-- `splitting::making::clear_unit` meets its contract.
use mathlib.Core.Path.{refl, ap, ◌∙◌}
use native.Mathlib.Omega.{arith}
use lib.ListN.{length}
use Prim.Native.Nat.{ℕ, ◌+◌, ◌-◌, ◌≤◌}
use Rattle.buffer.specs.Bytes.{zeros, part, splice}
use Rattle.buffer.specs.SpliceLaws.{length_part}
use Rattle.splitting.proofs.Places.{check_unit_end, clear_check}
use Rattle.splitting.proofs.making.clear_unit.Goals as goal

pub returns : goal.returns
unfolding part splice
returns c =
    let n : ℕ = c.check_at-to.result - c.check_at-from.result in
    let room : c.check_at-from.result + n ≤ length c.args.s.now =
    omega (arith, check_unit_end c.args.s.now c.args.c c.requires.0 c.requires.1, c.check_at-to.ensures.0, c.check_at-from.ensures.0) in
    clear_check c.args.s.now _ _ c.check_at-from.result c.check_at-to.result n c.args.c c.requires.0 refl c.check_at-from.ensures.0
    c.check_at-to.ensures.0 refl c.requires.1
    (rw (c.clear.ensures ∙ ap zeros (length_part c.check_at-from.result n c.args.s.now room)) refl)
