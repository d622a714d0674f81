-- `splitting::dealing::clear_from` meets its contract.
use mathlib.Core.Path.{refl, ap, ◌∙◌}
use native.Mathlib.Omega.{arith}
use lib.ListN.{length}
use Prim.Native.Nat.{ℕ, ◌+◌, ◌-◌, ◌≤◌}
use Rattle.buffer.specs.Bytes.{zeros, part, splice}
use Rattle.buffer.specs.SpliceLaws.{length_part}
use Rattle.splitting.proofs.Places.{unit_end, clear_from}
use Rattle.splitting.proofs.dealing.clear_from.Goals as goal

pub returns : goal.returns
unfolding part splice
returns c =
    let n : ℕ = c.slot_at-to.result - c.slot_at-from.result in
    let room : c.slot_at-from.result + n ≤ length c.args.s.now =
    omega (arith, unit_end c.args.s.now c.args.u c.requires.0 c.requires.1, c.slot_at-to.ensures.0, c.slot_at-from.ensures.0) in
    clear_from c.args.s.now _ _ c.slot_at-from.result c.slot_at-to.result n c.args.u c.args.q c.requires.0 refl
    c.slot_at-from.ensures.0 c.slot_at-to.ensures.0 refl c.requires.1 c.requires.2
    (rw (c.clear.ensures ∙ ap zeros (length_part c.slot_at-from.result n c.args.s.now room)) refl)
