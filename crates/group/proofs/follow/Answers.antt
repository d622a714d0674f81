-- `group::follow` meets its contract.
use mathlib.Core.Path.{ap, ◌∙◌}
use Prim.Native.Nat.{◌+◌, ◌*◌, ◌-◌}
use native.Mathlib.Omega.{arith}
use borrow.Author.Rules.{rules}
use Rattle.buffer.specs.Bytes.{part, splice}
use Rattle.group.specs.Widths.{field_bytes}
use Rattle.group.specs.Body.{add_body, scale_body}
use Rattle.group.proofs.FollowLaws.{patched_steps}
use Rattle.group.proofs.follow.Goals as goal

pub returns : goal.returns
unfolding part splice
returns c =
    let a = c.args in
    let at = 4 * c.from-at.result in
    patched_steps
    field_bytes
    a.check
    a.place
    c.requires.2
    a.key
    a.change
    a.into.now
    (search (rules, c.well_formed.1.1.1.0))
    c.requires.0
    at
    (at + 4 - at)
    field_bytes
    c.copy_from_slice.new.self
    c.add_scaled.new.parity
    (ap (λ p. 4 * p) c.from-at.ensures)
    (omega arith)
    (omega arith)
    c.copy_from_slice.ensures.after
    (c.add_scaled.ensures ∙ ap (λ k. add_body (part 16 field_bytes (splice at (at + 4 - at) c.copy_from_slice.new.self a.into.now)) (scale_body k a.change))
    c.coefficient.ensures.0)
