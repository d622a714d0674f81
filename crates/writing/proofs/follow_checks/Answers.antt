-- `writing::follow_checks` meets its contract.
use native.Mathlib.Nat.{add-sub_cancel_left}
use mathlib.Core.Path.{refl, ◌∙◌}
use borrow.Author.Rules.{rules}
use Rattle.buffer.specs.Bytes.{part, splice}
use Rattle.writing.proofs.Following.{following_start, following_on, following_off}
use Rattle.writing.proofs.follow_checks.Goals as goal
use Rattle.writing.proofs.follow_checks.Goals.{then-s-from-eq-IN_SERVICE, else-s-from-eq-IN_SERVICE}

pub loop-j-init : goal.loop-j-init
loop-j-init c =
    following_start _ _ _ _ _ c.requires (search (rules, c.well_formed.1.1.1.0)) (search (rules, c.well_formed.1.1.1.1.0))

pub loop-j-preserved : goal.loop-j-preserved
unfolding part splice
loop-j-preserved c =
    let key = c.well_formed.1.1.1.0 in
    let change = c.well_formed.1.1.1.1.0 in
    elim c.if-s-from-eq-IN_SERVICE.branch [
      | then-s-from-eq-IN_SERVICE w ↦
          following_on _ _ _ _ _ c.requires (search (rules, key)) (search (rules, change)) _ _ c.loop-j.invariant (search rules) _ _ _
          (rw c.from.ensures at w.if-s-from-eq-IN_SERVICE.true) refl w.check_at-at.ensures.0 (w.s-is ∙ rw w.follow.ensures (simp add-sub_cancel_left))
      | else-s-from-eq-IN_SERVICE w ↦ rw w.s-is (following_off _ _ _ _ _ c.requires (search (rules, key)) (search (rules, change)) _ _ c.loop-j.invariant (search rules)
          (rw c.from.ensures at w.if-s-from-eq-IN_SERVICE.false))
    ]
