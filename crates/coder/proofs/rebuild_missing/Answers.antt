-- `coder::rebuild_missing` meets its contract.
use mathlib.Core.Path.{refl, sym, ap, ◌∙◌, subst}
use Prim.Native.Nat.{ℕ, ◌≤◌, ◌<◌}
use native.Mathlib.Omega.{arith}
use lib.ListN.{length}
use Rattle.coder.specs.Segment.{longest_member}
use Rattle.coder.proofs.Rebuilding.{rebuilding_start, members_whole, member_fits, absent}
use Rattle.coder.proofs.Rebuilding.{turn_missing, turn_present, rebuilding_end}
use Rattle.coder.proofs.Rebuilding.{points_distinct, points_away, points_placed}
use Rattle.coder.proofs.rebuild_missing.Goals as goal
use Rattle.coder.proofs.rebuild_missing.Goals.{then-marks-c-ne1, else-marks-c-ne1}

pub loop-c-init : goal.loop-c-init
loop-c-init c =
    rebuilding_start _ _ _ _ c.requires.2 _ refl

pub rebuild_member-requires : goal.rebuild_member-requires
rebuild_member-requires c =
    let inv = c.loop-c.invariant in
    let asked = c.requires in
    let ps = c.args.lagrange.now.points.now in
    let under : c.loop-c.c < length c.loop-c.marks = omega arith in
    let lost = absent _ _ _ _ asked.2 inv under c.if-marks-c-ne1.true in (
      subst (λ (n : ℕ). n ≤ longest_member) (sym inv.width) asked.0,
      points_placed _ _ _ ps.small.long asked.3 _ _ (members_whole _ _ _ _ asked.2 inv),
      points_away _ _ _ ps.small.long asked.3 _ lost,
      points_distinct _ _ _ ps.small.long asked.3,
      member_fits _ _ _ _ asked.2 inv under,
    )

pub loop-c-preserved : goal.loop-c-preserved
loop-c-preserved c =
    let asked = c.requires in
    let inv = c.loop-c.invariant in
    let under : c.loop-c.c < length c.loop-c.marks = omega arith in
    elim c.if-marks-c-ne1.branch [
      | then-marks-c-ne1 w ↦ turn_missing _ _ _ _ asked.2 inv under _ _ _ asked.3 w.if-marks-c-ne1.true
          (ap length w.scratch-is ∙ w.rebuild_member.auto.scratch) (w.members-is ∙ w.rebuild_member.ensures)
      | else-marks-c-ne1 w ↦ turn_present _ _ _ _ asked.2 inv under _ _ w.if-marks-c-ne1.false w.members-is w.scratch-is
    ]

pub returns : goal.returns
returns c =
    rebuilding_end _ _ _ _ c.requires.2 c.loop-c.invariant (omega arith)
