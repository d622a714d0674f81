-- `coder::marks::Points::first_present` meets its contract.
use mathlib.Core.Path.{◌≡◌, refl}
use native.Mathlib.Omega.{arith}
use lib.ListN.{length}
use borrow.Author.Tests.{eq-eqb, ne_eqb}
use Rattle.coder.proofs.Choices.{choosing_start, choosing_skip, choosing_full, choosing_add, choosing_end}
use Rattle.coder.proofs.Rebuilding.{points_small}
use Rattle.coder.proofs.marks.Points.first_present.Goals as goal
use Rattle.coder.proofs.marks.Points.first_present.Goals.{then-mark-eq1, then-seen-m, else-seen-m, else-mark-eq1}

pub loop-c-init : goal.loop-c-init
loop-c-init c = choosing_start refl

pub loop-c-preserved : goal.loop-c-preserved
loop-c-preserved c =
    let inv = c.loop-c.invariant in
    elim c.if-mark-eq1.branch [
      | then-mark-eq1 w ↦ rw w.seen-is
          (elim w.if-seen-m.branch [
            | then-seen-m v ↦ rw (w.list-is, v.list-is) (choosing_add inv _ (eq-eqb _ _ w.if-mark-eq1.true) v.if-seen-m.true c.requires.0 refl)
            | else-seen-m v ↦ rw (w.list-is, v.list-is) (choosing_full inv (eq-eqb _ _ w.if-mark-eq1.true) v.if-seen-m.false)
          ])
      | else-mark-eq1 w ↦ rw (w.list-is, w.seen-is) (choosing_skip inv (ne_eqb _ _ w.if-mark-eq1.false))
    ]

pub returns-else-seen-m-2-clause-found : goal.returns-else-seen-m-2-clause-found
returns-else-seen-m-2-clause-found c =
    let all : c.loop-c.c ≡ length c.args.marks.now = omega arith in
    (refl, choosing_end c.loop-c.invariant all c.requires.0 c.if-seen-m-2.false)

pub invariant_of-result : goal.invariant_of-result
invariant_of-result c =
    let all : c.loop-c.c ≡ length c.args.marks.now = omega arith in
    let few = c.requires.0 in
    record {
      group = few;
      small = points_small _ _ _ (omega (arith, c.loop-c.invariant.long)) (choosing_end c.loop-c.invariant all few c.if-seen-m-2.false) c.requires.1;
    }
