-- `moves::agree` meets its contract.
use Rattle.std.proofs.Common.{◌∙◌, ap}
use Rattle.std.proofs.Math.Nat.{sub-zero}
use borrow.Author.Tests.{le-ltb}
use Rattle.moves.specs.Moves.{same_moves}
use Rattle.moves.proofs.MovesLaws.{slices_same}
use Rattle.moves.proofs.agree.Goals as goal

pub returns : goal.returns
returns c =
    let front = c.in-Some.ensures.lookup.0 in
    rw (le-ltb _ _ front.1) (c.eq.ensures ∙ slices_same _ _ ∙ ap (λ ms. same_moves ms c.args.plan.now) (front.2 ∙ rw sub-zero))
