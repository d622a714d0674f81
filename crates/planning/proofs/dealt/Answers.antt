-- `planning::dealt` meets its contract.
use Rattle.std.specs.Prelude.{◌≡◌, ◌≤◌, ℕ, List}
use Rattle.std.proofs.Common.{arith}
use Rattle.lookup.specs.Sized.{Sized}
use Rattle.moves.specs.Drafts.{most_moves}
use Rattle.model.specs.Layout.{view}
use Rattle.model.specs.Reads.{fill_in}
use Rattle.model.proofs.ReadLaws.{fill_le}
use Rattle.model.specs.StoreLaws.{size_of}
use Rattle.planning.proofs.Dealing.{dealing_start, dealing_turn, dealing_end, dealt_count}
use Rattle.planning.proofs.dealt.Goals as goal

-- a unit has few enough records for a plan
few : {s : List ℕ} → Sized s → (n : ℕ) {k : ℕ} → k ≡ fill_in (view s) n → k ≤ most_moves
few {s} sized n e = omega (arith, e, fill_le (view s) n, size_of s, sized.ranks)

pub loop-r-init : goal.loop-r-init
loop-r-init c = dealing_start _ _ c.empty-plan.ensures.2

pub key_at-requires : goal.key_at-requires
key_at-requires c =
    let s = c.args.s.now in
    (c.requires.0.sized, omega (arith, c.requires.0.apart, c.requires.0.unit), omega (arith, c.loop-r-test.true, c.requires.2, fill_le (view s) c.args.n, size_of s))

pub push-requires : goal.push-requires
push-requires c =
    let most = few c.requires.0.sized c.args.n c.requires.2 in
    omega (arith, c.loop-r-test.true, most, dealt_count c.loop-r.invariant)

pub loop-r-preserved : goal.loop-r-preserved
loop-r-preserved c =
    dealing_turn c.args.s.now c.requires.1 c.requires.0.from c.key_at.ensures c.unit_of.ensures.0
    c.loop-r-test.true c.loop-r.invariant c.move_of.ensures c.push.ensures.moves c.from-leaving.ensures

pub returns : goal.returns
returns c = dealing_end c.args.s.now c.requires.1 c.requires.0.from c.requires.2 c.loop-r-test.false c.loop-r.invariant
