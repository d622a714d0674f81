use Rattle.std.proofs.Common.{◌≡◌, ◌+◌, ◌*◌}
use Rattle.model.specs.Layout.{bytes, view}
use Rattle.splitting.specs.Steps.{levelled}
use Rattle.splitting.proofs.Places.{before}
use Rattle.splitting.proofs.states.set_checks.Given as goal

abbrev pub invariant-loop-j : goal.invariant-loop-j
invariant-loop-j l =
    l.s ≡ bytes (levelled (before l.g (3 * l.g + l.j)) l.level (view l.initial.s))
