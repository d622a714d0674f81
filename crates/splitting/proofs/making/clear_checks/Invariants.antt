use Rattle.std.proofs.Common.{◌≡◌, ◌*◌, ◌≤◌}
use Rattle.model.specs.Layout.{bytes, view}
use Rattle.splitting.specs.Steps.{wiped}
use Rattle.splitting.proofs.Places.{before}
use Rattle.splitting.proofs.making.clear_checks.Given as goal

abbrev pub invariant-loop-c : goal.invariant-loop-c
invariant-loop-c l =
    (l.s ≡ bytes (wiped (before l.g l.c) (view l.initial.s))) × (3 * l.g ≤ l.c)
