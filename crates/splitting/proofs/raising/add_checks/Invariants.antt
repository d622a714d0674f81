use Rattle.splitting.proofs.Raised.{Adding}
use Rattle.splitting.proofs.raising.add_checks.Given as goal

abbrev pub invariant-loop-g : goal.invariant-loop-g
invariant-loop-g l =
    Adding l.initial.s l.m l.k l.s l.g
