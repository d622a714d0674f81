use Rattle.splitting.proofs.DealLoop.{Dealing}
use Rattle.splitting.proofs.dealing.deal_out.Given as goal

abbrev pub invariant-loop-t : goal.invariant-loop-t
invariant-loop-t l =
    Dealing l.initial.s l.n l.m l.count l.s l.kept l.gone l.t
