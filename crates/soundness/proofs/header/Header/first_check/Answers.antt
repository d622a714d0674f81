-- `soundness::header::Header::first_check` meets its contract.
use Rattle.soundness.proofs.Endings.{found_at}
use Rattle.soundness.proofs.header.Header.first_check.Goals as goal

pub returns : goal.returns
returns c =
    found_at _ _ c.args.self.now.found c.from.ensures c.requires
