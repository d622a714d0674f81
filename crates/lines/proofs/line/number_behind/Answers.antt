-- `line::number_behind` meets its contract.
use Rattle.lines.proofs.Parsing.{number_spaced}
use Rattle.lines.proofs.line.number_behind.Goals as goal

pub returns : goal.returns
returns c =
    let spaced = c.in_ok-behind_space.ensures in
    number_spaced c.number.result spaced.0 spaced.1 c.number.ensures
