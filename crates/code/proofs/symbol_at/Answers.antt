-- `code::symbol_at` meets its contract: the weights of the columns at place q, applied to the symbols.
use Rattle.code.proofs.Rebuilding.{accepted_within, accepted_symbols}
use Rattle.code.proofs.symbol_at.Goals as goal

pub weights-requires : goal.weights-requires
weights-requires c =
    (accepted_within c.args.columns c.args.symbols c.requires.0, c.requires.1)

pub combine-requires : goal.combine-requires
combine-requires c =
    (c.weights.ensures.1, accepted_symbols c.args.columns c.args.symbols c.requires.0)
