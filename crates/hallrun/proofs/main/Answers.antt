-- `main` lends the buffers that the program's definition names: the store's, all zero, and the text's.
use mathlib.Core.Path.{refl}
use borrow.Author.Rules.{rules}
use Rattle.buffer.specs.Bytes.{zeros}
use Rattle.answering.specs.Said.{blank}
use Rattle.hallrun.proofs.main.Goals as goal

pub answer_input-requires : goal.answer_input-requires
unfolding blank zeros
answer_input-requires c =
    (refl, search rules, search rules, search rules, search rules)
