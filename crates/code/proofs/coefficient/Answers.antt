-- `code::coefficient` meets its contract: the constant is the matrix, compared whole.
use mathlib.Core.Path.{refl}
use Rattle.code.specs.Matrix.{entry, matrix}
use Rattle.code.specs.MatrixLaws.{entry_bound}
use Rattle.code.proofs.coefficient.Goals as goal

pub returns : goal.returns
unfolding entry matrix
returns c =
    (refl, entry_bound c.args.place c.args.column c.requires.0 c.requires.1)
