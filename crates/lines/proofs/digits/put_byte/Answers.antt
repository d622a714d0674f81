-- `digits::put_byte` meets its contract.
use mathlib.Core.Path.{◌∙◌}
use mathlib.Core.List.{[], ◌∷◌}
use native.Mathlib.Omega.{arith}
use lib.ListN.{drop_of_length-le}
use lib.Seq.{sets-eq}
use Rattle.lines.specs.Digits.{hex}
use Rattle.lines.proofs.digits.put_byte.Goals as goal

pub returns : goal.returns
unfolding hex
returns c =
    let s = c.args.into.now in
    sets-eq (c.digit_byte.result ∷ c.digit_byte-2.result ∷ []) s 0 (omega arith)
    ∙ rw (drop_of_length-le s {i = 2} (omega arith), c.digit_byte.ensures, c.digit_byte-2.ensures)
