-- `code::weights` meets its contract: four weights, each with the other three columns in the definition's order.
use mathlib.Core.Path.{ap, ◌∙◌}
use mathlib.Core.List.{List}
use Prim.Native.Nat.{ℕ}
use Rattle.code.specs.Matrix.{within}
use Rattle.code.specs.Weights.{weights_of}
use Rattle.code.proofs.WeightsLaws.{weights_within}
use Rattle.code.proofs.Sums.{four_path}
use Rattle.code.proofs.weights.Goals as goal

pub returns : goal.returns
unfolding weights_of
returns c =
    let e =
    four_path c.weight.ensures.0 c.weight-2.ensures.0 c.weight-3.ensures.0
    c.weight-4.ensures.0 in
    (e, ap (λ (l : List ℕ). within 15 l) e ∙ weights_within c.args.columns c.args.q)
