-- `code::weight` meets its contract: Lagrange's quotient of two products of differences.
use mathlib.Core.Path.{ap, ap₂, ◌∙◌}
use Rattle.field.specs.Gf16.{product}
use Rattle.field.specs.Inverse.{inverse}
use Rattle.code.proofs.Differences.{weight_is}
use Rattle.code.proofs.weight.Goals as goal

pub returns : goal.returns
returns c = (
  c.mul.ensures.0
      ∙ ap₂ product c.gaps.ensures.0 (c.inv.ensures.0 ∙ ap inverse c.gaps-2.ensures.0)
      ∙ weight_is c.args.a c.args.b c.args.c
      c.args.p c.args.q,
  c.mul.ensures.1,
)
