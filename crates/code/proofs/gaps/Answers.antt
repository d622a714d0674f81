-- `code::gaps` meets its contract: the product of three differences.
use mathlib.Core.Path.{ap₂, ◌∙◌}
use Rattle.field.specs.Gf16.{product}
use Rattle.code.proofs.Differences.{gaps_are}
use Rattle.code.proofs.gaps.Goals as goal

pub returns : goal.returns
returns c = (
  c.mul-2.ensures.0
      ∙ ap₂ product c.gap.ensures.0
      (c.mul.ensures.0 ∙ ap₂ product c.gap-2.ensures.0 c.gap-3.ensures.0)
      ∙ gaps_are c.args.q c.args.a
      c.args.b c.args.c,
  c.mul-2.ensures.1,
)
