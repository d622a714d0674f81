-- `field::Products::scale` meets its contract: both halves are products by the table.
use mathlib.Core.Path.{ap₂, ◌∙◌}
use Prim.Native.Nat.{ℕ, ◌+◌, ◌*◌, ◌/◌, ◌%◌}
use native.Mathlib.Omega.{arith}
use Rattle.algebra.specs.BinaryLaws.{comm}
use Rattle.field.specs.Gf16Laws.{tested}
use Rattle.field.specs.Byte.{scale}
use borrow.Author.Rules.{rules}
use Rattle.field.proofs.Products.scale.Goals as goal

pub returns : goal.returns
unfolding scale
returns c =
    ap₂ (λ (x y : ℕ). x * 16 + y)
    (c.mul.ensures.0 ∙ comm tested c.args.w (c.args.b / 16) (search rules) (omega arith))
    (c.mul-2.ensures.0 ∙ comm tested c.args.w (c.args.b % 16) (search rules) (omega arith))
