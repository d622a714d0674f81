-- `field::Products::new` makes the table: one computed test carries the polynomial rule to each entry of the constant.
use mathlib.Core.Path.{refl}
use Rattle.algebra.specs.Binary.{times, remainder, product_in}
use Rattle.algebra.specs.Every.{values}
use Rattle.field.specs.Table.{products, rule}
use Rattle.field.proofs.Products.new.Goals as goal

pub invariant_of-result : goal.invariant_of-result
unfolding products rule values product_in remainder times
invariant_of-result c =
    record { looked_up = refl }
