-- Document 01: "Products are looked up in a table of 256 entries, whose rule is shown over the whole table." The product of a and b stands at 16a + b;
-- `products` is the list of what the rule gives, with which the constant of the code is compared, whole.
use Rattle.std.specs.Prelude.{List, ℕ, ◌/◌, ◌%◌}
use Rattle.algebra.specs.Every.{values}
use Rattle.field.specs.Gf16.{product}

unfoldable pub rule : ℕ → ℕ
rule k = product (k / 16) (k % 16)

unfoldable pub products : List ℕ
products = values 256 0 rule
