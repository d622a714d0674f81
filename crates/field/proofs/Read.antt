-- What a read of the table of products gives: `read`, for any indices that the code has computed.
use mathlib.Core.Path.{◌≡◌, ap₂, ◌∙◌, sym, subst}
use mathlib.Core.List.{List}
use Prim.Native.Nat.{ℕ, ◌+◌, ◌*◌, ◌<◌}
use native.Mathlib.Omega.{arith}
use lib.ListN.{get_or}
use Rattle.algebra.specs.Every.{values_at}
use Rattle.algebra.specs.BinaryLaws.{bound}
use Rattle.field.specs.Gf16.{product}
use Rattle.field.specs.Gf16Laws.{tested}
use Rattle.field.specs.Table.{rule, products}

products_at : (a b : ℕ) → a < 16 → b < 16 → get_or products (a * 16 + b) 0 ≡ product a b
unfolding rule products
products_at a b ha hb = values_at 256 0 rule (a * 16 + b) (omega arith) ∙ ap₂ product (omega arith) (omega arith)

pub read : (l : List ℕ) → l ≡ products → (a b x y : ℕ) → x ≡ a → y ≡ b → a < 16 → b < 16
    → (get_or l (x * 16 + y) 0 ≡ product a b) × (get_or l (x * 16 + y) 0 < 16)
read l e a b x y p q ha hb =
    let f : get_or l (x * 16 + y) 0 ≡ product a b = (λ i. get_or (e i) (p i * 16 + q i) 0) ∙ products_at a b ha hb in
    (f, subst (λ (n : ℕ). n < 16) (sym f) (bound tested a b ha hb))
