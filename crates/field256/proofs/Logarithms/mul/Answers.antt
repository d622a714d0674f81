-- `field256::Logarithms::mul` meets its contract: 0 by itself, which has no logarithm; any other product is the power of the sum of the logarithms.
use mathlib.Core.Logic.{inl, inr}
use mathlib.Core.Path.{sym, ap, ap₂, ◌∙◌}
use Prim.Native.Nat.{ℕ, ◌+◌}
use borrow.Author.Rules.{rules}
use Rattle.algebra.specs.BinaryLinear.{product_zero, zero_product}
use Rattle.field256.specs.Gf256.{product}
use Rattle.field256.specs.Powers.{power, logarithm}
use Rattle.field256.specs.PowersLaws.{power_mod, product_log}
use Rattle.field256.proofs.Logarithms.mul.Goals as goal

pub returns-then-a-eq0 : goal.returns-then-a-eq0
returns-then-a-eq0 c =
    elim c.then-a-eq0.either [
      | inl e ↦ sym (ap (λ (x : ℕ). product x c.args.b) e ∙ zero_product 8 285 c.args.b)
      | inr n ↦ sym (ap (product c.args.a) n.1 ∙ product_zero 8 285 c.args.a)
    ]

pub returns : goal.returns
returns c =
    let a : ℕ = c.args.a in
    let b : ℕ = c.args.b in
    c.power.ensures ∙ ap₂ (λ (x y : ℕ). power (x + y)) c.log.ensures.0 c.log-2.ensures.0
    ∙ sym (power_mod (logarithm a + logarithm b)) ∙ product_log a b (search rules) (search rules) c.if-a-eq0.false c.if-b-eq0.false
