-- `field256::Logarithms::log` meets its contract.
use mathlib.Core.Path.{◌≡◌, sym, ◌∙◌, subst}
use Prim.Native.Nat.{ℕ, ◌<◌}
use native.Mathlib.Omega.{arith}
use borrow.Author.Rules.{rules}
use Rattle.field256.specs.Powers.{order, logarithm}
use Rattle.field256.specs.PowersLaws.{log_low, log_read}
use Rattle.field256.proofs.Logarithms.log.Goals as goal

pub returns : goal.returns
returns c =
    let a : ℕ = c.args.a in
    let low : a < 256 = search rules in
    let some : a ≡ 0 → ⊥ = λ e. omega arith in
    let read : c.from-2.result ≡ logarithm a = c.from-2.ensures ∙ log_read _ c.args.self.now.are a _ (omega arith) low in
    (read, subst (λ (n : ℕ). n < order) (sym read) (log_low a low some))
