-- `index::writing::remove` meets its contract.
use native.Mathlib.Omega.{arith}
use mathlib.Core.Path.{◌≡◌, ap, ◌∙◌}
use mathlib.Core.List.{List}
use Prim.Native.Nat.{ℕ, ◌+◌, ◌*◌, ◌-◌}
use borrow.Author.Rules.{rules}
use Rattle.buffer.specs.Bytes.{zeros, part, splice}
use Rattle.buffer.specs.SpliceLaws.{put_lent, length_lent}
use Rattle.index.proofs.WriteLaws.{copied, removed_steps}
use Rattle.index.proofs.writing.remove.Goals as goal

pub returns : goal.returns
returns c =
    let a = c.args in
    let p = c.requires in
    let x₁ : List ℕ = c.copy_within.new.self in
    let last : ℕ = 2 + 6 * (a.n - 1) in
    let moved : last + 6 - (2 + 6 * a.i + 6) ≡ last - (2 + 6 * a.i) = omega arith in
    let new : List ℕ = c.clear.new.s in
    removed_steps a.n a.i a.x.now p.0 p.1
    (c.copy_within.ensures.after ∙ copied a.x.now _ _ _ ∙ ap (λ (m : ℕ). splice (2 + 6 * a.i) m (part (2 + 6 * a.i + 6) m a.x.now) a.x.now) moved)
    (put_lent x₁ new last 6
    ∙ ap (λ (y : List ℕ). splice last 6 y x₁) (c.clear.ensures ∙ ap zeros (length_lent x₁ last 6 (search rules))))
    c.put_count.ensures
