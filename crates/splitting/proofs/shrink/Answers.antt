-- `splitting::shrink` meets its contract.
use mathlib.Core.Path.{◌≡◌, refl, ap, ◌∙◌}
use native.Mathlib.Omega.{arith}
use Prim.Native.Nat.{pred, ◌+◌}
use borrow.Author.Tests.{eqb-false}
use Rattle.std.proofs.lemmas.Result.{err_from_is_err_and}
use Rattle.refusal.specs.NumberLaws as law
use Rattle.model.specs.Layout.{bytes, view}
use Rattle.model.specs.Changes.{shrunk}
use Rattle.model.specs.Perform.{granted_in}
use Rattle.model.specs.PerformLaws.{of_shrink, refused, granted}
use Rattle.model.specs.StoreLaws.{units_of}
use Rattle.splitting.proofs.shrink.Goals as goal

pub returns-in_err-merge : goal.returns-in_err-merge
returns-in_err-merge c =
    let p = err_from_is_err_and c.from_residual.result c.from_residual.ensures.1 in
    rw (p.1, p.2) (refused _ of_shrink refl c.in_err-merge.ensures.number (eqb-false _ 0 (law.refused _)))

pub returns : goal.returns
unfolding granted_in
returns c =
    let s = c.args.s.now in
    let found = c.in_ok-merge.ensures.units in
    let last : c.in_ok-merge.merge.last ≡ pred (c.in_ok-merge.merge.last + 1) = omega arith in
    granted s of_shrink refl c.in_ok-merge.ensures.number refl (c.remove_unit.ensures ∙ ap (λ k. bytes (shrunk (view s) k)) (last ∙ ap pred (found.2 ∙ units_of s)))
