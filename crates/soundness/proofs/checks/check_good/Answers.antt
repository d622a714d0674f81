-- `soundness::checks::check_good` meets its contract.
use Prim.Native.Nat.{◌+◌}
use mathlib.Core.Path.{refl, sym, ap, ◌∙◌}
use native.Mathlib.Omega.{arith}
use Rattle.buffer.specs.Choice.{pick}
use Rattle.buffer.specs.Bytes.{byte}
use Rattle.buffer.specs.TestLaws.{is_eq, is_ne}
use Rattle.soundness.specs.Pieces.{same_as_first, check_good}
use Rattle.soundness.proofs.Endings.{check_place, first_check_before, check_unit_zero, check_unit_same}
use Rattle.soundness.proofs.checks.check_good.Goals as goal

pub returns-then-s-from-ne-IN_SERVICE : goal.returns-then-s-from-ne-IN_SERVICE
unfolding check_good pick
returns-then-s-from-ne-IN_SERVICE c =
    let s = c.args.header.store.now in
    let state = ap (λ i. byte s (24 + i)) c.from.ensures in
    rw (is_ne state refl c.if-s-from-ne-IN_SERVICE.true)
    (check_unit_zero s c.args.c (c.from-w.ensures ∙ c.size-b.ensures) (check_place s _ c.size-b.ensures refl c.checks_at-at.ensures.0) c.zero_between.ensures)

pub returns-then-k-c : goal.returns-then-k-c
unfolding check_good same_as_first pick
returns-then-k-c c =
    let state = ap (λ i. byte c.args.header.store.now (24 + i)) c.from.ensures in
    rw (is_eq state refl c.if-s-from-ne-IN_SERVICE.false, is_eq c.first_check-k.ensures refl c.if-k-c.true)

pub checks_at-requires : goal.checks_at-requires
checks_at-requires c =
    let s = c.args.header.store.now in
    let state = ap (λ i. byte s (24 + i)) c.from.ensures in
    omega (arith, c.first_check-k.ensures, first_check_before s c.args.c (sym state ∙ c.if-s-from-ne-IN_SERVICE.false))

pub returns : goal.returns
unfolding check_good same_as_first pick
returns c =
    let s = c.args.header.store.now in
    let state = ap (λ i. byte s (24 + i)) c.from.ensures in
    let first_check = c.first_check-k.ensures in
    rw (is_eq state refl c.if-s-from-ne-IN_SERVICE.false, is_ne first_check refl c.if-k-c.false)
    (check_unit_same s c.args.c (c.from-w.ensures ∙ c.size-b.ensures) (check_place s _ c.size-b.ensures refl c.checks_at-at.ensures.0) first_check
    (check_place s _ c.size-b.ensures refl c.checks_at.ensures.0) c.same_lists.ensures)
