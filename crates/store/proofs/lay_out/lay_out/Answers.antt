-- `lay_out::lay_out` meets its contract.
use Prim.Native.Nat.{ℕ, ◌-◌}
use mathlib.Core.Path.{sym, ap, ◌∙◌}
use native.Mathlib.Omega.{arith}
use borrow.Author.Rules.{rules}
use Rattle.buffer.specs.Bytes.{zeros, part, splice}
use Rattle.buffer.specs.SpliceLaws.{length_part}
use Rattle.model.specs.Layout.{header_bytes}
use Rattle.model.specs.GrantedLayout.{layout_granted}
use Rattle.store.proofs.Layouts.{refused, granted, laid}
use Rattle.store.proofs.lay_out.lay_out.Goals as goal

pub returns-in_err-size : goal.returns-in_err-size
returns-in_err-size c =
    search (rules, refused c.args.s.now c.args.b c.in_err-size.field-0.0 c.in_err-size.ensures.verdict)

pub slice_bounds-clear-end : goal.slice_bounds-clear-end
slice_bounds-clear-end c =
    let g = layout_granted c.args.s.now c.args.b (sym c.in_ok-size.ensures.verdict) in
    omega (arith, g.long, c.in_ok-size.ensures.size)

pub header-requires : goal.header-requires
header-requires c =
    (layout_granted c.args.s.now c.args.b (sym c.in_ok-size.ensures.verdict)).most

pub slice_bounds-copy_from_slice-end : goal.slice_bounds-copy_from_slice-end
slice_bounds-copy_from_slice-end c =
    let g = layout_granted c.args.s.now c.args.b (sym c.in_ok-size.ensures.verdict) in
    omega (arith, g.long, c.in_ok-size.ensures.size, c.s-1.given)

pub returns : goal.returns
unfolding part splice
returns c =
    let a = c.args in
    let g = layout_granted a.s.now a.b (sym c.in_ok-size.ensures.verdict) in
    let n : ℕ = c.in_ok-size.size - header_bytes in
    granted _ _ _ c.in_ok-size.ensures.verdict
    (laid a.s.now _ _ a.b n g.long (omega (arith, c.in_ok-size.ensures.size))
    (c.clear.ensures ∙ ap zeros (length_part header_bytes n a.s.now (omega (arith, g.long, c.in_ok-size.ensures.size))))
    (c.copy_from_slice.ensures.after ∙ c.header.ensures))
