-- `coder::sums::Weighted::pick_digit` meets its contract.
use mathlib.Core.Path.{◌≡◌, ap, ◌∙◌}
use mathlib.Core.List.{List}
use Prim.Native.Nat.{ℕ}
use native.Mathlib.Omega.{arith}
use lib.ListN.{length, replicate}
use borrow.Author.Rules.{rules}
use Rattle.buffer.specs.Bytes.{splice}
use Rattle.buffer.specs.SpliceLaws.{put_lent, length_lent}
use Rattle.coder.specs.Sums.{room_for_places}
use Rattle.coder.proofs.Picking.{picking_start, picking_room, picking_turn, picking_end}
use Rattle.coder.proofs.sums.Weighted.pick_digit.Goals as goal

pub loop-i-init : goal.loop-i-init
loop-i-init c =
    let long : length c.args.places.now ≡ room_for_places = omega arith in
    picking_start _ _ _ _ _ _ _ long

pub loop-i-preserved : goal.loop-i-preserved
loop-i-preserved c =
    let self = c.args.self.now in
    picking_turn _ _ _ _ _ _ _ _ _ c.loop-i.invariant c.loop-i-test.true self.points.now.group self.placed _ c.place.ensures.0 _
    (c.from-k.ensures ∙ c.digit.ensures)

pub returns : goal.returns
returns c =
    let self = c.args.self.now in
    let places : List ℕ = c.loop-i.places in
    let k : ℕ = c.loop-i.k in
    let four : c.fill.new.self ≡ replicate 4 self.none =
    c.fill.ensures.after (search rules) ∙ ap (λ (n : ℕ). replicate n self.none) (length_lent places k 4 (picking_room c.loop-i.invariant self.points.now.group)) in
    picking_end _ _ _ _ _ _ _ _ _ _ c.loop-i.invariant c.loop-i-test.false self.points.now.group _
    (put_lent places c.fill.new.self k 4 ∙ ap (λ (x : List ℕ). splice k 4 x places) four)
