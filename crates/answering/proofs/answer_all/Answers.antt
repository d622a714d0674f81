-- `answer_all` meets its contract.
use Prim.Native.Nat.{◌≤◌, ◌<◌}
use mathlib.Core.Path.{sym}
use native.Mathlib.Omega.{arith}
use lib.ListN.{length}
use lib.Seq.{length-take-le}
use Rattle.answering.proofs.Turns.{reached_start, printed_fits, reached_turn, reached_end}
use Rattle.answering.proofs.answer_all.Goals as goal

pub loop-rest-init : goal.loop-rest-init
loop-rest-init c =
    reached_start

pub slice_bounds-write_all-end : goal.slice_bounds-write_all-end
slice_bounds-write_all-end c =
    let l = c.loop-rest in
    printed_fits l.store l.list l.out _ c.answer-size.ensures

pub slice_bounds-write_all-end-in-loop-rest : goal.slice_bounds-write_all-end-in-loop-rest
slice_bounds-write_all-end-in-loop-rest c =
    let l = c.loop-rest in
    sym (length-take-le c.answer-size.result c.answer-size.new.out (printed_fits l.store l.list l.out _ c.answer-size.ensures))

pub loop-rest-preserved : goal.loop-rest-preserved
loop-rest-preserved c =
    let some : 0 < length c.loop-rest.rest.now = grind arith in
    reached_turn c.loop-rest.invariant some c.first_line.ensures.line c.first_line.ensures.behind c.answer-size.ensures

pub returns : goal.returns
returns c =
    let none : length c.loop-rest.rest.now ≤ 0 = grind arith in
    let end = reached_end c.loop-rest.invariant none in
    record { left = end.0; listed = end.1; output = end.2 }
