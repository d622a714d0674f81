use lib.Bits.{bit_xor}
use lib.Dec.{eqb}
use mathlib.Core.Bool.{not}
use Rattle.buffer.specs.Choice.{pick}
use Rattle.buffer.specs.Bytes.{byte}
use Rattle.buffer.specs.LoopWrites.{Filling}
use Rattle.field256.specs.Gf256.{product}
use Rattle.coder.specs.Sums.{four_bytes}
use Rattle.coder.proofs.sums.Weighted.add_four.Given as goal

abbrev pub invariant-loop-j : goal.invariant-loop-j
invariant-loop-j g l =
    Filling
    (λ k. bit_xor (pick (not (eqb g.row.DOUBLED 0)) (product 2 (byte l.initial.acc k)) (byte l.initial.acc k)) (four_bytes l.s l.a l.b l.c l.d k))
    l.initial.acc l.acc l.j
