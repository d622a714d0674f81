-- `output::put_field` meets its contract.
use native.Mathlib.Omega.{arith}
use lib.ListN.{set, length-set}
use borrow.Author.Rules.{rules}
use Rattle.lines.proofs.Writing.{put_none, put_byte, field_line_lem}
use Rattle.lines.proofs.output.put_field.Goals as goal

pub bounds-out-1 : goal.bounds-out-1
bounds-out-1 c =
    simp length-set (omega arith)

pub put_argument-requires : goal.put_argument-requires
put_argument-requires c =
    simp length-set (omega arith)

pub shape_of-out : goal.shape_of-out
shape_of-out c =
    let o = c.args.out.now in
    omega (arith, c.out-1.given, length-set o 0 48, length-set (set o 0 48) 1 32)

pub returns : goal.returns
returns c =
    let a = c.args in
    field_line_lem a.field.now (put_byte 32 (put_byte 48 (put_none a.out.now) (omega arith)) (simp length-set (omega arith))) (search rules)
    c.put_argument.ensures
