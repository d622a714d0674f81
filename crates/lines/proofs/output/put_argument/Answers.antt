-- `output::put_argument` meets its contract.
use Prim.Native.Nat.{◌+◌, ◌*◌, ◌-◌}
use mathlib.Core.Path.{◌≡◌, refl}
use native.Mathlib.Omega.{arith}
use lib.ListN.{length}
use Rattle.buffer.specs.Bytes.{splice}
use Rattle.buffer.specs.SpliceLaws.{length_splice}
use Rattle.lines.specs.DigitLaws.{length_hex_bytes}
use Rattle.lines.proofs.Writing.{argument_put_lem}
use Rattle.lines.proofs.output.put_argument.Goals as goal

pub returns : goal.returns
unfolding splice
returns c =
    let p = c.put_bytes in
    let a = c.args in
    let n = length a.from.now in
    let size : a.at + 2 * n - a.at ≡ 2 * n = omega arith in
    argument_put_lem
    a.line.now
    a.from.now
    p.new.into
    a.at
    (a.at + 2 * n - a.at)
    (a.at + 2 * n)
    a.behind
    size
    refl
    p.ensures
    c.requires
    (length_splice a.at (a.at + 2 * n - a.at) p.new.into a.line.now (omega arith) (rw (p.ensures, size) (length_hex_bytes n a.from.now)))
