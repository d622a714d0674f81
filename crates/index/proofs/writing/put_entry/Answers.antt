-- `index::writing::put_entry` meets its contract.
use mathlib.Core.Path.{◌≡◌, ap, ◌∙◌}
use mathlib.Core.List.{List}
use Prim.Native.Nat.{ℕ, ◌+◌}
use native.Mathlib.Omega.{arith}
use borrow.Author.Rules.{rules}
use lib.ListN.{length, set, length-set}
use Rattle.buffer.specs.Bytes.{splice}
use Rattle.buffer.specs.SpliceLaws.{put_lent, length_splice}
use Rattle.buffer.specs.ByteLaws.{length_bytes32}
use Rattle.index.proofs.WriteLaws.{entry_written}
use Rattle.index.proofs.writing.put_entry.Goals as goal

pub bounds-x-at-2 : goal.bounds-x-at-2
bounds-x-at-2 c =
    let a = c.args in
    let new = c.put32.new.s in
    let long : length new ≡ 4 = ap length c.put32.ensures ∙ length_bytes32 a.entry.key in
    simp length-set (omega (arith, ap length (put_lent a.x.now new a.at 4), length_splice a.at 4 new a.x.now (omega arith) long))

pub returns : goal.returns
returns c =
    let a = c.args in
    let new = c.put32.new.s in
    let lent = put_lent a.x.now new a.at 4 ∙ ap (λ (z : List ℕ). splice a.at 4 z a.x.now) c.put32.ensures in
    ap (λ (y : List ℕ). set (set y (a.at + 4) a.entry.unit) (a.at + 5) a.entry.rank) lent
    ∙ entry_written a.x.now a.at a.entry.key a.entry.unit a.entry.rank (search rules)
