-- `index::writing::set_place` meets its contract.
use mathlib.Core.Path.{◌≡◌, ap, ◌∙◌}
use Prim.Native.Nat.{ℕ, ◌+◌, ◌*◌}
use native.Mathlib.Omega.{arith}
use lib.ListN.{set, length-set}
use Rattle.index.specs.Form.{changed_in}
use Rattle.index.proofs.WriteLaws.{pair_written}
use Rattle.index.proofs.writing.set_place.Goals as goal

pub bounds-x-at-2 : goal.bounds-x-at-2
bounds-x-at-2 c =
    simp length-set (omega arith)

pub returns : goal.returns
unfolding changed_in
returns c =
    let a = c.args in
    let at : ℕ = 2 + 6 * a.i in
    let last : at + 5 ≡ at + 4 + 1 = omega arith in
    ap (λ (j : ℕ). set (set a.x.now (at + 4) a.unit) j a.rank) last ∙ pair_written a.x.now (at + 4) a.unit a.rank (omega arith)
