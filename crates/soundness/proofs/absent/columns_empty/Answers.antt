-- `soundness::absent::columns_empty` meets its contract.
use Prim.Native.Nat.{ℕ}
use native.Mathlib.Omega.{arith}
use Rattle.buffer.specs.LoopTests.{passing_end}
use Rattle.soundness.specs.Pieces.{groups_in, columns_empty, none_behind}
use Rattle.soundness.proofs.Runs.{behind_start, behind_turn, behind_fail}
use mathlib.Core.Path.{◌≡◌, sym, ap₂, ◌∙◌}
use mathlib.Core.List.{List}
use mathlib.Core.Bool.{Bool}
use Rattle.soundness.proofs.absent.columns_empty.Goals as goal

-- a unit of the header is one of its store
none_lem : (s : List ℕ) (u : ℕ) {t : List ℕ} {v : ℕ} {r : Bool} → (t ≡ s) × (v ≡ u) → r ≡ none_behind t v 0 → none_behind s u 0 ≡ r
none_lem s u same h = sym (h ∙ ap₂ (λ t v. none_behind t v 0) same.0 same.1)

pub loop-u-init : goal.loop-u-init
unfolding groups_in
loop-u-init c =
    rw c.units-m.ensures (behind_start (omega arith))

pub unit-requires : goal.unit-requires
unit-requires c =
    let most = c.args.header.ranged.most in
    omega (arith, most, c.loop-u-test.true, c.units-m.ensures)

pub returns-then-not-none_behind : goal.returns-then-not-none_behind
unfolding columns_empty groups_in
returns-then-not-none_behind c =
    behind_fail c.loop-u.invariant (omega (arith, c.loop-u-test.true, c.units-m.ensures)) (none_lem _ _ c.unit.ensures c.none_behind.ensures ∙ c.if-not-none_behind.true)

pub loop-u-preserved : goal.loop-u-preserved
unfolding groups_in
loop-u-preserved c =
    behind_turn c.loop-u.invariant (omega (arith, c.loop-u-test.true, c.units-m.ensures)) (none_lem _ _ c.unit.ensures c.none_behind.ensures ∙ c.if-not-none_behind.false)

pub returns : goal.returns
unfolding columns_empty groups_in
returns c =
    passing_end c.loop-u.invariant.passing (omega (arith, c.loop-u-test.false, c.units-m.ensures))
