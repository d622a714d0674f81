-- `soundness::keys::Row::owns` meets its contract.
use mathlib.Core.Path.{◌≡◌, ap, ◌∙◌}
use mathlib.Core.List.{List}
use Prim.Native.Nat.{ℕ, ◌+◌, ◌*◌}
use native.Mathlib.Omega.{arith}
use Rattle.buffer.specs.ByteOrder.{le32}
use Rattle.group.specs.Widths.{check_bytes}
use Rattle.soundness.specs.Keys.{turned_keys}
use Rattle.soundness.proofs.Masks.{own_test}
use Rattle.soundness.proofs.Turned.{row_turned}
use Rattle.soundness.proofs.keys.Row.owns.Goals as goal

-- the key of one of the four lists
read : (s : List ℕ) (list p r : ℕ) {k at : ℕ} → k ≡ le32 s at → at ≡ list + p + check_bytes * r → k ≡ turned_keys s (list + p) check_bytes r
unfolding turned_keys
read s list p r e at = e ∙ ap (le32 s) at

read0 : (s : List ℕ) (list r : ℕ) {k at : ℕ} → k ≡ le32 s at → at ≡ list + check_bytes * r → k ≡ turned_keys s list check_bytes r
unfolding turned_keys
read0 s list r e at = e ∙ ap (le32 s) at

pub astray-requires : goal.astray-requires
astray-requires c =
    let masks = c.args.self.masks in rw masks.one (masks.low _)

pub astray-requires-2 : goal.astray-requires-2
astray-requires-2 c =
    let masks = c.args.self.masks in rw masks.two (masks.low _)

pub astray-requires-3 : goal.astray-requires-3
astray-requires-3 c =
    let masks = c.args.self.masks in
    rw masks.three (masks.low _)

pub astray-requires-4 : goal.astray-requires-4
astray-requires-4 c =
    let masks = c.args.self.masks in
    rw masks.four (masks.low _)

pub returns : goal.returns
returns c =
    let asked = c.args.self.masks in
    let unit = c.from-unit.ensures in
    row_turned c.args.s.now (λ i. omega (arith, c.type_inv.s i)) c.args.list c.args.self.m c.args.self.u
    c.args.r c.astray.result c.astray-2.result c.astray-3.result c.astray-4.result
    (own_test _ _ asked.one unit (read0 _ _ _ c.low32.ensures (omega arith)) c.astray.ensures)
    (own_test _ _ asked.two (ap (λ (x : ℕ). x + 1) unit) (read _ _ 4 _ c.low32-2.ensures (omega arith)) c.astray-2.ensures)
    (own_test _ _ asked.three (ap (λ (x : ℕ). x + 2) unit) (read _ _ 8 _ c.low32-3.ensures (omega arith)) c.astray-3.ensures)
    (own_test _ _ asked.four (ap (λ (x : ℕ). x + 3) unit) (read _ _ 12 _ c.low32-4.ensures (omega arith)) c.astray-4.ensures)
