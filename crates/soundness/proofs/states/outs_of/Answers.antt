-- `soundness::states::outs_of` meets its contract.
use Prim.Native.Nat.{ℕ, ◌+◌, ◌*◌, ◌/◌, ◌<◌}
use mathlib.Core.Bool.{true, false}
use mathlib.Core.List.{List, [], ◌∷◌}
use mathlib.Core.Path.{◌≡◌, refl, sym, ap₂, ◌∙◌}
use native.Mathlib.Omega.{arith}
use lib.Dec.{eqb}
use borrow.Author.Tests.{eqb-true, eq-eqb, ne_eqb}
use Rattle.buffer.specs.Bytes.{byte}
use Rattle.buffer.specs.Loops.{entries}
use Rattle.buffer.specs.Range.{all}
use Rattle.buffer.specs.RangeLaws.{all_true, count_fails, entries_ext}
use Rattle.group.specs.Members.{outs}
use Rattle.model.specs.Layout.{view}
use Rattle.model.specs.Reads.{outs_in}
use Rattle.soundness.proofs.states.outs_of.Goals as goal

-- where no state is above 1, no unit of a group is out
none_out : (s : List ℕ) (g : ℕ) → g < 4 → all 28 (λ i. eqb (byte s (8 + i) / 2) 0) ≡ true → outs_in (view s) g ≡ 0
unfolding outs_in outs view
none_out s g l h =
    let low : (i j : ℕ) → i < 28 → j ≡ 8 + i → eqb (byte s j) 2 ≡ false =
    λ i j k p.
    let e : byte s (8 + i) / 2 ≡ 0 = eqb-true (byte s (8 + i) / 2) 0 (all_true 28 (λ i. eqb (byte s (8 + i) / 2) 0) h i k) in
    rw p (ne_eqb (byte s (8 + i)) 2 (λ q. omega arith)) in
    ap₂ (λ (a b : ℕ). a + b)
    (count_fails 4 (λ p. eqb (byte s (8 + (4 * g + p))) 2) (λ p k. low (4 * g + p) _ (omega arith) refl))
    (count_fails 3 (λ j. eqb (byte s (24 + (3 * g + j))) 2) (λ j k. low (16 + (3 * g + j)) _ (omega arith) (omega arith)))

pub returns-then-any_out-eq0 : goal.returns-then-any_out-eq0
unfolding entries
returns-then-any_out-eq0 c =
    let s = c.args.s.now in
    let none = sym c.any_out.ensures ∙ eq-eqb c.any_out.result 0 c.if-any_out-eq0.true in
    entries_ext 4 (λ _. 0) (outs_in (view s)) (λ g l. sym (none_out s g l none))

pub returns : goal.returns
unfolding entries
returns c =
    let k = c.outs_in.ensures in
    let l = c.outs_in-2.ensures in
    let m = c.outs_in-3.ensures in
    let n = c.outs_in-4.ensures in
    λ i. k i ∷ l i ∷ m i ∷ n i ∷ []
