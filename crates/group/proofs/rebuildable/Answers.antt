-- `group::rebuildable` meets its contract.
use mathlib.Core.Bool.{Bool, true, false, cond}
use mathlib.Core.List.{List, [], ◌∷◌}
use mathlib.Core.Path.{◌≡◌, refl, sym, ap, ap₂, ◌∙◌}
use Prim.Native.Nat.{ℕ, zero, suc, ◌+◌}
use native.Mathlib.Omega.{arith}
use lib.Dec.{leb, eqb}
use Rattle.std.proofs.Common.{take, count_by}
use Rattle.std.proofs.lemmas.List.Sums.{sum_by-cons}
use Rattle.buffer.specs.Bytes.{byte}
use Rattle.buffer.specs.Choice.{pick}
use Rattle.buffer.specs.Range.{count}
use Rattle.buffer.specs.RangeLaws.{count_fails}
use Rattle.group.specs.Members.{checks_serving, rebuildable}
use Rattle.group.proofs.rebuildable.Goals as goal

-- the first place apart
count_front : (n : ℕ) (p : ℕ → Bool) → count (suc n) p ≡ count n (λ k. p (suc k)) + pick (p 0) 1 0
unfolding count
count_front zero p = refl
count_front (suc n) p = ap (λ m. m + pick (p (suc n)) 1 0) (count_front n p) ∙ omega arith

cond_pick : (t : Bool) → ◌≡◌ {A = ℕ} (cond t 1 0) (pick t 1 0)
unfolding pick
cond_pick true = refl
cond_pick false = refl

-- the bytes that are 1, counted in the list and by their places
ones_are : (n : ℕ) (x : List ℕ) → count_by (λ b. eqb b 1) (take n x) ≡ count n (λ k. eqb (byte x k) 1)
unfolding count
ones_are zero [] = refl
ones_are zero (b ∷ x) = refl
ones_are (suc n) [] = sym (count_fails (suc n) (λ k. eqb (byte [] k) 1) (λ k l. refl))
ones_are (suc n) (b ∷ x) =
    let first : count_by (λ b. eqb b 1) (b ∷ take n x) ≡ cond (eqb b 1) 1 0 + count_by (λ b. eqb b 1) (take n x) = sum_by-cons _ b (take n x) in
    let rest = ones_are n x in
    let same = cond_pick (eqb b 1) in
    first ∙ omega arith ∙ sym (count_front n (λ k. eqb (byte (b ∷ x) k) 1))

pub returns : goal.returns
unfolding rebuildable checks_serving
returns c =
    ap₂ leb (c.ones.ensures ∙ ones_are 4 c.args.missing.now) (c.ones-2.ensures ∙ ones_are 3 c.args.c.now)
