-- `group::first_four` meets its contract.
use mathlib.Core.Path.{◌≡◌, ap, ◌∙◌}
use mathlib.Core.Bool.{Bool}
use mathlib.Core.List.{[], ◌∷◌}
use Prim.Native.Nat.{ℕ, suc, ◌+◌}
use native.Mathlib.Numerals.{add-one}
use lib.Dec.{eqb}
use Rattle.buffer.specs.Bytes.{byte}
use Rattle.group.specs.Members.{serves, next, first_four}
use Rattle.group.proofs.first_four.Goals as goal

-- the next behind a member
behind : (on : ℕ → Bool) (x y z : ℕ) → x ≡ y → z ≡ next on (x + 1) → z ≡ next on (suc y)
behind on x y z e h = h ∙ ap (next on) (add-one x ∙ ap suc e)

pub returns : goal.returns
unfolding first_four
returns c =
    let args = c.args in
    let on = serves (λ p. eqb (byte args.missing.now p) 1) (byte args.c.now) in
    let a = c.next_serving-a.ensures.0 in
    let b = behind on _ _ _ a c.next_serving-b.ensures.0 in
    let e = behind on _ _ _ b c.next_serving-e.ensures.0 in
    let f = behind on _ _ _ e c.next_serving-f.ensures.0 in
    λ i. a i ∷ b i ∷ e i ∷ f i ∷ []
