-- `lookup::losses::missing_at` meets its contract.
use mathlib.Core.Path.{◌≡◌, refl, ap, ◌∙◌}
use mathlib.Core.Bool.{Bool, true, false}
use mathlib.Core.List.{[], ◌∷◌}
use Prim.Native.Nat.{ℕ}
use Rattle.std.specs.Int.{from_bool}
use Rattle.buffer.specs.Choice.{pick}
use Rattle.buffer.specs.Loops.{entries}
use Rattle.lookup.proofs.losses.missing_at.Goals as goal

mark : (t : Bool) → from_bool t ≡ pick t 1 0
unfolding pick
mark true = refl
mark false = refl

marked : {t o : Bool} {x : ℕ} → x ≡ from_bool t → t ≡ o → x ≡ pick o 1 0
marked e q = e ∙ ap from_bool q ∙ mark _

pub returns : goal.returns
unfolding entries
returns c =
    let k = marked c.from.ensures c.missing.ensures in
    let l = marked c.from-2.ensures c.missing-2.ensures in
    let m = marked c.from-3.ensures c.missing-3.ensures in
    let n = marked c.from-4.ensures c.missing-4.ensures in
    λ i. k i ∷ l i ∷ m i ∷ n i ∷ []
