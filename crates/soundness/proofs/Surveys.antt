-- What the test hands on of a store: all that is known of it.
use mathlib.Core.Path.{◌≡◌, sym, ◌∙◌}
use mathlib.Core.Bool.{Bool, true}
use mathlib.Core.List.{List}
use Prim.Native.Nat.{ℕ}
use Rattle.buffer.specs.Choice.{pick}
use Rattle.buffer.specs.ChoiceLaws.{pick_true}
use Rattle.buffer.specs.Loops.{entries}
use Rattle.buffer.specs.RangeLaws.{entries_ext}

pub all_known : {ok : Bool} {l : List ℕ} (n : ℕ) (f : ℕ → ℕ) → ok ≡ true → l ≡ entries n f → l ≡ entries n (λ i. pick ok (f i) 0)
all_known {ok} n f e h = h ∙ entries_ext n f (λ i. pick ok (f i) 0) (λ i _. sym (pick_true e (f i) 0))
