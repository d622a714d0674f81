-- If-then-else.
use Rattle.std.specs.Prelude.{Bool, true, false}

-- x where the test holds, else y. It stays shut where no line opens it, so that the parts of a cascade are found by their places.
unfoldable pub pick {ℓ} : {A : Type ℓ} → Bool → A → A → A
pick true x y = x
pick false x y = y
