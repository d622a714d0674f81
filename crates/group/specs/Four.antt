-- Four bodies that stand apart, as one function of their numbers.
use Rattle.std.specs.Prelude.{ℕ, zero, suc, List}

-- four bodies by their numbers
unfoldable pub four_bodies : List ℕ → List ℕ → List ℕ → List ℕ → ℕ → List ℕ
four_bodies a b c d zero = a
four_bodies a b c d (suc zero) = b
four_bodies a b c d (suc (suc zero)) = c
four_bodies a b c d (suc (suc (suc i))) = d
