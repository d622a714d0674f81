-- Laws of the test that two lists of bytes are the same.
use Rattle.std.specs.Prelude.{ℕ, ◌≡◌, refl, List, [], ◌∷◌, true, eqb}
use Rattle.std.proofs.Common.{eqb-true, eq-eqb}
use Rattle.buffer.specs.TestLaws.{not-both, and-true, and_first, and_second}
use Rattle.model.specs.Sound.{same}

pub same_true : (x y : List ℕ) → same x y ≡ true → x ≡ y
unfolding same
same_true [] [] h = refl
same_true [] (b ∷ y) h = not-both h refl
same_true (a ∷ x) [] h = not-both h refl
same_true (a ∷ x) (b ∷ y) h = rw (eqb-true a b (and_first (eqb a b) (same x y) h), same_true x y (and_second (eqb a b) (same x y) h))

same_refl : (x : List ℕ) → same x x ≡ true
unfolding same
same_refl [] = refl
same_refl (a ∷ x) = and-true (eq-eqb a a refl) (same_refl x)

pub same_of : (x y : List ℕ) → x ≡ y → same x y ≡ true
same_of x y e = rw e (same_refl y)
