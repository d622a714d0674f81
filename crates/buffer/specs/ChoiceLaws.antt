-- Laws of `pick`, and proofs by cases on a test.
use Rattle.std.specs.Prelude.{◌≡◌, refl, Bool, true, false, ◌||◌}
use Rattle.buffer.specs.Choice.{pick}

-- a proof by cases on a test, each with what the test said
pub by-test {ℓ} : (P : Bool → Type ℓ) (t : Bool) → (t ≡ true → P true) → (t ≡ false → P false) → P t
by-test P true h k = h refl
by-test P false h k = k refl

-- what a test picks, where the test is known
pub pick_true {ℓ} : {A : Type ℓ} {t : Bool} → t ≡ true → (x y : A) → pick t x y ≡ x
unfolding pick
pick_true e x y = rw e

pub pick-false {ℓ} : {A : Type ℓ} {t : Bool} → t ≡ false → (x y : A) → pick t x y ≡ y
unfolding pick
pick-false e x y = rw e

-- a proof about what a test picks, by cases
pub by-pick {ℓ κ} : {A : Type ℓ} (P : A → Type κ) (t : Bool) (x y : A) → (t ≡ true → P x) → (t ≡ false → P y) → P (pick t x y)
unfolding pick
by-pick P true x y h k = h refl
by-pick P false x y h k = k refl

-- both picks from one test
pub pick-ext {ℓ} : {A : Type ℓ} (t : Bool) (x y x' y' : A) → (t ≡ true → x ≡ x') → (t ≡ false → y ≡ y') → pick t x y ≡ pick t x' y'
unfolding pick
pick-ext true x y x' y' h k = h refl
pick-ext false x y x' y' h k = k refl

-- whatever the test says
pub pick_same {ℓ} : {A : Type ℓ} (t : Bool) (x : A) → pick t x x ≡ x
unfolding pick
pick_same true x = refl
pick_same false x = refl

-- a function of what was picked
pub pick-map {ℓ κ} : {A : Type ℓ} {B : Type κ} (f : A → B) (t : Bool) (x y : A) → f (pick t x y) ≡ pick t (f x) (f y)
unfolding pick
pick-map f true x y = refl
pick-map f false x y = refl

-- a pick within a pick, of which either may pick x
pub pick-or {ℓ} : {A : Type ℓ} (s t : Bool) (x y : A) → pick t x (pick s x y) ≡ pick (s || t) x y
unfolding pick
pick-or true true x y = refl
pick-or true false x y = refl
pick-or false t x y = refl
