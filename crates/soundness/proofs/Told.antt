-- What a count tells that is there only where a test holds.
use mathlib.Core.Path.{◌≡◌, refl, sym, ap, ◌∙◌}
use mathlib.Core.Bool.{Bool, true, false, ◌&&◌}
use Rattle.std.specs.Prelude.{Option, Some, None}
use Rattle.std.specs.Bool.{then_some}
use Rattle.std.proofs.lemmas.Option.{none-some, same_Some}
use Rattle.buffer.specs.TestLaws.{and_false_first}

pub holds : {A : Type 0} {t : Bool} (x : A) → t ≡ true → Some x ≡ then_some t x
holds x e = sym (ap (λ t. then_some t x) e)

pub fails : {A : Type 0} {t : Bool} (x : A) → t ≡ false → None ≡ then_some t x
fails x e = sym (ap (λ t. then_some t x) e)

pub some_told : {A : Type 0} (t : Bool) (f : A) {n : A} → Some n ≡ then_some t f → (t ≡ true) × (n ≡ f)
some_told true f {n} e = (refl, same_Some n f e)
some_told false f {n} e = absurd (none-some n (sym e))

pub none_told : {A : Type 0} (t : Bool) (f : A) → None ≡ then_some t f → t ≡ false
none_told true f e = absurd (none-some f e)
none_told false f e = refl

-- ---- a count r of f, to which one test z is added that is made only where the count is there
module _ {A : Type 0} (f : A) (t z : Bool) {r : Option A} {y : Bool} (law : (t && z) ≡ y) (count : r ≡ then_some t f) where
  pub missed : r ≡ None → y ≡ false
  missed e = sym law ∙ and_false_first (none_told t f (sym e ∙ count)) z

  pub never : r ≡ None → None ≡ then_some y f
  never e = fails f (missed e)

  pub further : {n : A} → r ≡ Some n → (n ≡ f) × (z ≡ y)
  further e =
      let told = some_told t f (sym e ∙ count) in
      (told.1, ap (λ v. v && z) (sym told.0) ∙ law)
