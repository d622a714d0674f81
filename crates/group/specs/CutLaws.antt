-- Bodies cut at a place: the front of four bodies at a column is that of their fronts, and so with what stands behind (`take_at_column`,
-- `drop_at_column`). So a parity of fields is that of the bodies, and behind it that of the stamps.
use Rattle.std.specs.Prelude.{ℕ, zero, suc, ◌≡◌, refl, take, drop}
use Rattle.std.proofs.Common.{ap}
use mathlib.Core.List.{List, [], ◌∷◌, map, zip_with}
use Rattle.std.specs.Int.Bits.{bit_xor}
use Rattle.code.specs.Scaling.{scale}
use Rattle.group.specs.Body.{add_body, scale_body}
use Rattle.group.specs.BodyLaws.{add_comm}
use Rattle.group.specs.Parity.{sum4, body_at}

take-add : (n : ℕ) (x y : List ℕ) → take n (add_body x y) ≡ add_body (take n x) (take n y)
unfolding add_body zip_with
take-add zero x y = refl
take-add (suc n) [] y = refl
take-add (suc n) (a ∷ x) [] = refl
take-add (suc n) (a ∷ x) (b ∷ y) = ap (λ (z : List ℕ). bit_xor a b ∷ z) (take-add n x y)

drop_add : (n : ℕ) (x y : List ℕ) → drop n (add_body x y) ≡ add_body (drop n x) (drop n y)
unfolding add_body zip_with
drop_add zero x y = refl
drop_add (suc n) [] y = refl
drop_add (suc n) (a ∷ x) [] = add_comm [] (drop n x)
drop_add (suc n) (a ∷ x) (b ∷ y) = drop_add n x y

take_scale : (n c : ℕ) (x : List ℕ) → take n (scale_body c x) ≡ scale_body c (take n x)
unfolding scale_body map
take_scale zero c x = refl
take_scale (suc n) c [] = refl
take_scale (suc n) c (a ∷ x) = ap (λ (z : List ℕ). scale c a ∷ z) (take_scale n c x)

drop_scale : (n c : ℕ) (x : List ℕ) → drop n (scale_body c x) ≡ scale_body c (drop n x)
unfolding scale_body map
drop_scale zero c x = refl
drop_scale (suc n) c [] = refl
drop_scale (suc n) c (a ∷ x) = drop_scale n c x

-- what goes through sums and multiples goes through bodies at a column
through : (cut : List ℕ → List ℕ) → ((x y : List ℕ) → cut (add_body x y) ≡ add_body (cut x) (cut y))
    → ((c : ℕ) (x : List ℕ) → cut (scale_body c x) ≡ scale_body c (cut x))
    → (c : ℕ) (f : ℕ → List ℕ) → cut (body_at c f) ≡ body_at c (λ p. cut (f p))
unfolding body_at sum4
through cut add scaled c f = rw (add, add, add, scaled, scaled, scaled, scaled)

pub take_at_column : (n c : ℕ) (f : ℕ → List ℕ) → take n (body_at c f) ≡ body_at c (λ p. take n (f p))
take_at_column n = through (take n) (take-add n) (take_scale n)

pub drop_at_column : (n c : ℕ) (f : ℕ → List ℕ) → drop n (body_at c f) ≡ body_at c (λ p. drop n (f p))
drop_at_column n = through (drop n) (drop_add n) (drop_scale n)
