-- The code adds up from the left, the definitions from the right: `combination_is` and `mixed_is`. Equations of four terms go together by `xor4`, of four
-- entries by `four_path`.
use mathlib.Core.Path.{◌≡◌, sym, ap, ◌∙◌}
use mathlib.Core.List.{List, [], ◌∷◌}
use Prim.Native.Nat.{ℕ}
use lib.Bits.{bit_xor, xor_zero_r}
use lib.ListN.{length, get_or}
use Rattle.algebra.specs.Xor.{xor_assoc}
use Rattle.field.specs.Gf16.{product}
use Rattle.field.specs.Byte.{scale}
use Rattle.code.specs.Lists.{four}
use Rattle.code.specs.Weights.{combination, mixed}

pub four_path : {a b c d p q r s : ℕ} → a ≡ p → b ≡ q → c ≡ r → d ≡ s → ◌≡◌ {A = List ℕ} (a ∷ b ∷ c ∷ d ∷ []) (p ∷ q ∷ r ∷ s ∷ [])
four_path e f g h = λ i. e i ∷ f i ∷ g i ∷ h i ∷ []

pub xor4 : {a b c d p q r s : ℕ} → a ≡ p → b ≡ q → c ≡ r → d ≡ s → bit_xor (bit_xor (bit_xor a b) c) d ≡ bit_xor (bit_xor (bit_xor p q) r) s
xor4 e f g h = λ i. bit_xor (bit_xor (bit_xor (e i) (f i)) (g i)) (h i)

sum4 : (a b c d : ℕ) → bit_xor (bit_xor (bit_xor a b) c) d ≡ bit_xor a (bit_xor b (bit_xor c (bit_xor d 0)))
sum4 a b c d =
    xor_assoc (bit_xor a b) c d ∙ xor_assoc a b (bit_xor c d) ∙ ap (λ (x : ℕ). bit_xor a (bit_xor b (bit_xor c x))) (sym (xor_zero_r d))

-- the four terms of a sum, f giving the product of a weight and a symbol or byte
abbrev pub terms : (ℕ → ℕ → ℕ) → List ℕ → List ℕ → ℕ
terms f ws ys =
    bit_xor (bit_xor (bit_xor (f (get_or ws 0 0) (get_or ys 0 0)) (f (get_or ws 1 0) (get_or ys 1 0))) (f (get_or ws 2 0) (get_or ys 2 0))) (f (get_or ws 3 0) (get_or ys 3 0))

pub combination_is : (ws : List ℕ) → length ws ≡ 4 → (ys : List ℕ) → length ys ≡ 4 → terms (λ w y. product y w) ws ys ≡ combination ws ys
combination_is =
    four (λ ws. (ys : List ℕ) → length ys ≡ 4 → terms (λ w y. product y w) ws ys ≡ combination ws ys)
    (λ a b c d. four (λ ys. terms (λ w y. product y w) (a ∷ b ∷ c ∷ d ∷ []) ys ≡ combination (a ∷ b ∷ c ∷ d ∷ []) ys)
    (λ p q r s. sum4 (product p a) (product q b) (product r c) (product s d)))

pub mixed_is : (ws : List ℕ) → length ws ≡ 4 → (ys : List ℕ) → length ys ≡ 4 → terms scale ws ys ≡ mixed ws ys
mixed_is =
    four (λ ws. (ys : List ℕ) → length ys ≡ 4 → terms scale ws ys ≡ mixed ws ys)
    (λ a b c d. four (λ ys. terms scale (a ∷ b ∷ c ∷ d ∷ []) ys ≡ mixed (a ∷ b ∷ c ∷ d ∷ []) ys)
    (λ p q r s. sum4 (scale a p) (scale b q) (scale c r) (scale d s)))
