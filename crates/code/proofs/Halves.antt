-- Sums of weighted bytes, and their halves. A reader wants `encode_mixed`: the byte of four data bytes at a column is the sum of these bytes, each
-- times its coefficient; `mixed_bound`: it is a byte; and `Half`, under which both halves of a byte have their laws together.
use Rattle.std.specs.Prelude.{◌≡◌, refl, true, List, [], ◌∷◌, map, ℕ, ◌+◌, ◌*◌, ◌/◌, ◌%◌, ◌<◌, length}
use Rattle.std.proofs.Common.{ap, ap₂, ◌∙◌, sym, le_of_suc-le-suc, arith, lit<}
use Rattle.std.proofs.Math.Arith.{digits_div, digits_mod}
use Rattle.std.specs.Int.Bits.{bit_xor}
use Rattle.std.proofs.lemmas.Nat.{xor_lt}
use Rattle.std.proofs.lemmas.List.{length-map}
use Rattle.algebra.specs.BinaryLaws.{bound}
use Rattle.field.specs.Gf16.{product}
use Rattle.field.specs.Gf16Laws.{tested}
use Rattle.field.specs.Byte.{scale}
use Rattle.field.specs.ByteLaws.{scale_bound, xor_bytes, low_lt}
use Rattle.code.specs.Matrix.{encode, within}
use Rattle.code.specs.Columns.{column}
use Rattle.code.specs.MatrixLaws.{column_within}
use Rattle.code.specs.Lists.{four, within_head, within_tail, within_cons, within_map}
use Rattle.code.specs.Weights.{combination, mixed}
use Rattle.code.proofs.WeightsLaws.{combination_bound}
use Rattle.code.specs.Bytes.{encode_bytes}

-- ---- sums of weighted bytes
pub lows_within : (ys : List ℕ) → within 15 (map (λ (b : ℕ). b % 16) ys) ≡ true
lows_within [] = refl
lows_within (y ∷ ys) = within_cons 15 (y % 16) (map (λ (b : ℕ). b % 16) ys) (le_of_suc-le-suc (low_lt y)) (lows_within ys)

pub low_sum : (ws ys : List ℕ) → within 15 ws ≡ true → combination ws (map (λ (b : ℕ). b % 16) ys) < 16
low_sum ws ys h = combination_bound ws (map (λ (b : ℕ). b % 16) ys) h (lows_within ys)

-- the halves are summed by themselves
pub mixed_halves : (ws ys : List ℕ) → within 15 ws ≡ true
    → mixed ws ys ≡ combination ws (map (λ (b : ℕ). b / 16) ys) * 16 + combination ws (map (λ (b : ℕ). b % 16) ys)
unfolding scale
mixed_halves [] ys h = refl
mixed_halves (w ∷ ws) [] h = refl
mixed_halves (w ∷ ws) (y ∷ ys) h =
    ap (bit_xor (scale w y)) (mixed_halves ws ys (within_tail 15 w ws h))
    ∙ xor_bytes (product (y / 16) w) (product (y % 16) w) (combination ws (map (λ (b : ℕ). b / 16) ys)) (combination ws (map (λ (b : ℕ). b % 16) ys))
    (bound tested (y % 16) w (low_lt y) (omega (arith, within_head 15 w ws h))) (low_sum ws ys (within_tail 15 w ws h))

pub mixed_bound : (ws ys : List ℕ) → within 15 ws ≡ true → within 255 ys ≡ true → mixed ws ys < 256
mixed_bound [] ys h k = lit< tt
mixed_bound (w ∷ ws) [] h k = lit< tt
mixed_bound (w ∷ ws) (y ∷ ys) h k =
    xor_lt 8 (scale w y) (mixed ws ys) (scale_bound w y (omega (arith, within_head 15 w ws h)) (omega (arith, within_head 255 y ys k)))
    (mixed_bound ws ys (within_tail 15 w ws h) (within_tail 255 y ys k))

-- ---- a half of a byte: of bytes it gives symbols, and of a sum of weighted bytes the sum of their halves
pub record Half : Type 0 where
  pub of : ℕ → ℕ
  pub small : (ys : List ℕ) → within 255 ys ≡ true → within 15 (map of ys) ≡ true
  pub summed : (ws ys : List ℕ) → within 15 ws ≡ true → of (mixed ws ys) ≡ combination ws (map of ys)

abbrev pub high : Half
high = record {
  of = λ b. b / 16;
  small = λ ys h. within_map 255 15 (λ (b : ℕ). b / 16) (λ x k. omega arith) ys h;
  summed = λ ws ys h. ap (λ (x : ℕ). x / 16) (mixed_halves ws ys h) ∙ digits_div (combination ws (map (λ (b : ℕ). b / 16) ys)) (low_sum ws ys h);
}

abbrev pub low : Half
low = record {
  of = λ b. b % 16;
  small = λ ys h. lows_within ys;
  summed = λ ws ys h. ap (λ (x : ℕ). x % 16) (mixed_halves ws ys h) ∙ digits_mod (combination ws (map (λ (b : ℕ). b / 16) ys)) (low_sum ws ys h);
}

-- ---- the weights of a column
pub encode_column : (ds : List ℕ) → length ds ≡ 4 → (c : ℕ) → combination (column c) ds ≡ encode ds c
encode_column = four (λ ds. (c : ℕ) → combination (column c) ds ≡ encode ds c) (λ a b d e c. refl)

pub encode_mixed : (ds : List ℕ) → length ds ≡ 4 → (c : ℕ) → c < 17 → mixed (column c) ds ≡ encode_bytes ds c
encode_mixed ds l c h =
    mixed_halves (column c) ds (column_within c h)
    ∙ ap₂ (λ (x y : ℕ). x * 16 + y) (encode_column (map (λ (b : ℕ). b / 16) ds) (length-map ds (λ (b : ℕ). b / 16) ∙ l) c)
    (encode_column (map (λ (b : ℕ). b % 16) ds) (length-map ds (λ (b : ℕ). b % 16) ∙ l) c)

pub encode_half : (h : Half) (ds : List ℕ) → length ds ≡ 4 → (c : ℕ) → c < 17 → h.of (encode_bytes ds c) ≡ encode (map h.of ds) c
encode_half h ds l c k =
    ap h.of (sym (encode_mixed ds l c k)) ∙ h.summed (column c) ds (column_within c k) ∙ encode_column (map h.of ds) (length-map ds h.of ∙ l) c
