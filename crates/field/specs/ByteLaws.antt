-- Bytes as pairs of symbols. A reader wants `scale_bound`, `scale_add` and `add_scale` (linear in the byte and in the symbol), and `scale_one`
-- and `scale_zero` (1 changes nothing, 0 gives 0). Each is shown for both halves together.
use Rattle.std.specs.Prelude.{◌≡◌, ℕ, ◌+◌, ◌*◌, ◌/◌, ◌%◌, ◌<◌}
use Rattle.std.proofs.Common.{sym, ap₂, ◌∙◌, mod-lt, div-add-mod', arith, lit<}
use Rattle.std.specs.Int.Bits.{bit_xor}
use Rattle.std.proofs.lemmas.Nat.{xor_block, xor_shr, xor_mod}
use Rattle.algebra.specs.BinaryLinear.{add_product, product_add, product_zero}
use Rattle.algebra.specs.BinaryLaws.{bound, one}
use Rattle.field.specs.Gf16.{product}
use Rattle.field.specs.Gf16Laws.{tested}
use Rattle.field.specs.Byte.{scale}

pub high_lt : (b : ℕ) → b < 256 → b / 16 < 16
high_lt b h = omega arith

pub low_lt : (b : ℕ) → b % 16 < 16
low_lt b = mod-lt b (lit< tt)

-- the products of the halves are symbols again
high_bound : (w b : ℕ) → w < 16 → b < 256 → product (b / 16) w < 16
high_bound w b hw hb = bound tested (b / 16) w (high_lt b hb) hw

low_bound : (w b : ℕ) → w < 16 → product (b % 16) w < 16
low_bound w b hw = bound tested (b % 16) w (low_lt b) hw

pub scale_bound : (w b : ℕ) → w < 16 → b < 256 → scale w b < 256
unfolding scale
scale_bound w b hw hb = omega (arith, high_bound w b hw hb, low_bound w b hw)

-- the sum of two bytes is the sums of their halves
pub xor_bytes : (h l k m : ℕ) → l < 16 → m < 16 → bit_xor (h * 16 + l) (k * 16 + m) ≡ bit_xor h k * 16 + bit_xor l m
xor_bytes h l k m hl hm = xor_block 4 h k l m hl hm

pub scale_add : (w a b : ℕ) → w < 16 → scale w (bit_xor a b) ≡ bit_xor (scale w a) (scale w b)
unfolding scale
scale_add w a b hw =
    ap₂ (λ (x y : ℕ). product x w * 16 + product y w) (xor_shr a b 4) (xor_mod a b 4)
    ∙ ap₂ (λ (x y : ℕ). x * 16 + y) (add_product 4 19 (a / 16) (b / 16) w) (add_product 4 19 (a % 16) (b % 16) w)
    ∙ sym (xor_bytes (product (a / 16) w) (product (a % 16) w) (product (b / 16) w) (product (b % 16) w) (low_bound w a hw) (low_bound w b hw))

pub add_scale : (v w b : ℕ) → v < 16 → w < 16 → scale (bit_xor v w) b ≡ bit_xor (scale v b) (scale w b)
unfolding scale
add_scale v w b hv hw =
    ap₂ (λ (x y : ℕ). x * 16 + y) (product_add 4 19 (b / 16) v w) (product_add 4 19 (b % 16) v w)
    ∙ sym (xor_bytes (product (b / 16) v) (product (b % 16) v) (product (b / 16) w) (product (b % 16) w) (low_bound v b hv) (low_bound w b hw))

pub scale_one : (b : ℕ) → b < 256 → scale 1 b ≡ b
unfolding scale
scale_one b hb = ap₂ (λ (x y : ℕ). x * 16 + y) (one tested (b / 16) (high_lt b hb)) (one tested (b % 16) (low_lt b)) ∙ div-add-mod' b 16

pub scale_zero : (b : ℕ) → scale 0 b ≡ 0
unfolding scale
scale_zero b = ap₂ (λ (x y : ℕ). x * 16 + y) (product_zero 4 19 (b / 16)) (product_zero 4 19 (b % 16))
