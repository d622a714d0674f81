-- How the code computes a weight: differences of columns (`gap_low`, `gap_one`), products of three (`gaps_are`), a quotient of two (`weight_is`).
use mathlib.Core.Path.{◌≡◌, refl, ap, ◌∙◌, sym}
use mathlib.Core.Bool.{Bool, true, false}
use Prim.Native.Nat.{ℕ, ◌≤◌, ◌<◌}
use native.Mathlib.Omega.{arith}
use lib.Bits.{bit_xor}
use lib.Dec.{T, ltb, eqb, eqb→eq}
use borrow.Author.Tests.{lt-ltb, le-ltb}
use Rattle.algebra.specs.Every.{every, every_at}
use Rattle.algebra.specs.BinaryLaws.{one}
use Rattle.algebra.specs.BinaryField.{below}
use Rattle.algebra.specs.Lagrange.{gap}
use Rattle.field.specs.Gf16.{product}
use Rattle.field.specs.Inverse.{inverse}
use Rattle.field.specs.Gf16Laws.{gf16, tested}
use Rattle.code.specs.Point.{point}
use Rattle.code.specs.Weights.{gap_of, gaps_of, weight_of}

-- a difference is the sum of the columns, or 1 where that leaves the field, one of them being 16: a computed test of all pairs of columns
abbrev or_one : Bool → ℕ → ℕ
or_one true d = d
or_one false d = 1

gap_all : T (every 17 (λ a. every 17 (λ b. eqb (gap_of a b) (or_one (ltb (bit_xor a b) 16) (bit_xor a b)))))
unfolding every gap_of point
gap_all = tt

gap_is : (a b : ℕ) → a ≤ 16 → b ≤ 16 → gap_of a b ≡ or_one (ltb (bit_xor a b) 16) (bit_xor a b)
gap_is a b ha hb =
    eqb→eq (gap_of a b) (or_one (ltb (bit_xor a b) 16) (bit_xor a b))
    (every_at 17 (λ y. eqb (gap_of a y) (or_one (ltb (bit_xor a y) 16) (bit_xor a y)))
    (every_at 17 (λ x. every 17 (λ y. eqb (gap_of x y) (or_one (ltb (bit_xor x y) 16) (bit_xor x y)))) gap_all a (omega arith)) b (omega arith))

pub gap_low : (a b : ℕ) → a ≤ 16 → b ≤ 16 → bit_xor a b < 16 → gap_of a b ≡ bit_xor a b
gap_low a b ha hb h = gap_is a b ha hb ∙ ap (λ (t : Bool). or_one t (bit_xor a b)) (lt-ltb (bit_xor a b) 16 h)

pub gap_one : (a b : ℕ) → a ≤ 16 → b ≤ 16 → 16 ≤ bit_xor a b → gap_of a b ≡ 1
gap_one a b ha hb h = gap_is a b ha hb ∙ ap (λ (t : Bool). or_one t (bit_xor a b)) (le-ltb (bit_xor a b) 16 h)

gap_bound : (a b : ℕ) → gap_of a b < 16
unfolding gap_of
gap_bound a b = below 4 (gap gf16 (point a) (point b))

pub gaps_are : (q a b c : ℕ) → product (gap_of q a) (product (gap_of q b) (gap_of q c)) ≡ gaps_of q a b c
unfolding gap_of gaps_of
gaps_are q a b c = ap (λ (n : ℕ). product (gap_of q a) (product (gap_of q b) n)) (sym (one tested (gap_of q c) (gap_bound q c)))

pub weight_is : (a b c p q : ℕ) → product (gaps_of q a b c) (inverse (gaps_of p a b c)) ≡ weight_of a b c p q
unfolding gaps_of weight_of
weight_is a b c p q = refl
