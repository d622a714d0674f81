-- Different columns are different points: `distinct_points`.
use Rattle.std.specs.Prelude.{◌≡◌, refl, true, List, [], ◌∷◌, map, ℕ, ◌≤◌, ◌<◌, T, eqb}
use Rattle.std.proofs.Common.{ap, ◌∙◌, sym, arith, eqb→eq}
use Rattle.algebra.specs.Every.{every, every_at}
use Rattle.algebra.specs.Polynomial.{Point, fin, inf, All, Distinct}
use Rattle.field.specs.Gf16Laws.{Symbol}
use Rattle.code.specs.Matrix.{within, absent, different}
use Rattle.code.specs.Lists.{within_head, within_tail, absent_head, absent_tail, different_head, different_tail}
use Rattle.code.specs.Point.{point, places}

-- the column of a point
number : Point Symbol → ℕ
number (fin a) = a.0
number inf = 16

number_all : T (every 17 (λ c. eqb (number (point c)) c))
unfolding every number point
number_all = tt

number_point : (c : ℕ) → c < 17 → number (point c) ≡ c
number_point c h = eqb→eq (number (point c)) c (every_at 17 (λ x. eqb (number (point x)) x) number_all c h)

point_ne : (c d : ℕ) → c ≤ 16 → d ≤ 16 → (d ≡ c → ⊥) → point c ≡ point d → ⊥
point_ne c d hc hd n e = n (sym (sym (number_point c (omega arith)) ∙ ap number e ∙ number_point d (omega arith)))

absent_points : (x : ℕ) (ys : List ℕ) → x ≤ 16 → within 16 ys ≡ true → absent x ys ≡ true → All (λ P. P ≡ point x → ⊥) (map point ys)
absent_points x [] h w a = tt
absent_points x (y ∷ ys) h w a = (
  point_ne y x (within_head 16 y ys w) h (absent_head x y ys a),
  absent_points x ys h (within_tail 16 y ys w) (absent_tail x y ys a),
)

pub distinct_points : (xs : List ℕ) → within 16 xs ≡ true → different xs ≡ true → Distinct (map point xs)
distinct_points [] w d = tt
distinct_points (x ∷ xs) w d = (
  absent_points x xs (within_head 16 x xs w) (within_tail 16 x xs w) (different_head x xs d),
  distinct_points xs (within_tail 16 x xs w) (different_tail x xs d),
)

pub distinct_places : Distinct places
unfolding point
distinct_places = distinct_points (0 ∷ 1 ∷ 2 ∷ 3 ∷ []) refl refl
