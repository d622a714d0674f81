-- Bytes as elements and as points of the field. A user wants `evaluate_is`: the value at a point of the polynomial whose coefficients are bytes is the
-- number that `evaluate` gives; `distinct_points`: different bytes are different points; and `firsts_low`: the numbers 0 to m - 1 are bytes.
use Rattle.std.specs.Prelude.{◌≡◌, refl, List, [], ◌∷◌, map, ℕ, zero, suc, ◌%◌, ◌≤◌, ◌<◌, get_or}
use Rattle.std.proofs.Common.{sym, ap, ap₂, ◌∙◌, arith}
use Rattle.std.specs.Int.Bits.{bit_xor}
use Rattle.std.proofs.lemmas.Nat.{xor_lt}
use Rattle.algebra.specs.BinaryLaws.{bound}
use Rattle.algebra.specs.BinaryField.{below, below_is}
use Rattle.algebra.specs.Polynomial.{Point, fin, inf, All, Distinct, value}
use Rattle.buffer.specs.Loops.{entries}
use Rattle.field256.specs.Gf256.{product}
use Rattle.field256.specs.Gf256Laws.{Byte, gf256, tested}
use Rattle.coder.specs.ListLaws.{all-entries}
use Rattle.coder.specs.Interpolated.{Bytes, evaluate, element, point}

pub small : (x : ℕ) → x < 256 → x % 256 ≡ x
small x h = omega arith

-- ---- elements
element_is : (a : Byte) → element a.0 ≡ a
element_is a = below_is 8 (element a.0) a (small a.0 (below 8 a))

pub elements_are : (l : List Byte) → map element (map (λ (a : Byte). a.0) l) ≡ l
elements_are [] = refl
elements_are (a ∷ l) = ap₂ (λ (x : Byte) (t : List Byte). x ∷ t) (element_is a) (elements_are l)

pub numbers_are : (l : List ℕ) → Bytes l → map (λ (a : Byte). a.0) (map element l) ≡ l
numbers_are [] b = refl
numbers_are (x ∷ l) b = ap₂ (λ (y : ℕ) (t : List ℕ). y ∷ t) (small x b.0) (numbers_are l b.1)

pub numbers_low : (l : List Byte) → Bytes (map (λ (a : Byte). a.0) l)
numbers_low [] = tt
numbers_low (a ∷ l) = (below 8 a, numbers_low l)

-- a byte of a list of bytes, and what is past the end
pub byte_low : (l : List ℕ) → Bytes l → (k : ℕ) → get_or l k 0 < 256
byte_low [] b k = omega arith
byte_low (x ∷ l) b zero = b.0
byte_low (x ∷ l) b (suc k) = byte_low l b.1 k

-- ---- points
number : Point Byte → ℕ
number (fin a) = a.0
number inf = 256

pub point_is : (p q : ℕ) → p < 256 → q < 256 → point p ≡ point q → p ≡ q
unfolding number
point_is p q hp hq e = sym (small p hp) ∙ ap number e ∙ small q hq

pub all_points : (P : ℕ → Type 0) (Q : Point Byte → Type 0) → ((p : ℕ) → p < 256 → P p → Q (point p)) → (ps : List ℕ) → Bytes ps → All P ps
    → All Q (map point ps)
all_points P Q h [] l a = tt
all_points P Q h (p ∷ ps) l a = (h p l.0 a.0, all_points P Q h ps l.1 a.1)

pub distinct_points : (ps : List ℕ) → Bytes ps → Distinct ps → Distinct (map point ps)
distinct_points [] l d = tt
distinct_points (p ∷ ps) l d = (
  all_points (λ y. y ≡ p → ⊥) (λ C. C ≡ point p → ⊥) (λ y h n e. n (point_is y p h l.0 e)) ps l.1 d.0,
  distinct_points ps l.1 d.1,
)

-- ---- polynomials
pub evaluate_low : (p : List ℕ) → Bytes p → (x : ℕ) → x < 256 → evaluate p x < 256
unfolding evaluate
evaluate_low [] b x h = omega arith
evaluate_low (a ∷ p) b x h =
    xor_lt 8 a (product x (evaluate p x)) b.0 (bound tested x (evaluate p x) h (evaluate_low p b.1 x h))

pub evaluate_is : (p : List ℕ) → Bytes p → (x : ℕ) → x < 256 → (value gf256 (map element p) (point x)).0 ≡ evaluate p x
unfolding evaluate
evaluate_is [] b x h = refl
evaluate_is (a ∷ p) b x h = ap₂ bit_xor (small a b.0) (ap₂ product (small x h) (evaluate_is p b.1 x h))

-- ---- the numbers 0 to m - 1
pub firsts_low : (m : ℕ) → m ≤ 256 → Bytes (entries m (λ k. k))
firsts_low m h = all-entries (λ k. k < 256) m (λ k. k) (λ k l. omega arith)
