-- Tests joined by "and" and "or", from what is known of one of them, and by differences.
use mathlib.Core.Path.{◌≡◌, refl, ap, ◌∙◌}
use mathlib.Core.Bool.{Bool, true, false, ◌&&◌, ◌||◌}
use Prim.Native.Nat.{ℕ}
use lib.Bits.{bit_xor, xor_self}
use lib.Dec.{eqb}
use borrow.Author.Tests.{eqb-true, eqb-false, eq-eqb}
use Rattle.algebra.specs.Xor.{xor_ne}
use Rattle.buffer.specs.ChoiceLaws.{by-test}
use Rattle.buffer.specs.TestLaws.{same_test}

-- "both a and c, or else x"
pub or_right : (a c x : Bool) → a ≡ false → ((a && c) || x) ≡ true → x ≡ true
or_right a c x e h = rw e at h

pub or_left : (a c x : Bool) → c ≡ false → ((a && c) || x) ≡ true → x ≡ true
or_left true c x e h = rw e at h
or_left false c x e h = h

pub either : (a c x : Bool) → a ≡ true → (c ≡ false → x ≡ true) → ((a && c) || x) ≡ true
either a true x e h = rw e
either a false x e h = rw (e, h refl)

pub behind : (a c x : Bool) → x ≡ true → ((a && c) || x) ≡ true
behind true true x h = refl
behind true false x h = h
behind false c x h = h

-- a first test apart from those behind it
pub and_assoc : (a b c : Bool) → (a && b && c) ≡ (a && (b && c))
and_assoc true b c = refl
and_assoc false b c = refl

pub and_three : (a b c d : Bool) → (a && b && c && d) ≡ (a && (b && c && d))
and_three true b c d = refl
and_three false b c d = refl

pub and_four : (a b c d e : Bool) → (a && b && c && d && e) ≡ (a && (b && c && d && e))
and_four true b c d e = refl
and_four false b c d e = refl

-- two numbers are the same where their difference is 0
pub xor_same : (a b : ℕ) → eqb (bit_xor a b) 0 ≡ eqb a b
xor_same a b =
    same_test (eqb (bit_xor a b) 0) (eqb a b)
    (λ h. by-test (λ t. t ≡ true) (eqb a b) (λ _. refl) (λ q. absurd (xor_ne a b (eqb-false a b q) (eqb-true (bit_xor a b) 0 h))))
    (λ h. eq-eqb (bit_xor a b) 0 (ap (λ (x : ℕ). bit_xor x b) (eqb-true a b h) ∙ xor_self b))
