-- Laws of bodies: the sum is commutative and associative, has zeros and is its own difference; a product with a symbol is linear; both byte by
-- byte. Where a law asks no length, it holds for lists of any lengths.
use Rattle.std.specs.Prelude.{◌≡◌, refl, ℕ, zero, suc, ◌<◌, length}
use Rattle.std.proofs.Common.{sym, ap, ap₂, ◌∙◌, arith}
use mathlib.Core.List.{List, [], ◌∷◌, zip_with}
use Rattle.std.specs.Int.Bits.{bit_xor, xor_self, xor_zero_l}
use Rattle.std.proofs.lemmas.Nat.{xor_comm}
use Rattle.std.proofs.lemmas.List.{length-map}
use Rattle.algebra.specs.Xor.{xor_assoc}
use Rattle.buffer.specs.Bytes.{byte, zeros}
use Rattle.buffer.specs.ByteLaws.{byte_zeros, length_zeros, bytes_ext}
use Rattle.buffer.specs.Loops.{entries}
use Rattle.buffer.specs.RangeLaws.{entries_of}
use Rattle.code.specs.Scaling.{scale}
use Rattle.code.specs.ScalingLaws.{scale_add}
use Rattle.group.specs.Body.{IsBody, add_body, scale_body}

-- ---- lengths
pub length_add : (n : ℕ) (x y : List ℕ) → length x ≡ n → length y ≡ n → length (add_body x y) ≡ n
unfolding add_body zip_with
length_add n [] y p q = p
length_add zero (a ∷ x) [] p q = q
length_add (suc n) (a ∷ x) [] p q = absurd (omega arith)
length_add zero (a ∷ x) (b ∷ y) p q = absurd (omega arith)
length_add (suc n) (a ∷ x) (b ∷ y) p q = ap suc (length_add n x y (omega arith) (omega arith))

pub length_scale : (c : ℕ) (x : List ℕ) → length (scale_body c x) ≡ length x
unfolding scale_body
length_scale c x = length-map x (scale c)

-- ---- one byte
pub byte_add : (x y : List ℕ) (i : ℕ) → length x ≡ length y → byte (add_body x y) i ≡ bit_xor (byte x i) (byte y i)
unfolding add_body zip_with
byte_add [] [] i e = refl
byte_add [] (b ∷ y) i e = absurd (omega arith)
byte_add (a ∷ x) [] i e = absurd (omega arith)
byte_add (a ∷ x) (b ∷ y) zero e = refl
byte_add (a ∷ x) (b ∷ y) (suc i) e = byte_add x y i (omega arith)

pub byte_scale : (c : ℕ) (x : List ℕ) (i : ℕ) → i < length x → byte (scale_body c x) i ≡ scale c (byte x i)
unfolding scale_body
byte_scale c [] i h = absurd (omega arith)
byte_scale c (a ∷ x) zero h = refl
byte_scale c (a ∷ x) (suc i) h = byte_scale c x i (omega arith)

-- the sum as code writes it, byte by byte
pub add_entries : (x y : List ℕ) → length x ≡ length y → add_body x y ≡ entries (length x) (λ i. bit_xor (byte x i) (byte y i))
add_entries x y e =
    entries_of (add_body x y) (length x) (λ i. bit_xor (byte x i) (byte y i)) (length_add (length x) x y refl (sym e)) (λ i h. byte_add x y i e)

-- ---- sums
pub add_comm : (x y : List ℕ) → add_body x y ≡ add_body y x
unfolding add_body zip_with
add_comm [] [] = refl
add_comm [] (b ∷ y) = refl
add_comm (a ∷ x) [] = refl
add_comm (a ∷ x) (b ∷ y) = ap₂ (λ (u : ℕ) (v : List ℕ). u ∷ v) (xor_comm a b) (add_comm x y)

pub add_assoc : (x y z : List ℕ) → add_body (add_body x y) z ≡ add_body x (add_body y z)
unfolding add_body zip_with
add_assoc [] y z = refl
add_assoc (a ∷ x) [] z = refl
add_assoc (a ∷ x) (b ∷ y) [] = refl
add_assoc (a ∷ x) (b ∷ y) (c ∷ z) = ap₂ (λ (u : ℕ) (v : List ℕ). u ∷ v) (xor_assoc a b c) (add_assoc x y z)

-- four terms, the middle two exchanged
pub add_swap : (a b c d : List ℕ) → add_body (add_body a b) (add_body c d) ≡ add_body (add_body a c) (add_body b d)
add_swap a b c d =
    add_assoc a b (add_body c d)
    ∙ ap (add_body a) (sym (add_assoc b c d) ∙ ap (λ v. add_body v d) (add_comm b c) ∙ add_assoc c b d)
    ∙ sym (add_assoc a c (add_body b d))

pub zeros_add : (n : ℕ) (x : List ℕ) → length x ≡ n → add_body (zeros n) x ≡ x
zeros_add n x e =
    bytes_ext
    (add_body (zeros n) x)
    x
    (length_add n (zeros n) x (length_zeros n) e ∙ sym e)
    (λ i h. byte_add (zeros n) x i (length_zeros n ∙ sym e) ∙ rw byte_zeros (xor_zero_l (byte x i)))

pub add_zeros : (n : ℕ) (x : List ℕ) → length x ≡ n → add_body x (zeros n) ≡ x
add_zeros n x e = add_comm x (zeros n) ∙ zeros_add n x e

pub add_self : (n : ℕ) (x : List ℕ) → length x ≡ n → add_body x x ≡ zeros n
add_self n x e =
    bytes_ext
    (add_body x x)
    (zeros n)
    (length_add n x x e e ∙ sym (length_zeros n))
    (λ i h. byte_add x x i refl ∙ rw byte_zeros (xor_self (byte x i)))

-- what was added is taken away by adding it again
pub add_back : (n : ℕ) (x y : List ℕ) → length x ≡ n → length y ≡ n → add_body x (add_body x y) ≡ y
add_back n x y p q = sym (add_assoc x x y) ∙ ap (λ v. add_body v y) (add_self n x p) ∙ zeros_add n y q

-- ---- products with a symbol
pub scale_sum : (c : ℕ) → c < 16 → (x y : List ℕ) → scale_body c (add_body x y) ≡ add_body (scale_body c x) (scale_body c y)
unfolding scale_body add_body zip_with
scale_sum c h [] y = refl
scale_sum c h (a ∷ x) [] = refl
scale_sum c h (a ∷ x) (b ∷ y) = ap₂ (λ (u : ℕ) (v : List ℕ). u ∷ v) (scale_add c a b h) (scale_sum c h x y)

-- a symbol times the byte 0
scale_none : (c : ℕ) → c < 16 → scale c 0 ≡ 0
scale_none c h = scale_add c 0 0 h ∙ xor_self (scale c 0)

pub scale_zeros : (c n : ℕ) → c < 16 → scale_body c (zeros n) ≡ zeros n
scale_zeros c n h =
    bytes_ext (scale_body c (zeros n)) (zeros n) (length_scale c (zeros n)) (λ i l.
    byte_scale c (zeros n) i (rw (length_scale c (zeros n)) at l) ∙ rw byte_zeros (scale_none c h))

-- ---- zeros are a body
pub zeros_is : (n : ℕ) → IsBody n (zeros n)
zeros_is n = record { size = length_zeros n; bytes = λ i. omega (arith, byte_zeros n i) }
