-- Four bodies weighed and added up, byte by byte: each byte is the code's sum of four weighed bytes (`byte_weighed`), and each byte of the bodies at a
-- column is the code's byte there (`byte_at`). Both are bodies again (`weighed_is`, `is_at`).
use Rattle.std.specs.Prelude.{◌≡◌, refl, true, List, [], ◌∷◌, ℕ, ◌≤◌, ◌<◌, ltb, length, get_or}
use Rattle.std.proofs.Common.{sym, ap, ◌∙◌, arith, ltb-true, ltb-false}
use Rattle.std.specs.Int.Bits.{bit_xor, xor_zero_r}
use Rattle.algebra.specs.Xor.{xor_assoc}
use Rattle.buffer.specs.ChoiceLaws.{by-test}
use Rattle.buffer.specs.Bytes.{byte}
use Rattle.buffer.specs.ByteLaws.{byte_past}
use Rattle.buffer.specs.Loops.{entries}
use Rattle.buffer.specs.RangeLaws.{below-four, entries_of}
use Rattle.code.specs.Scaling.{scale}
use Rattle.code.specs.Matrix.{entry, within}
use Rattle.code.specs.Columns.{column}
use Rattle.code.specs.MatrixLaws.{column_within}
use Rattle.code.specs.Lists.{four, within_four}
use Rattle.code.specs.Weights.{mixed}
use Rattle.code.specs.Bytes.{encode_bytes}
use Rattle.code.proofs.Halves.{mixed_bound, encode_mixed}
use Rattle.group.specs.Body.{IsBody, Bodies, scale_body}
use Rattle.group.specs.BodyLaws.{length_scale, byte_scale}
use Rattle.group.specs.Parity.{body_at}
use Rattle.group.proofs.ParityLaws.{sum4_ext, length_sum4, byte_sum4}
use Rattle.group.specs.Rebuilding.{weighed}

-- byte k of each of the four
abbrev pub across : (ℕ → List ℕ) → ℕ → List ℕ
across bodies k = byte (bodies 0) k ∷ byte (bodies 1) k ∷ byte (bodies 2) k ∷ byte (bodies 3) k ∷ []

pub across_at : (bodies : ℕ → List ℕ) (k p : ℕ) → p < 4 → get_or (across bodies k) p 0 ≡ byte (bodies p) k
across_at bodies k = below-four (λ p. get_or (across bodies k) p 0 ≡ byte (bodies p) k) refl refl refl refl

regroup : (a b c d : ℕ) → bit_xor (bit_xor (bit_xor a b) c) d ≡ bit_xor a (bit_xor b (bit_xor c (bit_xor d 0)))
regroup a b c d = xor_assoc (bit_xor a b) c d ∙ xor_assoc a b (bit_xor c d) ∙ ap (λ x. bit_xor a (bit_xor b (bit_xor c x))) (sym (xor_zero_r d))

pub length_weighed : (n : ℕ) (ws : List ℕ) (bodies : ℕ → List ℕ) → ((i : ℕ) → i < 4 → length (bodies i) ≡ n) → length (weighed ws bodies) ≡ n
unfolding weighed
length_weighed n ws bodies h = length_sum4 n (λ i. scale_body (get_or ws i 0) (bodies i)) (λ i l. length_scale (get_or ws i 0) (bodies i) ∙ h i l)

weighed_four : (n : ℕ) (bodies : ℕ → List ℕ) → ((i : ℕ) → i < 4 → length (bodies i) ≡ n) → (k : ℕ) → k < n → (w x y z : ℕ)
    → byte (weighed (w ∷ x ∷ y ∷ z ∷ []) bodies) k ≡ mixed (w ∷ x ∷ y ∷ z ∷ []) (across bodies k)
unfolding weighed
weighed_four n bodies h k l w x y z =
    byte_sum4 n (λ i. scale_body (get_or (w ∷ x ∷ y ∷ z ∷ []) i 0) (bodies i)) (λ i q. length_scale (get_or (w ∷ x ∷ y ∷ z ∷ []) i 0) (bodies i) ∙ h i q) k
    ∙ rw (
      byte_scale w (bodies 0) k (long 0 (omega arith)),
      byte_scale x (bodies 1) k (long 1 (omega arith)),
      byte_scale y (bodies 2) k (long 2 (omega arith)),
      byte_scale z (bodies 3) k (long 3 (omega arith)),
    )
    (regroup (scale w (byte (bodies 0) k)) (scale x (byte (bodies 1) k)) (scale y (byte (bodies 2) k)) (scale z (byte (bodies 3) k)))
  where
    long : (i : ℕ) → i < 4 → k < length (bodies i)
    long i q = rw (h i q) l

pub byte_weighed : (n : ℕ) (ws : List ℕ) → length ws ≡ 4 → (bodies : ℕ → List ℕ) → ((i : ℕ) → i < 4 → length (bodies i) ≡ n) → (k : ℕ) → k < n
    → byte (weighed ws bodies) k ≡ mixed ws (across bodies k)
byte_weighed n ws e bodies h k l =
    four (λ ws. byte (weighed ws bodies) k ≡ mixed ws (across bodies k)) (weighed_four n bodies h k l) ws e

-- bodies give a body
pub across_within : {n : ℕ} (f : ℕ → List ℕ) → Bodies n f → (k : ℕ) → within 255 (across f k) ≡ true
across_within f is k =
    within_four 255 (byte (f 0) k) (byte (f 1) k) (byte (f 2) k) (byte (f 3) k)
    (omega (arith, (is 0 (omega arith)).bytes k)) (omega (arith, (is 1 (omega arith)).bytes k))
    (omega (arith, (is 2 (omega arith)).bytes k)) (omega (arith, (is 3 (omega arith)).bytes k))

pub weighed_is : (n : ℕ) (ws : List ℕ) → length ws ≡ 4 → within 15 ws ≡ true → (bodies : ℕ → List ℕ) → Bodies n bodies → IsBody n (weighed ws bodies)
weighed_is n ws e w bodies is =
    record {
      size = long;
      bytes = λ k. by-test (λ _. byte (weighed ws bodies) k < 256) (ltb k n) (λ t. inside k (ltb-true k n t)) (λ t. behind k (ltb-false k n t));
    }
  where
    sizes : (i : ℕ) → i < 4 → length (bodies i) ≡ n
    sizes i l = (is i l).size

    long : length (weighed ws bodies) ≡ n
    long = length_weighed n ws bodies sizes

    inside : (k : ℕ) → k < n → byte (weighed ws bodies) k < 256
    inside k l = rw (byte_weighed n ws e bodies sizes k l) (mixed_bound ws (across bodies k) w (across_within bodies is k))

    behind : (k : ℕ) → n ≤ k → byte (weighed ws bodies) k < 256
    behind k l = let past : length (weighed ws bodies) ≤ k = rw long l in omega (arith, byte_past (weighed ws bodies) k past)

-- the sum as code writes it, byte by byte
pub weighed_entries : (n : ℕ) (ws : List ℕ) → length ws ≡ 4 → (bodies : ℕ → List ℕ) → ((i : ℕ) → i < 4 → length (bodies i) ≡ n)
    → weighed ws bodies ≡ entries n (λ k. mixed ws (across bodies k))
weighed_entries n ws e bodies h =
    entries_of (weighed ws bodies) n (λ k. mixed ws (across bodies k)) (length_weighed n ws bodies h) (λ k l. byte_weighed n ws e bodies h k l)

pub weighed_ext : (ws : List ℕ) (f g : ℕ → List ℕ) → ((i : ℕ) → i < 4 → f i ≡ g i) → weighed ws f ≡ weighed ws g
unfolding weighed
weighed_ext ws f g h = sum4_ext (λ i. scale_body (get_or ws i 0) (f i)) (λ i. scale_body (get_or ws i 0) (g i)) (λ i l. ap (scale_body (get_or ws i 0)) (h i l))

-- a byte of the bodies at a column is the code's byte there
at_weighed : (c : ℕ) (f : ℕ → List ℕ) → body_at c f ≡ weighed (column c) f
unfolding body_at weighed
at_weighed c f =
    sum4_ext (λ p. scale_body (entry p c) (f p)) (λ p. scale_body (get_or (column c) p 0) (f p))
    (below-four (λ p. scale_body (entry p c) (f p) ≡ scale_body (get_or (column c) p 0) (f p)) refl refl refl refl)

pub byte_at : (n c : ℕ) → c < 17 → (f : ℕ → List ℕ) → ((p : ℕ) → p < 4 → length (f p) ≡ n) → (k : ℕ) → k < n → byte (body_at c f) k ≡ encode_bytes (across f k) c
byte_at n c i f h k l = ap (λ x. byte x k) (at_weighed c f) ∙ byte_weighed n (column c) refl f h k l ∙ encode_mixed (across f k) refl c i

pub is_at : (n c : ℕ) → c < 17 → (f : ℕ → List ℕ) → Bodies n f → IsBody n (body_at c f)
is_at n c h f is = rw (at_weighed c f) (weighed_is n (column c) refl (column_within c h) f is)
