-- Powers and logarithms. A reader wants `double_is` (doubling by a shift and a correction), `power_add`, `power_mod` (exponents count modulo 255),
-- `power_log` (a byte that is not 0 is the power of its logarithm), `log_power` (the other way round) and `product_log` (the product by logarithms).
use Rattle.std.specs.Prelude.{◌≡◌, refl, Bool, ◌||◌, List, [], ◌∷◌, ℕ, zero, suc, ◌+◌, ◌*◌, ◌/◌, ◌%◌, ◌≤◌, ◌<◌, T, ltb, eqb, length, get_or}
use Rattle.std.proofs.Common.{sym, ap, ap₂, ◌∙◌, subst, le_of_suc-le-suc, not-suc-le-zero, div-add-mod', arith, eqb→eq, ltb→lt, lit<, eqb-true}
use Rattle.std.specs.Int.Bits.{bit_xor}
use Rattle.algebra.specs.Every.{every, every_at, either_second}
use Rattle.algebra.specs.Binary.{times, remainder, product_in}
use Rattle.algebra.specs.BinaryLinear.{zero_product}
use Rattle.algebra.specs.BinaryLaws.{one}
use Rattle.algebra.specs.BinaryPowers as binary
use Rattle.buffer.specs.Choice.{pick}
use Rattle.buffer.specs.ChoiceLaws.{by-test, by-pick}
use Rattle.buffer.specs.RangeLaws.{get_or_entries}
use Rattle.field256.specs.Gf256.{product}
use Rattle.field256.specs.Gf256Laws.{tested}
use Rattle.field256.specs.Powers.{order, power, powers, index, logarithm, logarithms}

-- ---- doubling: a shift, and 29 for a t^8, which leaves the byte; a computed test of all bytes
double_all : T (every 256 (λ x. eqb (bit_xor (x % 128 * 2) (x / 128 * 29)) (product 2 x)))
unfolding every product_in remainder times
double_all = tt

pub double_is : (x : ℕ) → x < 256 → bit_xor (x % 128 * 2) (x / 128 * 29) ≡ product 2 x
double_is x h =
    eqb→eq (bit_xor (x % 128 * 2) (x / 128 * 29)) (product 2 x)
    (every_at 256 (λ y. eqb (bit_xor (y % 128 * 2) (y / 128 * 29)) (product 2 y)) double_all x h)

-- ---- powers
pub power_none : power 0 ≡ 1
unfolding binary.power
power_none = refl

pub power_low : (n : ℕ) → power n < 256
power_low n = binary.power_low tested (lit< tt) n

pub power_add : (a b : ℕ) → power (a + b) ≡ product (power a) (power b)
power_add a b = binary.power_add tested (lit< tt) a b

length_powers : length powers ≡ order
unfolding powers
length_powers = binary.length_doublings 8 285 order 1

powers_at : (k : ℕ) → k < order → get_or powers k 0 ≡ power k
unfolding powers
powers_at k h = binary.doublings_at 8 285 order k h

-- ---- exponents count modulo 255
power_order : power order ≡ 1
unfolding binary.power product_in remainder times
power_order = refl

pub power_period : (t : ℕ) → power (t * order) ≡ 1
power_period zero = power_none
power_period (suc t) = ap power (more t) ∙ power_add order (t * order) ∙ ap₂ product power_order (power_period t) ∙ one tested 1 (lit< tt)
  where
    more : (t : ℕ) → suc t * 255 ≡ 255 + t * 255
    more t = omega arith

pub power_mod : (n : ℕ) → power (n % order) ≡ power n
power_mod n =
    sym (ap power (sym (div-add-mod' n order)) ∙ power_add (n / order * order) (n % order)
    ∙ ap (λ (x : ℕ). product x (power (n % order))) (power_period (n / order))
    ∙ binary.one_product tested (lit< tt) (power (n % order)) (power_low (n % order)))

-- a power is not 0
pub power_ne : (n : ℕ) → power n ≡ 0 → ⊥
power_ne n e =
    one_ne (sym (sym (power_add n (n * 254)) ∙ ap power (whole n) ∙ power_period n)
    ∙ ap (λ (x : ℕ). product x (power (n * 254))) e ∙ zero_product 8 285 (power (n * 254)))
  where
    one_ne : ◌≡◌ {A = ℕ} 1 0 → ⊥
    one_ne e = omega arith

    whole : (n : ℕ) → n + n * 254 ≡ n * 255
    whole n = omega arith

-- ---- the place in a list
index_is : (l : List ℕ) (x : ℕ) → index l x < length l → get_or l (index l x) 0 ≡ x
unfolding index pick
index_is [] x h = absurd (not-suc-le-zero h)
index_is (y ∷ l) x h =
    by-test (λ b. pick b 0 (suc (index l x)) < suc (length l) → get_or (y ∷ l) (pick b 0 (suc (index l x))) 0 ≡ x) (eqb x y)
    (λ e k. sym (eqb-true x y e)) (λ e k. index_is l x (le_of_suc-le-suc k)) h

index_le : (l : List ℕ) (x : ℕ) → index l x ≤ length l
unfolding index
index_le [] x = omega arith
index_le (y ∷ l) x = by-pick (λ n. n ≤ suc (length l)) (eqb x y) 0 (suc (index l x)) (λ e. omega arith) (λ e. omega (arith, index_le l x))

-- ---- logarithms: computed tests that every byte but 0 is a power, and that the powers are different
listed : List ℕ → ℕ → Bool
listed l x = eqb x 0 || ltb (index l x) order

placed : List ℕ → ℕ → Bool
placed l i = eqb (index l (get_or l i 0)) i

Listed : List ℕ → Type 0
Listed l = T (every 256 (listed l))

Placed : List ℕ → Type 0
Placed l = T (every order (placed l))

all_listed : Listed powers
unfolding Listed every listed powers binary.doublings product_in remainder times index pick
all_listed = tt

all_placed : Placed powers
unfolding Placed every placed powers binary.doublings product_in remainder times index pick
all_placed = tt

pub log_low : (a : ℕ) → a < 256 → (a ≡ 0 → ⊥) → logarithm a < order
unfolding Listed listed logarithm
log_low a h n =
    ltb→lt (index powers a) order (either_second (eqb a 0) (ltb (index powers a) order) (λ t. n (eqb→eq a 0 t)) (every_at 256 (listed powers) all_listed a h))

-- of any number
pub log_le : (a : ℕ) → logarithm a ≤ order
unfolding logarithm
log_le a = subst (λ (k : ℕ). index powers a ≤ k) length_powers (index_le powers a)

pub power_log : (a : ℕ) → a < 256 → (a ≡ 0 → ⊥) → power (logarithm a) ≡ a
unfolding logarithm
power_log a h n =
    let low : index powers a < order = log_low a h n in
    sym (powers_at (index powers a) low) ∙ index_is powers a (subst (λ (k : ℕ). index powers a < k) (sym length_powers) low)

pub log_power : (i : ℕ) → i < order → logarithm (power i) ≡ i
unfolding Placed placed logarithm
log_power i h = ap (index powers) (sym (powers_at i h)) ∙ eqb→eq (index powers (get_or powers i 0)) i (every_at order (placed powers) all_placed i h)

-- ---- the product by logarithms, of any two bytes but 0
pub product_log : (a b : ℕ) → a < 256 → b < 256 → (a ≡ 0 → ⊥) → (b ≡ 0 → ⊥) → power ((logarithm a + logarithm b) % order) ≡ product a b
product_log a b ha hb na nb =
    power_mod (logarithm a + logarithm b) ∙ power_add (logarithm a) (logarithm b) ∙ ap₂ product (power_log a ha na) (power_log b hb nb)

-- ---- reading the tables
pub power_read : (l : List ℕ) → l ≡ powers → (n : ℕ) → n < order → get_or l n 0 ≡ power n
power_read l e n h = ap (λ (t : List ℕ). get_or t n 0) e ∙ powers_at n h

pub log_read : (l : List ℕ) → l ≡ logarithms → (a x : ℕ) → suc x ≡ a → a < 256 → get_or l x 0 ≡ logarithm a
unfolding logarithms
log_read l e a x q h =
    ap (λ (t : List ℕ). get_or t x 0) e ∙ get_or_entries order (λ k. logarithm (suc k)) x 0 (omega arith) ∙ ap logarithm q
