-- Keys read low byte first: a turned key is 0, is another turned key and has a unit exactly as the key, so what is asked of a list is asked of the turned one.
use mathlib.Core.Path.{◌≡◌, refl, sym, ap, ap₂, ◌∙◌}
use mathlib.Core.Bool.{Bool, true, false, ◌&&◌, ◌||◌, not}
use mathlib.Core.List.{List, [], ◌∷◌}
use Prim.Native.Nat.{ℕ, zero, suc, ◌+◌, ◌*◌, ◌<◌}
use native.Mathlib.Omega.{arith}
use lib.Bits.{bit_or}
use lib.Dec.{eqb, ltb}
use Rattle.buffer.specs.Bytes.{byte, be32}
use Rattle.buffer.specs.ByteOrder.{le32, turn}
use Rattle.buffer.specs.ByteOrderLaws.{le_be_same, le_be_zero, turn_le}
use borrow.Author.Tests.{eqb-true, eq-eqb}
use Rattle.std.specs.Bool.{then_some}
use Rattle.buffer.specs.Range.{all}
use Rattle.buffer.specs.RangeLaws.{all_ext, first_ext}
use Rattle.buffer.specs.Strided.{strided32}
use Rattle.buffer.specs.TestLaws.{same_test, or_zero}
use Rattle.group.specs.Widths.{check_bytes}
use Rattle.model.specs.Units.{address, unit_of}
use Rattle.model.proofs.DigitLaws.{digit_sum_turned}
use Rattle.soundness.specs.Keys.{turned_keys, fill_of, is_new, new_and_same, own_keys, own_from, own_row, found}

module _ (s : List ℕ) (bound : (i : ℕ) → byte s i < 256) where
  turned_unit : (m x : ℕ) → unit_of m (le32 s x) ≡ unit_of m (be32 s x)
  unfolding unit_of le32 be32
  turned_unit m x = ap (address m) (digit_sum_turned _ _ _ _ (bound x) (bound (x + 1)) (bound (x + 2)) (bound (x + 3)))

  fill_turned : (base step b : ℕ) → fill_of b (turned_keys s base step) ≡ fill_of b (strided32 s base step)
  unfolding fill_of turned_keys strided32
  fill_turned base step b = first_ext b _ _ (λ r _. le_be_zero s bound (base + step * r))

  pub own_turned : (m u base step n : ℕ) → own_keys m u n (turned_keys s base step) ≡ own_keys m u n (strided32 s base step)
  unfolding own_keys turned_keys strided32
  own_turned m u base step n = all_ext n _ _ (λ r _. ap (λ v. eqb v u) (turned_unit m (base + step * r)))

  pub own_from_turned : (m u base step f n : ℕ) → own_from m u f n (turned_keys s base step) ≡ own_from m u f n (strided32 s base step)
  unfolding own_from turned_keys strided32
  own_from_turned m u base step f n = all_ext n _ _ (λ r _. ap (λ v. ltb r f || eqb v u) (turned_unit m (base + step * r)))

  -- the four keys of a rank, by numbers that are 0 where each belongs to its unit
  pub row_turned : (list m u r a b c d : ℕ) → eqb a 0 ≡ eqb (unit_of m (turned_keys s list check_bytes r)) u
      → eqb b 0 ≡ eqb (unit_of m (turned_keys s (list + 4) check_bytes r)) (u + 1)
      → eqb c 0 ≡ eqb (unit_of m (turned_keys s (list + 8) check_bytes r)) (u + 2)
      → eqb d 0 ≡ eqb (unit_of m (turned_keys s (list + 12) check_bytes r)) (u + 3)
      → eqb (bit_or (bit_or a b) (bit_or c d)) 0 ≡ own_row s list m u r
  unfolding own_row all turned_keys strided32
  row_turned list m u r a b c d first second third fourth =
      let test : ℕ → ℕ → Bool = λ x v. eqb (unit_of m (be32 s x)) v in
      let own : (x v : ℕ) → eqb (unit_of m (le32 s x)) v ≡ test x v = λ x v. ap (λ w. eqb w v) (turned_unit m x) in
      let at : list + check_bytes * r ≡ list + 4 * 0 + check_bytes * r = omega arith in
      let at_unit : u ≡ u + 0 = omega arith in
      or_zero (bit_or a b) (bit_or c d)
      ∙ ap₂ (λ x y. x && y) (or_zero a b) (or_zero c d)
      ∙ rw (first ∙ own _ _ ∙ ap₂ test at at_unit, second ∙ own _ _, third ∙ own _ _, fourth ∙ own _ _)
      (four (test (list + 4 * 0 + check_bytes * r) (u + 0)) (test (list + 4 + check_bytes * r) (u + 1)) (test (list + 8 + check_bytes * r) (u + 2))
      (test (list + 12 + check_bytes * r) (u + 3)))
    where
      four : (a b c d : Bool) → ((a && b) && (c && d)) ≡ (true && a && b && c && d)
      four true true c d = refl
      four true false c d = refl
      four false b c d = refl

-- two lists, each of bytes of its own
four_bound : (a b c d : ℕ) → a < 256 → b < 256 → c < 256 → d < 256 → (i : ℕ) → byte (a ∷ b ∷ c ∷ d ∷ []) i < 256
four_bound a b c d ha hb hc hd zero = ha
four_bound a b c d ha hb hc hd (suc zero) = hb
four_bound a b c d ha hb hc hd (suc (suc zero)) = hc
four_bound a b c d ha hb hc hd (suc (suc (suc zero))) = hd
four_bound a b c d ha hb hc hd (suc (suc (suc (suc i)))) = omega arith

turn_be : (s : List ℕ) → ((i : ℕ) → byte s i < 256) → (x : ℕ) → turn (be32 s x) ≡ le32 s x
unfolding le32 be32
turn_be s bound x =
    let a = byte s x in
    let b = byte s (x + 1) in
    let c = byte s (x + 2) in
    let d = byte s (x + 3) in
    let low : be32 s x ≡ d + c * 256 + b * 65536 + a * 16777216 = omega arith in
    let high : d * 16777216 + c * 65536 + b * 256 + a ≡ le32 s x = omega arith in
    ap turn low ∙ turn_le (d ∷ c ∷ b ∷ a ∷ []) (four_bound d c b a (bound (x + 3)) (bound (x + 2)) (bound (x + 1)) (bound x)) 0 ∙ high

module _ (s t : List ℕ) (bound : (i : ℕ) → byte s i < 256) (bound' : (i : ℕ) → byte t i < 256) where
  two_same : (x y : ℕ) → eqb (le32 s x) (le32 t y) ≡ eqb (be32 s x) (be32 t y)
  two_same x y =
      same_test _ _
      (λ e. eq-eqb _ _ (sym (turn_le s bound x) ∙ ap turn (eqb-true _ _ e) ∙ turn_le t bound' y))
      (λ e. eq-eqb _ _ (sym (turn_be s bound x) ∙ ap turn (eqb-true _ _ e) ∙ turn_be t bound' y))

  all_turned : (base step other apart n : ℕ)
      → all n (new_and_same (turned_keys s base step) (turned_keys t other apart)) ≡ all n (new_and_same (strided32 s base step) (strided32 t other apart))
  unfolding new_and_same is_new turned_keys strided32
  all_turned base step other apart n =
      let at : ℕ → ℕ = λ r. base + step * r in
      all_ext n _ _ (λ r _.
      ap₂ (λ x y. x && y) (all_ext r _ _ (λ q _. ap not (le_be_same s bound (at q) (at r)))) (two_same (at r) (other + apart * r)))

  pub found_turned : (own : ℕ → (ℕ → ℕ) → Bool) (base step other apart b : ℕ)
      → ((n : ℕ) → own n (turned_keys t other apart) ≡ own n (strided32 t other apart))
      → found own b (turned_keys s base step) (turned_keys t other apart) ≡ found own b (strided32 s base step) (strided32 t other apart)
  unfolding found
  found_turned own base step other apart b law =
      let key = turned_keys s base step in
      let beside = turned_keys t other apart in
      ap (λ n. then_some (all n (new_and_same key beside) && own n beside) n) (fill_turned s bound base step b)
      ∙ ap₂ (λ x y. then_some (x && y) (fill_of b (strided32 s base step))) (all_turned base step other apart _) (law _)
