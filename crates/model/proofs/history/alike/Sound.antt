-- What is sound stays sound in an alike store: no clause of soundness looks at the field of a record or at parity bytes.
use Prim.Native.Nat.{ℕ, ◌+◌, ◌*◌, ◌/◌, ◌<◌}
use mathlib.Core.Path.{◌≡◌, refl, sym, ap, ap₂, ◌∙◌}
use mathlib.Core.List.{List}
use mathlib.Core.Bool.{Bool, true, false, not, ◌&&◌, ◌||◌}
use native.Mathlib.Omega.{arith}
use lib.Dec.{eqb, ltb}
use lib.ListN.{length}
use Rattle.buffer.specs.Choice.{pick}
use Rattle.buffer.specs.TestLaws.{and-true, or_ext}
use Rattle.buffer.specs.Range.{all}
use Rattle.buffer.specs.RangeLaws.{all_ext, all_holds}
use Rattle.buffer.specs.Bytes.{byte, be32, zeros}
use Rattle.buffer.specs.ByteLaws.{be32_ext, be32_zeros}
use Rattle.group.specs.Widths.{slot_bytes, check_bytes}
use Rattle.model.specs.Units.{unit_of}
use Rattle.model.specs.Layout.{Store, bytes, view, store_bytes, units_in, key_of}
use Rattle.model.specs.LayoutLaws.{byte_front, length_bytes}
use Rattle.model.specs.Reads.{fill_in, listed_key, listed_fill, keys_lost_in}
use Rattle.model.proofs.LossLaws.{served_keys}
use Rattle.model.proofs.SameLosses.{keys_lost_same}
use Rattle.model.specs.Sound.{same, ranges, units_placed, checks_placed, zeroed, keys_placed, lists_agree, sound}
use Rattle.model.specs.SoundLaws.{same_true}
use Rattle.model.proofs.SoundSays.{slot_test, check_test, Zeroed, zeroed_says, clauses}
use Rattle.model.proofs.history.alike.Alike.{Alike, left_shaped, right_shaped, seen_alike, units_alike, level_alike, fill_alike, lists_alike}
use Rattle.model.proofs.history.alike.Alike.{listed_like, listed_alike, listed_fill_alike}

-- ---- tests

or_carry : (t x y : Bool) → (t ≡ false → x ≡ true → y ≡ true) → (t || x) ≡ true → (t || y) ≡ true
or_carry true x y h e = refl
or_carry false x y h e = h refl e

unless_ext : (k l x y : Bool) → k ≡ l → (k ≡ true → x ≡ y) → (not k || x) ≡ (not l || y)
unless_ext k l x y e h = ap (λ t. not t || x) e ∙ go l (λ q. h (e ∙ q))
  where
    go : (t : Bool) → (t ≡ true → x ≡ y) → (not t || x) ≡ (not t || y)
    go true h = h refl
    go false h = refl

-- tests over ranges of one length
all_over : (n m : ℕ) (p q : ℕ → Bool) → n ≡ m → ((k : ℕ) → k < n → p k ≡ q k) → all n p ≡ all m q
all_over n m p q e h = all_ext n p q h ∙ ap (λ (k : ℕ). all k q) e

-- ---- the parts

module _ (v w : Store) (a : Alike v w) where
  units_placed_lem : units_placed v ≡ units_placed w
  unfolding units_placed
  units_placed_lem = all_ext 16 _ _ (λ u l. rw (a.dstate u l, units_alike v w a))

  checks_placed_lem : checks_placed v ≡ checks_placed w
  unfolding checks_placed
  checks_placed_lem = all_ext 12 _ _ (λ c l. rw (a.cstate c l, units_alike v w a, level_alike v w a))

  slot_carry : (u r : ℕ) → u < 16 → r < v.size → slot_test v u r ≡ true → slot_test w u r ≡ true
  unfolding key_of
  slot_carry u r l m e = rw (← (a.dstate u l), ← (fill_alike v w a u l))
      (or_carry (eqb (v.dstate u) 1 && ltb r (fill_in v u)) (same (v.slot u r) (zeros slot_bytes)) (same (w.slot u r) (zeros slot_bytes))
      (λ _ q. ap (λ (x : List ℕ). same x (zeros slot_bytes))
      (sym ((a.slot u r l m).keyless (ap (λ (x : List ℕ). be32 x 0) (same_true (v.slot u r) (zeros slot_bytes) q) ∙ be32_zeros slot_bytes 0))) ∙ q) e)

  check_carry : (c r : ℕ) → c < 12 → r < v.size → check_test v c r ≡ true → check_test w c r ≡ true
  check_carry c r l m e = rw (← (a.cstate c l))
      (or_carry (eqb (v.cstate c) 1) (same (v.check c r) (zeros check_bytes)) (same (w.check c r) (zeros check_bytes))
      (λ t q. ap (λ (x : List ℕ). same x (zeros check_bytes)) (sym (a.idle c r l m t)) ∙ q) e)

  zeros_kept : zeroed v ≡ true → zeroed w ≡ true
  unfolding zeroed
  zeros_kept e =
      let z : Zeroed v = zeroed_says v e in
      and-true
      (all_holds 16 (λ u. all w.size (slot_test w u)) (λ u l. all_holds w.size (slot_test w u) (λ r m.
      let n : r < v.size = omega (arith, a.size) in slot_carry u r l n (z.slots u r l n))))
      (all_holds 12 (λ c. all w.size (check_test w c)) (λ c l. all_holds w.size (check_test w c) (λ r m.
      let n : r < v.size = omega (arith, a.size) in check_carry c r l n (z.checks c r l n))))

  -- ---- keys

  module _ (u : ℕ) (hu : u < 16) (kept : keys_lost_in v u ≡ false) where
    key_test : (r : ℕ) → r < v.size
        → pick (ltb r (listed_fill v u))
        (eqb (unit_of (units_in v) (key_of (listed_key v u r))) u && all r (λ q. not (eqb (key_of (listed_key v u q)) (key_of (listed_key v u r)))))
        (eqb (key_of (listed_key v u r)) 0)
        ≡ pick (ltb r (listed_fill w u))
        (eqb (unit_of (units_in w) (key_of (listed_key w u r))) u && all r (λ q. not (eqb (key_of (listed_key w u q)) (key_of (listed_key w u r)))))
        (eqb (key_of (listed_key w u r)) 0)
    key_test r m =
        let others =
        all_ext r (λ q. not (eqb (key_of (listed_key v u q)) (key_of (listed_key v u r)))) (λ q. not (eqb (key_of (listed_key w u q)) (key_of (listed_key v u r))))
        (λ q n. ap (λ (x : List ℕ). not (eqb (key_of x) (key_of (listed_key v u r)))) (listed_alike v w a u hu kept q (omega arith))) in
        rw (others, listed_alike v w a u hu kept r m, listed_fill_alike v w a u hu kept, units_alike v w a)

  keys_placed_lem : keys_placed v ≡ keys_placed w
  unfolding keys_placed
  keys_placed_lem = all_ext 16 _ _ (λ u l. rw (keys_lost_same v w (lists_alike v w a) u l) (or_ext (keys_lost_in v u) _ _ (λ e.
      all_over v.size w.size _ _ a.size (λ r m. key_test u l e r m))))

  -- ---- the lists of the check units

  lists_agree_lem : lists_agree v ≡ lists_agree w
  unfolding lists_agree
  lists_agree_lem = all_ext 12 _ _ (λ c l. unless_ext (eqb (v.cstate c) 1) (eqb (w.cstate c) 1) _ _ (ap (λ (n : ℕ). eqb n 1) (a.cstate c l)) (λ e.
      all_over v.size w.size _ _ a.size (λ r m. all_ext 4 _ _ (λ p d. ap₂ eqb
      (ap key_of (listed_like (a.check c r l m) p d))
      (ap key_of (listed_alike v w a (4 * (c / 3) + p) (omega arith) (served_keys v c p d e) r m))))))

  -- ---- ranges

  same_byte : (i : ℕ) → i < 8 → byte (bytes v) i ≡ byte (bytes w) i
  same_byte i l = byte_front v (left_shaped v w a) i l ∙ ap (λ (x : List ℕ). byte x i) a.front ∙ sym (byte_front w (right_shaped v w a) i l)

  same_long : length (bytes v) ≡ length (bytes w)
  same_long =
      length_bytes v (left_shaped v w a) ∙ ap₂ (λ (n : ℕ) (x : List ℕ). store_bytes n + length x) a.size a.rest ∙ sym (length_bytes w (right_shaped v w a))

  same_ranges : ranges (bytes v) ≡ ranges (bytes w)
  unfolding ranges
  same_ranges =
      let number : be32 (bytes v) 1 ≡ be32 (bytes w) 1 = be32_ext (bytes v) 1 (bytes w) 1 (λ k l. same_byte (1 + k) (omega arith)) in
      rw (same_byte 0 (omega arith), same_byte 5 (omega arith), same_byte 6 (omega arith), same_byte 7 (omega arith), number, same_long)

-- SOUND STAYS SOUND
pub sound_alike : (v w : Store) → Alike v w → sound (bytes v) ≡ true → sound (bytes w) ≡ true
unfolding sound
sound_alike v w a e =
    let x : Store = view (bytes v) in
    let y : Store = view (bytes w) in
    let b : Alike x y = seen_alike v w a in
    let z : zeroed x ≡ true = (clauses (bytes v) e).zeros in
    rw (← (same_ranges v w a), ← (units_placed_lem x y b), ← (checks_placed_lem x y b), zeros_kept x y b z ∙ sym z, ← (keys_placed_lem x y b), ← (lists_agree_lem x y b)) e
