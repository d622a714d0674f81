-- One member that is rebuilt. A reader wants `weighed_is`: what is weighed is the value of the polynomial; and `rewritten`: the member's own bytes may be
-- cleared before, since only other members are weighed.
use mathlib.Core.Path.{◌≡◌, sym, ap, ap₂, ◌∙◌, subst}
use mathlib.Core.List.{List, map}
use Prim.Native.Nat.{ℕ, ◌+◌, ◌*◌, ◌/◌, ◌^◌, ◌≤◌, ◌<◌}
use native.Mathlib.Nat.{div-one}
use native.Mathlib.Omega.{arith}
use lib.Dec.{ltb}
use lib.ListN.{length, get_or, take}
use lib.Seq.{length-take-le, get_or-take}
use borrow.Author.Tests.{ltb-true, ltb-false}
use Rattle.algebra.specs.Polynomial.{Distinct}
use Rattle.algebra.specs.XorSums.{total, total_ext}
use Rattle.buffer.specs.ChoiceLaws.{by-test}
use Rattle.buffer.specs.Bytes.{byte, zeros, splice}
use Rattle.buffer.specs.ByteLaws.{byte_splice_before, byte_splice_inside, byte_splice_behind, length_zeros, byte_zeros}
use Rattle.buffer.specs.SpliceLaws.{length_splice, splice_again}
use Rattle.buffer.specs.Loops.{entries}
use Rattle.buffer.specs.RangeLaws.{entries_ext}
use Rattle.field256.specs.Gf256.{product}
use Rattle.coder.specs.Interpolated.{Bytes, interpolated}
use Rattle.coder.specs.ListLaws.{all_first}
use Rattle.coder.specs.Segment.{largest_group, member_byte, member_from}
use Rattle.coder.specs.MemberLaws.{over}
use Rattle.coder.specs.Weights.{weight_of, Away, Weighed}
use Rattle.coder.specs.WeightLaws.{Outside, weight_take, interpolated_is}
use Rattle.coder.specs.Sums.{Placed, Blank, Small, weighted_sum}

-- ---- members apart
-- a member replaced leaves the others
other_member : (len c p j : ℕ) (new s : List ℕ) → (c ≡ p → ⊥) → j < len → len * c + len ≤ length s → length new ≡ len
    → byte (splice (len * c) len new s) (len * p + j) ≡ byte s (len * p + j)
other_member len c p j new s n h fits e =
    by-test (λ _. byte (splice (len * c) len new s) (len * p + j) ≡ byte s (len * p + j)) (ltb p c)
    (λ t. byte_splice_before (len * c) len new s (len * p + j) (omega arith) (omega (arith, over len p c (ltb-true p c t))))
    (λ t.
    let ge : c ≤ p = ltb-false p c t in
    byte_splice_behind (len * c) len new s (len * p + j) fits e (omega (arith, over len c p (omega arith))))

-- ---- what is weighed
module _ (ws ps : List ℕ) (m q : ℕ) (g : Weighed ws ps m q m) (small : Small ps m) (few : m ≤ largest_group) (away : Away ps m q)
    (hq : q < 256) (d : Distinct (take m ps)) where
  long : length (take m ps) ≡ m
  long = length-take-le m ps small.long

  low : Bytes (take m ps)
  low = all_first (λ p. p < 256) m ps small.long small.low

  out : Outside q (take m ps)
  unfolding Outside
  out = all_first (λ p. q ≡ p → ⊥) m ps small.long away.away

  weight_at : (k : ℕ) → k < m → get_or ws k 0 / 2 ^ 0 ≡ weight_of (take m ps) m q (get_or (take m ps) k 0)
  weight_at k h =
      div-one (get_or ws k 0) ∙ g.are k h ∙ sym (weight_take ps m q (get_or ps k 0)) ∙ ap (weight_of (take m ps) m q) (sym (get_or-take m ps k 0 h))

  module _ (len : ℕ) (s : List ℕ) (bytes : (i : ℕ) → byte s i < 256) where
    at_byte : (j : ℕ) → weighted_sum len s ps ws 0 m j ≡ interpolated (take m ps) (map (member_byte len s j) (take m ps)) q
    unfolding weighted_sum
    at_byte j =
        total_ext m (λ k. product (get_or ws k 0 / 2 ^ 0) (member_byte len s j (get_or ps k 0)))
        (λ k. product (weight_of (take m ps) m q (get_or (take m ps) k 0)) (member_byte len s j (get_or (take m ps) k 0)))
        (λ k h. ap₂ (λ (x p : ℕ). product x (member_byte len s j p)) (weight_at k h) (sym (get_or-take m ps k 0 h)))
        ∙ ap (λ (n : ℕ). total n (λ k. product (weight_of (take m ps) n q (get_or (take m ps) k 0)) (member_byte len s j (get_or (take m ps) k 0)))) (sym long)
        ∙ sym (interpolated_is (take m ps) q (member_byte len s j) (λ p. unfold member_byte in bytes (len * p + j)) (omega (arith, long)) hq low out d)

    pub weighed_is : entries len (weighted_sum len s ps ws 0 m) ≡ member_from (take m ps) len s q
    unfolding member_from
    weighed_is = entries_ext len (weighted_sum len s ps ws 0 m) _ (λ j h. at_byte j)

-- ---- a member is cleared, then the others are weighed and it is written
module _ (len : ℕ) (s ps : List ℕ) (m q : ℕ) (away : Away ps m q) (fits : len * q + len ≤ length s) (s' : List ℕ)
    (cleared : s' ≡ splice (len * q) len (zeros len) s) where
  same_long : length s' ≡ length s
  same_long = ap length cleared ∙ length_splice (len * q) len (zeros len) s fits (length_zeros len)

  pub still_placed : Placed len s ps m → Placed len s' ps m
  still_placed p = record { fits = λ k h. subst (λ (n : ℕ). len * get_or ps k 0 + len ≤ n) (sym same_long) (p.fits k h) }

  pub blank : (at : ℕ) → at ≡ len * q → Blank len s' at
  blank at e = subst (Blank len s') (sym e) there
    where
      there : Blank len s' (len * q)
      there = record {
        fits = subst (λ (n : ℕ). len * q + len ≤ n) (sym same_long) fits;
        zero = λ j h. ap (λ (l : List ℕ). byte l (len * q + j)) cleared
            ∙ byte_splice_inside (len * q) len (zeros len) s j (omega arith) (length_zeros len) h ∙ byte_zeros len j;
      }

  same_byte : (j k : ℕ) → j < len → k < m → byte s' (len * get_or ps k 0 + j) ≡ byte s (len * get_or ps k 0 + j)
  same_byte j k h l =
      ap (λ (t : List ℕ). byte t (len * get_or ps k 0 + j)) cleared
      ∙ other_member len q (get_or ps k 0) j (zeros len) s (away.away k l) h fits (length_zeros len)

  same_sum : (ws : List ℕ) → entries len (weighted_sum len s' ps ws 0 m) ≡ entries len (weighted_sum len s ps ws 0 m)
  unfolding weighted_sum member_byte
  same_sum ws =
      entries_ext len (weighted_sum len s' ps ws 0 m) (weighted_sum len s ps ws 0 m)
      (λ j h. total_ext m (λ k. product (get_or ws k 0 / 2 ^ 0) (byte s' (len * get_or ps k 0 + j)))
      (λ k. product (get_or ws k 0 / 2 ^ 0) (byte s (len * get_or ps k 0 + j))) (λ k l. ap (product (get_or ws k 0 / 2 ^ 0)) (same_byte j k h l)))

  pub rewritten : (at : ℕ) → at ≡ len * q → (ws new : List ℕ) → new ≡ entries len (weighted_sum len s' ps ws 0 m)
      → entries len (weighted_sum len s ps ws 0 m) ≡ member_from (take m ps) len s q
      → splice at len new s' ≡ splice (len * q) len (member_from (take m ps) len s q) s
  rewritten at is ws new e w =
      ap (λ (n : ℕ). splice n len new s') is ∙ ap₂ (splice (len * q) len) (e ∙ same_sum ws ∙ w) cleared
      ∙ splice_again (len * q) len (member_from (take m ps) len s q) (zeros len) s (omega arith) (length_zeros len)
