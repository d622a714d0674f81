-- The loops that add up logarithms and look up weights. A reader wants `LogSumming`, what holds while the logarithms of differences are added up, with
-- `log_sum_self` and `log_sum_other`; and `weight_is`: the power that is taken is the weight.
use mathlib.Core.Path.{◌≡◌, sym, ◌∙◌, subst}
use mathlib.Core.List.{List}
use Prim.Native.Nat.{ℕ, ◌+◌, ◌*◌, ◌-◌, ◌≤◌, ◌<◌}
use native.Mathlib.Nat.{add-zero}
use native.Mathlib.Omega.{arith}
use lib.Bits.{bit_xor}
use lib.ListN.{get_or}
use Rattle.buffer.specs.LoopTests.{Summing, summing_turn}
use Rattle.field256.specs.Powers.{order, power, logarithm}
use Rattle.field256.specs.PowersLaws.{power_mod}
use Rattle.coder.specs.Segment.{largest_group}
use Rattle.coder.specs.Weights.{log_other, log_others, headroom, weight_of, Others}
use Rattle.coder.specs.WeightLaws.{log_self, log_apart, others_le}

-- a sum of logarithms is bounded, whatever the point
pub sum_bounded : (c : ℕ) (ps : List ℕ) (m r : ℕ) → r ≡ log_others c ps m → r ≤ order * m
sum_bounded c ps m r e = omega (arith, e, others_le c ps m)

-- ---- a loop that adds up the logarithms of the differences of c and the first m points; i of them are passed
abbrev pub LogSumming : ℕ → List ℕ → ℕ → ℕ → ℕ → Type 0
LogSumming c ps m i s = Summing (λ k. log_other c (get_or ps k 0)) m i s

module _ (c : ℕ) (ps : List ℕ) {m i s : ℕ} (g : LogSumming c ps m i s) where
  pub log_sum_le : s ≤ order * m
  unfolding log_others
  log_sum_le = omega (arith, g.within, g.summed, others_le c ps i)

  pub log_sum_self : i < m → get_or ps i 0 ≡ c → LogSumming c ps m (i + 1) s
  log_sum_self h e = subst (λ (n : ℕ). LogSumming c ps m (i + 1) n) (add-zero s) (summing_turn 0 g h (sym (log_self c (get_or ps i 0) e)))

  pub log_sum_other : (v : ℕ) → i < m → (get_or ps i 0 ≡ c → ⊥) → v ≡ logarithm (bit_xor c (get_or ps i 0)) → LogSumming c ps m (i + 1) (s + v)
  log_sum_other v h n e = summing_turn v g h (e ∙ sym (log_apart c (get_or ps i 0) n))

-- ---- the weight of point i, from sums: what is taken off, and the power that is taken
module _ {os ps : List ℕ} {m : ℕ} (i own : ℕ) (o : Others os ps m m) (h : i < m) where
  pub taken_le : m ≤ largest_group → own < order → own + get_or os i 0 ≤ headroom
  taken_le few l = omega (arith, o.logs i h, others_le (get_or ps i 0) ps m)

  pub weight_is : (q all w : ℕ) → all ≡ log_others q ps m → (q ≡ get_or ps i 0 → ⊥)
      → own ≡ logarithm (bit_xor q (get_or ps i 0)) → own + get_or os i 0 ≤ headroom
      → w ≡ power (all + headroom - (own + get_or os i 0)) → w ≡ weight_of ps m q (get_or ps i 0)
  unfolding weight_of
  weight_is q all w e n r l p =
      let split : all + headroom - (own + get_or os i 0) ≡ all + (headroom - (own + get_or os i 0)) = omega arith in
      let own_is : own ≡ log_other q (get_or ps i 0) = r ∙ sym (log_apart q (get_or ps i 0) (λ z. n (sym z))) in
      p ∙ sym (power_mod _) ∙ rw (split, e, own_is, o.logs i h)
