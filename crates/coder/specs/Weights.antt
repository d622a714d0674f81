-- Lagrange's weights by logarithms, as the code computes them: what a missing point shares over all its weights is added up once, and what a present
-- point shares over all missing ones too. Nothing here need be believed: WeightLaws shows that these are Lagrange's weights.
use Rattle.std.specs.Prelude.{◌≡◌, List, ℕ, ◌+◌, ◌-◌, ◌*◌, ◌%◌, ◌<◌, eqb, get_or}
use Rattle.std.specs.Int.Bits.{bit_xor}
use Rattle.buffer.specs.Choice.{pick}
use Rattle.buffer.specs.Range.{sum}
use Rattle.field256.specs.Powers.{order, power, logarithm}
use Rattle.coder.specs.Segment.{largest_group}

-- the logarithm of the difference of c and p; of equal points there is none, and nothing is added
unfoldable pub log_other : ℕ → ℕ → ℕ
log_other c p = pick (eqb p c) 0 (logarithm (bit_xor c p))

-- the logarithm of the product of the differences of c and the other ones of the first m points
unfoldable pub log_others : ℕ → List ℕ → ℕ → ℕ
log_others c ps m = sum m (λ k. log_other c (get_or ps k 0))

-- a multiple of the order, which is 1 as a power, no less than what is taken off: the logarithms of a group's differences and one more
abbrev pub headroom : ℕ
headroom = (largest_group + 1) * order

-- the weight of the point c at q
unfoldable pub weight_of : List ℕ → ℕ → ℕ → ℕ → ℕ
weight_of ps m q c = power ((log_others q ps m + (headroom - (log_other q c + log_others c ps m))) % order)

-- q is none of the first m points
pub record Away (ps : List ℕ) (m q : ℕ) : Type 0 where
  pub away : (k : ℕ) → k < m → q ≡ get_or ps k 0 → ⊥

-- the first i entries of os are those of the points
pub record Others (os ps : List ℕ) (m i : ℕ) : Type 0 where
  pub logs : (k : ℕ) → k < i → get_or os k 0 ≡ log_others (get_or ps k 0) ps m

-- the first i entries of ws are the weights of the points at q
pub record Weighed (ws ps : List ℕ) (m q i : ℕ) : Type 0 where
  pub are : (k : ℕ) → k < i → get_or ws k 0 ≡ weight_of ps m q (get_or ps k 0)
