-- The weights by logarithms are Lagrange's. A reader wants `interpolated_is`: the value at q of the polynomial through the points ps is the sum of the
-- values times these weights, for different points below 256, a group's number at most, and a q below 256 that is none of them.
use Rattle.std.specs.Prelude.{◌≡◌, refl, eqb, get_or, take}
use Rattle.std.proofs.Math.Path.{sym, ap₂}
use Rattle.std.proofs.Common.{ap, ◌∙◌, arith, lt→ltb, get_or-take, eq-eqb, ne_eqb, eqb-true}
use mathlib.Core.List.{List, [], ◌∷◌, map}
use Prim.Native.Nat.{ℕ, ◌+◌, ◌-◌, ◌*◌, ◌%◌, ◌≤◌, ◌<◌}
use Rattle.std.specs.Int.Bits.{bit_xor}
use Rattle.std.proofs.lemmas.Nat.{xor_lt}
use Rattle.std.proofs.Math.ListN.{length}
use Rattle.std.proofs.lemmas.Bool.{eqb-false}
use Rattle.algebra.specs.FieldLaws as fld
use Rattle.algebra.specs.Xor.{xor_ne}
use Rattle.algebra.specs.XorSums.{total, total_none, total_front}
use Rattle.algebra.specs.BinaryLaws.{one, comm}
use Rattle.algebra.specs.BinaryField.{below_is}
use Rattle.algebra.specs.Polynomial.{Point, fin, inf, All, Distinct}
use Rattle.algebra.specs.Lagrange.{gap}
use Rattle.algebra.specs.Barycentric.{combined, lagrange_weights, others, shared, weights_are}
use Rattle.buffer.specs.Choice.{pick}
use Rattle.buffer.specs.ChoiceLaws.{pick_true, pick-false, by-test, by-pick}
use Rattle.buffer.specs.RangeLaws.{sum_none, sum_front, sum_ext, sum_le}
use Rattle.field256.specs.Gf256.{product}
use Rattle.field256.specs.Gf256Laws.{Byte, gf256, tested}
use Rattle.field256.specs.Powers.{order, power, logarithm, inverse}
use Rattle.field256.specs.PowersLaws.{power_none, power_low, power_add, power_period, power_mod, power_ne, power_log, log_le}
use Rattle.coder.specs.Interpolated.{Bytes, element, point, interpolated}
use Rattle.coder.specs.PointLaws.{small, point_is, all_points, distinct_points}
use Rattle.coder.specs.Segment.{largest_group}
use Rattle.coder.specs.Weights.{log_other, log_others, headroom, weight_of}

-- q is none of the points
unfoldable pub Outside : ℕ → List ℕ → Type 0
Outside q ps = All (λ p. q ≡ p → ⊥) ps

-- ---- differences and their logarithms
pub log_self : (c p : ℕ) → p ≡ c → log_other c p ≡ 0
unfolding log_other
log_self c p e = pick_true (eq-eqb p c e) 0 (logarithm (bit_xor c p))

pub log_apart : (c p : ℕ) → (p ≡ c → ⊥) → log_other c p ≡ logarithm (bit_xor c p)
unfolding log_other
log_apart c p n = pick-false (ne_eqb p c n) 0 (logarithm (bit_xor c p))

-- the difference of two points, or 1 where they are equal
other : Point Byte → Point Byte → Byte
other (fin a) (fin b) = pick (eqb b.0 a.0) gf256.𝟙 (gap gf256 (fin a) (fin b))
other (fin a) inf = gap gf256 (fin a) inf
other inf (fin b) = gap gf256 inf (fin b)
other inf inf = gf256.𝟙

other_same : (C : Point Byte) → other C C ≡ gf256.𝟙
unfolding other
other_same (fin a) = pick_true (eq-eqb a.0 a.0 refl) gf256.𝟙 (gap gf256 (fin a) (fin a))
other_same inf = refl

other_differ : (C R : Point Byte) → (C ≡ R → ⊥) → other C R ≡ gap gf256 C R
unfolding other
other_differ (fin a) (fin b) n = pick-false (ne_eqb b.0 a.0 (λ e. n (ap fin (below_is 8 a b (sym e))))) gf256.𝟙 (gap gf256 (fin a) (fin b))
other_differ (fin a) inf n = refl
other_differ inf (fin b) n = refl
other_differ inf inf n = absurd (n refl)

other_power : (c p : ℕ) → c < 256 → p < 256 → (other (point c) (point p)).0 ≡ power (log_other c p)
other_power c p hc hp =
    by-test
    (λ _. (other (point c) (point p)).0 ≡ power (log_other c p))
    (eqb p c)
    (λ t.
    let e : p ≡ c = eqb-true p c t in
    ap (λ (x : ℕ). (other (point c) (point x)).0) e ∙ ap (λ (a : Byte). a.0) (other_same (point c)) ∙ sym (ap power (log_self c p e) ∙ power_none))
    (λ t.
    let n : p ≡ c → ⊥ = eqb-false p c t in
    ap (λ (a : Byte). a.0) (other_differ (point c) (point p) (λ e. n (sym (point_is c p hc hp e))))
    ∙ ap₂ bit_xor (small c hc) (small p hp)
    ∙ sym (ap power (log_apart c p n) ∙ power_log (bit_xor c p) (xor_lt 8 c p hc hp) (xor_ne c p (λ e. n (sym e)))))

others_power : (c : ℕ) (ps : List ℕ) → c < 256 → Bytes ps
    → (others gf256 other other_same other_differ (point c) (map point ps)).0 ≡ power (log_others c ps (length ps))
unfolding log_others
others_power c [] h l = sym (ap power (sum_none (λ k. log_other c (get_or [] k 0))) ∙ power_none)
others_power c (p ∷ ps) h l =
    ap₂ product (other_power c p h l.0) (others_power c ps h l.1)
    ∙ sym (ap power (sum_front (length ps) (λ k. log_other c (get_or (p ∷ ps) k 0))) ∙ power_add (log_other c p) (log_others c ps (length ps)))

other_le : (c p : ℕ) → log_other c p ≤ order
unfolding log_other
other_le c p = by-pick (λ n. n ≤ order) (eqb p c) 0 (logarithm (bit_xor c p)) (λ e. omega arith) (λ e. log_le (bit_xor c p))

pub others_le : (c : ℕ) (ps : List ℕ) (m : ℕ) → log_others c ps m ≤ order * m
unfolding log_others
others_le c ps m = sum_le m order (λ k. log_other c (get_or ps k 0)) (λ k l. other_le c (get_or ps k 0))

-- sums look at the first m points alone
others_take : (c : ℕ) (ps : List ℕ) (m : ℕ) → log_others c (take m ps) m ≡ log_others c ps m
unfolding log_others
others_take c ps m = sum_ext m (λ k. log_other c (get_or (take m ps) k 0)) (λ k. log_other c (get_or ps k 0)) (λ k l. ap (log_other c) (get_or-take m ps k 0 l))

-- ---- a weight
pub weight_low : (ps : List ℕ) (m q c : ℕ) → weight_of ps m q c < 256
unfolding weight_of
weight_low ps m q c = power_low _

pub weight_take : (ps : List ℕ) (m q c : ℕ) → weight_of (take m ps) m q c ≡ weight_of ps m q c
unfolding weight_of
weight_take ps m q c = rw (others_take q ps m, others_take c ps m)

raise : ℕ → Byte
raise n = (power n, lt→ltb (power n) 256 (power_low n))

raise_ne : (n : ℕ) → raise n ≡ gf256.𝟘 → ⊥
unfolding raise
raise_ne n e = power_ne n (ap (λ (a : Byte). a.0) e)

-- a difference of exponents is a quotient
power_quotient : (n s : ℕ) → s ≤ headroom → power ((n + (headroom - s)) % order) ≡ product (power n) (inverse (power s))
unfolding raise
power_quotient n s h =
    let back : n + (headroom - s) + s ≡ n + headroom = omega arith in
    power_mod (n + (headroom - s))
    ∙ ap (λ (a : Byte). a.0)
    (fld.quotient gf256 (raise (n + (headroom - s))) (raise s) (raise n) (raise_ne s)
    (below_is 8 (gf256.mul (raise (n + (headroom - s))) (raise s)) (raise n)
    (sym (power_add (n + (headroom - s)) s) ∙ ap power back ∙ power_add n headroom ∙ ap (product (power n)) (power_period (largest_group + 1))
    ∙ one tested (power n) (power_low n))))

module _ (ps : List ℕ) (q : ℕ) (few : length ps ≤ largest_group) (hq : q < 256) (low : Bytes ps) where
  abbrev share : Point Byte → Byte
  share C = shared gf256 other other_same other_differ (map point ps) (point q) C

  share_is : (c : ℕ) → c < 256 → (share (point c)).0 ≡ weight_of ps (length ps) q c
  unfolding weight_of
  share_is c hc =
      let m : ℕ = length ps in
      ap₂ (λ (x y : ℕ). product x (inverse y)) (others_power q ps hq low)
      (ap₂ product (other_power q c hq hc) (others_power c ps hc low) ∙ sym (power_add (log_other q c) (log_others c ps m)))
      ∙ sym (power_quotient (log_others q ps m) (log_other q c + log_others c ps m) (omega (arith, other_le q c, others_le c ps m)))

  -- the sum over any points, by Lagrange's weights and by these
  combined_is : (h : ℕ → ℕ) → ((p : ℕ) → h p < 256) → (rs : List ℕ) → Bytes rs → (combined gf256 (map element (map h rs)) (map share (map point rs))).0
      ≡ total (length rs) (λ k. product (weight_of ps (length ps) q (get_or rs k 0)) (h (get_or rs k 0)))
  combined_is h hb [] l = sym (total_none _)
  combined_is h hb (r ∷ rs) l =
      let w : ℕ → ℕ = weight_of ps (length ps) q in
      ap₂ bit_xor
      (ap₂ product (small (h r) (hb r)) (share_is r l.0) ∙ comm tested (h r) (w r) (hb r) (weight_low ps (length ps) q r))
      (combined_is h hb rs l.1)
      ∙ sym (total_front (length rs) (λ k. product (w (get_or (r ∷ rs) k 0)) (h (get_or (r ∷ rs) k 0))))

pub interpolated_is : (ps : List ℕ) (q : ℕ) (h : ℕ → ℕ) → ((p : ℕ) → h p < 256) → length ps ≤ largest_group → q < 256 → Bytes ps → Outside q ps → Distinct ps
    → interpolated ps (map h ps) q ≡ total (length ps) (λ k. product (weight_of ps (length ps) q (get_or ps k 0)) (h (get_or ps k 0)))
unfolding interpolated Outside
interpolated_is ps q h hb few hq low out d =
    let away : All (λ C. point q ≡ C → ⊥) (map point ps) = all_points (λ p. q ≡ p → ⊥) (λ C. point q ≡ C → ⊥) (λ p l n e. n (point_is q p hq l e)) ps low out in
    ap (λ (x : Byte). x.0)
    (lagrange_weights gf256 [] (map point ps) (map element (map h ps)) (point q)
    ∙ ap (combined gf256 (map element (map h ps))) (weights_are gf256 other other_same other_differ (map point ps) (point q) away (distinct_points ps low d)))
    ∙ combined_is ps q few hq low h hb ps low
