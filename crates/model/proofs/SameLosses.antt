-- Two stores with the same states, whose check records list the same keys, have lost the same: the same records are missing, the same ranks can be
-- rebuilt, and the same groups are beyond recovery, whatever the fields are.
use Rattle.std.specs.Prelude.{ℕ, ◌+◌, ◌*◌, ◌/◌, ◌%◌, ◌<◌, ◌≡◌, true, false, ◌&&◌, ◌||◌, take}
use Rattle.std.proofs.Math.Path.{sym, ap, ap₂}
use Rattle.std.proofs.Common.{◌∙◌, arith}
use mathlib.Core.List.{List}
use Rattle.std.proofs.Math.Bool.{not}
use Rattle.std.proofs.Math.Dec.{eqb, ltb}
use Rattle.buffer.specs.ChoiceLaws.{pick_true}
use Rattle.buffer.specs.TestLaws.{and_ext, or_ext}
use Rattle.buffer.specs.Range.{all, count, first}
use Rattle.buffer.specs.RangeLaws.{all_ext, count_ext, none_counted, first_ext}
use Rattle.buffer.specs.Bytes.{part}
use Rattle.group.specs.Widths.{key_bytes}
use Rattle.group.specs.Members.{checks_serving}
use Rattle.group.specs.MembersLaws.{rebuildable_ext}
use Rattle.model.specs.Layout.{Store, key_of}
use Rattle.model.specs.Reads.{first_check, listed_key, listed_fill, missing_in, rebuildable_in, keys_lost_in, beyond_in}
use Rattle.model.proofs.LossLaws.{first_check_found}

pub record SameLists (v w : Store) : Type 0 where
  pub size : w.size ≡ v.size
  pub dstate : (u : ℕ) → u < 16 → w.dstate u ≡ v.dstate u
  pub cstate : (c : ℕ) → c < 12 → w.cstate c ≡ v.cstate c
  pub listed : (c r : ℕ) → c < 12 → r < v.size → (p : ℕ) → p < 4
      → part (key_bytes * p) key_bytes (w.check c r) ≡ part (key_bytes * p) key_bytes (v.check c r)

module _ (v w : Store) (h : SameLists v w) where
  -- the states of the check units of a group
  pub states_same : (g : ℕ) → g < 4 → (j : ℕ) → j < 3 → w.cstate (3 * g + j) ≡ v.cstate (3 * g + j)
  states_same g l j m = h.cstate (3 * g + j) (omega arith)

  pub first_check_same : (g : ℕ) → g < 4 → first_check w g ≡ first_check v g
  unfolding first_check
  first_check_same g l = ap (λ (n : ℕ). 3 * g + n) (first_ext 3 _ _ (λ j m. ap (λ (n : ℕ). eqb n 1) (states_same g l j m)))

  pub keys_lost_same : (u : ℕ) → u < 16 → keys_lost_in w u ≡ keys_lost_in v u
  unfolding keys_lost_in checks_serving
  keys_lost_same u l =
      ap₂ (λ (m n : ℕ). eqb m 2 && eqb n 0) (h.dstate u l)
      (count_ext 3 _ _ (λ j m. ap (λ (n : ℕ). eqb n 1) (states_same (u / 4) (omega arith) j m)))

  -- a unit whose keys are not lost
  module _ (u : ℕ) (low : u < 16) (kept : keys_lost_in v u ≡ false) where
    module _ (out : eqb (v.dstate u) 2 ≡ true) where
      pub key_same : (r : ℕ) → r < v.size → listed_key w u r ≡ listed_key v u r
      unfolding listed_key
      key_same r l =
          let there : first_check v (u / 4) < 12 = omega (arith, first_check_found v u kept out) in
          pick_true (ap (λ (n : ℕ). eqb n 2) (h.dstate u low) ∙ out) _ (take key_bytes (w.slot u r))
          ∙ rw (first_check_same (u / 4) (omega arith)) (h.listed (first_check v (u / 4)) r there l (u % 4) (omega arith))
          ∙ sym (pick_true out _ (take key_bytes (v.slot u r)))

      pub fill_same : listed_fill w u ≡ listed_fill v u
      unfolding listed_fill
      fill_same =
          ap (λ (n : ℕ). first n (λ r. eqb (key_of (listed_key w u r)) 0)) h.size
          ∙ first_ext v.size _ _ (λ r l. ap (λ (x : List ℕ). eqb (key_of x) 0) (key_same r l))

    pub missing_same : (r : ℕ) → missing_in w u r ≡ missing_in v u r
    unfolding missing_in
    missing_same r =
        ap (λ (n : ℕ). eqb n 2 && ltb r (listed_fill w u)) (h.dstate u low)
        ∙ and_ext (eqb (v.dstate u) 2) (ltb r (listed_fill w u)) (ltb r (listed_fill v u)) (λ out. ap (ltb r) (fill_same out))

  pub rebuildable_same : (g : ℕ) → g < 4 → ((p : ℕ) → p < 4 → keys_lost_in v (4 * g + p) ≡ false) → (r : ℕ) → rebuildable_in w g r ≡ rebuildable_in v g r
  unfolding rebuildable_in
  rebuildable_same g l kept r = rebuildable_ext _ _ _ _ (λ p m. missing_same (4 * g + p) (omega arith) (kept p m) r) (states_same g l)

  pub beyond_same : (g : ℕ) → g < 4 → beyond_in w g ≡ beyond_in v g
  unfolding beyond_in
  beyond_same g l =
      ap (λ (n : ℕ). ltb 0 n || not (all w.size (rebuildable_in w g))) (count_ext 4 _ _ (λ p m. keys_lost_same (4 * g + p) (omega arith)))
      ∙ or_ext (ltb 0 (count 4 (λ p. keys_lost_in v (4 * g + p)))) _ _ (λ e. ap not
      (ap (λ (n : ℕ). all n (rebuildable_in w g)) h.size
      ∙ all_ext v.size (rebuildable_in w g) (rebuildable_in v g) (λ r _. rebuildable_same g l (none_counted 4 (λ p. keys_lost_in v (4 * g + p)) e) r)))
