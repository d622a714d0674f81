-- The search for the first m present members. A reader wants `Choosing`, what holds while they are looked for: at its start, after a member that is missing, present with m seen before, or present and
-- noted, and at its end.
use mathlib.Core.Path.{◌≡◌, sym, ap, ap₂, ◌∙◌}
use mathlib.Core.Bool.{true, false}
use mathlib.Core.List.{List, [], ◌∷◌}
use Prim.Native.Nat.{ℕ, ◌+◌, ◌≤◌, ◌<◌}
use native.Mathlib.Nat.{not-suc-le-zero}
use native.Mathlib.Omega.{arith}
use lib.ListN.{length, get_or, set, take, length-append, length-set, get_or-append}
use lib.Seq.{get_or-set_same, get_or-append_seam, length-take-le, get_or-take, ext_get_or}
use borrow.Author.Count.{below_more}
use Rattle.coder.specs.ListLaws.{set_before}
use Rattle.coder.specs.Segment.{largest_group, present, presents, chosen}
use Rattle.coder.proofs.SegmentLaws.{presents_none, presents_more, presents_same}

-- of the first c members `seen` are present, and the first m of these stand in points
pub record Choosing (marks points : List ℕ) (m c seen : ℕ) : Type 0 where
  pub long : length points ≡ largest_group
  pub few : seen ≤ c
  pub count : seen ≡ length (presents marks c)
  pub taken : (k : ℕ) → k < m → k < seen → get_or points k 0 ≡ get_or (presents marks c) k 0

pub choosing_start : {marks points : List ℕ} {m : ℕ} → length points ≡ largest_group → Choosing marks points m 0 0
choosing_start {marks} h =
    record { long = h; few = omega arith; count = sym (ap length (presents_none marks)); taken = λ k l i. absurd (not-suc-le-zero i) }

module _ {marks points : List ℕ} {m c seen : ℕ} (g : Choosing marks points m c seen) where
  pub choosing_skip : present marks c ≡ false → Choosing marks points m (c + 1) seen
  choosing_skip e =
      record {
        long = g.long;
        few = omega (arith, g.few);
        count = g.count ∙ ap length (sym (presents_same marks c e));
        taken = λ k l i. g.taken k l i ∙ ap (λ t. get_or t k 0) (sym (presents_same marks c e));
      }

  -- a present member is one more, behind those before it
  counted : present marks c ≡ true → seen + 1 ≡ length (presents marks (c + 1))
  counted e = ap (λ n. n + 1) g.count ∙ sym (ap length (presents_more marks c e) ∙ length-append (presents marks c) (c ∷ []))

  earlier : present marks c ≡ true → (k : ℕ) → k < seen → get_or (presents marks c) k 0 ≡ get_or (presents marks (c + 1)) k 0
  earlier e k h =
      sym (ap (λ t. get_or t k 0) (presents_more marks c e) ∙ get_or-append (presents marks c) (c ∷ []) 0 k (omega (arith, g.count)))

  last : present marks c ≡ true → c ≡ get_or (presents marks (c + 1)) seen 0
  last e = sym (ap₂ (λ (n : ℕ) (t : List ℕ). get_or t n 0) g.count (presents_more marks c e) ∙ get_or-append_seam (presents marks c) c [] 0)

  pub choosing_full : present marks c ≡ true → m ≤ seen → Choosing marks points m (c + 1) (seen + 1)
  choosing_full e h =
      record {
        long = g.long;
        few = omega (arith, g.few);
        count = counted e;
        taken = λ k l i. g.taken k l (omega arith) ∙ earlier e k (omega arith);
      }

  pub choosing_add : (v : ℕ) → present marks c ≡ true → seen < m → m ≤ largest_group → v ≡ c → Choosing marks (set points seen v) m (c + 1) (seen + 1)
  choosing_add v e h few q =
      record {
        long = length-set points seen v ∙ g.long;
        few = omega (arith, g.few);
        count = counted e;
        taken = λ k l. below_more (λ k. get_or (set points seen v) k 0 ≡ get_or (presents marks (c + 1)) k 0) seen before here k;
      }
    where
      before : (k : ℕ) → k < seen → get_or (set points seen v) k 0 ≡ get_or (presents marks (c + 1)) k 0
      before k i = set_before points seen v k i ∙ g.taken k (omega arith) i ∙ earlier e k i

      here : get_or (set points seen v) seen 0 ≡ get_or (presents marks (c + 1)) seen 0
      here = get_or-set_same points seen v 0 (omega (arith, g.long)) ∙ q ∙ last e

module _ {marks points : List ℕ} {m c seen : ℕ} (g : Choosing marks points m c seen) (z : c ≡ length marks) where
  pub choosing_end : m ≤ largest_group → m ≤ seen → take m points ≡ chosen m marks
  unfolding chosen
  choosing_end few h =
      let all : List ℕ = presents marks (length marks) in
      let same : presents marks c ≡ all = ap (presents marks) z in
      let long : length (take m points) ≡ m = length-take-le m points (omega (arith, g.long)) in
      let count : m ≤ length all = omega (arith, ap length same) in
      ext_get_or 0 (take m points) (take m all) (long ∙ sym (length-take-le m all count))
      (λ k i.
      let l : k < m = omega arith in
      get_or-take m points k 0 l ∙ g.taken k l (omega arith) ∙ ap (λ t. get_or t k 0) same ∙ sym (get_or-take m all k 0 l))
