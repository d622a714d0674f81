-- The number of a call, by the limits of document 02. A reader wants `numbers`; the other claims use `inside_sizes`, `inside_marks` and
-- `present_long`.
use mathlib.Core.Path.{◌≡◌, refl, sym, ap, ap₂, ◌∙◌, subst}
use mathlib.Core.Bool.{true, ◌&&◌}
use mathlib.Core.List.{List}
use mathlib.Core.Logic.{inl, inr, ⊎_elim}
use Prim.Native.Nat.{ℕ, zero, suc, ◌*◌, ◌/◌, ◌%◌, ◌≤◌, ◌<◌}
use native.Mathlib.Nat.{mul-div_cancel, mul-mod_left}
use native.Mathlib.Omega.{arith}
use lib.Dec.{leb}
use lib.ListN.{length}
use borrow.Author.Tests.{le-leb, leb-true, leb-false, eq-eqb}
use Rattle.buffer.specs.Exactly.{Exactly}
use Rattle.buffer.specs.ChoiceLaws.{by-test}
use Rattle.buffer.specs.TestLaws.{not-both, and-true, and_first, and_second}
use Rattle.buffer.specs.Bytes.{byte}
use Rattle.buffer.specs.RangeLaws.{all_true, all_holds}
use Rattle.coder.specs.Segment.{largest_group, most_members, longest_member, sizes_fit, marks_fit, presents, Ending, rebuild_segment}
use Rattle.coder.specs.Claims.{Limits, Mark, Inside, present_of, Few, Enough, Numbers}
use Rattle.coder.proofs.SegmentLaws.{presents_long}
use Rattle.coder.specs.MemberLaws.{fitting, call_outside, call_few, call_granted}

-- ---- sizes within the limits are those that fit
module _ {m n len : ℕ} (l : Limits m n len) where
  members_some : 0 < n
  members_some = omega (arith, l.some, l.within)

  limits_sizes : sizes_fit m n (len * n) ≡ true
  unfolding sizes_fit
  limits_sizes =
      let each : len * n / n ≡ len = mul-div_cancel len members_some in
      let whole : len * n % n ≡ 0 = mul-mod_left len n in
      and-true (le-leb 1 m l.some) (and-true (le-leb m largest_group (omega (arith, l.group)))
      (and-true (le-leb m n l.within) (and-true (le-leb n most_members (omega (arith, l.few)))
      (and-true (le-leb 1 (len * n / n) (omega (arith, each, l.filled)))
      (and-true (le-leb (len * n / n) longest_member (omega (arith, each, l.short))) (eq-eqb (len * n % n) 0 whole))))))

sizes_limits : (m n bytes : ℕ) → sizes_fit m n bytes ≡ true → Limits m n (bytes / n)
sizes_limits m n bytes e =
    let f = fitting m n bytes e in
    record {
      some = f.some;
      group = omega (arith, f.group);
      within = f.within;
      few = omega (arith, f.few);
      filled = f.filled;
      short = omega (arith, f.short);
    }

-- ---- what is inside passes both tests
module _ {m n len : ℕ} {s marks : List ℕ} (i : Inside m n len s marks) where
  pub inside_sizes : sizes_fit m (length marks) (length s) ≡ true
  inside_sizes = ap₂ (λ (a b : ℕ). sizes_fit m a b) i.count i.long ∙ limits_sizes i.limits

  pub inside_marks : marks_fit marks ≡ true
  unfolding marks_fit
  inside_marks =
      all_holds (length marks) (λ c. leb (byte marks c) 1)
      (λ c h. le-leb (byte marks c) 1 (⊎_elim (λ e. omega arith) (λ e. omega arith) (i.marked c (omega (arith, i.count)))))

  present_same : present_of (length marks) marks ≡ present_of n marks
  present_same = ap (λ (k : ℕ). present_of k marks) i.count

  pub present_long : length (presents marks (length marks)) ≡ present_of n marks
  present_long = presents_long marks (length marks) ∙ present_same

-- ---- and the other way
zero_or_one : (x : ℕ) → x ≤ 1 → Mark x
zero_or_one zero h = inl refl
zero_or_one (suc zero) h = inr refl
zero_or_one (suc (suc x)) h = absurd (omega arith)

tests_inside : (m : ℕ) (s marks : List ℕ) → (sizes_fit m (length marks) (length s) && marks_fit marks) ≡ true
    → Inside m (length marks) (length s / length marks) s marks
unfolding marks_fit
tests_inside m s marks e =
    let sizes : sizes_fit m (length marks) (length s) ≡ true = and_first (sizes_fit m (length marks) (length s)) (marks_fit marks) e in
    let marked : marks_fit marks ≡ true = and_second (sizes_fit m (length marks) (length s)) (marks_fit marks) e in
    record {
      limits = sizes_limits m (length marks) (length s) sizes;
      long = (fitting m (length marks) (length s) sizes).whole;
      count = refl;
      marked = λ c h. zero_or_one (byte marks c)
          (leb-true (byte marks c) 1 (all_true (length marks) (λ c. leb (byte marks c) 1) marked c h));
    }

-- ---- the number
module _ (m : ℕ) (s marks : List ℕ) where
  -- what is claimed of a number r
  abbrev Says : ℕ → Type 0
  Says r =
      Exactly (r ≡ 2) ((n len : ℕ) → Inside m n len s marks → ⊥)
      × Exactly (r ≡ 8) ((n : ℕ) × (len : ℕ) × Few m n len s marks)
      × Exactly (r ≡ 0) ((n : ℕ) × (len : ℕ) × Enough m n len s marks)

  says_two : ((n len : ℕ) → Inside m n len s marks → ⊥) → Says 2
  says_two out = (
    (λ _. out, λ _. refl),
    (λ z. absurd (omega arith), λ f. absurd (out f.0 f.1 f.2.inside)),
    (λ z. absurd (omega arith), λ f. absurd (out f.0 f.1 f.2.inside)),
  )

  module _ (i : Inside m (length marks) (length s / length marks) s marks) where
    says_eight : present_of (length marks) marks < m → Says 8
    says_eight h = (
      (λ z. absurd (omega arith), λ out. absurd (out _ _ i)),
      (λ _. (length marks, length s / length marks, record { inside = i; few = h }), λ _. refl),
      (λ z. absurd (omega arith), λ f. absurd (omega (arith, f.2.enough, present_same f.2.inside))),
    )

    says_zero : m ≤ present_of (length marks) marks → Says 0
    says_zero h = (
      (λ z. absurd (omega arith), λ out. absurd (out _ _ i)),
      (λ z. absurd (omega arith), λ f. absurd (omega (arith, f.2.few, present_same f.2.inside))),
      (λ _. (length marks, length s / length marks, record { inside = i; enough = h }), λ _. refl),
    )

  says : Says (rebuild_segment m s marks).number
  says =
      by-test (λ _. Says (rebuild_segment m s marks).number) (sizes_fit m (length marks) (length s) && marks_fit marks) inside
      (λ e. ends (call_outside m s marks e) (says_two (λ n len i. not-both (and-true (inside_sizes i) (inside_marks i)) e)))
    where
      ends : {x : Ending} → rebuild_segment m s marks ≡ x → Says x.number → Says (rebuild_segment m s marks).number
      ends e = subst (λ (x : Ending). Says x.number) (sym e)

      inside : (sizes_fit m (length marks) (length s) && marks_fit marks) ≡ true → Says (rebuild_segment m s marks).number
      inside e =
          let i : Inside m (length marks) (length s / length marks) s marks = tests_inside m s marks e in
          let long : length (presents marks (length marks)) ≡ present_of (length marks) marks = presents_long marks (length marks) in
          by-test (λ _. Says (rebuild_segment m s marks).number) (leb m (present_of (length marks) marks))
          (λ q. let h : m ≤ present_of (length marks) marks = leb-true m (present_of (length marks) marks) q in
          ends (call_granted m s marks (inside_sizes i) (inside_marks i) (omega arith)) (says_zero i h))
          (λ q. let h : present_of (length marks) marks < m = leb-false m (present_of (length marks) marks) q in
          ends (call_few m s marks (inside_sizes i) (inside_marks i) (omega arith)) (says_eight i h))

  pub numbers : Numbers m s marks
  numbers = record { two = says.0; eight = says.1; zero = says.2 }
