-- How a call ends, from the tests of the code. A reader wants `refused_sizes` and `refused_marks` (it returns 2), `refused_few` (8) and `rebuilt` (0).
use mathlib.Core.Path.{◌≡◌, sym, ap, ap₂, ◌∙◌}
use mathlib.Core.Bool.{true, false}
use mathlib.Core.List.{List}
use Prim.Native.Nat.{ℕ, ◌/◌, ◌≤◌, ◌<◌}
use native.Mathlib.Omega.{arith}
use lib.ListN.{length, take}
use Rattle.std.proofs.lemmas.List.{length-take}
use Rattle.buffer.specs.TestLaws.{and_false_first, and_false_second}
use Rattle.buffer.specs.Loops.{entries}
use Rattle.coder.specs.Segment.{sizes_fit, marks_fit, presents, chosen, members_after, ending, rebuild_segment}
use Rattle.coder.specs.MemberLaws.{call_outside, call_few, call_granted}

module _ (m : ℕ) (s marks : List ℕ) where
  pub refused_sizes : sizes_fit m (length marks) (length s) ≡ false → ending 2 s marks ≡ rebuild_segment m s marks
  refused_sizes e = sym (call_outside m s marks (and_false_first e (marks_fit marks)))

  pub refused_marks : marks_fit marks ≡ false → ending 2 s marks ≡ rebuild_segment m s marks
  refused_marks e = sym (call_outside m s marks (and_false_second (sizes_fit m (length marks) (length s)) e))

  module _ (sizes : sizes_fit m (length marks) (length s) ≡ true) (fit : marks_fit marks ≡ true) where
    pub refused_few : length (presents marks (length marks)) < m → ending 8 s marks ≡ rebuild_segment m s marks
    refused_few h = sym (call_few m s marks sizes fit h)

    pub rebuilt : (list s' marks' : List ℕ) → m ≤ length list → take m list ≡ chosen m marks → s' ≡ members_after m marks (length s / length marks) s
        → marks' ≡ entries (length marks) (λ _. 1) → ending 0 s' marks' ≡ rebuild_segment m s marks
    unfolding chosen
    rebuilt list s' marks' h are e q =
        let all : List ℕ = presents marks (length marks) in
        let some : m ≤ length all = omega (arith, ap length are, length-take m list, length-take m all) in
        ap₂ (ending 0) e q ∙ sym (call_granted m s marks sizes fit some)
