-- `coder::rebuild_member` meets its contract.
use mathlib.Core.Path.{◌≡◌, ap, ap₂, ◌∙◌}
use mathlib.Core.List.{List, ◌++◌}
use Prim.Native.Nat.{ℕ, ◌+◌, ◌*◌, ◌-◌, ◌≤◌}
use native.Mathlib.Omega.{arith}
use lib.ListN.{length, take, drop}
use borrow.Author.Rules.{rules}
use Rattle.buffer.specs.Bytes.{zeros, splice}
use Rattle.buffer.specs.SpliceLaws.{put_lent, length_lent}
use Rattle.coder.proofs.Members.{weighed_is, still_placed, blank, rewritten}
use Rattle.coder.proofs.rebuild_member.Goals as goal

-- the members once the own stretch is cleared
cleared : (len at q : ℕ) (s new : List ℕ) → at ≡ len * q → len * q + len ≤ length s → new ≡ zeros (length (take (at + len - at) (drop at s)))
    → take at s ++ (new ++ drop (at + len - at) (drop at s)) ≡ splice (len * q) len (zeros len) s
cleared len at q s new is fits e =
    put_lent s new at len ∙ ap₂ (λ (n : ℕ) (x : List ℕ). splice n len x s) is (e ∙ ap zeros (length_lent s at len (omega arith)))

pub invariant_of-weighted : goal.invariant_of-weighted
invariant_of-weighted c =
    let a = c.args in
    let asked = c.requires in
    let now = cleared (length a.scratch.now) c.place-at.result a.c a.members.now c.clear.new.s c.place-at.ensures.0 asked.4 c.clear.ensures in
    record {
      short = asked.0;
      placed = still_placed _ _ _ _ _ asked.2 asked.4 _ now asked.1;
      blank = blank _ _ _ _ _ asked.2 asked.4 _ now _ c.place-at.ensures.0;
      small = record { long = search rules; low = λ k _. search rules };
      bytes = λ j. search rules;
    }

pub returns : goal.returns
returns c =
    let a = c.args in
    let asked = c.requires in
    let len : ℕ = length a.scratch.now in
    let now = cleared len c.place-at.result a.c a.members.now c.clear.new.s c.place-at.ensures.0 asked.4 c.clear.ensures in
    let ps = a.lagrange.now.points.now in
    put_lent _ c.copy_from_slice.new.self c.place-at.result len
    ∙ rewritten len a.members.now ps.list ps.m a.c asked.2 asked.4 _ now _ c.place-at.ensures.0 c.weights-weights.result _ (c.copy_from_slice.ensures.after ∙ c.sum.ensures)
    (weighed_is _ _ _ _ c.weights-weights.ensures ps.small ps.group asked.2 (search rules) asked.3 _ _ (search rules))
