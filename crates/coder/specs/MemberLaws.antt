-- The members of a segment as parts of one list: where they lie, their lengths and bytes, and those after a call. A reader wants `fitting` (what fitting
-- sizes say), `over` (members do not overlap), `member_in`, `member_byte_lem`, `members_are`, `after`, `after_wide` and how a call
-- ends, `call_outside`, `call_few` and `call_granted`.
use Rattle.std.specs.Prelude.{◌≡◌, true, false, ◌&&◌, List, ℕ, ◌+◌, ◌*◌, ◌/◌, ◌%◌, ◌≤◌, ◌<◌, leb, length}
use Rattle.std.proofs.Common.{sym, ◌∙◌, subst, mul-suc, mul-le-mul_left, div-add-mod', arith, le-leb, leb-true, eqb-true}
use Rattle.std.proofs.lemmas.Bool.{lt-leb}
use Rattle.buffer.specs.Choice.{pick}
use Rattle.buffer.specs.ChoiceLaws.{by-pick, pick_true, pick-false}
use Rattle.buffer.specs.TestLaws.{and-true, and_first, and_second}
use Rattle.buffer.specs.Bytes.{byte}
use Rattle.buffer.specs.ByteLaws.{byte_part}
use Rattle.buffer.specs.SpliceLaws.{length_part}
use Rattle.buffer.specs.Table.{tab}
use Rattle.buffer.specs.TableLaws.{Wide, tab_parts}
use Rattle.buffer.specs.Loops.{entries}
use Rattle.buffer.specs.RangeLaws.{length_entries}
use Rattle.coder.specs.Segment.{largest_group, most_members, longest_member, sizes_fit, marks_fit, present, presents, chosen}
use Rattle.coder.specs.Segment.{member, member_byte, member_from, members_after, ending, rebuild_segment}

-- ---- sizes that fit
pub record Fitting (m n bytes : ℕ) : Type 0 where
  pub some : 1 ≤ m
  pub group : m ≤ largest_group
  pub within : m ≤ n
  pub few : n ≤ most_members
  pub filled : 1 ≤ bytes / n
  pub short : bytes / n ≤ longest_member
  pub whole : bytes ≡ bytes / n * n

pub fitting : (m n bytes : ℕ) → sizes_fit m n bytes ≡ true → Fitting m n bytes
unfolding sizes_fit
fitting m n bytes e =
    let e₁ = and_second (leb 1 m) _ e in
    let e₂ = and_second (leb m largest_group) _ e₁ in
    let e₃ = and_second (leb m n) _ e₂ in
    let e₄ = and_second (leb n most_members) _ e₃ in
    let e₅ = and_second (leb 1 (bytes / n)) _ e₄ in
    record {
      some = leb-true 1 m (and_first (leb 1 m) _ e);
      group = leb-true m largest_group (and_first (leb m largest_group) _ e₁);
      within = leb-true m n (and_first (leb m n) _ e₂);
      few = leb-true n most_members (and_first (leb n most_members) _ e₃);
      filled = leb-true 1 (bytes / n) (and_first (leb 1 (bytes / n)) _ e₄);
      short = leb-true (bytes / n) longest_member (and_first (leb (bytes / n) longest_member) _ e₅);
      whole = omega (arith, div-add-mod' bytes n, eqb-true (bytes % n) 0 (and_second (leb (bytes / n) longest_member) _ e₅));
    }

-- ---- where members lie
pub over : (len p c : ℕ) → p < c → len * p + len ≤ len * c
over len p c h = subst (λ (n : ℕ). n ≤ len * c) (mul-suc len p) (mul-le-mul_left len h)

module _ (len : ℕ) (s : List ℕ) where
  pub member_byte_lem : (c j : ℕ) → j < len → byte (member len s c) j ≡ member_byte len s j c
  unfolding member member_byte
  member_byte_lem c j h = byte_part (len * c) len s j h

  pub member_in : (n c : ℕ) → length s ≡ len * n → c < n → len * c + len ≤ length s
  member_in n c e h = subst (λ (k : ℕ). len * c + len ≤ k) (sym e) (over len c n h)

  pub member_long : (n c : ℕ) → length s ≡ len * n → c < n → length (member len s c) ≡ len
  unfolding member
  member_long n c e h = length_part (len * c) len s (member_in n c e h)

  pub members_are : (n : ℕ) → length s ≡ len * n → tab n (member len s) ≡ s
  unfolding member
  members_are n e = tab_parts n len s e

-- ---- member c after a call
abbrev pub after : ℕ → List ℕ → ℕ → List ℕ → ℕ → List ℕ
after m marks len s c = pick (present marks c) (member len s c) (member_from (chosen m marks) len s c)

pub after_wide : (m : ℕ) (marks : List ℕ) (n len : ℕ) (s : List ℕ) → length s ≡ len * n → Wide n len (after m marks len s)
unfolding member_from
after_wide m marks n len s e c h =
    by-pick (λ l. length l ≡ len) (present marks c) (member len s c) (member_from (chosen m marks) len s c) (λ _. member_long len s n c e h)
    (λ _. length_entries len _)

-- ---- how a call ends, by its tests
module _ (m : ℕ) (s marks : List ℕ) where
  pub call_outside : (sizes_fit m (length marks) (length s) && marks_fit marks) ≡ false → rebuild_segment m s marks ≡ ending 2 s marks
  unfolding rebuild_segment
  call_outside e = pick-false e _ (ending 2 s marks)

  module _ (e : sizes_fit m (length marks) (length s) ≡ true) (f : marks_fit marks ≡ true) where
    pub call_few : length (presents marks (length marks)) < m → rebuild_segment m s marks ≡ ending 8 s marks
    unfolding rebuild_segment
    call_few h = pick_true (and-true e f) _ _ ∙ pick-false (lt-leb m (length (presents marks (length marks))) h) _ (ending 8 s marks)

    pub call_granted : m ≤ length (presents marks (length marks))
        → rebuild_segment m s marks ≡ ending 0 (members_after m marks (length s / length marks) s) (entries (length marks) (λ _. 1))
    unfolding rebuild_segment
    call_granted h = pick_true (and-true e f) _ _ ∙ pick_true (le-leb m (length (presents marks (length marks))) h) _ _
