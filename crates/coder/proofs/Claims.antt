-- The claims of specs/Claims on rebuilding hold. A reader wants `rebuilds`. A granted call ends in a table of members (`ends`): a present one stays, a
-- missing one is the value of the polynomial that the chosen ones fix. Data have such a polynomial (proofs/Columns), so their segment is given back.
use mathlib.Core.Path.{◌≡◌, refl, sym, ap, ap₂, ◌∙◌, subst}
use mathlib.Core.Bool.{true, false, ◌&&◌}
use mathlib.Core.List.{List, ◌++◌, map}
use mathlib.Core.Logic.{inl, inr}
use Prim.Native.Nat.{ℕ, ◌+◌, ◌*◌, ◌-◌, ◌/◌, ◌≤◌, ◌<◌}
use native.Mathlib.Nat.{mul-div_cancel, mul-add}
use native.Mathlib.Omega.{arith}
use lib.Dec.{ltb, leb}
use lib.ListN.{length, length-append}
use lib.Seq.{length-take-le}
use borrow.Author.Tests.{lt-ltb, ltb-true, eq-eqb, eqb-true}
use Rattle.algebra.specs.Polynomial.{All}
use Rattle.buffer.specs.Choice.{pick}
use Rattle.buffer.specs.ChoiceLaws.{by-pick, pick_true, pick-false}
use Rattle.buffer.specs.Bytes.{byte, part}
use Rattle.buffer.specs.SpliceLaws.{part_left, part_seam}
use Rattle.buffer.specs.Table.{tab}
use Rattle.buffer.specs.TableLaws.{Wide, tab_ext, tab_append, part_chunk, length_tab}
use Rattle.buffer.specs.Loops.{entries}
use Rattle.buffer.specs.RangeLaws.{count_append, count_holds, length_entries, get_or_entries, entries_ext, entries_of}
use Rattle.coder.specs.Interpolated.{Bytes, evaluate, interpolated}
use Rattle.coder.specs.Segment.{sizes_fit, marks_fit, present, presents, chosen}
use Rattle.coder.specs.Segment.{member, member_byte, member_from, members_after, Ending, ending, rebuild_segment}
use Rattle.coder.specs.Columns.{column, data_bytes, segment_of}
use Rattle.coder.specs.Claims.{Limits, Mark, Inside, present_of, Enough, Rebuilds}
use Rattle.coder.specs.ListLaws.{all_map, all_both, all-entries}
use Rattle.coder.proofs.SegmentLaws.{Member, chosen_members, chosen_distinct, chosen_map}
use Rattle.coder.specs.MemberLaws.{member_in, member_byte_lem, member_long, members_are, after, after_wide, call_granted}
use Rattle.coder.specs.PointLaws.{byte_low}
use Rattle.coder.proofs.Columns.{interpolated_only, coefficients, coefficients_long, coefficients_low, interpolated_value, interpolated_takes}
use Rattle.coder.proofs.Columns.{columns}
use Rattle.coder.proofs.Numbers.{inside_sizes, inside_marks, present_long}

-- the first m parts of a table, and the others
tab_split : (m n : ℕ) (f : ℕ → List ℕ) → m ≤ n → tab n f ≡ tab m f ++ tab (n - m) (λ k. f (m + k))
tab_split m n f h = let e : n ≡ m + (n - m) = omega arith in ap (λ (k : ℕ). tab k f) e ∙ tab_append m (n - m) f

-- ---- members and their bytes
module _ (len : ℕ) (s : List ℕ) where
  member_is : (n c : ℕ) (f : ℕ → ℕ) → length s ≡ len * n → c < n → ((j : ℕ) → j < len → member_byte len s j c ≡ f j) → member len s c ≡ entries len f
  member_is n c f e h k = entries_of (member len s c) len f (member_long len s n c e h) (λ j l. member_byte_lem len s c j l ∙ k j l)

  member_chunk : (n : ℕ) (f : ℕ → List ℕ) → s ≡ tab n f → Wide n len f → (c : ℕ) → c < n → member len s c ≡ f c
  unfolding member
  member_chunk n f e w c h = ap (part (len * c) len) e ∙ part_chunk n len f w c h

-- ---- a call that is granted
module _ (m n len : ℕ) (s marks : List ℕ) (g : Enough m n len s marks) where
  abbrev inside : Inside m n len s marks
  inside = g.inside

  abbrev fits : Limits m n len
  fits = inside.limits

  length_is : length s / length marks ≡ len
  length_is = ap₂ (λ (a b : ℕ). a / b) inside.long inside.count ∙ mul-div_cancel len (omega (arith, fits.some, fits.within))

  enough : m ≤ length (presents marks (length marks))
  enough = omega (arith, g.enough, present_long inside)

  members_after_lem : members_after m marks (length s / length marks) s ≡ tab n (after m marks len s)
  unfolding members_after
  members_after_lem = ap (λ (l : ℕ). members_after m marks l s) length_is ∙ ap (λ (k : ℕ). tab k (after m marks len s)) inside.count

  ends : rebuild_segment m s marks ≡ ending 0 (tab n (after m marks len s)) (entries n (λ _. 1))
  ends =
      call_granted m s marks (inside_sizes inside) (inside_marks inside) enough
      ∙ ap₂ (λ (t : List ℕ) (k : ℕ). ending 0 t (entries k (λ _. 1))) members_after_lem inside.count

  chosen_long : length (chosen m marks) ≡ m
  unfolding chosen
  chosen_long = length-take-le m (presents marks (length marks)) enough

  chosen_bytes : Bytes (chosen m marks)
  chosen_bytes =
      all_map (Member marks (length marks)) (λ p. p < 256) (λ p h. omega (arith, h.below, inside.count, fits.few)) (chosen m marks) (chosen_members marks m)

  kept : (c : ℕ) → c < n → present marks c ≡ true → member len (rebuild_segment m s marks).members c ≡ member len s c
  kept c h e = member_chunk len _ n (after m marks len s) (ap (λ (x : Ending). x.members) ends) (after_wide m marks n len s inside.long) c h ∙ pick_true e _ _

  -- a missing member, by the polynomial through the first m present ones
  module _ (b : Bytes s) (j : ℕ) (l : j < len) where
    abbrev values : List ℕ
    values = map (member_byte len s j) (chosen m marks)

    abbrev through : List ℕ
    through = coefficients (chosen m marks) values

    serving : All (λ c. member_byte len s j c ≡ evaluate through c) (chosen m marks)
    unfolding member_byte
    serving =
        all_both (λ c. member_byte len s j c ≡ interpolated (chosen m marks) values c) (λ c. c < 256) (λ c. member_byte len s j c ≡ evaluate through c)
        (λ c e h. e ∙ interpolated_value (chosen m marks) values c h) (chosen m marks)
        (interpolated_takes (member_byte len s j) (λ c. byte_low s b (len * c + j)) (chosen m marks) chosen_bytes (chosen_distinct marks m)) chosen_bytes

    lost : (c : ℕ) → c < n → present marks c ≡ false → member_byte len (rebuild_segment m s marks).members j c ≡ evaluate through c
    unfolding member_from
    lost c h e =
        sym (member_byte_lem len (rebuild_segment m s marks).members c j l)
        ∙ ap (λ (t : List ℕ). byte t j)
        (member_chunk len _ n (after m marks len s) (ap (λ (x : Ending). x.members) ends) (after_wide m marks n len s inside.long) c h ∙ pick-false e _ _)
        ∙ get_or_entries len (λ j. interpolated (chosen m marks) (map (member_byte len s j) (chosen m marks)) c) j 0 l
        ∙ interpolated_value (chosen m marks) values c (omega (arith, fits.few))

    served : (p : List ℕ) × (length p ≡ m) × Bytes p × All (λ c. member_byte len s j c ≡ evaluate p c) (chosen m marks)
        × ((c : ℕ) → c < n → present marks c ≡ false → member_byte len (rebuild_segment m s marks).members j c ≡ evaluate p c)
    served = (through, coefficients_long (chosen m marks) values ∙ chosen_long, coefficients_low (chosen m marks) values, serving, lost)

  -- members of one polynomial a byte
  module _ (f : ℕ → List ℕ) (low : (j : ℕ) → j < len → Bytes (f j) × (length (f j) ≡ m))
      (are : (c j : ℕ) → c < n → j < len → present marks c ≡ true → member_byte len s j c ≡ evaluate (f j) c) where
    abbrev wanted : ℕ → List ℕ
    wanted c = entries len (λ j. evaluate (f j) c)

    chosen_values : (j : ℕ) → j < len → map (member_byte len s j) (chosen m marks) ≡ map (evaluate (f j)) (chosen m marks)
    chosen_values j l = chosen_map marks m (member_byte len s j) (evaluate (f j)) (λ p h. are p j (omega (arith, h.below, inside.count)) l h.is)

    missing : (c : ℕ) → c < n → member_from (chosen m marks) len s c ≡ wanted c
    unfolding member_from
    missing c h =
        entries_ext len _ _
        (λ j l. ap (λ (ys : List ℕ). interpolated (chosen m marks) ys c) (chosen_values j l)
        ∙ interpolated_only (f j) (low j l).0 (chosen m marks) chosen_bytes (chosen_distinct marks m) ((low j l).1 ∙ sym chosen_long) c
        (omega (arith, fits.few)))

    each : (c : ℕ) → c < n → after m marks len s c ≡ wanted c
    each c h =
        by-pick (λ l. l ≡ wanted c) (present marks c) (member len s c) (member_from (chosen m marks) len s c)
        (λ e. member_is len s n c (λ j. evaluate (f j) c) inside.long h (λ j l. are c j h l e)) (λ e. missing c h)

    rebuilt : rebuild_segment m s marks ≡ ending 0 (tab n wanted) (entries n (λ _. 1))
    rebuilt = ends ∙ ap (λ (t : List ℕ). ending 0 t (entries n (λ _. 1))) (tab_ext n (after m marks len s) wanted each)

  -- none missing
  module _ (every : (c : ℕ) → c < n → present marks c ≡ true) where
    same_members : tab n (after m marks len s) ≡ s
    same_members = tab_ext n (after m marks len s) (member len s) (λ c h. pick_true (every c h) _ _) ∙ members_are len s n inside.long

    same_marks : entries n (λ _. 1) ≡ marks
    same_marks = sym (entries_of marks n (λ _. 1) inside.count (λ c h. eqb-true (byte marks c) 1 (every c h)))

    whole : rebuild_segment m s marks ≡ ending 0 s marks
    whole = ends ∙ ap₂ (ending 0) same_members same_marks

-- ---- segments of data
module _ (m len : ℕ) (d : List ℕ) (few : m ≤ 256) (b : Bytes d) where
  -- member c of the segment
  abbrev column_of : ℕ → List ℕ
  column_of c = entries len (λ j. column (data_bytes m len d j) c)

  data_low : (j : ℕ) → Bytes (data_bytes m len d j)
  unfolding data_bytes member_byte
  data_low j = all-entries (λ x. x < 256) m (member_byte len d j) (λ k h. byte_low d b (len * k + j))

  data_long : (j : ℕ) → length (data_bytes m len d j) ≡ m
  unfolding data_bytes
  data_long j = length_entries m (member_byte len d j)

  data_few : (j : ℕ) → length (data_bytes m len d j) ≤ 256
  data_few j = subst (λ (k : ℕ). k ≤ 256) (sym (data_long j)) few

  -- byte k of the data is column k of it
  column_data : (j k : ℕ) → k < m → column (data_bytes m len d j) k ≡ member_byte len d j k
  unfolding data_bytes
  column_data j k h =
      columns.«data» (data_bytes m len d j) (data_low j) (data_few j) k (subst (λ (i : ℕ). k < i) (sym (data_long j)) h)
      ∙ get_or_entries m (member_byte len d j) k 0 h

  column_member : length d ≡ len * m → (c : ℕ) → c < m → column_of c ≡ member len d c
  column_member e c h = sym (member_is len d m c _ e h (λ j l. sym (column_data j c h)))

  column_wide : (n : ℕ) → Wide n len column_of
  column_wide n c h = length_entries len _

  segment_member : (n c : ℕ) → c < n → member len (segment_of m n len d) c ≡ column_of c
  unfolding segment_of
  segment_member n c h = member_chunk len _ n column_of refl (column_wide n) c h

  segment_front : (n : ℕ) → m ≤ n → segment_of m n len d ≡ tab m column_of ++ tab (n - m) (λ k. column_of (m + k))
  unfolding segment_of
  segment_front n h = tab_split m n column_of h

  segment_begins : (n : ℕ) → m ≤ n → length d ≡ len * m → part 0 (len * m) (segment_of m n len d) ≡ d
  segment_begins n h e =
      ap (part 0 (len * m)) (segment_front n h)
      ∙ part_seam (len * m) (tab m column_of) _ (length_tab m len column_of (column_wide m))
      ∙ tab_ext m column_of (member len d) (column_member e)
      ∙ members_are len d m e

  -- the polynomial of the bytes j
  abbrev polynomial_of : ℕ → List ℕ
  polynomial_of j = (columns.polynomial (data_bytes m len d j) (data_low j) (data_few j)).0

  polynomial_low : (j : ℕ) → Bytes (polynomial_of j) × (length (polynomial_of j) ≡ m)
  polynomial_low j =
      let p = columns.polynomial (data_bytes m len d j) (data_low j) (data_few j) in
      (p.2, p.1 ∙ data_long j)

  polynomial_is : (j c : ℕ) → c < 256 → column (data_bytes m len d j) c ≡ evaluate (polynomial_of j) c
  polynomial_is j c h = (columns.polynomial (data_bytes m len d j) (data_low j) (data_few j)).3 c h

  segment_is : (n : ℕ) → n ≤ 256 → tab n (λ c. entries len (λ j. evaluate (polynomial_of j) c)) ≡ segment_of m n len d
  unfolding segment_of
  segment_is n h = tab_ext n _ column_of (λ c l. entries_ext len _ _ (λ j k. sym (polynomial_is j c (omega arith))))

-- ---- what was lost is given back
returned : (m n len : ℕ) (s marks : List ℕ) → Enough m n len s marks → (d : List ℕ) → Bytes d → length d ≡ len * m
    → ((c : ℕ) → c < n → present marks c ≡ true → member len s c ≡ member len (segment_of m n len d) c)
    → rebuild_segment m s marks ≡ ending 0 (segment_of m n len d) (entries n (λ _. 1))
returned m n len s marks g d b e h =
    rebuilt m n len s marks g (polynomial_of m len d few b) (λ j l. polynomial_low m len d few b j) are
    ∙ ap (λ (t : List ℕ). ending 0 t (entries n (λ _. 1))) (segment_is m len d few b n (omega (arith, f.few)))
  where
    f : Limits m n len
    f = fits m n len s marks g

    few : m ≤ 256
    few = omega (arith, f.group)

    are : (c j : ℕ) → c < n → j < len → present marks c ≡ true → member_byte len s j c ≡ evaluate (polynomial_of m len d few b j) c
    are c j hc hj p =
        sym (member_byte_lem len s c j hj)
        ∙ ap (λ (t : List ℕ). byte t j) (h c hc p ∙ segment_member m len d few b n c hc)
        ∙ get_or_entries len _ j 0 hj
        ∙ polynomial_is m len d few b j c (omega (arith, f.few))

-- ---- encoding: the first m marks are 1 and the others 0
abbrev first_marks : ℕ → ℕ → List ℕ
first_marks m n = entries n (λ c. pick (ltb c m) 1 0)

module _ (m n : ℕ) (inside : m ≤ n) where
  mark_is : (c : ℕ) → c < n → byte (first_marks m n) c ≡ pick (ltb c m) 1 0
  mark_is c h = get_or_entries n (λ c. pick (ltb c m) 1 0) c 0 h

  first_marked : (c : ℕ) → c < n → Mark (byte (first_marks m n) c)
  first_marked c h = subst Mark (sym (mark_is c h)) (by-pick Mark (ltb c m) 1 0 (λ _. inr refl) (λ _. inl refl))

  mark_first : (c : ℕ) → c < m → present (first_marks m n) c ≡ true
  mark_first c h = eq-eqb (byte (first_marks m n) c) 1 (mark_is c (omega arith) ∙ pick_true (lt-ltb c m h) 1 0)

  first_mark : (c : ℕ) → c < n → present (first_marks m n) c ≡ true → c < m
  first_mark c h e =
      by-pick (λ x. ◌≡◌ {A = ℕ} x 1 → c < m) (ltb c m) 1 0 (λ l _. ltb-true c m l) (λ _ z. absurd (omega arith))
      (sym (mark_is c h) ∙ eqb-true (byte (first_marks m n) c) 1 e)

  first_enough : m ≤ present_of n (first_marks m n)
  first_enough =
      let d : m + (n - m) ≡ n = omega arith in
      omega (
        arith,
        count_append m (n - m) (present (first_marks m n)),
        count_holds m (present (first_marks m n)) mark_first,
        ap (λ (k : ℕ). present_of k (first_marks m n)) d,
      )

both_long : (m n len : ℕ) → m ≤ n → len * m + len * (n - m) ≡ len * n
both_long m n len h = let e : m + (n - m) ≡ n = omega arith in sym (mul-add len m (n - m)) ∙ ap (λ (k : ℕ). len * k) e

module _ (m n len : ℕ) (l : Limits m n len) (d rest : List ℕ) (b : Bytes d) (e : length d ≡ len * m)
    (r : length rest ≡ len * (n - m)) where
  encoding : Enough m n len (d ++ rest) (first_marks m n)
  encoding = record {
    inside = record {
      limits = l;
      long = length-append d rest ∙ ap₂ (λ (x y : ℕ). x + y) e r ∙ both_long m n len l.within;
      count = length_entries n _;
      marked = first_marked m n l.within;
    };
    enough = first_enough m n l.within;
  }

  member_left : (c : ℕ) → c < m → member len (d ++ rest) c ≡ member len d c
  unfolding member
  member_left c h = part_left (len * c) len d rest (member_in len d m c e h)

  encoded : rebuild_segment m (d ++ rest) (first_marks m n) ≡ ending 0 (segment_of m n len d) (entries n (λ _. 1))
  encoded =
      let few : m ≤ 256 = omega (arith, l.group) in
      returned m n len (d ++ rest) (first_marks m n) encoding d b e
      (λ c h p. let f : c < m = first_mark m n l.within c h p in
      member_left c f ∙ sym (column_member m len d few b e c f) ∙ sym (segment_member m len d few b n c h))

-- ---- a call that is refused
refused : (m : ℕ) (s marks : List ℕ) → ((rebuild_segment m s marks).number ≡ 0 → ⊥)
    → ((rebuild_segment m s marks).members ≡ s) × ((rebuild_segment m s marks).marks ≡ marks)
unfolding rebuild_segment
refused m s marks =
    by-pick Kept (sizes_fit m (length marks) (length s) && marks_fit marks) _ _
    (λ _. by-pick Kept (leb m (length (presents marks (length marks)))) _ _ (λ _ z. absurd (z refl)) (λ _ _. (refl, refl))) (λ _ _. (refl, refl))
  where
    Kept : Ending → Type 0
    Kept x = (x.number ≡ 0 → ⊥) → (x.members ≡ s) × (x.marks ≡ marks)

pub rebuilds : Rebuilds
rebuilds = record {
  rebuilt = rebuilt;
  from_the_first = served;
  returned = returned;
  encoded = encoded;
  begins = λ m n len d h few b e. segment_begins m len d few b n h e;
  stays = kept;
  whole = whole;
  refused = refused;
}
