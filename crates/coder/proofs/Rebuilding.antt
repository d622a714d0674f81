-- The loop over the members of a segment. A reader wants `Rebuilding`, what holds at each turn: the members passed are as they will be, the others as they
-- were; with `rebuilding_start`, `turn_missing`, `turn_present` and `rebuilding_end`; and what the first m present members are as points (`points_small`,
-- `points_distinct`, `points_away`, `points_placed`).
use mathlib.Core.Path.{◌≡◌, refl, sym, ap, ◌∙◌, subst}
use mathlib.Core.Bool.{Bool, true, false}
use mathlib.Core.List.{List}
use Prim.Native.Nat.{ℕ, ◌+◌, ◌*◌, ◌≤◌, ◌<◌}
use native.Mathlib.Omega.{arith}
use lib.Dec.{ltb, eqb}
use lib.ListN.{length, get_or, set, take}
use lib.Seq.{length-take-le, get_or-take}
use borrow.Author.Tests.{eq-eqb, ne_eqb, eqb-true, eqb-false, lt-ltb, le-ltb, ltb-true, ltb-false}
use Rattle.algebra.specs.Polynomial.{Distinct}
use Rattle.buffer.specs.Choice.{pick}
use Rattle.buffer.specs.ChoiceLaws.{pick_true, pick-false, pick_same, by-test, by-pick}
use Rattle.buffer.specs.TestLaws.{not-both}
use Rattle.buffer.specs.Bytes.{byte, splice}
use Rattle.buffer.specs.Table.{tab, upd}
use Rattle.buffer.specs.TableLaws.{Wide, tab_ext, byte_tab, length_tab, splice_chunk, upd-at, upd_other}
use Rattle.buffer.specs.Loops.{entries}
use Rattle.buffer.specs.RangeLaws.{entries_ext}
use Rattle.buffer.specs.LoopWrites.{Filling, filling_start, filling_turn, filling_read, filling_end}
use Rattle.coder.specs.ListLaws.{all-at}
use Rattle.coder.specs.Interpolated.{interpolated}
use Rattle.coder.specs.Segment.{most_members, present, chosen, member, member_byte, member_from, members_after}
use Rattle.coder.proofs.SegmentLaws.{Member, chosen_members, chosen_distinct, chosen_map}
use Rattle.coder.specs.Weights.{Away}
use Rattle.coder.specs.Sums.{Placed, Small}
use Rattle.coder.specs.MemberLaws.{member_in, member_byte_lem, member_long, members_are, after, after_wide}

module _ (m : ℕ) (marks₀ : List ℕ) (len : ℕ) (s₀ : List ℕ) where
  -- member c in the end, and in turn i
  abbrev last : ℕ → List ℕ
  last c = after m marks₀ len s₀ c

  abbrev now : ℕ → ℕ → List ℕ
  now i c = pick (ltb c i) (last c) (member len s₀ c)

  pub record Rebuilding (members marks scratch : List ℕ) (i : ℕ) : Type 0 where
    pub width : length scratch ≡ len
    pub bytes : members ≡ tab (length marks₀) (now i)
    pub filling : Filling (λ _. 1) marks₀ marks i

  module _ (whole : length s₀ ≡ len * length marks₀) where
    now_long : (i : ℕ) → Wide (length marks₀) len (now i)
    now_long i c h =
        by-pick (λ l. length l ≡ len) (ltb c i) (last c) (member len s₀ c) (λ e. after_wide m marks₀ (length marks₀) len s₀ whole c h)
        (λ e. member_long len s₀ (length marks₀) c whole h)

    pub rebuilding_start : (scratch : List ℕ) → length scratch ≡ len → Rebuilding s₀ marks₀ scratch 0
    rebuilding_start scratch e = record {
      width = e;
      bytes = sym (tab_ext (length marks₀) (now 0) (member len s₀) (λ c h. pick-false (le-ltb c 0 (omega arith)) (last c) (member len s₀ c))
          ∙ members_are len s₀ (length marks₀) whole);
      filling = filling_start;
    }

    module _ {members marks scratch : List ℕ} {i : ℕ} (g : Rebuilding members marks scratch i) where
      pub members_long : length members ≡ length s₀
      members_long = ap length g.bytes ∙ length_tab (length marks₀) len (now i) (now_long i) ∙ sym whole

      pub members_whole : length members ≡ length scratch * length marks₀
      members_whole = members_long ∙ whole ∙ ap (λ (n : ℕ). n * length marks₀) (sym g.width)

      -- present members are as they were, at any turn
      kept : (p j : ℕ) → Member marks₀ (length marks₀) p → j < len → member_byte len members j p ≡ member_byte len s₀ j p
      unfolding member_byte
      kept p j h l =
          let own = member len s₀ p in
          ap (λ (t : List ℕ). byte t (len * p + j)) g.bytes ∙ byte_tab (length marks₀) len (now i) (now_long i) p j h.below l
          ∙ ap (λ (t : List ℕ). byte t j) (ap (λ (t : List ℕ). pick (ltb p i) t own) (pick_true h.is own _) ∙ pick_same (ltb p i) own)
          ∙ member_byte_lem len s₀ p j l

      same_member : member_from (chosen m marks₀) len members i ≡ member_from (chosen m marks₀) len s₀ i
      unfolding member_from
      same_member =
          entries_ext len _ _ (λ j l. ap (λ (t : List ℕ). interpolated (chosen m marks₀) t i)
          (chosen_map marks₀ m (member_byte len members j) (member_byte len s₀ j) (λ p h. kept p j h l)))

      mark_read : get_or marks i 0 ≡ byte marks₀ i
      mark_read = filling_read g.filling

      module _ (h : i < length marks) where
        inside : i < length marks₀
        inside = omega (arith, g.filling.long)

        marked : Filling (λ _. 1) marks₀ (set marks i 1) (i + 1)
        marked = filling_turn 1 g.filling h refl

        -- only member i changes from turn to turn
        here : (c : ℕ) → c ≡ i → last i ≡ now (i + 1) c
        here c is = ap last (sym is) ∙ sym (pick_true (lt-ltb c (i + 1) (omega arith)) (last c) (member len s₀ c))

        elsewhere : (c : ℕ) → (c ≡ i → ⊥) → now i c ≡ now (i + 1) c
        elsewhere c n =
            ap (λ (b : Bool). pick b (last c) (member len s₀ c))
            (by-test (λ b. b ≡ ltb c (i + 1)) (ltb c i) (λ t. sym (lt-ltb c (i + 1) (omega (arith, ltb-true c i t))))
            (λ t. let ge : i ≤ c = ltb-false c i t in sym (le-ltb c (i + 1) (omega arith))))

        -- a function that is member i in the end at i, and as in turn i elsewhere
        next : (f : ℕ → List ℕ) → ((c : ℕ) → c ≡ i → f c ≡ last i) → ((c : ℕ) → (c ≡ i → ⊥) → f c ≡ now i c) → (c : ℕ) → f c ≡ now (i + 1) c
        next f e o c =
            by-test (λ _. f c ≡ now (i + 1) c) (eqb c i) (λ t. e c (eqb-true c i t) ∙ here c (eqb-true c i t))
            (λ t. o c (eqb-false c i t) ∙ elsewhere c (eqb-false c i t))

        pub member_fits : length scratch * i + length scratch ≤ length members
        member_fits = member_in (length scratch) members (length marks₀) i members_whole inside

        pub absent : (get_or marks i 0 ≡ 1 → ⊥) → present marks₀ i ≡ false
        absent n = ne_eqb (byte marks₀ i) 1 (λ z. n (mark_read ∙ z))

        pub turn_missing : (ps members' scratch' : List ℕ) → ps ≡ chosen m marks₀ → (get_or marks i 0 ≡ 1 → ⊥) → length scratch' ≡ length scratch
            → members' ≡ splice (length scratch * i) (length scratch) (member_from ps (length scratch) members i) members
            → Rebuilding members' (set marks i 1) scratch' (i + 1)
        turn_missing ps members' scratch' are n e q =
            let new = member_from (chosen m marks₀) len members i in
            let is : new ≡ last i = same_member ∙ sym (pick-false (absent n) (member len s₀ i) (member_from (chosen m marks₀) len s₀ i)) in
            record {
              width = e ∙ g.width;
              bytes = q ∙ (λ k. splice (g.width k * i) (g.width k) (member_from (are k) (g.width k) members i) (g.bytes k))
                  ∙ splice_chunk (length marks₀) len (now i) (now_long i) i new inside
                  ∙ tab_ext (length marks₀) _ (now (i + 1))
                  (λ c l. next (upd (now i) i new) (λ c t. upd-at (now i) i new c t ∙ is) (upd_other (now i) i new) c);
              filling = marked;
            }

        pub turn_present : (members' scratch' : List ℕ) → get_or marks i 0 ≡ 1 → members' ≡ members → scratch' ≡ scratch
            → Rebuilding members' (set marks i 1) scratch' (i + 1)
        turn_present members' scratch' p e q =
            let there : present marks₀ i ≡ true = eq-eqb (byte marks₀ i) 1 (sym mark_read ∙ p) in
            let stays : now i i ≡ last i = pick-false (le-ltb i i (omega arith)) (last i) (member len s₀ i) ∙ sym (pick_true there (member len s₀ i) _) in
            record {
              width = ap length q ∙ g.width;
              bytes = e ∙ g.bytes ∙ tab_ext (length marks₀) (now i) (now (i + 1)) (λ c l. next (now i) (λ c t. ap (now i) t ∙ stays) (λ c o. refl) c);
              filling = marked;
            }

      pub rebuilding_end : length marks ≤ i → (members ≡ members_after m marks₀ len s₀) × (marks ≡ entries (length marks₀) (λ _. 1))
      unfolding members_after
      rebuilding_end h = (
        g.bytes ∙ tab_ext (length marks₀) (now i) last (λ c l. pick_true (lt-ltb c i (omega (arith, g.filling.long))) (last c) (member len s₀ c)),
        filling_end g.filling h,
      )

-- ---- the points are the first m present members
module _ (ps : List ℕ) (m : ℕ) (marks : List ℕ) (long : m ≤ length ps) (are : take m ps ≡ chosen m marks) where
  taken : length (take m ps) ≡ m
  taken = length-take-le m ps long

  point_at : (k : ℕ) → k < m → Member marks (length marks) (get_or ps k 0)
  point_at k h =
      subst (Member marks (length marks)) (ap (λ (l : List ℕ). get_or l k 0) (sym are) ∙ get_or-take m ps k 0 h)
      (all-at (Member marks (length marks)) (chosen m marks) (chosen_members marks m) k (subst (λ (n : ℕ). k < n) (sym taken ∙ ap length are) h))

  pub points_small : length marks ≤ most_members → Small ps m
  points_small short = record { long = long; low = λ k h. omega (arith, (point_at k h).below) }

  pub points_distinct : Distinct (take m ps)
  points_distinct = subst Distinct (sym are) (chosen_distinct marks m)

  pub points_away : (c : ℕ) → present marks c ≡ false → Away ps m c
  points_away c e = record { away = λ k h z. not-both (point_at k h).is (sym (ap (present marks) z) ∙ e) }

  pub points_placed : (len : ℕ) (s : List ℕ) → length s ≡ len * length marks → Placed len s ps m
  points_placed len s e = record { fits = λ k h. member_in len s (length marks) (get_or ps k 0) e (point_at k h).below }
