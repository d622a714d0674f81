-- What single writes leave: a unit cleared from a rank on, check units cleared, the states of a group's three check units. And the check units that
-- the tests of grow and shrink pick.
use Prim.Native.Nat.{ℕ, ◌+◌, ◌*◌, ◌-◌, ◌/◌, ◌%◌, ◌≤◌, ◌<◌}
use mathlib.Core.Path.{◌≡◌, refl, sym, ap, ◌∙◌}
use mathlib.Core.List.{List}
use mathlib.Core.Bool.{Bool, true, false, ◌&&◌, ◌||◌, and-true}
use native.Mathlib.Omega.{arith}
use lib.Dec.{eqb, leb, ltb}
use lib.ListN.{length, set, length-set}
use lib.Seq.{get_or-set_other}
use borrow.Author.Tests.{eq-eqb, ne_eqb, eqb-true, lt-ltb, le-leb}
use Rattle.buffer.specs.Choice.{pick}
use Rattle.std.proofs.lemmas.Bool.Decides.{nat_tests}
use Rattle.buffer.specs.ChoiceLaws.{pick-false, pick-or, pick-ext}
use Rattle.buffer.specs.TestLaws.{and_ext, same_test}
use Rattle.buffer.specs.Bytes.{byte, zeros, splice}
use Rattle.buffer.specs.Table.{upd}
use Rattle.group.specs.Widths.{slot_bytes, check_bytes}
use Rattle.model.specs.Units.{split_pointer, touched, begins}
use Rattle.model.specs.Layout.{Store, bytes, view, slot_at, check_at}
use Rattle.model.specs.Places.{Long, data_units, check_units}
use Rattle.model.specs.Parts.{with_front, with_cstates, with_checks}
use Rattle.model.specs.LayoutLaws.{Shaped, Same, bytes_ext, bytes_view, view_shaped, ranks_within}
use Rattle.model.specs.RunLaws.{run}
use Rattle.model.specs.StoreLaws.{size_of, front_set, dstate_set, cstate_set, chunks_clear, chunks_ext, chunks_same}
use Rattle.encoding.specs.Made.{is_unit, in_group}
use Rattle.encoding.specs.Holding.{holds_start, holds_step, holds_long}
use Rattle.splitting.specs.Steps.{cleared, marked, levelled, wiped, of_first, of_both}
use Rattle.splitting.proofs.StepLaws.{levelled_change, wiped_change}

-- ---- a run to the end of a unit
run_rest : (f : ℕ → ℕ → List ℕ) (u q m : ℕ) (z : List ℕ) (w r : ℕ) → r < q + m → run f u q m (λ _. z) w r ≡ pick (eqb w u && leb q r) z (f w r)
unfolding run
run_rest f u q m z w r k =
    ap (λ t. pick t z (f w r)) (and_ext (eqb w u) (leb q r && ltb r (q + m)) (leb q r) (λ _. rw (lt-ltb r (q + m) k) (and-true (leb q r))))

pub unit_end : (s : List ℕ) (u : ℕ) → Long s → u < 16 → slot_at (byte s 5) u (byte s 5) ≤ length s
unit_end s u l hu = omega (arith, ranks_within data_units (byte s 5) u 0 (byte s 5) (length s) hu (omega arith) l)

pub check_unit_end : (s : List ℕ) (c : ℕ) → Long s → c < 12 → check_at (byte s 5) c (byte s 5) ≤ length s
check_unit_end s c l hc = omega (arith, ranks_within check_units (byte s 5) c 0 (byte s 5) (length s) hc (omega arith) l)

-- the bytes from rank q of data unit u to its end become zero
pub clear_from : (s s' : List ℕ) (b from to n u q : ℕ) → Long s → b ≡ byte s 5 → from ≡ slot_at b u q → to ≡ slot_at b u b → n ≡ to - from → u < 16 → q ≤ b
    → s' ≡ splice from n (zeros n) s → s' ≡ bytes (cleared (view s) u q)
unfolding cleared
clear_from s s' b from to n u q l eb ef et en hu hq es =
    let v : Store = view s in
    let m : ℕ = b - q in
    let size : b ≡ v.size = eb ∙ size_of s in
    chunks_clear data_units v (view_shaped s l) s (sym (bytes_view s l)) b size s' from n u q m ef (omega arith) hu (omega arith) es
    ∙ chunks_ext data_units v (run v.slot u q m (λ _. zeros slot_bytes)) _ (λ w r a k. run_rest v.slot u q m (zeros slot_bytes) w r (omega arith))

-- the bytes of check unit c become zero
pub clear_check : (s s' : List ℕ) (b from to n c : ℕ) → Long s → b ≡ byte s 5 → from ≡ check_at b c 0 → to ≡ check_at b c b → n ≡ to - from → c < 12
    → s' ≡ splice from n (zeros n) s → s' ≡ bytes (wiped (is_unit c) (view s))
unfolding wiped
clear_check s s' b from to n c l eb ef et en hc es =
    let v : Store = view s in
    let size : b ≡ v.size = eb ∙ size_of s in
    chunks_clear check_units v (view_shaped s l) s (sym (bytes_view s l)) b size s' from n c 0 b ef (omega arith) hc (omega arith) es
    ∙ chunks_ext check_units v (run v.check c 0 b (λ _. zeros check_bytes)) _ (λ d r a k.
    run_rest v.check c 0 b (zeros check_bytes) d r (omega arith)
    ∙ ap (λ t. pick t (zeros check_bytes) (v.check d r)) (ap (λ t. eqb d c && t) (le-leb 0 r (omega arith)) ∙ and-true (eqb d c)))

-- ---- the check units of group g that stand before check unit c: a loop over the group has met them
module _ (g : ℕ) where
  abbrev pub before : ℕ → ℕ → Bool
  before c d = in_group g d && ltb d c

  pub before_first : (c d : ℕ) → c ≡ 3 * g → before c d ≡ false
  before_first c d e = grind (arith, nat_tests)

  pub before_next : (c n d : ℕ) → n ≡ c + 1 → 3 * g ≤ c → c < 3 * g + 3 → (before c d || is_unit c d) ≡ before n d
  before_next c n d e low high = grind (arith, nat_tests)

  pub before_last : (d : ℕ) → before (3 * g + 3) d ≡ in_group g d
  before_last d = grind (arith, nat_tests)

-- ---- how many units there are, and the state of one
pub set_marks : (s : List ℕ) (at m u state : ℕ) → Long s → at ≡ 8 + u → u < 16 → set (set s 6 m) at state ≡ bytes (marked (view s) m u state)
unfolding marked with_front
set_marks s at m u state l ea hu =
    let v : Store = view s in
    let h : Shaped v = view_shaped s l in
    let t : Store = with_front v (set v.front 6 m) in
    let shaped : Shaped t = record {
      front = length-set v.front 6 m ∙ h.front;
      size = get_or-set_other v.front 6 5 m 0 (λ e. omega arith) ∙ h.size;
      slot = h.slot;
      check = h.check;
    } in
    dstate_set t shaped (set s 6 m) (front_set v h s (sym (bytes_view s l)) (set s 6 m) 6 m (omega arith) refl) _ at u state ea hu refl

-- ---- check units cleared: those that one test picks, and then those that another picks
module _ (p q o : ℕ → Bool) (e : (c : ℕ) → (p c || q c) ≡ o c) where
  wiped_twice : (v : Store) → Same (wiped q (wiped p v)) (wiped o v)
  unfolding wiped with_checks
  wiped_twice v = record {
    front = refl;
    size = refl;
    dstate = λ u a. refl;
    cstate = λ c a. refl;
    slot = λ u r a b. refl;
    check = λ c r a b. pick-or (p c) (q c) (zeros check_bytes) (v.check c r) ∙ ap (λ t. pick t (zeros check_bytes) (v.check c r)) (e c);
    rest = refl;
  }

  two_wiped : (s : List ℕ) {s₁ s₂ : List ℕ} → Long s → s₁ ≡ bytes (wiped p (view s)) → s₂ ≡ bytes (wiped q (view s₁)) → s₂ ≡ bytes (wiped o (view s))
  two_wiped s l e₁ e₂ = (holds_step (wiped_change q) (holds_step (wiped_change p) (holds_start l) e₁) e₂).state ∙ bytes_ext _ _ (wiped_twice (view s))

-- ---- where the test picks none
module _ (p : ℕ → Bool) (none : (c : ℕ) → p c ≡ false) (s : List ℕ) (l : Long s) where
  pub levelled_none : (k : ℕ) → s ≡ bytes (levelled p k (view s))
  unfolding levelled with_cstates
  levelled_none k =
      sym (bytes_view s l)
      ∙ bytes_ext _ _ (record {
        front = refl;
        size = refl;
        dstate = λ u a. refl;
        cstate = λ c a. sym (pick-false (none c) _ _);
        slot = λ u r a b. refl;
        check = λ c r a b. refl;
        rest = refl;
      })

  pub wiped_none : s ≡ bytes (wiped p (view s))
  unfolding wiped
  wiped_none =
      chunks_same check_units s _ l (λ c r a b. sym (pick-false (none c) _ _))

-- ---- the check units of a group, one after another: before turn c those before c are cleared, and before turn j their states are set
module _ (s : List ℕ) (g : ℕ) (l : Long s) where
  pub wiping_start : s ≡ bytes (wiped (before g (3 * g)) (view s))
  wiping_start = wiped_none (before g (3 * g)) (λ d. before_first g _ d refl) s l

  pub wiping_turn : {s₁ s₂ : List ℕ} (c : ℕ) → 3 * g ≤ c → c < 3 * g + 3 → s₁ ≡ bytes (wiped (before g c) (view s)) → s₂ ≡ bytes (wiped (is_unit c) (view s₁))
      → s₂ ≡ bytes (wiped (before g (c + 1)) (view s))
  wiping_turn c low high = two_wiped (before g c) (is_unit c) (before g (c + 1)) (λ d. before_next g c (c + 1) d refl low high) s l

  pub wiping_long : {s₁ : List ℕ} (c : ℕ) → s₁ ≡ bytes (wiped (before g c) (view s)) → Long s₁
  wiping_long c e = holds_long (holds_step (wiped_change (before g c)) (holds_start l) e)

  pub wiping_end : {s₁ : List ℕ} (c : ℕ) → c ≡ 3 * g + 3 → s₁ ≡ bytes (wiped (before g c) (view s)) → s₁ ≡ bytes (wiped (in_group g) (view s))
  wiping_end c ec e = e ∙ rw ec (ap (λ p. bytes (wiped p (view s))) (λ i d. before_last g d i))

  pub setting_start : (k : ℕ) → s ≡ bytes (levelled (before g (3 * g + 0)) k (view s))
  setting_start = levelled_none (before g (3 * g + 0)) (λ d. before_first g _ d (omega arith)) s l

  pub setting_turn : {s₁ : List ℕ} (k j at x : ℕ) → g < 4 → j < 3 → at ≡ 24 + (3 * g + j) → x ≡ pick (ltb j k) 1 0
      → s₁ ≡ bytes (levelled (before g (3 * g + j)) k (view s)) → set s₁ at x ≡ bytes (levelled (before g (3 * g + (j + 1))) k (view s))
  unfolding levelled with_cstates upd
  setting_turn {s₁} k j at x hg hj ea ex e =
      let c : ℕ = 3 * g + j in
      let n : ℕ = 3 * g + (j + 1) in
      let v : Store = view s in
      let state : ℕ → ℕ = λ d. pick (ltb (d % 3) k) 1 0 in
      let t : Store = levelled (before g c) k v in
      let same : (d : ℕ) → pick (eqb d c) x (pick (before g c d) (state d) (v.cstate d)) ≡ pick (before g n d) (state d) (v.cstate d) =
      λ d. pick-ext (eqb d c) x _ (state d) _ (λ f. let q : d % 3 ≡ j = omega (arith, eqb-true d c f) in ex ∙ rw q) (λ _. refl)
      ∙ pick-or (before g c d) (eqb d c) (state d) (v.cstate d) ∙ ap (λ b. pick b (state d) (v.cstate d)) (before_next g c n d (omega arith) (omega arith) (omega arith)) in
      cstate_set t ((levelled_change (before g c) k).shaped v (view_shaped s l)) s₁ e _ at c x (omega arith) (omega arith) refl
      ∙ bytes_ext _ _ (record {
        front = refl;
        size = refl;
        dstate = λ u a. refl;
        cstate = λ d a. same d;
        slot = λ u r a b. refl;
        check = λ u r a b. refl;
        rest = refl;
      })

  pub setting_end : {s₁ : List ℕ} (k j : ℕ) → j ≡ 3 → s₁ ≡ bytes (levelled (before g (3 * g + j)) k (view s)) → s₁ ≡ bytes (levelled (in_group g) k (view s))
  setting_end k j ej e = e ∙ rw ej (ap (λ p. bytes (levelled p k (view s))) (λ i d. before_last g d i))

-- the group of unit u, where u is its first, and where it isn't
module _ (u : ℕ) where
  pub first_unit : u % 4 ≡ 0 → in_group (u / 4) ≡ of_first u
  unfolding begins
  first_unit e = λ i c. same_test (eqb (c / 3) (u / 4)) (eqb (4 * (c / 3)) u)
      (λ f. eq-eqb (4 * (c / 3)) u (omega (arith, eqb-true (c / 3) (u / 4) f)))
      (λ f. eq-eqb (c / 3) (u / 4) (omega (arith, eqb-true (4 * (c / 3)) u f))) i

  pub other_unit : (u % 4 ≡ 0 → ⊥) → (c : ℕ) → of_first u c ≡ false
  unfolding begins
  other_unit h c = ne_eqb (4 * (c / 3)) u (λ f. h (omega arith))

-- the groups of unit m and of unit n, which m is split from
module _ (n m : ℕ) (from : n ≡ split_pointer m) where
  pub both_groups : (c : ℕ) → (in_group (m / 4) c || in_group (n / 4) c) ≡ of_both m c
  unfolding touched
  both_groups c = rw from

  pub one_group : n / 4 ≡ m / 4 → in_group (m / 4) ≡ of_both m
  one_group e = λ i c. (sym (or_same (in_group (m / 4) c)) ∙ ap (λ g. in_group (m / 4) c || eqb (c / 3) g) (sym e) ∙ both_groups c) i
    where
      or_same : (t : Bool) → (t || t) ≡ t
      or_same true = refl
      or_same false = refl
