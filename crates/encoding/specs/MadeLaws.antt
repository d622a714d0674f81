-- Laws of check records made anew, over the test that picks them: a store's shape is kept, and what is made is the data's alone, so those that are
-- made in two steps are those of one.
use Rattle.std.specs.Prelude.{ℕ, ◌+◌, ◌*◌, ◌/◌, ◌%◌, ◌<◌, ◌≡◌, List, Bool, false, ◌&&◌, ◌||◌, eqb, length}
use Rattle.std.proofs.Math.Path.{refl, sym, ap}
use Rattle.std.proofs.Common.{◌∙◌, arith}
use Rattle.std.proofs.Math.Bool.{and-or_distrib_left, and-or_distrib_right}
use Rattle.buffer.specs.Choice.{pick}
use Rattle.buffer.specs.ChoiceLaws.{by-pick, pick-false, pick-or}
use Rattle.group.specs.Widths.{field_bytes, check_bytes}
use Rattle.group.proofs.CheckRecordLaws.{check_record_ext, length_check_record}
use Rattle.model.specs.Layout.{Store, bytes, view}
use Rattle.model.specs.Places.{Long}
use Rattle.model.specs.Parts.{with_checks}
use Rattle.model.specs.LayoutLaws.{Shaped, Same, view_shaped, view_bytes}
use Rattle.encoding.specs.Made.{made_record, made_at, made_in, in_state}
use Rattle.encoding.specs.Holding.{Holds, Change, holds_start, holds_same, holds_step, checks_change}

-- ---- one record
pub made_long : (t : Store) → Shaped t → (c r : ℕ) → c < 12 → r < t.size → length (made_record t c r) ≡ check_bytes
unfolding made_record
made_long t h c r a b = length_check_record field_bytes (c % 3) (λ p. t.slot (4 * (c / 3) + p) r) (λ p l. h.slot (4 * (c / 3) + p) r (omega arith) b)

pub made_same : (s t : Store) → Same s t → (c r : ℕ) → c < 12 → r < t.size → made_record s c r ≡ made_record t c r
unfolding made_record
made_same s t h c r a b = check_record_ext (c % 3) _ _ (λ p l. h.slot (4 * (c / 3) + p) r (omega arith) b)

-- ---- those that a test picks, which may look at the states
made_by : (p : Store → ℕ → ℕ → Bool) → ((s t : Store) → Same s t → (c r : ℕ) → c < 12 → p s c r ≡ p t c r) → Change (λ t. made_at (p t) t)
unfolding made_at
made_by p same =
    checks_change
    (λ t c r. pick (p t c r) (made_record t c r) (t.check c r))
    (λ t h c r a b. by-pick (λ (x : List ℕ). length x ≡ check_bytes) (p t c r) _ _ (λ _. made_long t h c r a b) (λ _. h.check c r a b))
    (λ s t h c r a b. rw (h.check c r a b, same s t h c r a, made_same s t h c r a b))

pub made_change : (p : ℕ → ℕ → Bool) → Change (made_at p)
made_change p = made_by (λ _. p) (λ s t h c r a. refl)

pub made_in_change : (k : ℕ) (p : ℕ → Bool) → Change (made_in k p)
made_in_change k p = made_by (λ t c r. in_state k t p c) (λ s t h c r a. ap (λ x. p c && eqb x k) (h.cstate c a))

-- ---- other tests
checks_same : (v : Store) (f g : ℕ → ℕ → List ℕ) → ((c r : ℕ) → c < 12 → r < v.size → f c r ≡ g c r) → Same (with_checks v f) (with_checks v g)
unfolding with_checks
checks_same v f g e = record {
  front = refl;
  size = refl;
  dstate = λ u a. refl;
  cstate = λ c a. refl;
  slot = λ u r a b. refl;
  check = e;
  rest = refl;
}

-- none; those that p picks, by another test; those, and then those that q picks
module _ (v : Store) (o : ℕ → ℕ → Bool) where
  made_none : ((c r : ℕ) → c < 12 → r < v.size → false ≡ o c r) → Same v (made_at o v)
  unfolding made_at with_checks
  made_none e = checks_same v v.check _ (λ c r a b. sym (pick-false (sym (e c r a b)) _ _))

  made_ext : (p : ℕ → ℕ → Bool) → ((c r : ℕ) → c < 12 → r < v.size → p c r ≡ o c r) → Same (made_at p v) (made_at o v)
  unfolding made_at
  made_ext p e = checks_same v _ _ (λ c r a b. ap (λ t. pick t (made_record v c r) (v.check c r)) (e c r a b))

  made_twice : (p q : ℕ → ℕ → Bool) → ((c r : ℕ) → c < 12 → r < v.size → (p c r || q c r) ≡ o c r) → Same (made_at q (made_at p v)) (made_at o v)
  unfolding made_at made_record with_checks
  made_twice p q e =
      checks_same v _ _ (λ c r a b.
      pick-or (p c r) (q c r) (made_record v c r) (v.check c r) ∙ ap (λ t. pick t (made_record v c r) (v.check c r)) (e c r a b))

-- ---- s is s₀ with the check records made that p picks
pub record MadeFrom (s₀ s : List ℕ) (p : ℕ → ℕ → Bool) : Type 0 where
  pub long : Long s₀
  pub holds : Holds s₀ s (made_at p (view s₀))

made_from : {s₀ s : List ℕ} {t : Store} → Long s₀ → Holds s₀ s t → (o : ℕ → ℕ → Bool) → Same t (made_at o (view s₀)) → MadeFrom s₀ s o
made_from {s₀} l h o e = record { long = l; holds = holds_same h ((made_change o).shaped (view s₀) (view_shaped s₀ l)) e }

pub made_nothing : {s : List ℕ} → Long s → (o : ℕ → ℕ → Bool) → ((c r : ℕ) → c < 12 → r < (view s).size → false ≡ o c r) → MadeFrom s s o
made_nothing {s} l o e = made_from l (holds_start l) o (made_none (view s) o e)

pub made_once : {s s' : List ℕ} → Long s → (p : ℕ → ℕ → Bool) → s' ≡ bytes (made_at p (view s)) → MadeFrom s s' p
made_once l p e = record { long = l; holds = holds_step (made_change p) (holds_start l) e }

module _ {s₀ s : List ℕ} {p : ℕ → ℕ → Bool} (m : MadeFrom s₀ s p) where
  pub made_as : (o : ℕ → ℕ → Bool) → ((c r : ℕ) → c < 12 → r < (view s₀).size → p c r ≡ o c r) → MadeFrom s₀ s o
  made_as o e = made_from m.long m.holds o (made_ext (view s₀) o p e)

  pub made_again : {s' : List ℕ} (q o : ℕ → ℕ → Bool) → ((c r : ℕ) → c < 12 → r < (view s₀).size → (p c r || q c r) ≡ o c r)
      → s' ≡ bytes (made_at q (view s)) → MadeFrom s₀ s' o
  made_again q o e es = made_from m.long (holds_step (made_change q) m.holds es) o (made_twice (view s₀) o p q e)

  -- states and data are as they were
  seen : Same (view s) (made_at p (view s₀))
  seen = rw m.holds.state (view_bytes _ m.holds.shaped)

  pub states_kept : (c : ℕ) → c < 12 → (view s).cstate c ≡ (view s₀).cstate c
  unfolding made_at with_checks
  states_kept c l = seen.cstate c l

  pub tests_kept : (k : ℕ) (o : ℕ → Bool) (c : ℕ) → c < 12 → in_state k (view s) o c ≡ in_state k (view s₀) o c
  tests_kept k o c l = ap (λ x. o c && eqb x k) (states_kept c l)

  pub records_kept : (c r : ℕ) → c < 12 → r < (view s₀).size → made_record (view s) c r ≡ made_record (view s₀) c r
  records_kept c r a b =
      made_same (view s) (made_at p (view s₀)) seen c r a (rw m.holds.size b) ∙ unfold made_at with_checks made_record in refl

-- ---- of the check units in state k those that p picks are made, and then those that q picks, at the ranks for which a test w holds
pub also_made : {s₀ s s' : List ℕ} (k : ℕ) (w p q o : ℕ → Bool) → ((c : ℕ) → (p c || q c) ≡ o c) → MadeFrom s₀ s (λ c r. w r && in_state k (view s₀) p c)
    → s' ≡ bytes (made_at (λ c r. w r && in_state k (view s) q c) (view s)) → MadeFrom s₀ s' (λ c r. w r && in_state k (view s₀) o c)
also_made {s₀} {s} k w p q o eo m =
    made_again m (λ c r. w r && in_state k (view s) q c) (λ c r. w r && in_state k (view s₀) o c) (λ c r a b.
    ap (λ t. (w r && in_state k (view s₀) p c) || (w r && t)) (tests_kept m k q c a)
    ∙ sym (and-or_distrib_left (w r) (in_state k (view s₀) p c) (in_state k (view s₀) q c))
    ∙ ap (λ t. w r && t)
    (sym (and-or_distrib_right (p c) (q c) (eqb ((view s₀).cstate c) k)) ∙ ap (λ t. t && eqb ((view s₀).cstate c) k) (eo c)))
