-- Check records made from the data and put in their places: one, and those of a rank of a group.
use Prim.Native.Nat.{ℕ, ◌+◌, ◌*◌, ◌/◌, ◌%◌, ◌≤◌, ◌<◌}
use mathlib.Core.Path.{◌≡◌, refl, sym, ap, ap₂, ◌∙◌}
use mathlib.Core.List.{List, ◌++◌}
use mathlib.Core.Bool.{Bool, true, false, ◌&&◌, ◌||◌, and-true, and-false, and_comm}
use native.Mathlib.Omega.{arith}
use lib.Dec.{eqb}
use lib.ListN.{length, take, drop}
use borrow.Author.Tests.{eq-eqb, ne_eqb, eqb-true}
use Rattle.buffer.specs.Choice.{pick}
use Rattle.buffer.specs.ChoiceLaws.{pick-ext}
use Rattle.buffer.specs.TestLaws.{and_first, and_second, and_ext}
use Rattle.buffer.specs.Bytes.{byte, splice}
use Rattle.buffer.specs.SpliceLaws.{splice_next, splice_before}
use Rattle.buffer.specs.Table.{tab}
use Rattle.group.specs.Widths.{key_bytes, keys_bytes, field_bytes, check_bytes}
use Rattle.group.specs.Parity.{parity}
use Rattle.group.specs.CheckRecord.{check_record}
use Rattle.model.specs.Layout.{Store, bytes, view, check_at}
use Rattle.model.specs.Places.{CheckIn, check_units}
use Rattle.model.specs.LayoutLaws.{bytes_view, view_shaped, place_end}
use Rattle.model.specs.RunLaws.{upd2}
use Rattle.model.specs.StoreLaws.{size_of, chunk_put, chunks_ext}
use Rattle.encoding.specs.Ranks.{RankIn}
use Rattle.encoding.specs.Holding.{holds_five, holds_long}
use Rattle.encoding.specs.Made.{made_record, made_at, is_unit, in_group, in_state, at_rank}
use Rattle.encoding.specs.MadeLaws.{MadeFrom, made_nothing, made_once, made_as, records_kept, also_made}
use Rattle.encoding.specs.PlaceLaws.{state_of, three_places}

-- keys and parity are the record
pub record_parts : (v : Store) (g r c j : ℕ) (keys x : List ℕ) → c ≡ 3 * g + j → j < 3 → keys ≡ tab 4 (λ p. take key_bytes (v.slot (4 * g + p) r))
    → x ≡ parity j (λ p. drop key_bytes (v.slot (4 * g + p) r)) → keys ++ x ≡ made_record v c r
unfolding made_record check_record
record_parts v g r c j keys x ec l ek ex =
    let place : c % 3 ≡ j = omega arith in
    let group : c / 3 ≡ g = omega arith in
    rw (ek, ex, place, group)

module _ {s : List ℕ} {c r : ℕ} (h : CheckIn s c r) where
  pub record_room : {b at : ℕ} → b ≡ byte s 5 → at ≡ check_at b c r → at + check_bytes ≤ length s
  record_room eb ea = rw (ea, eb) (place_end h)

  -- both parts written together
  record_whole : (keys x : List ℕ) (b at : ℕ) → keys ++ x ≡ made_record (view s) c r → b ≡ byte s 5 → at ≡ check_at b c r
      → splice at check_bytes (keys ++ x) s ≡ bytes (made_at (at_rank r (is_unit c)) (view s))
  unfolding made_at upd2
  record_whole keys x b at e eb ea =
      chunk_put check_units (view s) (view_shaped s h.long) s (sym (bytes_view s h.long)) b (eb ∙ size_of s) _ (keys ++ x) at c r ea h.unit
      (omega (arith, h.rank)) refl
      ∙ chunks_ext check_units (view s) _ _ (λ d q a k.
      pick-ext (eqb d c && eqb q r) (keys ++ x) ((view s).check d q) (made_record (view s) d q) ((view s).check d q)
      (λ t. e ∙ ap₂ (made_record (view s)) (sym (eqb-true d c (and_first (eqb d c) (eqb q r) t))) (sym (eqb-true q r (and_second (eqb d c) (eqb q r) t))))
      (λ _. refl)
      ∙ ap (λ t. pick t (made_record (view s) d q) ((view s).check d q)) (and_comm (eqb d c) (eqb q r)))

  module _ (keys x : List ℕ) (b at : ℕ) (e : keys ++ x ≡ made_record (view s) c r) (eb : b ≡ byte s 5) (ea : at ≡ check_at b c r) where
    -- the keys first, or the parity first
    pub record_put : length keys ≡ keys_bytes → splice (at + keys_bytes) field_bytes x (splice at keys_bytes keys s) ≡ bytes (made_at (at_rank r (is_unit c)) (view s))
    record_put lk = splice_next at keys_bytes field_bytes keys x s (omega (arith, record_room eb ea)) lk ∙ record_whole keys x b at e eb ea

    pub record_put_back : splice at keys_bytes keys (splice (at + keys_bytes) field_bytes x s) ≡ bytes (made_at (at_rank r (is_unit c)) (view s))
    record_put_back = splice_before at keys_bytes field_bytes keys x s (omega (arith, record_room eb ea)) ∙ record_whole keys x b at e eb ea

  -- the unit is in service
  pub serving_put : {s' : List ℕ} → byte s (24 + c) ≡ 1 → s' ≡ bytes (made_at (at_rank r (is_unit c)) (view s))
      → s' ≡ bytes (made_at (at_rank r (in_state 1 (view s) (is_unit c))) (view s))
  serving_put {s'} on e =
      (made_as (made_once h.long (at_rank r (is_unit c)) e) (at_rank r (in_state 1 (view s) (is_unit c))) (λ d q a b.
      ap (λ t. eqb q r && t) (sym (and_ext (eqb d c) (eqb ((view s).cstate d) 1) true
      (λ t. eq-eqb _ 1 (ap (view s).cstate (eqb-true d c t) ∙ sym (state_of s c) ∙ on)) ∙ and-true (eqb d c))))).holds.state

  -- and it isn't
  pub nothing_put : (byte s (24 + c) ≡ 1 → ⊥) → s ≡ bytes (made_at (at_rank r (in_state 1 (view s) (is_unit c))) (view s))
  nothing_put off =
      (made_nothing h.long (at_rank r (in_state 1 (view s) (is_unit c))) (λ d q a b.
      sym (ap (λ t. eqb q r && t) (and_ext (eqb d c) (eqb ((view s).cstate d) 1) false
      (λ t. ne_eqb _ 1 (λ one. off (state_of s c ∙ ap (view s).cstate (sym (eqb-true d c t)) ∙ one))) ∙ and-false (eqb d c))
      ∙ and-false (eqb q r)))).holds.state

-- ---- a rank of a group: its records are put one after the other
module _ {s : List ℕ} {g r : ℕ} (h : RankIn s g r) where
  -- what the next asks for
  pub next_put : {s' z : List ℕ} {p : ℕ → ℕ → Bool} → MadeFrom s s' p → (c : ℕ) → c < 12 → z ≡ made_record (view s) c r
      → CheckIn s' c r × (z ≡ made_record (view s') c r)
  next_put m c l e = (
    record { long = holds_long m.holds; unit = l; rank = rw (holds_five m.holds) h.rank },
    e ∙ sym (records_kept m c r l (rw (← size_of s) h.rank)),
  )

  module _ {s₁ : List ℕ} (e₁ : s₁ ≡ bytes (made_at (at_rank r (in_state 1 (view s) (is_unit (3 * g)))) (view s))) where
    pub first_put : MadeFrom s s₁ (at_rank r (in_state 1 (view s) (is_unit (3 * g))))
    first_put = made_once h.long (at_rank r (in_state 1 (view s) (is_unit (3 * g)))) e₁

    module _ {s₂ : List ℕ} (e₂ : s₂ ≡ bytes (made_at (at_rank r (in_state 1 (view s₁) (is_unit (3 * g + 1)))) (view s₁))) where
      pub second_put : MadeFrom s s₂ (at_rank r (in_state 1 (view s) (λ c. is_unit (3 * g) c || is_unit (3 * g + 1) c)))
      second_put = also_made 1 (λ q. eqb q r) (is_unit (3 * g)) (is_unit (3 * g + 1)) (λ c. is_unit (3 * g) c || is_unit (3 * g + 1) c) (λ c. refl) first_put e₂

      pub all_put : {s₃ : List ℕ} → s₃ ≡ bytes (made_at (at_rank r (in_state 1 (view s₂) (is_unit (3 * g + 2)))) (view s₂))
          → s₃ ≡ bytes (made_at (at_rank r (in_state 1 (view s) (in_group g))) (view s))
      all_put e₃ =
          (also_made 1 (λ q. eqb q r) (λ c. is_unit (3 * g) c || is_unit (3 * g + 1) c) (is_unit (3 * g + 2)) (in_group g) (three_places g) second_put e₃
          ).holds.state
