-- The check units of a group that are out are made, one after the other: what holds at each turn of that loop.
use Prim.Native.Nat.{ℕ, suc, ◌+◌, ◌*◌, ◌/◌, ◌%◌, ◌≤◌, ◌<◌}
use mathlib.Core.Path.{◌≡◌, sym, ap, ◌∙◌}
use mathlib.Core.Bool.{Bool, false, ◌&&◌, ◌||◌, or-true, or-false}
use mathlib.Core.Bool as bool
use mathlib.Core.List.{List}
use native.Mathlib.Omega.{arith}
use native.Mathlib.Numerals.{add-one}
use lib.Dec.{eqb, ltb}
use lib.ListN.{length}
use borrow.Author.Tests.{eq-eqb, ne_eqb, eqb-true, eqb-false, lt-ltb, le-ltb}
use Rattle.buffer.specs.ChoiceLaws.{by-test}
use Rattle.buffer.specs.TestLaws.{and-true, and_false_first, and_false_second, and_ext, ltb_suc}
use Rattle.buffer.specs.Bytes.{byte}
use Rattle.model.specs.Layout.{Store, bytes, view}
use Rattle.model.specs.Places.{Long}
use Rattle.encoding.specs.Made.{made, made_in, is_unit, in_group, in_state}
use Rattle.encoding.specs.Holding.{holds_long, holds_length}
use Rattle.encoding.specs.MadeLaws.{MadeFrom, made_nothing, made_as, made_again, states_kept}
use Rattle.encoding.specs.PlaceLaws.{state_of}
use Rattle.repairing.specs.Groups.{Group}

-- the check units at the first t places of group g; of those, the ones that are out
abbrev pub places : ℕ → ℕ → ℕ → Bool
places g t c = in_group g c && ltb (c % 3) t

abbrev pub so_far : Store → ℕ → ℕ → ℕ → ℕ → Bool
so_far v g t c r = in_state 2 v (places g t) c

-- ---- the next place
module _ (v : Store) (g t : ℕ) (lt : t < 3) where
  abbrev i : ℕ
  i = 3 * g + t

  others : (c : ℕ) → (c ≡ i → ⊥) → in_state 2 v (places g t) c ≡ in_state 2 v (places g (suc t)) c
  others c n =
      ap (λ x. x && eqb (v.cstate c) 2) (and_ext (in_group g c) (ltb (c % 3) t) (ltb (c % 3) (suc t))
      (λ e. let own : c / 3 ≡ g = eqb-true (c / 3) g e in ltb_suc (c % 3) t (λ k. n (omega arith))))

  place_off : (v.cstate i ≡ 2 → ⊥) → (c : ℕ) → in_state 2 v (places g t) c ≡ in_state 2 v (places g (suc t)) c
  place_off n c =
      by-test
      (λ _. in_state 2 v (places g t) c ≡ in_state 2 v (places g (suc t)) c)
      (eqb c i)
      (λ e.
      let off : eqb (v.cstate c) 2 ≡ false = ne_eqb _ 2 (λ k. n (ap v.cstate (sym (eqb-true c i e)) ∙ k)) in
      and_false_second (places g t c) off ∙ sym (and_false_second (places g (suc t) c) off))
      (λ e. others c (eqb-false c i e))

  place_on : v.cstate i ≡ 2 → (c : ℕ) → (in_state 2 v (places g t) c || is_unit i c) ≡ in_state 2 v (places g (suc t)) c
  place_on out c =
      by-test
      (λ x. (in_state 2 v (places g t) c || x) ≡ in_state 2 v (places g (suc t)) c)
      (eqb c i)
      (λ e.
      let same : c ≡ i = eqb-true c i e in
      or-true (in_state 2 v (places g t) c)
      ∙ sym (and-true (and-true (eq-eqb (c / 3) g (omega arith)) (lt-ltb (c % 3) (suc t) (omega arith))) (eq-eqb _ 2 (ap v.cstate same ∙ out))))
      (λ e. or-false (in_state 2 v (places g t) c) ∙ others c (eqb-false c i e))

-- ---- the loop
pub record Remaking (s₀ : List ℕ) (g : ℕ) (s : List ℕ) (t : ℕ) : Type 0 where
  pub within : t ≤ 3
  pub long : length s ≡ length s₀
  pub made : MadeFrom s₀ s (so_far (view s₀) g t)

remaking_of : {s₀ s : List ℕ} {g t : ℕ} → t ≤ 3 → MadeFrom s₀ s (so_far (view s₀) g t) → Remaking s₀ g s t
remaking_of w m = record { within = w; long = holds_length m.holds m.long; made = m }

module _ {s₀ : List ℕ} {g : ℕ} (h : Group s₀ g) where
  pub remaking_start : Remaking s₀ g s₀ 0
  remaking_start =
      remaking_of (omega arith) (made_nothing h.long (so_far (view s₀) g 0) (λ c r a b.
      sym (and_false_first (and_false_second (in_group g c) (le-ltb (c % 3) 0 (omega arith))) (eqb ((view s₀).cstate c) 2))))

  module _ {s : List ℕ} {t : ℕ} (m : Remaking s₀ g s t) (lt : t < 3) where
    abbrev c : ℕ
    c = 3 * g + t

    -- what the code asks before it makes check unit c
    pub remaking_unit : Long s × (c < 12)
    remaking_unit = (holds_long m.made.holds, omega (arith, h.group))

    state_read : byte s (24 + c) ≡ (view s₀).cstate c
    state_read = state_of s c ∙ states_kept m.made c (omega (arith, h.group))

    -- it is not out; it is, and is made
    pub remaking_off : (byte s (24 + c) ≡ 2 → ⊥) → Remaking s₀ g s (t + 1)
    remaking_off n =
        rw (add-one t) (remaking_of lt (made_as m.made (so_far (view s₀) g (suc t)) (λ d r a b.
        place_off (view s₀) g t lt (λ k. n (state_read ∙ k)) d)))

    pub remaking_on : {s' : List ℕ} → byte s (24 + c) ≡ 2 → s' ≡ bytes (made (is_unit c) (view s)) → Remaking s₀ g s' (t + 1)
    remaking_on out e =
        rw (add-one t) (remaking_of lt (made_again m.made (λ d r. is_unit c d) (so_far (view s₀) g (suc t)) (λ d r a b.
        place_on (view s₀) g t lt (sym state_read ∙ out) d) e))

  pub remaking_end : {s : List ℕ} {t : ℕ} → Remaking s₀ g s t → 3 ≤ t → s ≡ bytes (made_in 2 (in_group g) (view s₀))
  remaking_end {s} {t} m l =
      (made_as m.made (λ c r. in_state 2 (view s₀) (in_group g) c) (λ c r a b.
      ap (λ x. x && eqb ((view s₀).cstate c) 2)
      (ap (λ x. in_group g c && x) (lt-ltb (c % 3) t (omega arith)) ∙ bool.and-true (in_group g c)))).holds.state
