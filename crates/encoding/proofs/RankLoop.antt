-- The loops over the ranks, of `make_group` and of `make_unit`: in the check units that a test picks the records of the first t ranks are made.
use Prim.Native.Nat.{ℕ, suc, ◌+◌, ◌*◌, ◌/◌, ◌%◌, ◌≤◌, ◌<◌}
use mathlib.Core.Path.{◌≡◌, refl, sym, ap, ◌∙◌}
use mathlib.Core.List.{List}
use mathlib.Core.Bool.{Bool, false, ◌&&◌, ◌||◌, and-false, or-true, or-false, and-or_distrib_right}
use native.Mathlib.Omega.{arith}
use native.Mathlib.Numerals.{add-one}
use lib.Dec.{eqb, ltb}
use lib.ListN.{length}
use borrow.Author.Tests.{eqb-true, eqb-false, lt-ltb, le-ltb}
use Rattle.buffer.specs.ChoiceLaws.{by-test}
use Rattle.buffer.specs.TestLaws.{and_ext, ltb_suc}
use Rattle.buffer.specs.Range.{first}
use Rattle.buffer.specs.RangeLaws.{first_misses}
use Rattle.buffer.specs.Bytes.{byte}
use Rattle.model.specs.Layout.{bytes, view}
use Rattle.model.specs.Places.{Long}
use Rattle.model.specs.StoreLaws.{size_of}
use Rattle.model.specs.Reads.{first_check}
use Rattle.lookup.specs.States.{in_service, first_check_found}
use Rattle.encoding.specs.Made.{made_at, made, made_in, in_group, in_state, at_rank}
use Rattle.encoding.specs.Holding.{holds_five, holds_length}
use Rattle.encoding.specs.MadeLaws.{MadeFrom, made_nothing, made_as, made_again}
use Rattle.encoding.specs.PlaceLaws.{state_of}

-- the ranks before t
abbrev pub up_to : ℕ → (ℕ → Bool) → ℕ → ℕ → Bool
up_to t p c q = ltb q t && p c

-- and rank t
one_more : (a b : Bool) (q t : ℕ) → b ≡ a → ((ltb q t && a) || (eqb q t && b)) ≡ (ltb q (suc t) && a)
one_more a b q t e =
    ap (λ x. (ltb q t && a) || (eqb q t && x)) e
    ∙ sym (and-or_distrib_right (ltb q t) (eqb q t) a)
    ∙ ap (λ x. x && a) (by-test
    (λ x. (ltb q t || x) ≡ ltb q (suc t))
    (eqb q t)
    (λ h. let same : q ≡ t = eqb-true q t h in or-true (ltb q t) ∙ sym (lt-ltb q (suc t) (omega arith)))
    (λ h. or-false (ltb q t) ∙ ltb_suc q t (eqb-false q t h)))

pub record Making (p : ℕ → Bool) (s₀ s : List ℕ) (t : ℕ) : Type 0 where
  pub within : t ≤ byte s₀ 5
  pub long : length s ≡ length s₀
  pub five : byte s 5 ≡ byte s₀ 5
  pub made : MadeFrom s₀ s (up_to t p)

making_of : {p : ℕ → Bool} {s₀ s : List ℕ} {t : ℕ} → t ≤ byte s₀ 5 → MadeFrom s₀ s (up_to t p) → Making p s₀ s t
making_of w m = record { within = w; long = holds_length m.holds m.long; five = holds_five m.holds; made = m }

pub making_start : {s : List ℕ} (p : ℕ → Bool) → Long s → Making p s s 0
making_start p l =
    making_of (omega arith) (made_nothing l (up_to 0 p) (λ c q a b. sym (ap (λ t. t && p c) (le-ltb q 0 (omega arith)))))

module _ {p : ℕ → Bool} {s₀ s : List ℕ} {t : ℕ} (m : Making p s₀ s t) where
  pub making_turn : {s' : List ℕ} (q : ℕ → Bool) → ((c : ℕ) → c < 12 → q c ≡ p c) → t < byte s₀ 5 → s' ≡ bytes (made_at (at_rank t q) (view s))
      → Making p s₀ s' (t + 1)
  making_turn q same l e =
      rw (add-one t) (making_of l (made_again m.made (at_rank t q) (up_to (suc t) p) (λ c r a b. one_more (p c) (q c) r t (same c a)) e))

  pub making_end : byte s₀ 5 ≤ t → s ≡ bytes (made p (view s₀))
  making_end l =
      (made_as m.made (λ c r. p c) (λ c r a b. ap (λ t. t && p c) (lt-ltb r t (omega (arith, size_of s₀))))).holds.state

-- where no check unit of the group is in service there is nothing to make
pub nothing_made : {s : List ℕ} (g : ℕ) → Long s → first_check (view s) g ≡ 3 * g + 3 → s ≡ bytes (made_in 1 (in_group g) (view s))
nothing_made {s} g l e =
    (made_nothing l (λ c r. in_state 1 (view s) (in_group g) c) (λ c r a b.
    sym (and_ext (in_group g c) (eqb ((view s).cstate c) 1) false (λ t. off c (eqb-true (c / 3) g t)) ∙ and-false (in_group g c)))).holds.state
  where
    all : first 3 (in_service s g) ≡ 3
    all = let found = first_check_found s g (first 3 (in_service s g)) refl in omega (arith, found, e)

    off : (c : ℕ) → c / 3 ≡ g → eqb ((view s).cstate c) 1 ≡ false
    off c h =
        let place : 24 + c ≡ 24 + (3 * g + c % 3) = omega arith in
        ap (λ k. eqb k 1) (sym (state_of s c) ∙ ap (byte s) place) ∙ first_misses 3 (in_service s g) (c % 3) (rw all (omega arith))
