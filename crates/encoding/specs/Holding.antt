-- A store that is changed step by step: the bytes after each step are those of the parts changed so far.
use Rattle.std.specs.Prelude.{ℕ, ◌<◌, ◌≡◌, refl, List, length}
use Rattle.std.proofs.Common.{sym, ap, ◌∙◌}
use Rattle.buffer.specs.Bytes.{byte}
use Rattle.group.specs.Widths.{check_bytes}
use Rattle.model.specs.Layout.{Store, bytes, view}
use Rattle.model.specs.Places.{Long}
use Rattle.model.specs.Parts.{with_checks}
use Rattle.model.specs.LayoutLaws.{Shaped, Same, bytes_ext, bytes_view, view_shaped}
use Rattle.model.specs.StoreLaws.{size_of, same_long, size_at, long_at}
use Rattle.model.specs.ChangeLaws.{on_bytes}

-- the bytes s are those of the parts t, which keep the ranks and the rest that s₀ had
pub record Holds (s₀ s : List ℕ) (t : Store) : Type 0 where
  pub shaped : Shaped t
  pub size : t.size ≡ (view s₀).size
  pub rest : t.rest ≡ (view s₀).rest
  pub state : s ≡ bytes t

pub holds_start : {s : List ℕ} → Long s → Holds s s (view s)
holds_start {s} l = record { shaped = view_shaped s l; size = refl; rest = refl; state = sym (bytes_view s l) }

module _ {s₀ s : List ℕ} {t : Store} (h : Holds s₀ s t) where
  pub holds_five : byte s 5 ≡ byte s₀ 5
  holds_five = size_at t h.shaped s h.state ∙ h.size ∙ sym (size_of s₀)

  pub holds_long : Long s
  holds_long = long_at t h.shaped s h.state

  pub holds_length : Long s₀ → length s ≡ length s₀
  holds_length l = ap length h.state ∙ same_long t s₀ h.shaped l h.size h.rest

  -- by other parts that are the same
  pub holds_same : {t' : Store} → Shaped t' → Same t t' → Holds s₀ s t'
  holds_same {t'} k e =
      record { shaped = k; size = sym e.size ∙ h.size; rest = sym e.rest ∙ h.rest; state = h.state ∙ bytes_ext t t' e }

-- a change of the parts that keeps their shape and looks at nothing but what the bytes show
pub record Change (f : Store → Store) : Type 0 where
  pub shaped : (t : Store) → Shaped t → Shaped (f t)
  pub same : (s t : Store) → Same s t → Same (f s) (f t)
  pub size : (t : Store) → (f t).size ≡ t.size
  pub rest : (t : Store) → (f t).rest ≡ t.rest

-- a function that makes this change of any bytes
pub holds_step : {f : Store → Store} → Change f → {s₀ s s' : List ℕ} {t : Store} → Holds s₀ s t → s' ≡ bytes (f (view s)) → Holds s₀ s' (f t)
holds_step {f} c {s₀} {s} {s'} {t} h e = record {
  shaped = c.shaped t h.shaped;
  size = c.size t ∙ h.size;
  rest = c.rest t ∙ h.rest;
  state = e ∙ on_bytes f t s h.shaped h.state (λ k. c.same (view (bytes t)) t k);
}

-- other check records
pub checks_change : (f : Store → ℕ → ℕ → List ℕ) → ((t : Store) → Shaped t → (c r : ℕ) → c < 12 → r < t.size → length (f t c r) ≡ check_bytes)
    → ((s t : Store) → Same s t → (c r : ℕ) → c < 12 → r < t.size → f s c r ≡ f t c r) → Change (λ t. with_checks t (f t))
unfolding with_checks
checks_change f long same = record {
  shaped = λ t h. record { front = h.front; size = h.size; slot = h.slot; check = long t h };
  same = λ s t h. record { front = h.front; size = h.size; dstate = h.dstate; cstate = h.cstate; slot = h.slot; check = same s t h; rest = h.rest };
  size = λ t. refl;
  rest = λ t. refl;
}
