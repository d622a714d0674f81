-- The loop over the lines of a text: at each turn the lines that are left lead to where all lines lead.
use Prim.Native.Nat.{ℕ, ◌+◌, ◌≤◌, ◌<◌}
use mathlib.Core.Path.{◌≡◌, refl, ap}
use mathlib.Core.List.{List}
use native.Mathlib.Omega.{arith}
use lib.ListN.{length, take, drop, length-append}
use Rattle.lines.specs.Text.{lines_of}
use Rattle.lines.specs.Found.{line_end}
use Rattle.lines.specs.TextLaws.{first_line_is, no_line}
use Rattle.answering.specs.Said.{said, after_all}
use Rattle.answering.specs.Buffers.{Answered, answered, answer_of, list_after, out_after}

-- from the store s₀, the list buffer l₀ and the output buffer o₀, a text's lines before the rest lead to s, l and o
pub record Reached (s₀ l₀ o₀ text s l o rest : List ℕ) : Type 0 where
  pub store : after_all s (lines_of rest) ≡ after_all s₀ (lines_of text)
  pub list : list_after s l (lines_of rest) ≡ list_after s₀ l₀ (lines_of text)
  pub out : out_after s o (lines_of rest) ≡ out_after s₀ o₀ (lines_of text)

pub reached_start : {s l o text : List ℕ} → Reached s l o text s l o text
reached_start = record { store = refl; list = refl; out = refl }

-- a line is answered
module _ (s l o line : List ℕ) {s' l' o' : List ℕ} {n : ℕ} (e : answered n o' s' l' ≡ answer_of s l o line) where
  pub printed_fits : n ≤ length o'
  unfolding answer_of
  printed_fits =
      let text : List ℕ = said s line in
      omega (arith, ap (λ (a : Answered). a.size) e, ap (λ (a : Answered). length a.out) e, length-append text (drop (length text) o))

module _ {s₀ l₀ o₀ text s l o rest : List ℕ} (g : Reached s₀ l₀ o₀ text s l o rest) where
  pub reached_turn : {s' l' o' line behind : List ℕ} {n : ℕ} → 0 < length rest → line ≡ take (line_end rest 0) rest → behind ≡ drop (line_end rest 0 + 1) rest
      → answered n o' s' l' ≡ answer_of s l o line → Reached s₀ l₀ o₀ text s' l' o' behind
  unfolding answer_of after_all list_after out_after
  reached_turn some first left e =
      let lines = first_line_is rest some in
      let store = ap (λ (a : Answered). a.store) e in
      rw left (record {
        store = rw (store, first) (rw lines at g.store);
        list = rw (store, ap (λ (a : Answered). a.list) e, first) (rw lines at g.list);
        out = rw (store, ap (λ (a : Answered). a.out) e, first) (rw lines at g.out);
      })

  pub reached_end : length rest ≤ 0
      → (s ≡ after_all s₀ (lines_of text)) × (l ≡ list_after s₀ l₀ (lines_of text)) × (o ≡ out_after s₀ o₀ (lines_of text))
  unfolding after_all list_after out_after
  reached_end none =
      let lines = no_line rest 0 none in
      (rw lines at g.store, rw lines at g.list, rw lines at g.out)
