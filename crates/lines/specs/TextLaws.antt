-- The lines of a text, one after the other: the first line of what is left at a place ends where `line_end` says.
use Rattle.std.specs.Prelude.{ℕ, zero, suc, ◌+◌, ◌-◌, ◌≤◌, ◌<◌, ◌≡◌, ◌≢◌, Bool, ◌&&◌, List, [], ◌∷◌, eqb, leb, length, take, drop}
use Rattle.std.proofs.Math.Nat.{sub-zero}
use Rattle.std.proofs.Common.{refl, sym, ap, ◌∙◌, arith, not-suc-le-zero, length-drop, drop_of_length-le, get_or-drop, drop-drop, eq-eqb, ne_eqb, eqb-true, le-leb}
use Rattle.std.proofs.Math.Dec.{leb-suc-zero, leb-suc-suc}
use Rattle.std.proofs.lemmas.Bool.{lt-leb}
use Rattle.buffer.specs.ChoiceLaws.{pick_true, pick-false}
use Rattle.buffer.specs.TestLaws.{not-both, and-true, and_second, and_false_first}
use Rattle.buffer.specs.Range.{first}
use Rattle.buffer.specs.RangeLaws.{first_le, first_ext, first_none, first_misses, first_holds}
use Rattle.buffer.specs.Bytes.{byte}
use Rattle.lines.specs.Text.{before, lines_of}
use Rattle.lines.specs.Found.{line_end, Ends}

-- the first line of a text has n bytes
record First (s : List ℕ) (n : ℕ) : Type 0 where
  within : n ≤ length s
  inside : (k : ℕ) → k < n → byte s k ≢ 10
  ended : n < length s → byte s n ≡ 10

first_line : (s : List ℕ) (n : ℕ) → 0 < length s → First s n → lines_of s ≡ take n s ∷ lines_of (drop (suc n) s)
unfolding lines_of before
first_line [] n l f = absurd (not-suc-le-zero l)
first_line (c ∷ s) zero l f = pick_true (eq-eqb c 10 (f.ended l)) _ _
first_line (c ∷ []) (suc zero) l f = pick-false (ne_eqb c 10 (f.inside 0 (omega arith))) _ _
first_line (c ∷ []) (suc (suc n)) l f = absurd (omega (arith, f.within))
first_line (c ∷ d ∷ s) (suc n) l f =
    pick-false (ne_eqb c 10 (f.inside 0 (omega arith))) _ _
    ∙ ap (before c) (first_line (d ∷ s) n (omega arith)
    (record { within = omega (arith, f.within); inside = λ k q. f.inside (suc k) (omega arith); ended = λ q. f.ended (omega arith) }))

-- at a place within a text
module _ {s : List ℕ} {at end : ℕ} (l : at < length s) (e : Ends s at end) where
  abbrev ends : ℕ → Bool
  ends k = leb at k && eqb (byte s k) 10

  here : end ≡ first (length s) ends
  unfolding line_end
  here = e.place

  line_first : First (drop at s) (end - at)
  line_first = record {
    within = simp length-drop (omega (arith, e.within));
    inside = λ k q ten.
        let low : at + k < first (length s) ends = omega (arith, here) in
        not-both (and-true (le-leb at (at + k) (omega arith)) (eq-eqb (byte s (at + k)) 10 (sym (get_or-drop at s k 0) ∙ ten)))
        (first_misses (length s) ends (at + k) low);
    ended = λ q.
        let place : at + (end - at) ≡ end = omega (arith, e.behind (omega arith)) in
        let low : first (length s) ends < length s = omega (arith, here, length-drop at s) in
        get_or-drop at s (end - at) 0 ∙ ap (byte s) (place ∙ here)
        ∙ eqb-true _ 10 (and_second (leb at (first (length s) ends)) (eqb (byte s (first (length s) ends)) 10) (first_holds (length s) ends low));
  }

  pub next_line : lines_of (drop at s) ≡ take (end - at) (drop at s) ∷ lines_of (drop (end + 1) s)
  next_line =
      let past : at + suc (end - at) ≡ end + 1 = omega (arith, e.behind (omega arith)) in
      first_line (drop at s) (end - at) (simp length-drop (omega arith)) line_first
      ∙ ap (λ x. take (end - at) (drop at s) ∷ lines_of x) (drop-drop (suc (end - at)) at s ∙ ap (λ n. drop n s) past)

-- from the front on
pub first_line_is : (s : List ℕ) → 0 < length s → lines_of s ≡ take (line_end s 0) s ∷ lines_of (drop (line_end s 0 + 1) s)
unfolding line_end
first_line_is s l =
    rw (sub-zero (line_end s 0)) at (next_line {s = s} {at = 0} l (record { place = refl; within = first_le (length s) _; behind = λ _. omega arith }))

pub no_line : (s : List ℕ) (at : ℕ) → length s ≤ at → lines_of (drop at s) ≡ []
unfolding lines_of
no_line s at l = rw (drop_of_length-le s l)

-- a line that starts at a place ends where the first line of what is left there does
pub line_end_from : (s : List ℕ) (at : ℕ) → at ≤ length s → line_end s at ≡ at + line_end (drop at s) 0
unfolding line_end first
line_end_from s zero l = omega arith
line_end_from [] (suc at) l = absurd (omega arith)
line_end_from (c ∷ s) (suc at) l =
    let later : line_end s at ≡ at + line_end (drop at s) 0 = line_end_from s at (omega arith) in
    pick-false (and_false_first (leb-suc-zero at) _) 0 _
    ∙ ap suc (first_ext (length s) _ (λ k. leb at k && eqb (byte s k) 10) (λ k q. ap (λ t. t && eqb (byte s k) 10) (leb-suc-suc at k)) ∙ later)
    ∙ omega arith

pub ends_from : (s : List ℕ) (at : ℕ) → at ≤ length s → Ends s at (at + line_end (drop at s) 0)
unfolding line_end
ends_from s at l = record {
  place = sym (line_end_from s at l);
  within = omega (arith, length-drop at s, first_le (length (drop at s)) (λ k. leb 0 k && eqb (byte (drop at s) k) 10));
  behind = λ _. omega arith;
}

-- from the text's end on there is no other line
pub ends_past : (s : List ℕ) (at : ℕ) → length s ≤ at → Ends s at (length s)
unfolding line_end
ends_past s at l = record {
  place = sym (first_none (length s) _ (λ k q. and_false_first (lt-leb at k (omega arith)) _));
  within = omega arith;
  behind = λ h. h;
}
