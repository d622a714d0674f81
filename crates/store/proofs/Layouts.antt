-- Lay out on a slice: its two ways out, and the bytes that clearing and a header leave.
use Prim.Native.Nat.{ℕ, ◌+◌, ◌*◌, ◌-◌, ◌≤◌}
use mathlib.Core.Path.{◌≡◌}
use mathlib.Core.List.{List, ◌∷◌, ◌++◌, append_assoc}
use native.Mathlib.Omega.{arith}
use lib.ListN.{length, take, drop}
use lib.Seq.{drop-drop, drop_at, length-take-le}
use Rattle.refusal.specs.declared.Refusal.{Refusal}
use Rattle.refusal.specs.Number.{code}
use Rattle.refusal.specs.NumberLaws.{refused as numbered}
use Rattle.buffer.specs.Choice.{pick}
use Rattle.buffer.specs.Bytes.{zeros, splice}
use Rattle.group.specs.Widths.{slot_bytes, check_bytes}
use Rattle.model.specs.Layout.{header_bytes, store_bytes, front_of}
use Rattle.model.specs.Perform.{outcome, plain, lay_out, lay_out_number, laid_out}

pub refused : (s : List ℕ) (b : ℕ) (e : Refusal) → code e ≡ lay_out_number s b → outcome (plain (code e)) s ≡ lay_out s b
unfolding lay_out pick
refused s b e h = rw (← h, numbered e)

pub granted : (s s' : List ℕ) (b : ℕ) → 0 ≡ lay_out_number s b → s' ≡ laid_out b s → outcome (plain 0) s' ≡ lay_out s b
unfolding lay_out pick
granted s s' b h q = rw (← h, q)

-- cleared behind the header, then with the header of an empty store
pub laid : (s head new : List ℕ) (b n : ℕ) → store_bytes b ≤ length s → n ≡ store_bytes b - header_bytes → new ≡ zeros n
    → head ≡ front_of b 1 1 ++ ((1 ∷ zeros 15) ++ (1 ∷ zeros 11)) → splice 0 header_bytes head (splice header_bytes n new s) ≡ laid_out b s
unfolding splice laid_out
laid s head new b n long en ez eh =
    let size : n ≡ (16 * slot_bytes + 12 * check_bytes) * b = omega arith in
    let behind : header_bytes + n ≡ store_bytes b = omega arith in
    let whole : length (take header_bytes s) ≡ header_bytes = length-take-le header_bytes s (omega arith) in
    rw (drop_at (take header_bytes s) (new ++ drop n (drop header_bytes s)) header_bytes whole, eh, ez, drop-drop n header_bytes s, behind, size)
    (simp append_assoc)
