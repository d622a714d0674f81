-- `text::first_line` meets its contract.
use Prim.Native.Nat.{ℕ, ◌+◌, ◌-◌, ◌<◌}
use mathlib.Core.Path.{◌≡◌, sym, ap, ◌∙◌}
use mathlib.Core.Bool.{◌&&◌}
use mathlib.Core.List.{List}
use native.Mathlib.Omega.{arith}
use lib.Dec.{eqb, leb}
use lib.ListN.{length, take, drop, length-drop, drop_of_length-le}
use lib.Seq.{take_all}
use borrow.Author.Tests.{le-leb, eq-eqb, ne_eqb}
use Rattle.buffer.specs.Bytes.{byte}
use Rattle.buffer.specs.LoopTests.{missing_found, missing_end}
use Rattle.buffer.specs.TestLaws.{and-true, and_false_second}
use Rattle.lines.specs.Found.{line_end}
use Rattle.lines.proofs.text.first_line.Goals as goal

found : (s : List ℕ) (i : ℕ) → (i < length s) × (byte s i ≡ 10) × ((k : ℕ) → k < i → byte s k ≡ 10 → ⊥) → i ≡ line_end s 0
unfolding line_end
found s i h =
    missing_found {p = λ k. leb 0 k && eqb (byte s k) 10}
    (record { within = omega (arith, h.0); missed = λ k q. and_false_second (leb 0 k) (ne_eqb (byte s k) 10 (h.2 k q)) }) h.0
    (and-true (le-leb 0 i (omega arith)) (eq-eqb (byte s i) 10 h.1))

missing : (s : List ℕ) → ((k : ℕ) → k < length s → byte s k ≡ 10 → ⊥) → length s ≡ line_end s 0
unfolding line_end
missing s h =
    missing_end {p = λ k. leb 0 k && eqb (byte s k) 10}
    (record { within = omega arith; missed = λ k q. and_false_second (leb 0 k) (ne_eqb (byte s k) 10 (h k q)) }) (omega arith)

pub returns-in-Some-clause-line : goal.returns-in-Some-clause-line
returns-in-Some-clause-line c =
    ap (λ n. take n c.args.text.now) (found _ _ c.in-Some.ensures)

pub returns-in-Some-clause-behind : goal.returns-in-Some-clause-behind
returns-in-Some-clause-behind c =
    let s = c.args.text.now in
    let end = c.in-Some.end in
    take_all (length s - (end + 1)) (drop (end + 1) s) (simp length-drop (omega arith)) ∙ ap (λ n. drop (n + 1) s) (found s end c.in-Some.ensures)

pub returns-in-None-clause-line : goal.returns-in-None-clause-line
returns-in-None-clause-line c =
    let s = c.args.text.now in
    sym (take_all (length s) s (omega arith)) ∙ ap (λ n. take n s) (missing s c.in-None.ensures)

pub returns-in-None-clause-behind : goal.returns-in-None-clause-behind
returns-in-None-clause-behind c =
    let s = c.args.text.now in
    sym (drop_of_length-le s (omega (arith, missing s c.in-None.ensures)))
