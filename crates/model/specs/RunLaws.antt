-- Chunks by unit and rank with some of one unit replaced: one of them, or a run of ranks; and a run replaced in the bytes of a unit's chunks.
use Rattle.std.specs.Prelude.{ℕ, ◌+◌, ◌*◌, ◌-◌, ◌≤◌, ◌<◌, ◌≡◌, List, ◌++◌, true, ◌&&◌, eqb, leb}
use Rattle.std.proofs.Common.{sym, ap, ◌∙◌, arith, add-zero, eqb-true, eq-eqb, lt-ltb, le-ltb, ltb-true, le-leb, leb-true}
use Rattle.std.proofs.Math.Bool as bool
use Rattle.std.proofs.Math.Dec.{ltb}
use Rattle.std.proofs.Math.ListN.{length}
use Rattle.std.proofs.lemmas.Bool.{lt-leb}
use Rattle.buffer.specs.Choice.{pick}
use Rattle.buffer.specs.ChoiceLaws.{by-pick, pick_true, pick-false}
use Rattle.buffer.specs.TestLaws.{and-true, and_first, and_second, and_false_first, and_false_second, and_ext, same_test}
use Rattle.buffer.specs.Bytes.{splice}
use Rattle.buffer.specs.SpliceLaws.{splice_left, splice_right, splice_whole}
use Rattle.buffer.specs.Table.{tab}
use Rattle.buffer.specs.TableLaws.{Wide, tab_ext, tab_append, length_tab}

-- f, a chunk for each unit and rank, with z at rank r of unit u
unfoldable pub upd2 : (ℕ → ℕ → List ℕ) → ℕ → ℕ → List ℕ → ℕ → ℕ → List ℕ
upd2 f u r z v q = pick (eqb v u && eqb q r) z (f v q)

-- f with those of g at the m ranks from q on of unit u
unfoldable pub run : (ℕ → ℕ → List ℕ) → ℕ → ℕ → ℕ → (ℕ → List ℕ) → ℕ → ℕ → List ℕ
run f u q m g v r = pick (eqb v u && (leb q r && ltb r (q + m))) (g r) (f v r)

-- ---- what a run holds
module _ (f : ℕ → ℕ → List ℕ) (u q m : ℕ) (g : ℕ → List ℕ) where
  pub length_run : (w v r : ℕ) → length (g r) ≡ w → length (f v r) ≡ w → length (run f u q m g v r) ≡ w
  unfolding run
  length_run w v r a b = by-pick (λ x. length x ≡ w) (eqb v u && (leb q r && ltb r (q + m))) (g r) (f v r) (λ _. a) (λ _. b)

-- a run of one chunk, and of a whole unit
pub run_one : (f : ℕ → ℕ → List ℕ) (u r : ℕ) (z : List ℕ) (v q : ℕ) → run f u r 1 (λ _. z) v q ≡ upd2 f u r z v q
unfolding run upd2
run_one f u r z v q = ap (λ t. pick t z (f v q)) (and_ext (eqb v u) (leb r q && ltb q (r + 1)) (eqb q r) (λ _. one))
  where
    one : (leb r q && ltb q (r + 1)) ≡ eqb q r
    one =
        same_test
        (leb r q && ltb q (r + 1))
        (eqb q r)
        (λ e.
        let a : r ≤ q = leb-true r q (and_first (leb r q) (ltb q (r + 1)) e) in
        let b : q < r + 1 = ltb-true q (r + 1) (and_second (leb r q) (ltb q (r + 1)) e) in
        eq-eqb q r (omega arith))
        (λ e. let d : q ≡ r = eqb-true q r e in and-true (le-leb r q (omega arith)) (lt-ltb q (r + 1) (omega arith)))

pub run_unit : (f : ℕ → ℕ → List ℕ) (u b : ℕ) (g : ℕ → List ℕ) (v r : ℕ) → r < b → run f u 0 b g v r ≡ pick (eqb v u) (g r) (f v r)
unfolding run
run_unit f u b g v r h =
    let whole : (leb 0 r && ltb r (0 + b)) ≡ true = and-true (le-leb 0 r (omega arith)) (lt-ltb r (0 + b) (omega arith)) in
    ap (λ t. pick t (g r) (f v r)) (ap (λ t. eqb v u && t) whole ∙ bool.and-true (eqb v u))

-- behind a run from the first rank on
pub run_past : (f : ℕ → ℕ → List ℕ) (u m : ℕ) (g : ℕ → List ℕ) (v r : ℕ) → m ≤ r → run f u 0 m g v r ≡ f v r
unfolding run
run_past f u m g v r h = pick-false (and_false_second (eqb v u) (and_false_second (leb 0 r) (le-ltb r (0 + m) (omega arith)))) (g r) (f v r)

-- ---- the run replaced in one unit
pub splice_chunks : (b w : ℕ) (f g : ℕ → List ℕ) → Wide b w f → (q m : ℕ) → q + m ≤ b
    → splice (w * q) (w * m) (tab m (λ k. g (q + k))) (tab b f) ≡ tab b (λ r. pick (leb q r && ltb r (q + m)) (g r) (f r))
splice_chunks b w f g h q m l =
    ap (λ n. splice (w * q) (w * m) new (tab n f)) whole
    ∙ ap (splice (w * q) (w * m) new) (three f)
    ∙ ap (λ o. splice o (w * m) new (tab q f ++ (tab m (λ i. f (q + i)) ++ tab k (λ i. f (q + (m + i)))))) (sym (add-zero (w * q)))
    ∙ splice_right (w * q) 0 (w * m) new (tab q f) _ (length_tab q w f (λ i d. h i (omega arith)))
    ∙ ap (λ x. tab q f ++ x) (splice_left 0 (w * m) new (tab m (λ i. f (q + i))) (tab k (λ i. f (q + (m + i)))) (omega (arith, mid)))
    ∙ ap (λ x. tab q f ++ (x ++ tab k (λ i. f (q + (m + i))))) (splice_whole (w * m) new (tab m (λ i. f (q + i))) (omega (arith, mid)))
    ∙ ap (λ x. x ++ (new ++ tab k (λ i. f (q + (m + i))))) (tab_ext q f over before)
    ∙ ap (λ x. tab q over ++ (x ++ tab k (λ i. f (q + (m + i))))) (tab_ext m (λ i. g (q + i)) (λ i. over (q + i)) inside)
    ∙ ap (λ x. tab q over ++ (tab m (λ i. over (q + i)) ++ x)) (tab_ext k (λ i. f (q + (m + i))) (λ i. over (q + (m + i))) behind)
    ∙ sym (three over)
    ∙ ap (λ n. tab n over) (sym whole)
  where
    k : ℕ
    k = b - (q + m)

    whole : b ≡ q + (m + k)
    whole = omega arith

    new : List ℕ
    new = tab m (λ k. g (q + k))

    over : ℕ → List ℕ
    over r = pick (leb q r && ltb r (q + m)) (g r) (f r)

    three : (f : ℕ → List ℕ) → tab (q + (m + k)) f ≡ tab q f ++ (tab m (λ i. f (q + i)) ++ tab k (λ i. f (q + (m + i))))
    three f = tab_append q (m + k) f ∙ ap (λ x. tab q f ++ x) (tab_append m k (λ i. f (q + i)))

    mid : length (tab m (λ i. f (q + i))) ≡ w * m
    mid = length_tab m w (λ i. f (q + i)) (λ i d. h (q + i) (omega arith))

    before : (r : ℕ) → r < q → f r ≡ over r
    before r d = sym (pick-false (and_false_first (lt-leb q r d) (ltb r (q + m))) (g r) (f r))

    inside : (i : ℕ) → i < m → g (q + i) ≡ over (q + i)
    inside i d = sym (pick_true (and-true (le-leb q (q + i) (omega arith)) (lt-ltb (q + i) (q + m) (omega arith))) (g (q + i)) (f (q + i)))

    behind : (i : ℕ) → i < k → f (q + (m + i)) ≡ over (q + (m + i))
    behind i d = sym (pick-false (and_false_second (leb q (q + (m + i))) (le-ltb (q + (m + i)) (q + m) (omega arith))) (g (q + (m + i))) (f (q + (m + i))))
