-- Laws of a table of units: n units of b chunks of w bytes, one behind the other; chunk r of unit u starts at (u * b + r) * w. Its length; and a
-- chunk read and a run of chunks replaced where the table stands behind some bytes and before others.
use Prim.Native.Nat.{ℕ, suc, ◌+◌, ◌*◌, ◌≤◌, ◌<◌}
use Rattle.std.specs.Prelude.{◌≡◌, ◌&&◌, eqb, leb, length}
use Rattle.std.proofs.Math.Path.{refl, sym, ap}
use Rattle.std.proofs.Common.{◌∙◌, arith, mul-le-mul_left, eqb-true}
use mathlib.Core.List.{List, ◌++◌}
use Rattle.std.proofs.Math.Bool.{false}
use Rattle.std.proofs.Math.Dec.{ltb}
use Rattle.buffer.specs.Choice.{pick}
use Rattle.buffer.specs.ChoiceLaws.{by-test, pick_true, pick-false}
use Rattle.buffer.specs.Bytes.{part, splice}
use Rattle.buffer.specs.SpliceLaws.{part_left, part_right, splice_left, splice_right}
use Rattle.buffer.specs.Table.{tab, upd}
use Rattle.buffer.specs.TableLaws.{Wide, tab_ext, length_tab, part_tab, part_chunk, splice_tab}
use Rattle.model.specs.RunLaws.{run, splice_chunks}

-- the table, and that each chunk f u r has w bytes
abbrev pub unit_table : ℕ → ℕ → (ℕ → ℕ → List ℕ) → List ℕ
unit_table n b f = tab n (λ u. tab b (f u))

abbrev pub Chunked : ℕ → ℕ → ℕ → (ℕ → ℕ → List ℕ) → Type 0
Chunked n b w f = (u r : ℕ) → u < n → r < b → length (f u r) ≡ w

pub table_ext : (n b : ℕ) (f g : ℕ → ℕ → List ℕ) → ((u r : ℕ) → u < n → r < b → f u r ≡ g u r) → unit_table n b f ≡ unit_table n b g
table_ext n b f g h = tab_ext n _ _ (λ u l. tab_ext b (f u) (g u) (λ r m. h u r l m))

module _ (n b w : ℕ) (f : ℕ → ℕ → List ℕ) (h : Chunked n b w f) where
  wide : Wide n (w * b) (λ u. tab b (f u))
  wide u l = length_tab b w (f u) (λ r m. h u r l m)

  pub length_table : length (unit_table n b f) ≡ n * w * b
  length_table = length_tab n (w * b) _ wide ∙ omega arith

  -- the m chunks from q on of one unit are within the table
  room : (u q m : ℕ) → u < n → q + m ≤ b → w * b * u + w * q + w * m ≤ length (unit_table n b f)
  room u q m a l =
      let units : w * b * suc u ≤ w * b * n = mul-le-mul_left (w * b) a in
      let ranks : w * (q + m) ≤ w * b = mul-le-mul_left w l in
      omega (arith, length_tab n (w * b) (λ v. tab b (f v)) wide)

  run_in : (u q m : ℕ) (g : ℕ → List ℕ) (v : ℕ)
      → upd (λ v. tab b (f v)) u (tab b (λ r. pick (leb q r && ltb r (q + m)) (g r) (f u r))) v ≡ tab b (run f u q m g v)
  unfolding upd run
  run_in u q m g v =
      let over : ℕ → List ℕ = λ k. tab b (λ r. pick (leb q r && ltb r (q + m)) (g r) (f k r)) in
      by-test
      (λ t. pick t (over u) (tab b (f v)) ≡ tab b (λ r. pick (t && (leb q r && ltb r (q + m))) (g r) (f v r)))
      (eqb v u)
      (λ e. pick_true refl (over u) (tab b (f v)) ∙ ap over (sym (eqb-true v u e)))
      (λ e.
      pick-false refl (over u) (tab b (f v))
      ∙ tab_ext b (f v) (λ r. pick false (g r) (f v r)) (λ r d. sym (pick-false refl (g r) (f v r))))

  -- the table behind x, and before y
  module _ (x y : List ℕ) (at : ℕ) (e : length x ≡ at) where
    pub read_chunk : (u r : ℕ) → u < n → r < b → part (at + (u * b + r) * w) w (x ++ (unit_table n b f ++ y)) ≡ f u r
    read_chunk u r a l =
        let place : (u * b + r) * w ≡ w * b * u + w * r = omega arith in
        let inside : w * suc r ≤ w * b = mul-le-mul_left w l in
        part_right at ((u * b + r) * w) w x _ e
        ∙ ap (λ o. part o w (unit_table n b f ++ y)) place
        ∙ part_left (w * b * u + w * r) w (unit_table n b f) y (omega (arith, room u r 1 a (omega arith)))
        ∙ part_tab n (w * b) _ wide u (w * r) w a (omega arith)
        ∙ part_chunk b w (f u) (λ q m. h u q a m) r l

    pub splice_run : (u q m : ℕ) (g : ℕ → List ℕ) → u < n → q + m ≤ b
        → splice (at + (u * b + q) * w) (w * m) (tab m (λ k. g (q + k))) (x ++ (unit_table n b f ++ y)) ≡ x ++ (unit_table n b (run f u q m g) ++ y)
    splice_run u q m g a l =
        let place : (u * b + q) * w ≡ w * b * u + w * q = omega arith in
        let inside : w * (q + m) ≤ w * b = mul-le-mul_left w l in
        let new : List ℕ = tab m (λ k. g (q + k)) in
        splice_right at ((u * b + q) * w) (w * m) new x _ e
        ∙ ap (λ o. x ++ splice o (w * m) new (unit_table n b f ++ y)) place
        ∙ ap (λ t. x ++ t) (splice_left (w * b * u + w * q) (w * m) new (unit_table n b f) y (room u q m a l))
        ∙ ap (λ t. x ++ (t ++ y)) (
        splice_tab n (w * b) _ wide u (w * q) (w * m) new a (omega arith)
        ∙ ap (λ t. tab n (upd (λ v. tab b (f v)) u t)) (splice_chunks b w (f u) g (λ r k. h u r a k) q m l)
        ∙ tab_ext n _ (λ v. tab b (run f u q m g v)) (λ v d. run_in u q m g v))
