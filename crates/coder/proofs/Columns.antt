-- The claims of specs/Claims on columns hold. A reader wants `columns`; a user also `interpolated_only`: a polynomial of as many bytes as there are
-- different points is given at every point by its values there.
use mathlib.Core.Path.{◌≡◌, refl, sym, ap, ap₂, ◌∙◌}
use mathlib.Core.List.{List, [], ◌∷◌, map}
use Prim.Native.Nat.{ℕ, zero, suc, ◌%◌, ◌≤◌, ◌<◌}
use native.Mathlib.Nat.{not-suc-le-zero, le_of_suc-le-suc}
use lib.ListN.{length, get_or, length-map}
use Rattle.algebra.specs.BinaryField.{below_is}
use Rattle.algebra.specs.Polynomial.{Point, All, Distinct, value, IsPolynomial}
use Rattle.algebra.specs.Lagrange.{lagrange, Takes}
use Rattle.algebra.specs.LagrangeLaws.{lagrange_takes, lagrange_polynomial, lagrange_only}
use Rattle.algebra.specs.Interpolation as code
use Rattle.buffer.specs.Loops.{entries}
use Rattle.buffer.specs.RangeLaws.{length_entries, get_or_entries}
use Rattle.field256.specs.Gf256Laws.{Byte, gf256}
use Rattle.coder.specs.Interpolated.{Bytes, evaluate, element, point, interpolated}
use Rattle.coder.specs.Columns.{column}
use Rattle.coder.specs.Claims.{Columns}
use Rattle.coder.specs.ListLaws.{all_map, map_entries, firsts_distinct}
use Rattle.coder.specs.PointLaws.{small, elements_are, numbers_are, numbers_low, byte_low, distinct_points, evaluate_low, evaluate_is, firsts_low}

-- ---- a polynomial from its values
module _ (p : List ℕ) (b : Bytes p) where
  abbrev function : Point Byte → Byte
  function = value gf256 (map element p)

  value_is : (x : ℕ) → x < 256 → function (point x) ≡ element (evaluate p x)
  value_is x h = below_is 8 (function (point x)) (element (evaluate p x)) (evaluate_is p b x h ∙ sym (small (evaluate p x) (evaluate_low p b x h)))

  values_are : (ps : List ℕ) → Bytes ps → map function (map point ps) ≡ map element (map (evaluate p) ps)
  values_are [] l = refl
  values_are (x ∷ ps) l = ap₂ (λ (y : Byte) (t : List Byte). y ∷ t) (value_is x l.0) (values_are ps l.1)

  is_polynomial : (ps : List ℕ) → length p ≡ length ps → IsPolynomial gf256 (length (map point ps)) function
  is_polynomial ps e = record { poly = map element p; long = length-map p element ∙ e ∙ sym (length-map ps point); is = λ Q. refl }

  pub interpolated_only : (ps : List ℕ) → Bytes ps → Distinct ps → length p ≡ length ps → (q : ℕ) → q < 256
      → interpolated ps (map (evaluate p) ps) q ≡ evaluate p q
  unfolding interpolated
  interpolated_only ps l d e q h =
      ap (λ (ys : List Byte). (lagrange gf256 [] (map point ps) ys (point q)).0) (sym (values_are ps l))
      ∙ ap (λ (y : Byte). y.0) (lagrange_only gf256 (map point ps) function (is_polynomial ps e) (distinct_points ps l d) (point q))
      ∙ evaluate_is p b q h

-- ---- the polynomial with any values, wrong ones too, at any points
module _ (ps ys : List ℕ) where
  its : IsPolynomial gf256 (length (map point ps)) (lagrange gf256 [] (map point ps) (map element ys))
  its = lagrange_polynomial gf256 (map point ps) (map element ys)

  pub coefficients : List ℕ
  coefficients = map (λ (a : Byte). a.0) its.poly

  pub coefficients_long : length coefficients ≡ length ps
  unfolding coefficients
  coefficients_long = length-map its.poly (λ (a : Byte). a.0) ∙ its.long ∙ length-map ps point

  pub coefficients_low : Bytes coefficients
  unfolding coefficients
  coefficients_low = numbers_low its.poly

  pub interpolated_value : (c : ℕ) → c < 256 → interpolated ps ys c ≡ evaluate coefficients c
  unfolding interpolated coefficients
  interpolated_value c h =
      ap (λ (y : Byte). y.0) (sym (its.is (point c)))
      ∙ ap (λ (l : List Byte). (value gf256 l (point c)).0) (sym (elements_are its.poly))
      ∙ evaluate_is (map (λ (a : Byte). a.0) its.poly) (numbers_low its.poly) c h

-- it has these values
takes_all : (g : Point Byte → Byte) (h : ℕ → ℕ) → ((c : ℕ) → h c < 256) → (ps : List ℕ) → Takes gf256 g (map point ps) (map element (map h ps))
    → All (λ c. h c ≡ (g (point c)).0) ps
takes_all g h low [] t = tt
takes_all g h low (c ∷ ps) t = (sym (ap (λ (y : Byte). y.0) t.0 ∙ small (h c) (low c)), takes_all g h low ps t.1)

pub interpolated_takes : (h : ℕ → ℕ) → ((c : ℕ) → h c < 256) → (ps : List ℕ) → Bytes ps → Distinct ps
    → All (λ c. h c ≡ interpolated ps (map h ps) c) ps
unfolding interpolated
interpolated_takes h low ps b d =
    takes_all (lagrange gf256 [] (map point ps) (map element (map h ps))) h low ps
    (lagrange_takes gf256 (map point ps) (map element (map h ps))
    (length-map ps point ∙ sym (length-map (map h ps) element ∙ length-map ps h)) (distinct_points ps b d))

-- ---- the polynomial of data, through the points 0 to m - 1
abbrev firsts : ℕ → List (Point Byte)
firsts m = map point (entries m (λ k. k))

firsts_long : (m : ℕ) → length (firsts m) ≡ m
firsts_long m = length-map (entries m (λ k. k)) point ∙ length_entries m (λ k. k)

firsts_apart : (m : ℕ) → m ≤ 256 → Distinct (firsts m)
firsts_apart m h = distinct_points (entries m (λ k. k)) (firsts_low m h) (firsts_distinct m)

abbrev through : ℕ → List ℕ → Point Byte → Byte
through m ds = lagrange gf256 [] (firsts m) (map element ds)

column_is : (m : ℕ) (ds : List ℕ) → length ds ≡ m → (c : ℕ) → column ds c ≡ (through m ds (point c)).0
unfolding column interpolated
column_is m ds e c = ap (λ (n : ℕ). (through n ds (point c)).0) e

through_takes : (m : ℕ) (ds : List ℕ) → length ds ≡ m → m ≤ 256 → Takes gf256 (through m ds) (firsts m) (map element ds)
through_takes m ds e h = lagrange_takes gf256 (firsts m) (map element ds) (firsts_long m ∙ sym e ∙ sym (length-map ds element)) (firsts_apart m h)

-- the value taken at a place
takes_at : (h : Point Byte → Byte) (ps ds : List ℕ) → Takes gf256 h (map point ps) (map element ds)
    → (k : ℕ) → k < length ds → (h (point (get_or ps k 0))).0 ≡ get_or ds k 0 % 256
takes_at h ps [] t k l = absurd (not-suc-le-zero l)
takes_at h [] (d ∷ ds) t k l = absurd t
takes_at h (p ∷ ps) (d ∷ ds) t zero l = ap (λ (y : Byte). y.0) t.0
takes_at h (p ∷ ps) (d ∷ ds) t (suc k) l = takes_at h ps ds t.1 k (le_of_suc-le-suc l)

-- functions with the same number at each point
same_at_lem : (h g : Point Byte → Byte) (cs : List ℕ) → All (λ c. (h (point c)).0 ≡ (g (point c)).0) cs → All (λ C. h C ≡ g C) (map point cs)
same_at_lem h g [] a = tt
same_at_lem h g (c ∷ cs) a = (below_is 8 (h (point c)) (g (point c)) a.0, same_at_lem h g cs a.1)

-- ---- the claims
rule : (p : List ℕ) → Bytes p → length p ≤ 256 → (c : ℕ) → c < 256 → column (entries (length p) (evaluate p)) c ≡ evaluate p c
unfolding column
rule p b h c l =
    let m : ℕ = length p in
    ap₂ (λ (n : ℕ) (ys : List ℕ). interpolated (entries n (λ k. k)) ys c) (length_entries m (evaluate p)) (sym (map_entries (evaluate p) m (λ k. k)))
    ∙ interpolated_only p b (entries m (λ k. k)) (firsts_low m h) (firsts_distinct m) (sym (length_entries m (λ k. k))) c l

column_value : (ds : List ℕ) (c : ℕ) → c < 256 → column ds c ≡ evaluate (coefficients (entries (length ds) (λ k. k)) ds) c
unfolding column
column_value ds c h = interpolated_value (entries (length ds) (λ k. k)) ds c h

its_data : (ds : List ℕ) → Bytes ds → length ds ≤ 256 → (k : ℕ) → k < length ds → column ds k ≡ get_or ds k 0
its_data ds b h k l =
    let m : ℕ = length ds in
    column_is m ds refl k
    ∙ ap (λ (p : ℕ). (through m ds (point p)).0) (sym (get_or_entries m (λ k. k) k 0 l))
    ∙ takes_at (through m ds) (entries m (λ k. k)) ds (through_takes m ds refl h) k l
    ∙ small (get_or ds k 0) (byte_low ds b k)

-- from the columns as elements
elements_fixed : (m : ℕ) (cs ds es : List ℕ) → Bytes cs → Distinct cs → length cs ≡ m → m ≤ 256 → length ds ≡ m → length es ≡ m
    → All (λ c. (through m ds (point c)).0 ≡ (through m es (point c)).0) cs → map element ds ≡ map element es
elements_fixed m cs ds es bc dc e h ed ee a =
    code.fixed gf256 (firsts m) (map point cs) (map element ds) (map element es) (firsts_apart m h) (distinct_points cs bc dc)
    (firsts_long m ∙ sym e ∙ sym (length-map cs point)) (firsts_long m ∙ sym ed ∙ sym (length-map ds element))
    (firsts_long m ∙ sym ee ∙ sym (length-map es element)) (same_at_lem (through m ds) (through m es) cs a)

numbers_same : (ds es : List ℕ) → Bytes ds → Bytes es → map element ds ≡ map element es → ds ≡ es
numbers_same ds es bd be e = sym (numbers_are ds bd) ∙ ap (map (λ (a : Byte). a.0)) e ∙ numbers_are es be

pub columns : Columns
columns = record {
  rule = rule;
  polynomial = λ ds b h.
      let ps : List ℕ = entries (length ds) (λ k. k) in
      (coefficients ps ds, coefficients_long ps ds ∙ length_entries (length ds) (λ k. k), coefficients_low ps ds, column_value ds);
  «data» = its_data;
  fixed = λ cs bc dc h ds es bd be ed ee a.
      let m : ℕ = length cs in
      numbers_same ds es bd be
      (elements_fixed m cs ds es bc dc refl h ed ee
      (all_map (λ c. column ds c ≡ column es c) (λ c. (through m ds (point c)).0 ≡ (through m es (point c)).0)
      (λ c e. sym (column_is m ds ed c) ∙ e ∙ column_is m es ee c) cs a));
}
