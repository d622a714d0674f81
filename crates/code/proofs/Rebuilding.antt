-- The contract of rebuilding fixes its answer. A reader wants `only`: one number and one list of data meet `Rebuilds`; `answered`: for any columns
-- and symbols some do; and `returned`: of symbols that were encoded the answer is the data.
use Rattle.std.specs.Prelude.{◌≡◌, refl, Bool, true, false, ◌&&◌, List, [], ◌∷◌, map, ℕ, ◌≤◌, length}
use Rattle.std.proofs.Common.{sym, ◌∙◌, arith}
use Rattle.algebra.specs.Every.{yes_true}
use Rattle.code.specs.Matrix.{encode, within, different, accepted, Rebuilds}
use Rattle.code.specs.Lists.{both_first, both_second, within_map, get_d_map}
use Rattle.code.specs.Columns.{column, FourColumns}
use Rattle.code.specs.MatrixLaws.{column_within}
use Rattle.code.proofs.Fixing.{fixes}
use Rattle.code.specs.Weights.{data_of}
use Rattle.code.proofs.WeightsLaws.{combination_bound, data_within, rebuilt_has}
use Rattle.code.proofs.Halves.{encode_column}

-- what is accepted
pub accepted_within : (cs ys : List ℕ) → accepted cs ys ≡ true → within 16 cs ≡ true
unfolding accepted
accepted_within cs ys a = both_first (within 16 cs) (different cs && within 15 ys) a

pub accepted_different : (cs ys : List ℕ) → accepted cs ys ≡ true → different cs ≡ true
unfolding accepted
accepted_different cs ys a = both_first (different cs) (within 15 ys) (both_second (within 16 cs) (different cs && within 15 ys) a)

pub accepted_symbols : (cs ys : List ℕ) → accepted cs ys ≡ true → within 15 ys ≡ true
unfolding accepted
accepted_symbols cs ys a = both_second (different cs) (within 15 ys) (both_second (within 16 cs) (different cs && within 15 ys) a)

false_true : false ≡ true → ⊥
false_true e = yes_true e

pub refuses : (cs ys : List ℕ) → accepted cs ys ≡ false → Rebuilds cs ys 2 (0 ∷ 0 ∷ 0 ∷ 0 ∷ [])
refuses cs ys e = record { refused = λ t. (refl, refl); granted = λ t. absurd (false_true (sym e ∙ t)) }

pub grants : (cs ys : List ℕ) → length cs ≡ 4 → length ys ≡ 4 → accepted cs ys ≡ true → Rebuilds cs ys 0 (data_of cs ys)
grants cs ys lc ly a = record {
  refused = λ t. absurd (false_true (sym t ∙ a));
  granted = λ t. (
    refl,
    refl,
    data_within cs ys (accepted_symbols cs ys a),
    rebuilt_has cs lc (accepted_within cs ys a) (accepted_different cs ys a) ys ly (accepted_symbols cs ys a),
  );
}

pub answered : (cs ys : List ℕ) → length cs ≡ 4 → length ys ≡ 4 → (n : ℕ) × (ds : List ℕ) × Rebuilds cs ys n ds
answered cs ys lc ly = by (accepted cs ys) refl
  where
    by : (b : Bool) → accepted cs ys ≡ b → (n : ℕ) × (ds : List ℕ) × Rebuilds cs ys n ds
    by true a = (0, data_of cs ys, grants cs ys lc ly a)
    by false a = (2, 0 ∷ 0 ∷ 0 ∷ 0 ∷ [], refuses cs ys a)

same : (cs ys : List ℕ) → length cs ≡ 4 → accepted cs ys ≡ true → (n k : ℕ) (ds es : List ℕ) → Rebuilds cs ys n ds → Rebuilds cs ys k es → (n ≡ k) × (ds ≡ es)
same cs ys l a n k ds es p q =
    let g = p.granted a in
    let h = q.granted a in (
      g.0 ∙ sym h.0,
      fixes cs l (accepted_within cs ys a) (accepted_different cs ys a) ds es g.1 h.1 g.2 h.2
          (λ j i. g.3 j i ∙ sym (h.3 j i)),
    )

pub only : (cs ys : List ℕ) → length cs ≡ 4 → (n k : ℕ) (ds es : List ℕ) → Rebuilds cs ys n ds → Rebuilds cs ys k es → (n ≡ k) × (ds ≡ es)
only cs ys l n k ds es p q = by (accepted cs ys) refl
  where
    by : (b : Bool) → accepted cs ys ≡ b → (n ≡ k) × (ds ≡ es)
    by true a = same cs ys l a n k ds es p q
    by false a = ((p.refused a).0 ∙ sym (q.refused a).0, (p.refused a).1 ∙ sym (q.refused a).1)

-- rebuilding what was encoded returns the data
pub returned : (cs : List ℕ) → FourColumns cs → (ds : List ℕ) → length ds ≡ 4 → within 15 ds ≡ true → (n : ℕ) (es : List ℕ)
    → Rebuilds cs (map (encode ds) cs) n es → (n ≡ 0) × (es ≡ ds)
returned cs four ds l w n es p =
    let g = p.granted allowed in (
      g.0,
      fixes cs four.long four.low four.apart es ds g.1 l g.2 w (λ j i. g.3 j i ∙ get_d_map (encode ds) cs j (omega (arith, four.long))),
    )
  where
    symbol : (c : ℕ) → c ≤ 16 → encode ds c ≤ 15
    symbol c h = omega (arith, encode_column ds l c, combination_bound (column c) ds (column_within c (omega arith)) w)

    allowed : accepted cs (map (encode ds) cs) ≡ true
    allowed = unfold accepted in rw (four.low, four.apart) (within_map 16 15 (encode ds) symbol cs four.low)
