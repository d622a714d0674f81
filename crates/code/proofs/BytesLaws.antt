-- Rebuilding bytes, both halves together. A reader wants `rebuilt_bytes_have` (the rebuilt bytes have the given bytes at the columns), `bytes_fixed`
-- (four different columns fix four bytes), `encode_data` (columns 0 to 3 are the data).
use Rattle.std.specs.Prelude.{◌≡◌, refl, true, List, [], ◌∷◌, map, ℕ, ◌+◌, ◌*◌, ◌<◌, length, get_or}
use Rattle.std.proofs.Common.{ap, ap₂, ◌∙◌, sym, div-add-mod', arith, lit<}
use Rattle.std.specs.Int.Bits.{xor_zero_l, xor_zero_r}
use Rattle.std.proofs.lemmas.List.{length-map}
use Rattle.field.specs.ByteLaws.{scale_one, scale_zero}
use Rattle.code.specs.Matrix.{matrix, entry, encode, within, different}
use Rattle.code.specs.Columns.{column}
use Rattle.code.specs.Lists.{four, each_four, within_at, get_d_map}
use Rattle.code.proofs.Fixing.{fixes}
use Rattle.code.specs.Weights.{weights_of, mixed, data_of}
use Rattle.code.proofs.WeightsLaws.{weights_within, rebuilt_has}
use Rattle.code.specs.Bytes.{encode_bytes}
use Rattle.code.proofs.Halves.{Half, high, low, encode_mixed, encode_half}

-- the data bytes rebuilt from the bytes ys at the columns cs
abbrev pub bytes_of : List ℕ → List ℕ → List ℕ
bytes_of cs ys = mixed (weights_of cs 0) ys ∷ mixed (weights_of cs 1) ys ∷ mixed (weights_of cs 2) ys ∷ mixed (weights_of cs 3) ys ∷ []

-- ---- the rebuilt bytes have the given bytes, and four different columns fix four bytes: each half by itself
module _ (h : Half) (cs : List ℕ) (lc : length cs ≡ 4) (w : within 16 cs ≡ true) (d : different cs ≡ true) where
  halves_are : (ys : List ℕ) → map h.of (bytes_of cs ys) ≡ data_of cs (map h.of ys)
  halves_are ys =
      λ i. h.summed (weights_of cs 0) ys (weights_within cs 0) i ∷ h.summed (weights_of cs 1) ys (weights_within cs 1) i
      ∷ h.summed (weights_of cs 2) ys (weights_within cs 2) i ∷ h.summed (weights_of cs 3) ys (weights_within cs 3) i ∷ []

  half_has : (ys : List ℕ) → length ys ≡ 4 → within 255 ys ≡ true → (j : ℕ) → j < 4 → encode (map h.of (bytes_of cs ys)) (get_or cs j 0) ≡ h.of (get_or ys j 0)
  half_has ys ly v j k =
      ap (λ (l : List ℕ). encode l (get_or cs j 0)) (halves_are ys)
      ∙ rebuilt_has cs lc w d (map h.of ys) (length-map ys h.of ∙ ly) (h.small ys v) j k ∙ get_d_map h.of ys j (omega arith)

  half_fixed : (ds es : List ℕ) → length ds ≡ 4 → length es ≡ 4 → within 255 ds ≡ true → within 255 es ≡ true
      → ((j : ℕ) → j < 4 → encode_bytes ds (get_or cs j 0) ≡ encode_bytes es (get_or cs j 0)) → map h.of ds ≡ map h.of es
  half_fixed ds es ld le vd ve a =
      fixes cs lc w d (map h.of ds) (map h.of es) (length-map ds h.of ∙ ld) (length-map es h.of ∙ le) (h.small ds vd) (h.small es ve)
      (λ j k.
      let c : get_or cs j 0 < 17 = omega (arith, within_at 16 cs w j (omega arith)) in
      sym (encode_half h ds ld (get_or cs j 0) c) ∙ ap h.of (a j k) ∙ encode_half h es le (get_or cs j 0) c)

pub rebuilt_bytes_have : (cs : List ℕ) → length cs ≡ 4 → within 16 cs ≡ true → different cs ≡ true → (ys : List ℕ) → length ys ≡ 4 → within 255 ys ≡ true
    → (j : ℕ) → j < 4 → encode_bytes (bytes_of cs ys) (get_or cs j 0) ≡ get_or ys j 0
rebuilt_bytes_have cs lc w d ys ly v j h =
    ap₂ (λ (x y : ℕ). x * 16 + y) (half_has high cs lc w d ys ly v j h) (half_has low cs lc w d ys ly v j h) ∙ div-add-mod' (get_or ys j 0) 16

joined : List ℕ → List ℕ → List ℕ
joined [] ls = []
joined (h ∷ hs) [] = []
joined (h ∷ hs) (l ∷ ls) = (h * 16 + l) ∷ joined hs ls

joined_halves : (bs : List ℕ) → joined (map high.of bs) (map low.of bs) ≡ bs
unfolding joined
joined_halves [] = refl
joined_halves (b ∷ bs) = ap₂ (λ (x : ℕ) (l : List ℕ). x ∷ l) (div-add-mod' b 16) (joined_halves bs)

pub bytes_fixed : (cs : List ℕ) → length cs ≡ 4 → within 16 cs ≡ true → different cs ≡ true → (ds es : List ℕ) → length ds ≡ 4 → length es ≡ 4
    → within 255 ds ≡ true → within 255 es ≡ true → ((j : ℕ) → j < 4 → encode_bytes ds (get_or cs j 0) ≡ encode_bytes es (get_or cs j 0)) → ds ≡ es
bytes_fixed cs lc w d ds es ld le vd ve a =
    sym (joined_halves ds) ∙ ap₂ joined (half_fixed high cs lc w d ds es ld le vd ve a) (half_fixed low cs lc w d ds es ld le vd ve a) ∙ joined_halves es

-- ---- columns 0 to 3 are the data themselves
at : (ds : List ℕ) → length ds ≡ 4 → within 255 ds ≡ true → (q : ℕ) → q < 4 → get_or ds q 0 < 256
at ds l v q h = omega (arith, within_at 255 ds v q (omega arith))

data_bytes_lem : (ds : List ℕ) → length ds ≡ 4 → within 255 ds ≡ true → (q : ℕ) → q < 4 → mixed (column q) ds ≡ get_or ds q 0
unfolding entry matrix
data_bytes_lem =
    four (λ ds. within 255 ds ≡ true → (q : ℕ) → q < 4 → mixed (column q) ds ≡ get_or ds q 0)
    (λ a b c d v. each_four (λ q. mixed (column q) (a ∷ b ∷ c ∷ d ∷ []) ≡ get_or (a ∷ b ∷ c ∷ d ∷ []) q 0)
    (simp (scale_one a (at (a ∷ b ∷ c ∷ d ∷ []) refl v 0 (lit< tt)), scale_zero, xor_zero_l, xor_zero_r))
    (simp (scale_one b (at (a ∷ b ∷ c ∷ d ∷ []) refl v 1 (lit< tt)), scale_zero, xor_zero_l, xor_zero_r))
    (simp (scale_one c (at (a ∷ b ∷ c ∷ d ∷ []) refl v 2 (lit< tt)), scale_zero, xor_zero_l, xor_zero_r))
    (simp (scale_one d (at (a ∷ b ∷ c ∷ d ∷ []) refl v 3 (lit< tt)), scale_zero, xor_zero_l, xor_zero_r)))

pub encode_data : (ds : List ℕ) → length ds ≡ 4 → within 255 ds ≡ true → (q : ℕ) → q < 4 → encode_bytes ds q ≡ get_or ds q 0
encode_data ds l v q h = sym (encode_mixed ds l q (omega arith)) ∙ data_bytes_lem ds l v q h
