-- Document 01: "Any four different columns form an invertible matrix." A reader wants `fixes`: data that have the same symbols at four different columns
-- are the same. That data exist for any symbols is `rebuilt_has` of WeightsLaws.
use Rattle.std.specs.Prelude.{◌≡◌, true, List, [], ◌∷◌, map, ℕ, ◌<◌, length, get_or}
use Rattle.std.proofs.Common.{ap, ◌∙◌, sym, subst₂, arith}
use Rattle.std.proofs.lemmas.List.{length-map}
use Rattle.algebra.specs.Polynomial.{All}
use Rattle.algebra.specs.Lagrange.{lagrange}
use Rattle.algebra.specs.Interpolation.{fixed}
use Rattle.algebra.specs.BinaryField.{below_is}
use Rattle.field.specs.Gf16Laws.{Symbol, gf16}
use Rattle.code.specs.Matrix.{encode, within, different}
use Rattle.code.specs.Lists.{four, all_four, within_head, within_tail}
use Rattle.code.specs.Symbols.{numbers, symbols, numbers_symbols, length_symbols}
use Rattle.code.specs.Point.{point, places}
use Rattle.code.specs.PointLaws.{distinct_points, distinct_places}
use Rattle.code.proofs.Rule.{encode_is}

encode_symbols : (ds : List Symbol) → length ds ≡ 4 → (c : ℕ) → c < 17 → (lagrange gf16 [] places ds (point c)).0 ≡ encode (numbers ds) c
encode_symbols = four (λ ds. (c : ℕ) → c < 17 → (lagrange gf16 [] places ds (point c)).0 ≡ encode (numbers ds) c) encode_is

same_values : (ds es : List Symbol) → length ds ≡ 4 → length es ≡ 4 → (cs : List ℕ) → within 16 cs ≡ true
    → All (λ c. encode (numbers ds) c ≡ encode (numbers es) c) cs
    → All (λ C. lagrange gf16 [] places ds C ≡ lagrange gf16 [] places es C) (map point cs)
same_values ds es ld le [] w h = tt
same_values ds es ld le (c ∷ cs) w h =
    let k : c < 17 = omega (arith, within_head 16 c cs w) in (
      below_is 4 (lagrange gf16 [] places ds (point c)) (lagrange gf16 [] places es (point c))
          (encode_symbols ds ld c k ∙ h.0 ∙ sym (encode_symbols es le c k)),
      same_values ds es ld le cs (within_tail 16 c cs w) h.1,
    )

fixes_symbols : (cs : List ℕ) → length cs ≡ 4 → within 16 cs ≡ true → different cs ≡ true → (ds es : List Symbol) → length ds ≡ 4 → length es ≡ 4
    → All (λ c. encode (numbers ds) c ≡ encode (numbers es) c) cs → ds ≡ es
fixes_symbols cs lc w d ds es ld le h =
    fixed gf16 places (map point cs) ds es distinct_places (distinct_points cs w d) (sym (length-map cs point ∙ lc)) (sym ld) (sym le)
    (same_values ds es ld le cs w h)

pub fixes : (cs : List ℕ) → length cs ≡ 4 → within 16 cs ≡ true → different cs ≡ true → (ds es : List ℕ) → length ds ≡ 4 → length es ≡ 4
    → within 15 ds ≡ true → within 15 es ≡ true → ((j : ℕ) → j < 4 → encode ds (get_or cs j 0) ≡ encode es (get_or cs j 0)) → ds ≡ es
fixes cs lc w d ds es ld le wd we h =
    sym (numbers_symbols ds wd)
    ∙ ap numbers (fixes_symbols cs lc w d (symbols ds wd) (symbols es we) (length_symbols ds wd ∙ ld) (length_symbols es we ∙ le)
    (subst₂ (λ (x y : List ℕ). All (λ c. encode x c ≡ encode y c) cs) (sym (numbers_symbols ds wd)) (sym (numbers_symbols es we))
    (all_four (λ c. encode ds c ≡ encode es c) cs lc h)))
    ∙ numbers_symbols es we
