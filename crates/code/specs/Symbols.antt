-- Symbols of the field as numbers up to 15, and back.
use Rattle.std.specs.Prelude.{◌≡◌, refl, true, List, [], ◌∷◌, map, ℕ, ◌≤◌, length}
use Rattle.std.proofs.Common.{sym, ap, ◌∙◌, arith, lt→ltb}
use Rattle.std.proofs.lemmas.List.{length-map}
use Rattle.field.specs.Gf16Laws.{Symbol}
use Rattle.code.specs.Matrix.{within}
use Rattle.code.specs.Lists.{within_head, within_tail}

abbrev pub numbers : List Symbol → List ℕ
numbers ds = map (λ (d : Symbol). d.0) ds

unfoldable pub symbol : (x : ℕ) → x ≤ 15 → Symbol
symbol x h = (x, lt→ltb x 16 (omega arith))

unfoldable pub symbols : (ds : List ℕ) → within 15 ds ≡ true → List Symbol
symbols [] w = []
symbols (d ∷ ds) w = symbol d (within_head 15 d ds w) ∷ symbols ds (within_tail 15 d ds w)

pub numbers_symbols : (ds : List ℕ) (w : within 15 ds ≡ true) → numbers (symbols ds w) ≡ ds
unfolding symbols symbol
numbers_symbols [] w = refl
numbers_symbols (d ∷ ds) w = ap (λ (l : List ℕ). d ∷ l) (numbers_symbols ds (within_tail 15 d ds w))

pub length_symbols : (ds : List ℕ) (w : within 15 ds ≡ true) → length (symbols ds w) ≡ length ds
length_symbols ds w = sym (length-map (symbols ds w) (λ (d : Symbol). d.0)) ∙ ap length (numbers_symbols ds w)
