-- What a granted layout says of its arguments.
use Rattle.std.specs.Prelude.{ℕ, ◌≤◌, ◌≡◌, refl, List, [], ◌∷◌, ltb, length}
use Rattle.std.proofs.Common.{ltb-false}
use Rattle.model.specs.Layout.{store_bytes}
use Rattle.model.specs.RowLaws.{Free, first_free}
use Rattle.model.specs.Perform.{lay_out_number}

pub record Granted (s : List ℕ) (b : ℕ) : Type 0 where
  pub least : 1 ≤ b
  pub most : b ≤ 64
  pub long : store_bytes b ≤ length s

pub layout_granted : (s : List ℕ) (b : ℕ) → lay_out_number s b ≡ 0 → Granted s b
unfolding lay_out_number
layout_granted s b e =
    let f : Free ((ltb b 1, 2) ∷ (ltb 64 b, 2) ∷ (ltb (length s) (store_bytes b), 7) ∷ []) =
    first_free ((ltb b 1, 2) ∷ (ltb 64 b, 2) ∷ (ltb (length s) (store_bytes b), 7) ∷ []) (refl, (refl, (refl, tt))) e in
    record { least = ltb-false b 1 f.0; most = ltb-false 64 b f.1.0; long = ltb-false (length s) (store_bytes b) f.1.1.0 }
