-- Bodies: lists of bytes of any one length n, each byte two symbols of GF(16), high half first. What is coded of a record is its whole field, body and
-- stamp, as one such list.
use Rattle.std.specs.Prelude.{ℕ, ◌<◌, ◌≡◌, length}
use mathlib.Core.List.{List, map, zip_with}
use Rattle.std.specs.Int.Bits.{bit_xor}
use Rattle.buffer.specs.Bytes.{byte}
use Rattle.code.specs.Scaling.{scale}

-- n bytes, and four bodies of n bytes
pub record IsBody (n : ℕ) (x : List ℕ) : Type 0 where
  pub size : length x ≡ n
  pub bytes : (i : ℕ) → byte x i < 256

abbrev pub Bodies : ℕ → (ℕ → List ℕ) → Type 0
Bodies n f = (p : ℕ) → p < 4 → IsBody n (f p)

-- the sum of two bodies, symbol by symbol
unfoldable pub add_body : List ℕ → List ℕ → List ℕ
add_body x y = zip_with bit_xor x y

-- a body times the symbol c, symbol by symbol
unfoldable pub scale_body : ℕ → List ℕ → List ℕ
scale_body c x = map (scale c) x
