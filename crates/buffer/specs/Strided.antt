-- Numbers of 32 bits at equal distances.
use Rattle.std.specs.Prelude.{ℕ, ◌+◌, ◌*◌, ◌≤◌, ◌<◌, List, length}
use Rattle.std.proofs.Common.{arith}
use Rattle.buffer.specs.Bytes.{be32}

-- number i of those that stand one every step bytes, from base on
unfoldable pub strided32 : List ℕ → ℕ → ℕ → ℕ → ℕ
strided32 s base step i = be32 s (base + step * i)

-- the bytes have n of them
pub record Within (s : List ℕ) (base step n : ℕ) : Type 0 where
  pub fits : (i : ℕ) → i < n → base + step * i + 4 ≤ length s

pub within_fewer : {s : List ℕ} {base step n m : ℕ} → Within s base step n → m ≤ n → Within s base step m
within_fewer h l = record { fits = λ i k. h.fits i (omega arith) }
