-- A part of a lent slice that is handed back: its bytes, and where it starts. A pointer is a block and a place in it.
use Rattle.std.specs.Prelude.{ℕ, ◌+◌, ◌-◌, ◌≡◌, List, take, drop}
use Rattle.std.proofs.Common.{ap, arith}
use Rattle.buffer.specs.Bytes.{part}
use Rattle.buffer.specs.SpliceLaws.{part_lent}

-- the code counts the slice's own place, o, behind that in the slice
pub part_start : (block o at to : ℕ) → at ≡ to → ◌≡◌ {A = ℕ × ℕ} (block, at + o) (block, o + to)
part_start block o at to e = let same : at + o ≡ o + to = omega arith in ap (λ (n : ℕ). (block, n)) same

-- n bytes from at on, as code hands them back
pub handed_back : (s : List ℕ) (block o at n to : ℕ) → at ≡ to
    → (take (at + n - at) (drop at s) ≡ part to n s) × ◌≡◌ {A = ℕ × ℕ} (block, at + o) (block, o + to)
handed_back s block o at n to e = (part_lent s at n to e, part_start block o at to e)
