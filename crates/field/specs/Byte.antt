-- Document 01: "A byte is two symbols, high half first."
use Rattle.std.specs.Prelude.{ℕ, ◌+◌, ◌*◌, ◌/◌, ◌%◌}
use Rattle.field.specs.Gf16.{product}

-- the byte whose halves are those of b times the symbol w
unfoldable pub scale : ℕ → ℕ → ℕ
scale w b = product (b / 16) w * 16 + product (b % 16) w
