-- The code on bytes. Document 01: "A byte is two symbols, high half first"; each half is encoded by itself.
use Rattle.std.specs.Prelude.{List, map, ℕ, ◌+◌, ◌*◌, ◌/◌, ◌%◌}
use Rattle.code.specs.Matrix.{encode}

-- the byte of the four data bytes ds at column c
abbrev pub encode_bytes : List ℕ → ℕ → ℕ
encode_bytes ds c = encode (map (λ (b : ℕ). b / 16) ds) c * 16 + encode (map (λ (b : ℕ). b % 16) ds) c
