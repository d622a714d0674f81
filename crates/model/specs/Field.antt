-- A record's field by its parts (document 02, ask 4): its body, and behind it its stamp, the moment of teaching as a number of 32 bits, big-endian. All
-- calls treat the field as one; these names are for what is said of both parts.
use Rattle.std.specs.Prelude.{ℕ, List, ◌++◌, take}
use Rattle.buffer.specs.Bytes.{be32, bytes32}
use Rattle.group.specs.Widths.{body_bytes}

-- a body with its stamp
unfoldable pub stamped : List ℕ → ℕ → List ℕ
stamped body stamp = body ++ bytes32 stamp

-- the body and the stamp of a field
unfoldable pub body_of : List ℕ → List ℕ
body_of x = take body_bytes x

unfoldable pub stamp_of : List ℕ → ℕ
stamp_of x = be32 x body_bytes
