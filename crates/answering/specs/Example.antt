-- Document 01, "The program hallrun": its example, byte by byte, with a stamp of zeros behind each body (document 02, ask 4).
use Rattle.std.specs.Prelude.{ℕ, List, [], ◌∷◌, ◌++◌}
use Prim.Native.Char.{code}
use Prim.Native.String.{String, [] as empty, ◌∷◌ as ◌then◌}

-- the bytes of a text of one-byte characters, and of a line with its end
unfoldable pub text_of : String → List ℕ
text_of empty = []
text_of (c then s) = code c ∷ text_of s

unfoldable pub line_of : String → List ℕ
line_of s = text_of s ++ (10 ∷ [])

unfoldable pub example_input : List ℕ
example_input =
    line_of "L 02"
    ++ (line_of "T 00000005 456E204100000000000000000000000000000000"
    ++ (line_of "P"
    ++ (line_of "O 00"
    ++ (line_of "R 00000005"
    ++ (line_of "O 10"
    ++ line_of "R 00000005")))))

unfoldable pub example_output : List ℕ
example_output =
    line_of "0"
    ++ (line_of "0"
    ++ (line_of "0"
    ++ (line_of "00 01 00000005 456E204100000000000000000000000000000000"
    ++ (line_of "0"
    ++ (line_of "0 456E204100000000000000000000000000000000"
    ++ (line_of "0"
    ++ line_of "8"))))))
