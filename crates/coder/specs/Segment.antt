-- The byte coder's call. Document 02: "Members are equal stretches of one lent slice, each 1 to 1,024 bytes, with one mark byte a member: 1 present, 0
-- missing. Missing members are rebuilt from the first m present ones and all marks become 1; present members are not touched." A reader wants
-- `rebuild_segment m s marks`: the number, the members and the marks after the call, of members s.
use Rattle.std.specs.Prelude.{Bool, ◌&&◌, List, [], ◌∷◌, map, ℕ, ◌+◌, ◌*◌, ◌/◌, ◌%◌, eqb, leb, length, take}
use Rattle.buffer.specs.Choice.{pick}
use Rattle.buffer.specs.Range.{all}
use Rattle.buffer.specs.Bytes.{byte, part}
use Rattle.buffer.specs.Table.{tab}
use Rattle.buffer.specs.Loops.{entries}
use Rattle.coder.specs.Interpolated.{interpolated}

-- "Group size m is 1 to 32, and a segment has m to 64 members"
abbrev pub largest_group : ℕ
largest_group = 32

abbrev pub most_members : ℕ
most_members = 64

abbrev pub longest_member : ℕ
longest_member = 1024

-- a group of m, and n members in so many bytes: each has bytes / n of them, and none is left over
unfoldable pub sizes_fit : ℕ → ℕ → ℕ → Bool
sizes_fit m n bytes =
    leb 1 m && (leb m largest_group && (leb m n && (leb n most_members && (leb 1 (bytes / n) && (leb (bytes / n) longest_member && eqb (bytes % n) 0)))))

unfoldable pub marks_fit : List ℕ → Bool
marks_fit marks = all (length marks) (λ c. leb (byte marks c) 1)

abbrev pub present : List ℕ → ℕ → Bool
present marks c = eqb (byte marks c) 1

-- those present among the first n members, by number; the first m of all
unfoldable pub presents : List ℕ → ℕ → List ℕ
presents marks n = tab n (λ c. pick (present marks c) (c ∷ []) [])

unfoldable pub chosen : ℕ → List ℕ → List ℕ
chosen m marks = take m (presents marks (length marks))

-- member c, of members of len bytes each, and its byte j
unfoldable pub member : ℕ → List ℕ → ℕ → List ℕ
member len s c = part (len * c) len s

unfoldable pub member_byte : ℕ → List ℕ → ℕ → ℕ → ℕ
member_byte len s j c = byte s (len * c + j)

-- member c from the members ps: each byte is the value at point c of the polynomial through theirs
unfoldable pub member_from : List ℕ → ℕ → List ℕ → ℕ → List ℕ
member_from ps len s c = entries len (λ j. interpolated ps (map (member_byte len s j) ps) c)

unfoldable pub members_after : ℕ → List ℕ → ℕ → List ℕ → List ℕ
members_after m marks len s = tab (length marks) (λ c. pick (present marks c) (member len s c) (member_from (chosen m marks) len s c))

-- what a call ends in
pub record Ending : Type 0 where
  pub number : ℕ
  pub members : List ℕ
  pub marks : List ℕ

abbrev pub ending : ℕ → List ℕ → List ℕ → Ending
ending r s marks = record { number = r; members = s; marks = marks }

-- "It refuses with 2 for lengths, marks, member counts or m outside these and with 8 when fewer than m are present; 2 comes first."
unfoldable pub rebuild_segment : ℕ → List ℕ → List ℕ → Ending
rebuild_segment m s marks =
    pick (sizes_fit m (length marks) (length s) && marks_fit marks)
    (pick (leb m (length (presents marks (length marks))))
    (ending 0 (members_after m marks (length s / length marks) s) (entries (length marks) (λ _. 1))) (ending 8 s marks)) (ending 2 s marks)
