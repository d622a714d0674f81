-- What is claimed of the byte coder: the columns' rule, that any m different columns fix the data, that rebuilding returns just what was lost, all by the
-- value of polynomials (`evaluate`) alone, and which number a call returns, by the limits of document 02. proofs/Columns, proofs/Claims and
-- proofs/Numbers have the proofs.
use Rattle.std.specs.Prelude.{◌≡◌, true, false, List, ◌++◌, ◌⊎◌, ℕ, ◌*◌, ◌-◌, ◌≤◌, ◌<◌, eqb, ltb, length, get_or}
use Rattle.algebra.specs.Polynomial.{All, Distinct}
use Rattle.buffer.specs.Exactly.{Exactly}
use Rattle.buffer.specs.Choice.{pick}
use Rattle.buffer.specs.Range.{count}
use Rattle.buffer.specs.Bytes.{byte, part}
use Rattle.buffer.specs.Table.{tab}
use Rattle.buffer.specs.Loops.{entries}
use Rattle.coder.specs.Interpolated.{Bytes, evaluate}
use Rattle.coder.specs.Segment.{present, chosen, member, member_byte, ending, rebuild_segment}
use Rattle.coder.specs.Columns.{column, segment_of}

-- ---- the columns
pub record Columns : Type 0 where
  -- of the values of any polynomial at points 0 to m - 1 column c is its value at point c
  pub rule : (p : List ℕ) → Bytes p → length p ≤ 256 → (c : ℕ) → c < 256 → column (entries (length p) (evaluate p)) c ≡ evaluate p c
  -- of any data there is such a polynomial
  pub polynomial : (ds : List ℕ) → Bytes ds → length ds ≤ 256
      → (p : List ℕ) × (length p ≡ length ds) × Bytes p × ((c : ℕ) → c < 256 → column ds c ≡ evaluate p c)
  -- columns below m are the data
  pub «data» : (ds : List ℕ) → Bytes ds → length ds ≤ 256 → (k : ℕ) → k < length ds → column ds k ≡ get_or ds k 0
  -- any m different columns fix the data
  pub fixed : (cs : List ℕ) → Bytes cs → Distinct cs → length cs ≤ 256 → (ds es : List ℕ) → Bytes ds → Bytes es → length ds ≡ length cs → length es ≡ length cs
      → All (λ c. column ds c ≡ column es c) cs → ds ≡ es

-- ---- the call
-- document 02's limits: "Group size m is 1 to 32, and a segment has m to 64 members", n here; members are len bytes, "each 1 to 1,024 bytes"
pub record Limits (m n len : ℕ) : Type 0 where
  pub some : 1 ≤ m
  pub group : m ≤ 32
  pub within : m ≤ n
  pub few : n ≤ 64
  pub filled : 1 ≤ len
  pub short : len ≤ 1024

-- "one mark byte a member: 1 present, 0 missing"
abbrev pub Mark : ℕ → Type 0
Mark x = (x ≡ 0) ⊎ (x ≡ 1)

-- all is inside the limits: s is n members, "equal stretches of one lent slice", and there are n marks
pub record Inside (m n len : ℕ) (s marks : List ℕ) : Type 0 where
  pub limits : Limits m n len
  pub long : length s ≡ len * n
  pub count : length marks ≡ n
  pub marked : (c : ℕ) → c < n → Mark (byte marks c)

-- how many of n members are present
abbrev pub present_of : ℕ → List ℕ → ℕ
present_of n marks = count n (λ c. eqb (byte marks c) 1)

-- all is inside, and fewer than m members are present, or m or more
pub record Few (m n len : ℕ) (s marks : List ℕ) : Type 0 where
  pub inside : Inside m n len s marks
  pub few : present_of n marks < m

pub record Enough (m n len : ℕ) (s marks : List ℕ) : Type 0 where
  pub inside : Inside m n len s marks
  pub enough : m ≤ present_of n marks

-- "It refuses with 2 for lengths, marks, member counts or m outside these and with 8 when fewer than m are present; 2 comes first." So of every m and all
-- bytes: 2 exactly where there are no n and len with which all is inside, 8 exactly where there are and too few are present, 0 exactly where enough are
pub record Numbers (m : ℕ) (s marks : List ℕ) : Type 0 where
  pub two : Exactly ((rebuild_segment m s marks).number ≡ 2) ((n len : ℕ) → Inside m n len s marks → ⊥)
  pub eight : Exactly ((rebuild_segment m s marks).number ≡ 8) ((n : ℕ) × (len : ℕ) × Few m n len s marks)
  pub zero : Exactly ((rebuild_segment m s marks).number ≡ 0) ((n : ℕ) × (len : ℕ) × Enough m n len s marks)

pub record Rebuilds : Type 0 where
  -- members of one polynomial a byte: rebuilding returns just them, whichever are missing and whatever stands there
  pub rebuilt : (m n len : ℕ) (s marks : List ℕ) → Enough m n len s marks → (f : ℕ → List ℕ) → ((j : ℕ) → j < len → Bytes (f j) × (length (f j) ≡ m))
      → ((c j : ℕ) → c < n → j < len → present marks c ≡ true → member_byte len s j c ≡ evaluate (f j) c)
      → rebuild_segment m s marks ≡ ending 0 (tab n (λ c. entries len (λ j. evaluate (f j) c))) (entries n (λ _. 1))
  -- the first m present ones serve, whatever the members hold: byte by byte one polynomial of m bytes has their values, and the missing members are its
  -- values at their points
  pub from_the_first : (m n len : ℕ) (s marks : List ℕ) → Enough m n len s marks → Bytes s → (j : ℕ) → j < len
      → (p : List ℕ) × (length p ≡ m) × Bytes p × All (λ c. member_byte len s j c ≡ evaluate p c) (chosen m marks)
      × ((c : ℕ) → c < n → present marks c ≡ false → member_byte len (rebuild_segment m s marks).members j c ≡ evaluate p c)
  -- the columns of any data, of which members are lost so that m are left: every byte is given back
  pub returned : (m n len : ℕ) (s marks : List ℕ) → Enough m n len s marks → (d : List ℕ) → Bytes d → length d ≡ len * m
      → ((c : ℕ) → c < n → present marks c ≡ true → member len s c ≡ member len (segment_of m n len d) c)
      → rebuild_segment m s marks ≡ ending 0 (segment_of m n len d) (entries n (λ _. 1))
  -- encoding: the data, and behind them members that are marked missing
  pub encoded : (m n len : ℕ) → Limits m n len → (d rest : List ℕ) → Bytes d → length d ≡ len * m → length rest ≡ len * (n - m)
      → rebuild_segment m (d ++ rest) (entries n (λ c. pick (ltb c m) 1 0)) ≡ ending 0 (segment_of m n len d) (entries n (λ _. 1))
  -- a segment begins with its data
  pub begins : (m n len : ℕ) (d : List ℕ) → m ≤ n → m ≤ 256 → Bytes d → length d ≡ len * m → part 0 (len * m) (segment_of m n len d) ≡ d
  -- present members stay, also where they disagree with the first m
  pub stays : (m n len : ℕ) (s marks : List ℕ) → Enough m n len s marks → (c : ℕ) → c < n → present marks c ≡ true
      → member len (rebuild_segment m s marks).members c ≡ member len s c
  -- with none missing nothing changes
  pub whole : (m n len : ℕ) (s marks : List ℕ) → Enough m n len s marks → ((c : ℕ) → c < n → present marks c ≡ true)
      → rebuild_segment m s marks ≡ ending 0 s marks
  -- a refused call changes nothing
  pub refused : (m : ℕ) (s marks : List ℕ) → ((rebuild_segment m s marks).number ≡ 0 → ⊥)
      → ((rebuild_segment m s marks).members ≡ s) × ((rebuild_segment m s marks).marks ≡ marks)
