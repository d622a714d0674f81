-- What the slots of a data unit are rebuilt by, and the stretches of ranks along which it stays the same.
use Rattle.std.specs.Prelude.{ℕ, ◌+◌, ◌*◌, ◌/◌, ◌%◌, ◌≡◌, ◌&&◌, List, ltb}
use Rattle.buffer.specs.Choice.{pick}
use Rattle.code.specs.Weights.{weights_of}
use Rattle.group.specs.Members.{first_four}
use Rattle.model.specs.Layout.{Store, view}
use Rattle.model.specs.Reads.{listed_fill, missing_in, serves_in}

-- where the list of the unit at place p of group g ends, if its record of rank r is missing and that is before the end given; else that end
unfoldable pub ends_before : Store → ℕ → ℕ → ℕ → ℕ → ℕ
ends_before v g p r end = pick (missing_in v (4 * g + p) r && ltb (listed_fill v (4 * g + p)) end) (listed_fill v (4 * g + p)) end

-- the first rank behind r at which fewer records of group g are missing; where there is none the number of ranks
unfoldable pub changes_at : Store → ℕ → ℕ → ℕ
changes_at v g r = ends_before v g 3 r (ends_before v g 2 r (ends_before v g 1 r (ends_before v g 0 r v.size)))

-- the decoder of unit u at rank r: the first four members in service, their weights for the unit's place, and the next rank at which these are others
pub record DecoderOf (s : List ℕ) (u r : ℕ) (members weights : List ℕ) (until : ℕ) : Type 0 where
  pub four : members ≡ first_four (serves_in (view s) (u / 4) r)
  pub weigh : weights ≡ weights_of members (u % 4)
  pub last : until ≡ changes_at (view s) (u / 4) r
