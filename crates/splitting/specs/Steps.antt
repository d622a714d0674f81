-- The steps of grow and shrink on the parts of a store, and what the functions that take them ask for.
use Rattle.std.specs.Prelude.{ℕ, ◌+◌, ◌/◌, ◌%◌, ◌<◌, ◌≤◌, ◌≡◌, List, Bool, ◌&&◌, ◌||◌, eqb, ltb, leb, set}
use Rattle.buffer.specs.Choice.{pick}
use Rattle.buffer.specs.Bytes.{byte, zeros}
use Rattle.buffer.specs.Table.{upd}
use Rattle.group.specs.Widths.{slot_bytes, check_bytes}
use Rattle.model.specs.Units.{split_pointer, touched, begins}
use Rattle.model.specs.Layout.{Store, view}
use Rattle.model.specs.Parts.{with_front, with_dstates, with_cstates, with_slots, with_checks}
use Rattle.model.specs.Reads.{fill_in}
use Rattle.lookup.specs.Sized.{Sized}
use Rattle.splitting.specs.declared.dealing.Merge.{Merge}

-- unit m of a store, and the unit n that it is split from
pub record Split (s : List ℕ) (n m : ℕ) : Type 0 where
  pub sized : Sized s
  pub from : n ≡ split_pointer m
  pub apart : n < m
  pub unit : m < 16

-- the last unit and the one that it was split from, with how many records each has, and room for both in one unit
pub record Merges (s : List ℕ) (merge : Merge) : Type 0 where
  pub split : Split s merge.into merge.last
  pub count : merge.count ≡ fill_in (view s) merge.into
  pub more : merge.more ≡ fill_in (view s) merge.last
  pub room : merge.count + merge.more ≤ byte s 5

-- a unit is out in the group of unit m or in the group of the unit that m is split from, by the units out of each group
unfoldable pub pair_out : (ℕ → ℕ) → ℕ → Bool
pair_out outs m = ltb 0 (outs (m / 4)) || ltb 0 (outs (split_pointer m / 4))

-- unit m and the unit that it was split from have more records than the size of one, by the records of each unit
unfoldable pub pair_crowded : ℕ → (ℕ → ℕ) → ℕ → Bool
pair_crowded size fill m = ltb size (fill (split_pointer m) + fill m)

-- check units that aren't in service are zero
abbrev pub Blank : List ℕ → Type 0
Blank s = (c r : ℕ) → c < 12 → r < byte s 5 → (byte s (24 + c) ≡ 1 → ⊥) → (view s).check c r ≡ zeros check_bytes

-- the slots of unit u from rank q on are empty
unfoldable pub cleared : Store → ℕ → ℕ → Store
cleared v u q = with_slots v (λ w r. pick (eqb w u && leb q r) (zeros slot_bytes) (v.slot w r))

-- the store has m units, and unit u this state
unfoldable pub marked : Store → ℕ → ℕ → ℕ → Store
marked v m u state = with_dstates (with_front v (set v.front 6 m)) (upd v.dstate u state)

-- ---- check units that a test picks: those of the group of unit u, where u is the first of it; those of both groups of a split
abbrev pub of_first : ℕ → ℕ → Bool
of_first u c = begins u (c / 3)

abbrev pub of_both : ℕ → ℕ → Bool
of_both m c = touched m (c / 3)

-- their states: the lowest k places of a group are in service, the others not in place
unfoldable pub levelled : (ℕ → Bool) → ℕ → Store → Store
levelled p k v = with_cstates v (λ c. pick (p c) (pick (ltb (c % 3) k) 1 0) (v.cstate c))

-- their records are zero
unfoldable pub wiped : (ℕ → Bool) → Store → Store
wiped p v = with_checks v (λ c r. pick (p c) (zeros check_bytes) (v.check c r))
