-- Demand 1: the statements, for all bytes and numbers. A call that gets key 0, a buffer of the wrong length, a damaged store or a unit that isn't
-- there ends with its number of the table (reading in place: with an empty part), and a refused call changes no byte of the store or of an output
-- buffer.
use Rattle.std.specs.Prelude.{ℕ, ◌*◌, ◌≤◌, ◌<◌, ◌≡◌, ◌≢◌, List, [], ◌∷◌, Bool, true, false, not, ◌&&◌, ◌||◌, eqb, ltb, length}
use Rattle.buffer.specs.Choice.{pick}
use Rattle.moves.specs.declared.Move.{Move}
use Rattle.group.specs.Widths.{field_bytes, slot_bytes}
use Rattle.model.specs.Layout.{view, store_bytes, units_in}
use Rattle.model.specs.Reads.{home_in, state_in, lost_in, total_in}
use Rattle.model.specs.Sound.{sound}
use Rattle.model.specs.Numbers.{Call, teach, correct, erase, read, read_in_place, list, unit_out, repair, grow, number_in}
use Rattle.model.specs.Perform.{plain, planned, refusal, outcome, given_in, perform, laid_out, lay_out_number, lay_out}
use Rattle.model.specs.Order.{Ordered}
use Rattle.model.specs.history.Plan.{plan_in}
use Rattle.model.specs.history.Further.{Further, plan, commit, further_number_in, further_refusal}
use Rattle.model.specs.history.Steps.{Step, further, perform_step}

-- a call on any bytes: its number is the table's; refused, it leaves all as it was; a damaged store gets 1 where 2 does not apply
pub record Refuses (s : List ℕ) (c : Call) : Type 0 where
  pub numbered : number_in s c ≤ 9
  pub refused : number_in s c ≢ 0 → perform s c ≡ outcome (refusal c (number_in s c)) s
  pub damaged : sound s ≡ false → number_in s c ≢ 2 → perform s c ≡ outcome (refusal c 1) s

-- the numbers of a further call (document 02): 0, and those of its refusals
unfoldable pub numbers_of : Further → List ℕ
numbers_of (plan lent) = 0 ∷ 1 ∷ 9 ∷ 4 ∷ 7 ∷ []
numbers_of (commit lent n) = 0 ∷ 1 ∷ 9 ∷ 4 ∷ 11 ∷ []

unfoldable pub one_of : List ℕ → ℕ → Bool
one_of [] n = false
one_of (m ∷ ms) n = eqb n m || one_of ms n

-- the same of a further call
pub record FurtherRefuses (s : List ℕ) (a : Further) : Type 0 where
  pub numbered : one_of (numbers_of a) (further_number_in s a) ≡ true
  pub refused : further_number_in s a ≢ 0 → perform_step s (further a) ≡ outcome (further_refusal a (further_number_in s a)) s
  pub damaged : sound s ≡ false → further_number_in s a ≢ 2 → perform_step s (further a) ≡ outcome (further_refusal a 1) s

-- each of these calls is refused with the number n
abbrev pub RefusedWith : List ℕ → ℕ → List Call → Type 0
RefusedWith s n [] = Unit {0}
RefusedWith s n (c ∷ cs) = (perform s c ≡ outcome (refusal c n) s) × RefusedWith s n cs

-- the arguments that demand 1 names, on any bytes
pub record Misused (s : List ℕ) : Type 0 where
  pub key_0 : (x : List ℕ) → RefusedWith s 2 (teach 0 x ∷ correct 0 x ∷ erase 0 ∷ read 0 x ∷ read_in_place 0 ∷ [])
  pub wrong_length : (k : ℕ) (x : List ℕ) → length x ≢ field_bytes → RefusedWith s 2 (teach k x ∷ correct k x ∷ read k x ∷ [])
  pub no_unit_lem : (w : ℕ) → 27 < w → RefusedWith s 2 (unit_out w ∷ [])
  pub no_group : (g : ℕ) → 3 < g → RefusedWith s 2 (repair g ∷ [])
  pub unit_not_in_place : (w : ℕ) → w ≤ 27 → sound s ≡ true → state_in (view s) w ≡ 0 → RefusedWith s 3 (unit_out w ∷ [])
  pub group_not_in_place : (g : ℕ) → g ≤ 3 → sound s ≡ true → units_in (view s) ≤ 4 * g → RefusedWith s 3 (repair g ∷ [])
  pub short : (x : List ℕ) → sound s ≡ true → lost_in (view s) ≡ false → length x < slot_bytes * total_in (view s) → RefusedWith s 7 (list x ∷ [])
  pub short_for_the_plan : (lent : List Move) → number_in s grow ≡ 0 → length lent < length (plan_in (view s))
      → perform_step s (further (plan lent)) ≡ outcome (planned 7 0 lent) s
  pub count_above_the_list : (lent : List Move) (n : ℕ) → number_in s grow ≡ 0 → length lent < n
      → perform_step s (further (commit lent n)) ≡ outcome (plain 11) s

-- reading in place, in any bytes: the store is as it was, and the part is a whole field, body and stamp, the one that read, given a buffer that fits, hands
-- back, or it is empty, exactly where that read would refuse or the key's unit is out
pub record InPlace (s : List ℕ) (k : ℕ) : Type 0 where
  pub untouched : (perform s (read_in_place k)).store ≡ s
  pub exactly : (out : List ℕ) → length out ≡ field_bytes
      → length (given_in s (read_in_place k)) ≡ pick (eqb (number_in s (read k out)) 0 && not (eqb ((view s).dstate (home_in (view s) k)) 2)) field_bytes 0
  pub same : (out : List ℕ) → length out ≡ field_bytes → number_in s (read k out) ≡ 0 → (view s).dstate (home_in (view s) k) ≢ 2
      → given_in s (read_in_place k) ≡ given_in s (read k out)

-- lay out, of any bytes and any number: refused as the table says, and else granted
pub record LaysOut (s : List ℕ) (b : ℕ) : Type 0 where
  pub numbered : lay_out_number s b ≤ 9
  pub refused : lay_out_number s b ≢ 0 → lay_out s b ≡ outcome (plain (lay_out_number s b)) s
  pub misused : (ltb b 1 || ltb 64 b) ≡ true → lay_out s b ≡ outcome (plain 2) s
  pub short : (ltb b 1 || ltb 64 b) ≡ false → length s < store_bytes b → lay_out s b ≡ outcome (plain 7) s
  pub granted : 1 ≤ b → b ≤ 64 → store_bytes b ≤ length s → lay_out s b ≡ outcome (plain 0) (laid_out b s)

-- DEMAND 1
pub record Demand1 : Type 0 where
  pub calls : (s : List ℕ) (c : Call) → Refuses s c
  pub further_calls : (s : List ℕ) (a : Further) → FurtherRefuses s a
  pub ordered : (x : Step) → Ordered x
  pub misuses : (s : List ℕ) → Misused s
  pub in_place : (s : List ℕ) (k : ℕ) → InPlace s k
  pub layouts : (s : List ℕ) (b : ℕ) → LaysOut s b
