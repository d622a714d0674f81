-- The calls on the bytes of a store: for all bytes and arguments the answer and the bytes that the call leaves.
use Rattle.std.specs.Prelude.{ℕ, pred, ◌+◌, ◌*◌, List, [], ◌∷◌, ◌++◌, not, ◌&&◌, eqb, ltb, length, drop}
use Rattle.buffer.specs.Choice.{pick}
use Rattle.buffer.specs.Bytes.{zeros, part}
use Rattle.moves.specs.declared.Move.{Move}
use Rattle.group.specs.Widths.{key_bytes, field_bytes, slot_bytes, check_bytes}
use Rattle.model.specs.Layout.{Store, bytes, view, store_bytes, front_of, slot_at, slot_of, units_in}
use Rattle.model.specs.Reads.{home_in, fill_in, rank_in, field_in, total_in, listing_in}
use Rattle.model.specs.Numbers.{Call, teach, correct, erase, read, read_in_place, list, unit_out, repair, grow, shrink, raise, by_kind, first_of, number_in}
use Rattle.model.specs.Changes.{written, erased, unit_lost, repaired, grown, shrunk, raised}

-- ---- answers

-- what a caller gets back, with the output buffer that it lent as the call leaves it
pub data Answer : Type 0 where
  plain : ℕ → Answer  -- a number alone
  copied : ℕ → List ℕ → Answer  -- read: its number, and the output buffer
  lent : List ℕ → Answer  -- read in place: the part handed back, and no number
  listed : ℕ → ℕ → List ℕ → Answer  -- list: its number, the count, and the output buffer
  planned : ℕ → ℕ → List Move → Answer  -- asking for a plan: its number, the count, and the lent list of moves

-- an output buffer, or a lent list, after a call with the number n that hands back y: that and the old rest; when refused it is as it was
unfoldable pub output : {A : Type 0} → ℕ → List A → List A → List A
output n y out = pick (eqb n 0) (y ++ drop (length y) out) out

-- a call's answer, of its number, the bytes that it hands back and the count
unfoldable pub reply : Call → ℕ → List ℕ → ℕ → Answer
reply c n y m =
    by_kind c (λ k x. plain n) (λ k. plain n) (λ k out. copied n (output n y out)) (λ k. lent y)
    (λ out. listed n (pick (eqb n 0) m 0) (output n y out)) (plain n) (plain n)

-- the answer of a call that is refused with the number n: nothing is handed back, and an output buffer is as it was
unfoldable pub refusal : Call → ℕ → Answer
refusal c n = by_kind c (λ k x. plain n) (λ k. plain n) (λ k out. copied n out) (λ k. lent []) (λ out. listed n 0 out) (plain n) (plain n)

-- ---- read in place

-- a part of a store: where it starts, and its length
pub record Place : Type 0 where
  pub at : ℕ
  pub size : ℕ

-- where the field of a key stands; the part is empty exactly where read, given a buffer that fits, would refuse or the key's unit is out
unfoldable pub place_in : List ℕ → ℕ → Place
place_in s k =
    let v : Store = view s in
    pick (eqb (number_in s (read k (zeros field_bytes))) 0 && not (eqb (v.dstate (home_in v k)) 2))
    (record { at = slot_at v.size (home_in v k) (rank_in v (home_in v k) k) + key_bytes; size = field_bytes }) (record { at = 0; size = 0 })

-- ---- what a granted call hands back, and the store that it leaves

-- the bytes that a granted call hands back; of a refused one nothing is used
unfoldable pub given_in : List ℕ → Call → List ℕ
given_in s c =
    by_kind c (λ k x. []) (λ k. []) (λ k out. field_in (view s) k) (λ k. part (place_in s k).at (place_in s k).size s) (λ out. listing_in (view s)) [] []

-- the bytes of the store after a granted call
unfoldable pub granted_in : List ℕ → Call → List ℕ
granted_in s (teach k x) = bytes (written (view s) (home_in (view s) k) (fill_in (view s) (home_in (view s) k)) (slot_of k x))
granted_in s (correct k x) = bytes (written (view s) (home_in (view s) k) (rank_in (view s) (home_in (view s) k) k) (slot_of k x))
granted_in s (erase k) = bytes (erased (view s) (home_in (view s) k) (rank_in (view s) (home_in (view s) k) k) (pred (fill_in (view s) (home_in (view s) k))))
granted_in s (read k out) = s
granted_in s (read_in_place k) = s
granted_in s (list out) = s
granted_in s (unit_out w) = bytes (unit_lost (view s) w)
granted_in s (repair g) = bytes (repaired (view s) g)
granted_in s grow = bytes (grown (view s) (units_in (view s)))
granted_in s shrink = bytes (shrunk (view s) (pred (units_in (view s))))
granted_in s raise = bytes (raised (view s))

-- ---- the calls

-- what a call ends in: the answer, and the store's bytes
pub record Outcome : Type 0 where
  pub answer : Answer
  pub store : List ℕ

abbrev pub outcome : Answer → List ℕ → Outcome
outcome a s = record { answer = a; store = s }

unfoldable pub answer_in : List ℕ → Call → Answer
answer_in s c = reply c (number_in s c) (given_in s c) (total_in (view s))

unfoldable pub after_in : List ℕ → Call → List ℕ
after_in s c = pick (eqb (number_in s c) 0) (granted_in s c) s

unfoldable pub perform : List ℕ → Call → Outcome
perform s c = outcome (answer_in s c) (after_in s c)

-- ---- lay out, which looks at the slice's length alone

-- M = 1, K = 1, data unit 0 and check unit 0 in service, and every other byte of the store's length zero; the rest is never touched
unfoldable pub laid_out : ℕ → List ℕ → List ℕ
laid_out b s =
    front_of b 1 1
    ++ ((1 ∷ zeros 15) ++ ((1 ∷ zeros 11) ++ (zeros ((16 * slot_bytes + 12 * check_bytes) * b) ++ drop (store_bytes b) s)))

unfoldable pub lay_out_number : List ℕ → ℕ → ℕ
lay_out_number s b = first_of ((ltb b 1, 2) ∷ (ltb 64 b, 2) ∷ (ltb (length s) (store_bytes b), 7) ∷ [])

unfoldable pub lay_out : List ℕ → ℕ → Outcome
lay_out s b = outcome (plain (lay_out_number s b)) (pick (eqb (lay_out_number s b) 0) (laid_out b s) s)
