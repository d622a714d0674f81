-- As last taught: after a list of calls a ledger holds for a key what the last granted teach, correct or erase of it says, and a read tells it.
-- Assumes a ledger whose lists are in order.
use Prim.Native.Nat.{ℕ}
use mathlib.Core.Path.{◌≡◌, refl, sym, ap, ◌∙◌}
use mathlib.Core.Logic.{◌≢◌}
use mathlib.Core.List.{List, [], ◌∷◌, ◌++◌, append-nil}
use mathlib.Core.Option.{Option, none, some}
use mathlib.Core.Bool.{Bool, true, false}
use lib.Dec.{eqb, leb}
use lib.ListN.{length, drop, get_or}
use lib.Seq.{drop-length}
use borrow.Author.Tests.{eq-eqb, ne_eqb}
use Rattle.buffer.specs.Choice.{pick}
use Rattle.group.specs.Widths.{field_bytes}
use Rattle.model.specs.Numbers.{Call, read, first_of}
use Rattle.model.specs.Perform.{copied, reply, output}
use Rattle.model.specs.history.Ledger.{Rec, empty, Ledger, opened, home, record_at, rank_of, key_beyond_of}
use Rattle.model.specs.history.Table.{refusals, number}
use Rattle.model.specs.history.Answers.{field_of, given, answer, after, final}
use Rattle.model.specs.history.Runs.{taught_by, as_taught}
use Rattle.model.proofs.history.ledger.Seek.{seek, seek_rank}
use Rattle.model.proofs.history.taught.Recorded.{Ordered, recorded, different, recorded_after}

-- what a list of calls says of a key, by the ledger
unfoldable pub last_taught_by : ℕ → Ledger → List Call → Option (List ℕ) → Option (List ℕ)
last_taught_by k l [] t = t
last_taught_by k l (c ∷ cs) t = last_taught_by k (after l c) cs (taught_by k c (number l c) t)

-- the ledger is in order before each call
abbrev pub Throughout : Ledger → List Call → Type 0
Throughout l [] = Unit {0}
Throughout l (c ∷ cs) = Ordered l × Throughout (after l c) cs

-- AS LAST TAUGHT
pub recorded_final : (k : ℕ) (cs : List Call) (l : Ledger) → Throughout l cs → recorded (final l cs) k ≡ last_taught_by k l cs (recorded l k)
unfolding final last_taught_by
recorded_final k [] l h = refl
recorded_final k (c ∷ cs) l h = recorded_final k cs (after l c) h.1 ∙ ap (last_taught_by k (after l c) cs) (recorded_after l h.0 k c)

pub recorded_opened : (b k : ℕ) → recorded (opened b) k ≡ none
unfolding recorded opened seek
recorded_opened b k = refl

-- ---- what read answers, given a buffer that fits

module _ (l : Ledger) (h : Ordered l) (k : ℕ) where
  pub read_tells : k ≢ 0 → (out : List ℕ) → length out ≡ field_bytes → ((r : ℕ) → length (record_at l (home l k) r).field ≡ field_bytes)
      → answer l (read k out) ≡ pick (key_beyond_of l k) (copied 8 out) (as_taught out (recorded l k))
  unfolding answer number reply output refusals first_of given field_of recorded record_at as_taught pick
  read_tells z out fits sized =
      rw (ne_eqb k 0 z, eq-eqb (length out) field_bytes fits, seek_rank rs k (different l h (home l k)))
      (go (key_beyond_of l k) (leb (length rs) (rank_of rs k)))
    where
      rs : List Rec
      rs = l.records (home l k)

      field : List ℕ
      field = (get_or rs (rank_of rs k) empty).field

      -- the field fills the buffer
      filled : field ++ drop (length field) out ≡ field
      filled = ap (λ (n : ℕ). field ++ drop n out) (sized (rank_of rs k) ∙ sym fits) ∙ ap (λ (x : List ℕ). field ++ x) (drop-length out) ∙ append-nil field

      go : (x y : Bool) → copied (pick x 8 (pick y 6 0)) (pick (eqb (pick x 8 (pick y 6 0)) 0) (field ++ drop (length field) out) out)
          ≡ pick x (copied 8 out) (as_taught out (pick y none (some field)))
      go true y = refl
      go false true = refl
      go false false = ap (copied 0) filled
