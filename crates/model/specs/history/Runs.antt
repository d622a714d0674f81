-- Runs of the store: a list of calls, each getting the store as the one before left it; and what a list of calls says of a key.
use Rattle.std.specs.Prelude.{ℕ, ◌+◌, ◌-◌, List, [], ◌∷◌, Bool, true, false, ◌&&◌, eqb, ltb}
use Rattle.std.proofs.Math.Option.{Option, none, some}
use Rattle.buffer.specs.Choice.{pick}
use Rattle.buffer.specs.Table.{tab}
use Rattle.model.specs.Layout.{Store}
use Rattle.model.specs.Numbers.{Call, teach, correct, erase, read, read_in_place, list, unit_out, repair, grow, shrink, raise, by_kind, number_in}
use Rattle.model.specs.Perform.{Answer, copied, perform}

-- the bytes at the end of a list of calls
unfoldable pub final_in : List ℕ → List Call → List ℕ
final_in s [] = s
final_in s (c ∷ cs) = final_in (perform s c).store cs

-- all calls but losses and repairs
unfoldable pub lasting : Call → Bool
lasting c = by_kind c (λ k x. true) (λ k. true) (λ k out. true) (λ k. true) (λ out. true) false true

-- the granted calls of a run other than losses and repairs
unfoldable pub alone_in : List ℕ → List Call → List Call
alone_in s [] = []
alone_in s (c ∷ cs) = pick (eqb (number_in s c) 0 && lasting c) (c ∷ alone_in (perform s c).store cs) (alone_in (perform s c).store cs)

-- every call of a run is granted
unfoldable pub all_granted : List ℕ → List Call → Bool
all_granted s [] = true
all_granted s (c ∷ cs) = eqb (number_in s c) 0 && all_granted (perform s c).store cs

-- how many raises a call is: one or none; and how many raises of a run are granted
unfoldable pub raises : Call → ℕ
raises (teach k x) = 0
raises (correct k x) = 0
raises (erase k) = 0
raises (read k out) = 0
raises (read_in_place k) = 0
raises (list out) = 0
raises (unit_out w) = 0
raises (repair g) = 0
raises grow = 0
raises shrink = 0
raises raise = 1

unfoldable pub raises_in : List ℕ → List Call → ℕ
raises_in s [] = 0
raises_in s (c ∷ cs) = pick (eqb (number_in s c) 0) (raises c) 0 + raises_in (perform s c).store cs

-- the bytes of a unit: 0 to 15 data, 16 + 3g + j check
unfoldable pub unit_in : Store → ℕ → List ℕ
unit_in v w = pick (ltb w 16) (tab v.size (v.slot w)) (tab v.size (v.check (w - 16)))

-- ---- what was taught of a key: its field, or none

-- after a call that returned the number n
unfoldable pub taught_by : ℕ → Call → ℕ → Option (List ℕ) → Option (List ℕ)
taught_by k c n t =
    by_kind c (λ j x. pick (eqb n 0 && eqb j k) (some x) t) (λ j. pick (eqb n 0 && eqb j k) none t) (λ j out. t) (λ j. t) (λ out. t) t t

-- by the key's last granted teach or correct; none where there was no such call, or a granted erase follows
unfoldable pub last_taught : ℕ → List ℕ → List Call → Option (List ℕ) → Option (List ℕ)
last_taught k s [] t = t
last_taught k s (c ∷ cs) t = last_taught k (perform s c).store cs (taught_by k c (number_in s c) t)

-- what read, given a buffer that fits, owes of a key: its field, or 6 and the buffer as it was
unfoldable pub as_taught : List ℕ → Option (List ℕ) → Answer
as_taught out none = copied 6 out
as_taught out (some x) = copied 0 x
