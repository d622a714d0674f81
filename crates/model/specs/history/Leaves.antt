-- A history, the layout with its list of calls, and the stores that it leaves. At its end the next call's answer is the ledger's, and so are the records,
-- each in its unit and at its rank.
use Rattle.std.specs.Prelude.{ℕ, ◌<◌, ◌≡◌, List, [], ◌∷◌, ◌++◌, false, length}
use Rattle.model.specs.Layout.{Store, view}
use Rattle.model.specs.Reads.{listed_fill, whole_slot}
use Rattle.model.specs.Numbers.{Call}
use Rattle.model.specs.Perform.{perform, lay_out_number, lay_out}
use Rattle.model.specs.history.Ledger.{Ledger, opened, record_at, lost}
use Rattle.model.specs.history.Picture.{record_bytes}
use Rattle.model.specs.history.Answers.{answer, final}
use Rattle.model.specs.history.Runs.{final_in}
use Rattle.model.specs.history.Typed.{Typed, AllTyped}

-- b of the layout, and the calls
pub record History : Type 0 where
  pub ranks : ℕ
  pub calls : List Call

abbrev pub history : ℕ → List Call → History
history b cs = record { ranks = b; calls = cs }

-- the ledger at its end, and the history with one more call
unfoldable pub ledger_after : History → Ledger
ledger_after h = final (opened h.ranks) h.calls

unfoldable pub followed : History → Call → History
followed h c = history h.ranks (h.calls ++ (c ∷ []))

-- the history leaves the store s: its layout is granted in the slice, and its calls lead to s
pub record Leaves (slice : List ℕ) (h : History) (s : List ℕ) : Type 0 where
  pub granted : lay_out_number slice h.ranks ≡ 0
  pub typed : AllTyped h.calls
  pub left : s ≡ final_in (lay_out slice h.ranks).store h.calls

-- the records of a store, out units rebuilt, are those of a ledger, each in its unit and at its rank
pub record SameRecords (v : Store) (l : Ledger) : Type 0 where
  pub counted : (u : ℕ) → u < 16 → listed_fill v u ≡ length (l.records u)
  pub held : (u r : ℕ) → u < 16 → r < length (l.records u) → whole_slot v u r ≡ record_bytes (record_at l u r)

-- of such a store: it is as long as the slice; the next call has the ledger's answer, and leaves what the history with that call leaves; the records are
-- the ledger's, where no unit is lost beyond recovery
pub record AtEnd (slice : List ℕ) (h : History) (s : List ℕ) : Type 0 where
  pub long : length s ≡ length slice
  pub answered : (c : Call) → Typed c → (perform s c).answer ≡ answer (ledger_after h) c
  pub next : (c : Call) → Typed c → Leaves slice (followed h c) (perform s c).store
  pub records : lost (ledger_after h) ≡ false → SameRecords (view s) (ledger_after h)
