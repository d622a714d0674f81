-- Demand 2, with nothing assumed. Its parts are shown in code and group, in the other files here, and, for histories, from the ledger's picture.
use Prim.Native.Nat.{ℕ, ◌+◌, ◌*◌, ◌<◌}
use mathlib.Core.Path.{◌≡◌, sym, ap, ◌∙◌}
use mathlib.Core.List.{List}
use native.Mathlib.Omega.{arith}
use lib.ListN.{take, drop}
use lib.Seq.{drop-drop, drop_at}
use borrow.Author.Tests.{eq-eqb}
use Rattle.code.specs.Columns.{FourColumns}
use Rattle.code.proofs.Fixing.{fixes}
use Rattle.code.proofs.Rebuilding.{answered, only, returned}
use Rattle.buffer.specs.Bytes.{bytes32, part}
use Rattle.buffer.specs.Table.{tab}
use Rattle.group.specs.Widths.{keys_bytes, body_bytes}
use Rattle.group.specs.Parity.{body_at, parity}
use Rattle.group.proofs.ParityLaws.{at_ext}
use Rattle.group.specs.CutLaws.{take_at_column, drop_at_column}
use Rattle.group.proofs.RebuildingLaws.{bodies_fixed, rebuilt_from_is, rebuilt_from_has, rebuilt_from_back}
use Rattle.model.specs.Layout.{Store, view, store_bytes}
use Rattle.model.specs.Field.{body_of}
use Rattle.model.proofs.FieldLaws.{stamp_bytes_lem}
use Rattle.model.specs.Perform.{lay_out_number}
use Rattle.model.specs.Demand2.{HoldsLedger, CoversStamps, SymbolsFixed, BodiesFixed, Demand2}
use Rattle.model.specs.history.Ledger.{Rec, Ledger, record_at, state}
use Rattle.model.specs.history.Picture.{check_over, picture}
use Rattle.model.specs.history.Steps.{Step, StepsTyped}
use Rattle.model.specs.history.Claims.{calls, left, recorded}
use Rattle.model.proofs.Hashing.{linear_hashing, units_reached}
use Rattle.model.proofs.MadeAnew.{made_anew}
use Rattle.model.proofs.Recovered.{recovered}
use Rattle.model.proofs.RepairKeeps.{repair_keeps}
use Rattle.model.proofs.LeftAlone.{left_alone}
use Rattle.model.proofs.history.ledger.Valid.{Goods, Valid}
use Rattle.model.proofs.history.picture.Records.{length_keys}
use Rattle.model.proofs.history.picture.Seen.{size_seen, cstate_is}
use Rattle.model.proofs.history.picture.Listed.{check_kept}
use Rattle.model.proofs.history.claims.KeepsTaught.{whole}
use Rattle.model.proofs.history.claims.Demand3.{typed_calls, same_ledger, outlives}

-- the check units in service of a valid ledger's picture
picture_holds : (l : Ledger) (rest : List ℕ) → Valid l → HoldsLedger (view (picture l rest)) l
unfolding check_over parity
picture_holds l rest h g j r hg hj hr e =
    check_kept l rest h g hg r (omega (arith, size_seen l rest h)) j hj
    (eq-eqb (state l (16 + (3 * g + j))) 1 (sym (cstate_is l rest h (3 * g + j) (omega arith)) ∙ e))

-- the parity of fields is that of their bodies, and behind it that of their stamps
covered : (v : Store) (l : Ledger) (g j r : ℕ) → Goods l → drop keys_bytes (v.check (3 * g + j) r) ≡ body_at (4 + j) (λ p. (record_at l (4 * g + p) r).field)
    → CoversStamps v l g j r
unfolding body_of part
covered v l g j r good e =
    let fields : ℕ → List ℕ = λ p. (record_at l (4 * g + p) r).field in
    record {
      bodies = ap (take body_bytes) e ∙ take_at_column body_bytes (4 + j) fields;
      stamps =
          sym (drop-drop body_bytes keys_bytes (v.check (3 * g + j) r))
          ∙ ap (drop body_bytes) e
          ∙ drop_at_column body_bytes (4 + j) fields
          ∙ at_ext (4 + j) _ _ (λ p _. sym (stamp_bytes_lem (fields p) (good (4 * g + p) r).field));
    }

module _ (s : List ℕ) (b : ℕ) (zero : lay_out_number s b ≡ 0) (xs : List Step) (typed : StepsTyped xs) where
  abbrev rest : List ℕ
  rest = drop (store_bytes b) s

  valid : Valid (recorded s b xs)
  valid = rw (same_ledger s b zero xs typed) (whole s b zero (calls s b xs) (typed_calls s b zero xs typed)).valid

  in_histories : HoldsLedger (view (left s b xs)) (recorded s b xs)
  in_histories = rw (outlives s b zero xs typed).histories.pictured (picture_holds (recorded s b xs) rest valid)

  covers_stamps : (g j r : ℕ) → g < 4 → j < 3 → r < (view (left s b xs)).size → (view (left s b xs)).cstate (3 * g + j) ≡ 1
      → CoversStamps (view (left s b xs)) (recorded s b xs) g j r
  covers_stamps g j r hg hj hr e =
      let records : ℕ → Rec = λ p. record_at (recorded s b xs) (4 * g + p) r in
      covered (view (left s b xs)) (recorded s b xs) g j r valid.good
      (ap (drop keys_bytes) (in_histories g j r hg hj hr e) ∙ drop_at (tab 4 (λ p. bytes32 (records p).key)) _ keys_bytes (length_keys records))

symbols_fixed : (cs : List ℕ) → FourColumns cs → SymbolsFixed cs
symbols_fixed cs four = record { fixed = fixes cs four.long four.low four.apart; returned = returned cs four }

bodies_are_fixed : (n : ℕ) (cs : List ℕ) → FourColumns cs → BodiesFixed n cs
bodies_are_fixed n cs four = record {
  fixed = bodies_fixed n cs four;
  returned = rebuilt_from_back n cs four;
  bodies = rebuilt_from_is n cs four;
  held = rebuilt_from_has n cs four;
}

-- DEMAND 2
pub demand_2 : Demand2
demand_2 = record {
  hashed = linear_hashing;
  reached = units_reached;
  in_histories = in_histories;
  covers_stamps = covers_stamps;
  made_anew = made_anew;
  symbols = symbols_fixed;
  bodies = bodies_are_fixed;
  answered = answered;
  only = only;
  recovered = recovered;
  repair_keeps = repair_keeps;
  left_alone = left_alone;
}
