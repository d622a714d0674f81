-- Every base call, and every list of them: run on a picture it leaves the ledger's picture, and what it says of a key is what the ledger says.
use Prim.Native.Nat.{ℕ}
use mathlib.Core.Path.{◌≡◌, refl}
use mathlib.Core.List.{List, [], ◌∷◌}
use mathlib.Core.Option.{Option}
use Rattle.model.specs.Numbers.{Call, teach, correct, erase, read, read_in_place, list, unit_out, repair, grow, shrink, raise}
use Rattle.model.specs.history.Ledger.{Ledger}
use Rattle.model.specs.history.Picture.{picture}
use Rattle.model.specs.history.Answers.{after, final}
use Rattle.model.specs.history.Runs.{final_in, alone_in, all_granted, last_taught}
use Rattle.model.specs.history.Typed.{Typed, AllTyped}
use Rattle.model.proofs.history.ledger.Valid.{Valid}
use Rattle.model.proofs.history.taught.Recorded.{Ordered}
use Rattle.model.proofs.history.taught.Taught.{last_taught_by, Throughout}
use Rattle.model.proofs.history.calls.Simulation.{Simulated, number_agrees, after_agrees, after_valid}
use Rattle.model.proofs.history.calls.Teach.{teach_simulated}
use Rattle.model.proofs.history.calls.Correct.{correct_simulated}
use Rattle.model.proofs.history.calls.Erase.{erase_simulated}
use Rattle.model.proofs.history.calls.Read.{read_simulated}
use Rattle.model.proofs.history.calls.ReadInPlace.{read_in_place_simulated}
use Rattle.model.proofs.history.calls.List.{list_simulated}
use Rattle.model.proofs.history.calls.UnitOut.{unit_out_simulated}
use Rattle.model.proofs.history.calls.Repair.{repair_simulated}
use Rattle.model.proofs.history.calls.Grow.{grow_simulated}
use Rattle.model.proofs.history.calls.Shrink.{shrink_simulated}
use Rattle.model.proofs.history.calls.Raise.{raise_simulated}
use Rattle.model.proofs.history.alone.Lossless.{alone, all_granted_by}

-- what a run of the store on the picture of l has in common with the ledger's
pub record Run (l : Ledger) (rest : List ℕ) (cs : List Call) : Type 0 where
  pub left : final_in (picture l rest) cs ≡ picture (final l cs) rest
  pub valid : Valid (final l cs)
  pub ordered : Throughout l cs
  pub alone : alone_in (picture l rest) cs ≡ alone l cs
  pub granted : all_granted (picture l rest) cs ≡ all_granted_by l cs
  pub taught : (k : ℕ) (t : Option (List ℕ)) → last_taught k (picture l rest) cs t ≡ last_taught_by k l cs t

pub ordered_of : (l : Ledger) → Valid l → Ordered l
ordered_of l h = record { some = h.some; few = h.few; own = h.own; differ = h.differ }

pub simulated : (l : Ledger) (rest : List ℕ) → Valid l → (c : Call) → Typed c → Simulated l rest c
simulated l rest h (teach k x) t = teach_simulated l rest h k x t
simulated l rest h (correct k x) t = correct_simulated l rest h k x t
simulated l rest h (erase k) t = erase_simulated l rest h k
simulated l rest h (read k out) t = read_simulated l rest h k out
simulated l rest h (read_in_place k) t = read_in_place_simulated l rest h k
simulated l rest h (list out) t = list_simulated l rest h out
simulated l rest h (unit_out w) t = unit_out_simulated l rest h w
simulated l rest h (repair g) t = repair_simulated l rest h g
simulated l rest h grow t = grow_simulated l rest h
simulated l rest h shrink t = shrink_simulated l rest h
simulated l rest h raise t = raise_simulated l rest h

-- WHATEVER THE CALLS
pub run : (cs : List Call) (l : Ledger) (rest : List ℕ) → Valid l → AllTyped cs → Run l rest cs
unfolding final_in final alone_in alone all_granted all_granted_by last_taught last_taught_by
run [] l rest h t = record { left = refl; valid = h; ordered = tt; alone = refl; granted = refl; taught = λ k x. refl }
run (c ∷ cs) l rest h t =
    let s : Simulated l rest c = simulated l rest h c t.0 in
    let n = number_agrees l rest c s in
    let a = after_agrees l rest c s in
    let r : Run (after l c) rest cs = run cs (after l c) rest (after_valid l rest c s h) t.1 in
    record {
      left = rw a r.left;
      valid = r.valid;
      ordered = (ordered_of l h, r.ordered);
      alone = rw (n, a, r.alone);
      granted = rw (n, a, r.granted);
      taught = λ k x. rw (n, a) (r.taught k _);
    }
