-- `compared_read_in_place` meets its contract.
use mathlib.Core.Path.{◌≡◌, sym, ap, ◌∙◌}
use mathlib.Core.List.{List, ◌++◌}
use mathlib.Core.Bool.{false}
use Prim.Native.Nat.{ℕ}
use lib.Dec.{ltb}
use lib.ListN.{length, drop}
use borrow.Author.Tests.{lt-ltb, le-ltb}
use Rattle.buffer.specs.Choice.{pick}
use Rattle.buffer.specs.Bytes.{part}
use borrow.Author.Tests.{lt-ltb, le-ltb}
use Rattle.buffer.specs.ChoiceLaws.{pick_true, pick-false}
use Rattle.model.specs.Numbers.{Call}
use Rattle.model.specs.Perform.{place_in, given_in}
use Rattle.comparing.proofs.compared_read_in_place.Goals as goal

handed : (s y : List ℕ) (k : ℕ) → y ≡ part (place_in s k).at (place_in s k).size s → y ≡ given_in s (Call.read_in_place k)
unfolding given_in
handed s y k e = e

copied : (y new out : List ℕ) (n : ℕ) → new ≡ y → ltb (length out) n ≡ false → new ++ drop n out ≡ pick (ltb (length out) n) out (y ++ drop n out)
copied y new out n e h =
    rw e (sym (pick-false h out (y ++ drop n out)))

pub returns-then-out-n : goal.returns-then-out-n
returns-then-out-n c =
    record { length = ap length (handed _ _ _ c.read_in_place-part.ensures.place); bytes = sym (pick_true (lt-ltb _ _ c.if-out-n.true) _ _) }

pub returns : goal.returns
returns c =
    let e = handed _ _ _ c.read_in_place-part.ensures.place in
    let out = c.args.out.now in
    let n = length c.read_in_place-part.result.now in
    record { length = ap length e; bytes = copied _ _ out n (c.copy.ensures ∙ e) (le-ltb _ _ c.if-out-n.false) }
