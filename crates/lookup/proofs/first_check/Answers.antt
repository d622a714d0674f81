-- `lookup::first_check` meets its contract.
use Prim.Native.Nat.{◌+◌, ◌*◌}
use mathlib.Core.Path.{ap, refl}
use borrow.Author.Rules.{rules}
use Rattle.buffer.specs.TestLaws.{is_eq}
use Rattle.buffer.specs.LoopTests.{missing_found, missing_end}
use Rattle.buffer.specs.Bytes.{byte}
use Rattle.model.specs.Layout.{view}
use Rattle.model.specs.Reads.{first_check}
use Rattle.lookup.proofs.first_check.Goals as goal

pub returns-then-s-from-eq-IN_SERVICE : goal.returns-then-s-from-eq-IN_SERVICE
unfolding first_check view
returns-then-s-from-eq-IN_SERVICE c =
    let a = c.args in
    let state = ap (λ i. byte a.s.now (24 + i)) c.from.ensures in
    let found = missing_found c.loop-j.invariant c.loop-j-test.true (is_eq state refl c.if-s-from-eq-IN_SERVICE.true) in
    (ap (λ j. 3 * a.g + j) found, search rules)

pub returns : goal.returns
unfolding first_check view
returns c =
    (ap (λ j. 3 * c.args.g + j) (missing_end c.loop-j.invariant c.loop-j-test.false), search rules)
