-- `soundness::keys::MarksReach::reach` meets its contract. The loop runs over the turned keys.
use Prim.Native.Nat.{ℕ, ◌+◌, ◌*◌}
use mathlib.Core.Bool.{true, false}
use mathlib.Core.List.{List}
use mathlib.Core.Path.{◌≡◌, refl, ap, ap₂, ◌∙◌}
use native.Mathlib.Omega.{arith}
use lib.Bits.{bit_xor}
use lib.Dec.{eqb}
use Rattle.buffer.specs.TestLaws.{is_eq, is_ne}
use Rattle.buffer.specs.ByteOrder.{le32}
use Rattle.soundness.specs.declared.list.KeyList.{KeyList}
use Rattle.soundness.specs.Keys.{turned_keys, place_of, is_new, any_keys, found}
use Rattle.soundness.specs.KeyLists.{keys_of, turned_of}
use Rattle.soundness.proofs.Turned.{found_turned}
use Rattle.soundness.proofs.Joined.{xor_same}
use Rattle.soundness.proofs.Stepping.{still_fits}
use Rattle.soundness.proofs.Matching.{running_start, running_turn, matching_turn, matching_new, matching_some, new_told}
use Rattle.soundness.proofs.Matching.{matching_stop, matching_full, matching_twice}
use Rattle.soundness.proofs.keys.MarksReach.reach.Goals as goal
use Rattle.soundness.proofs.keys.MarksReach.reach.Goals.{then-self-h+else-k-eq0+else-not-is_new, else-self-h}

-- the key that a turn reads
read_at : (s : List ℕ) (base step r : ℕ) {p k : ℕ} → k ≡ le32 s p → p ≡ base + step * r → k ≡ turned_keys s base step r
unfolding turned_keys
read_at s base step r e at =
    e ∙ ap (le32 s) at

-- the answer on the turned keys is that on the keys
turned : (list other : KeyList) (m u : ℕ)
    → found (any_keys m u) list.ranks (turned_of list) (turned_of other) ≡ found (any_keys m u) list.ranks (keys_of list) (keys_of other)
unfolding any_keys
turned list other m u =
    found_turned _ _ list.octets.below other.octets.below (any_keys m u) _ _ _ _ list.ranks (λ n. refl)

-- ---- the needs
pub loop-r-init : goal.loop-r-init
loop-r-init c =
    running_start c.args.self.now.table c.args.self.now.sized

pub low32-k-requires : goal.low32-k-requires
low32-k-requires c =
    rw c.loop-r.invariant.at (c.args.list.within.fits c.loop-r.r c.loop-r-test.true)

pub returns-then-k-eq0 : goal.returns-then-k-eq0
returns-then-k-eq0 c =
    let inv = c.loop-r.invariant in
    let zero = is_eq (read_at _ _ _ _ c.low32-k.ensures inv.at) refl c.if-k-eq0.true in
    c.then_some.ensures ∙ matching_stop inv.matching c.args._m c.args.u c.loop-r-test.true zero ∙ turned c.args.list c.args.other c.args._m c.args.u

pub is_new-requires : goal.is_new-requires
is_new-requires c =
    (omega (arith, c.loop-r-test.true), c.loop-r.invariant.at)

pub returns-then-not-is_new : goal.returns-then-not-is_new
returns-then-not-is_new c =
    let inv = c.loop-r.invariant in
    let read = read_at _ _ _ _ c.low32-k.ensures inv.at in
    let twice = new_told _ _ read c.is_new.ensures c.if-not-is_new.true in
    matching_twice inv.matching c.args._m c.args.u c.loop-r-test.true (is_ne read refl c.if-k-eq0.false) twice ∙ turned c.args.list c.args.other c.args._m c.args.u

pub low32-requires : goal.low32-requires
low32-requires c =
    rw c.loop-r.invariant.beside (c.args.other.within.fits c.loop-r.r (omega (arith, c.loop-r-test.true, c.requires.0)))

pub overflow_add-p : goal.overflow_add-p
overflow_add-p c =
    omega (arith, still_fits c.loop-r.invariant.at (c.args.list.within.fits c.loop-r.r c.loop-r-test.true), c.args.list.narrow)

pub overflow_add-q : goal.overflow_add-q
overflow_add-q c =
    omega (arith, still_fits c.loop-r.invariant.beside (c.args.other.within.fits c.loop-r.r (omega (arith, c.loop-r-test.true, c.requires.0))), c.args.other.narrow)

pub loop-r-preserved : goal.loop-r-preserved
loop-r-preserved c =
    let keys : ℕ → ℕ = turned_of c.args.list in
    let rank : ℕ = c.loop-r.r in
    let inv = c.loop-r.invariant in
    let k = c.low32-k.result in
    let read : k ≡ keys rank = read_at _ _ _ _ c.low32-k.ensures inv.at in
    let at = c.place-h.ensures.0 ∙ ap place_of read in
    let some : eqb (keys rank) 0 ≡ false =
    elim c.if-self-h.branch [ then-self-h+else-k-eq0+else-not-is_new w ↦ is_ne read refl w.if-k-eq0.false | else-self-h w ↦ matching_some inv.matching at w.if-self-h.false ] in
    let fresh : is_new rank keys (keys rank) ≡ true =
    elim c.if-self-h.branch [
      | then-self-h+else-k-eq0+else-not-is_new w ↦ new_told _ _ read w.is_new.ensures w.if-not-is_new.false
      | else-self-h w ↦ matching_new inv.matching at w.if-self-h.false
    ] in
    running_turn inv
    (matching_turn inv.matching (bit_xor k c.low32.result) c.loop-r-test.true some fresh at c.place-h.ensures.1
    (xor_same k c.low32.result ∙ ap₂ eqb read (read_at _ _ _ _ c.low32.ensures inv.beside)))

pub returns : goal.returns
returns c =
    let inv = c.loop-r.invariant in
    c.then_some-2.ensures ∙ matching_full inv.matching c.args._m c.args.u c.loop-r-test.false ∙ turned c.args.list c.args.other c.args._m c.args.u
