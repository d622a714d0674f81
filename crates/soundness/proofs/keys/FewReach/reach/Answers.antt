-- `soundness::keys::FewReach::reach` meets its contract. The loop runs over the turned keys.
use Prim.Native.Nat.{ℕ}
use mathlib.Core.Path.{◌≡◌, refl, sym, ◌∙◌}
use native.Mathlib.Omega.{arith}
use borrow.Author.Tests.{eq-eqb, ne_eqb}
use Rattle.buffer.specs.TestLaws.{is_eq, is_ne}
use Rattle.soundness.specs.declared.list.KeyList.{KeyList}
use Rattle.soundness.specs.Keys.{own_keys, found}
use Rattle.soundness.specs.KeyLists.{keys_of, turned_of}
use Rattle.soundness.proofs.Masks.{mask_small, own_test}
use Rattle.soundness.proofs.Turned.{found_turned, own_turned}
use Rattle.soundness.proofs.Matching.{few_start, few_stop, few_full, few_turn, few_other, few_astray, few_twice, new_told}
use Rattle.soundness.proofs.keys.FewReach.reach.Goals as goal

-- the answer on the turned keys is that on the keys
turned : (list other : KeyList) (m u : ℕ)
    → found (own_keys m u) list.ranks (turned_of list) (turned_of other) ≡ found (own_keys m u) list.ranks (keys_of list) (keys_of other)
turned list other m u =
    let b = other.octets.below in
    found_turned _ _ list.octets.below b (own_keys m u) _ _ _ _ list.ranks (λ n. own_turned _ b m u _ _ n)

pub loop-r-init : goal.loop-r-init
loop-r-init c =
    few_start

-- ---- the needs
pub returns-then-k-eq0 : goal.returns-then-k-eq0
returns-then-k-eq0 c =
    few_stop c.loop-r.invariant c.loop-r-test.true (is_eq c.turned_key-k.ensures refl c.if-k-eq0.true) ∙ turned c.args.list c.args.other c.args.m c.args.u

pub turned_key-requires : goal.turned_key-requires
turned_key-requires c =
    omega (arith, c.loop-r-test.true, c.requires.0)

pub returns-then-k-turned_key : goal.returns-then-k-turned_key
returns-then-k-turned_key c =
    let some = is_ne c.turned_key-k.ensures refl c.if-k-eq0.false in
    let other = is_ne c.turned_key-k.ensures c.turned_key.ensures c.if-k-turned_key.true in
    few_other c.loop-r.invariant c.loop-r-test.true some other ∙ turned c.args.list c.args.other c.args.m c.args.u

pub astray-requires : goal.astray-requires
astray-requires c =
    let asked = c.requires in
    rw c.mask_of-mask.ensures (mask_small _ _ asked.1 asked.2)

pub returns-then-astray-ne0 : goal.returns-then-astray-ne0
returns-then-astray-ne0 c =
    let some = is_ne c.turned_key-k.ensures refl c.if-k-eq0.false in
    let same = c.if-k-turned_key.false ∙ c.turned_key.ensures in
    let own = own_test _ _ c.mask_of-mask.ensures c.from-unit.ensures same c.astray.ensures in
    few_astray c.loop-r.invariant c.loop-r-test.true some (sym own ∙ ne_eqb _ _ c.if-astray-ne0.true) ∙ turned c.args.list c.args.other c.args.m c.args.u

pub overflow_mul-list : goal.overflow_mul-list
overflow_mul-list c =
    omega (arith, c.args.list.within.fits c.loop-r.r c.loop-r-test.true)

pub overflow_add-list : goal.overflow_add-list
overflow_add-list c =
    omega (arith, c.args.list.within.fits c.loop-r.r c.loop-r-test.true)

pub is_new-requires : goal.is_new-requires
is_new-requires c =
    (omega (arith, c.loop-r-test.true), refl)

pub returns-then-not-is_new : goal.returns-then-not-is_new
returns-then-not-is_new c =
    let some = is_ne c.turned_key-k.ensures refl c.if-k-eq0.false in
    let twice = new_told _ _ c.turned_key-k.ensures c.is_new.ensures c.if-not-is_new.true in
    few_twice c.loop-r.invariant c.loop-r-test.true some twice ∙ turned c.args.list c.args.other c.args.m c.args.u

pub loop-r-preserved : goal.loop-r-preserved
loop-r-preserved c =
    let same = c.if-k-turned_key.false ∙ c.turned_key.ensures in
    let own = own_test _ _ c.mask_of-mask.ensures c.from-unit.ensures same c.astray.ensures in
    few_turn c.loop-r.invariant c.loop-r-test.true
    (is_ne c.turned_key-k.ensures refl c.if-k-eq0.false)
    (is_eq c.turned_key-k.ensures c.turned_key.ensures c.if-k-turned_key.false)
    (sym own ∙ eq-eqb _ _ c.if-astray-ne0.false)
    (new_told _ _ c.turned_key-k.ensures c.is_new.ensures c.if-not-is_new.false)

pub returns : goal.returns
returns c =
    few_full c.loop-r.invariant c.loop-r-test.false ∙ turned c.args.list c.args.other c.args.m c.args.u
