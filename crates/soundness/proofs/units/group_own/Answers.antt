-- `soundness::units::group_own` meets its contract.
use Prim.Native.Nat.{ℕ, ◌+◌, ◌*◌, ◌≤◌, ◌<◌}
use mathlib.Core.List.{List}
use mathlib.Core.Path.{◌≡◌, refl, sym, ◌∙◌}
use native.Mathlib.Omega.{arith}
use Rattle.buffer.specs.Bytes.{byte}
use Rattle.buffer.specs.LoopTests.{passing_start, passing_turn, passing_fail, passing_end}
use Rattle.buffer.specs.Loops.{entries}
use Rattle.soundness.specs.Pieces.{Common, unit_fill}
use Rattle.soundness.proofs.Counting.{unit_fill_most}
use Rattle.soundness.proofs.Endings.{is_kept, kept_here, check_place}
use Rattle.soundness.proofs.Together.{none_up_to, fill_at, ranks_own, ranks_astray, place_own_lem, place_absent}
use Rattle.soundness.proofs.units.group_own.Goals as goal
use Rattle.soundness.proofs.units.group_own.Goals.{then-f-gt0+else-not-own_rows, else-f-gt0, then-u-units+else-not-own_listed, else-u-units}

-- where all units of a group have ranks, one of its check units is in service
kept : (fills : List ℕ) (g : ℕ) {k f : ℕ} → Common fills g k f → 0 < f → k ≡ 3 * g + 3 → ⊥
kept fills g common some e =
    omega (arith, some, common.alone e)

-- each unit has the ranks that all have
least : (s fills : List ℕ) (g : ℕ) {k f : ℕ} → g < 4 → fills ≡ entries 16 (unit_fill s) → Common fills g k f → (p : ℕ) → p < 4 → f ≤ unit_fill s (4 * g + p)
least s fills g few counts common p l =
    let u : ℕ = 4 * g + p in
    omega (arith, common.least p l, fill_at s u {i = u} counts refl (omega (arith, l, few)))

pub checks_at-requires : goal.checks_at-requires
checks_at-requires c =
    let asked = c.requires in
    let other = kept _ _ c.common_ranks-f.ensures c.if-f-gt0.true in
    omega (arith, other, (kept_here _ _ c.first_check-k.ensures).most, asked.0)

pub own_rows-requires : goal.own_rows-requires
own_rows-requires c =
    let asked = c.requires in
    let s = c.args.header.store.now in
    let g = c.args.g in
    let some = least s _ g asked.0 asked.1 c.common_ranks-f.ensures 0 (omega arith) in
    let most = unit_fill_most s (4 * g + 0) in
    (omega (arith, c.checks_at.ensures.1, c.size.ensures, c.from.ensures, c.args.header.ranged.long, some, most), omega (arith, c.units.ensures, c.args.header.ranged.some), omega (arith, c.units.ensures, c.args.header.ranged.most), omega (arith, asked.0))

pub returns-then-not-own_rows : goal.returns-then-not-own_rows
returns-then-not-own_rows c =
    let asked = c.requires in
    let s = c.args.header.store.now in
    let g = c.args.g in
    let common = c.common_ranks-f.ensures in
    ranks_astray s g (is_kept _ _ c.first_check-k.ensures (kept _ _ common c.if-f-gt0.true)) c.first_check-k.ensures
    (check_place s _ c.size.ensures refl c.checks_at.ensures.0) c.from.ensures c.if-f-gt0.true (least s _ g asked.0 asked.1 common) (sym (rw c.units.ensures at c.own_rows.ensures) ∙ c.if-not-own_rows.true)

pub loop-p-init : goal.loop-p-init
loop-p-init c =
    let asked = c.requires in
    let s = c.args.header.store.now in
    let g = c.args.g in (
      passing_start,
      elim c.if-f-gt0.branch [
        | then-f-gt0+else-not-own_rows w ↦
            ranks_own s g (is_kept _ _ c.first_check-k.ensures (kept _ _ c.common_ranks-f.ensures w.if-f-gt0.true)) c.first_check-k.ensures (check_place s _ w.size.ensures refl w.checks_at.ensures.0) w.from.ensures
            (sym (rw w.units.ensures at w.own_rows.ensures) ∙ w.if-not-own_rows.false)
        | else-f-gt0 w ↦ none_up_to s g w.if-f-gt0.false
      ],
    )

-- ---- where a unit is tested
pub own_listed-requires : goal.own_listed-requires
own_listed-requires c =
    let asked = c.requires in
    let s = c.args.header.store.now in
    let g = c.args.g in
    let p = c.loop-p.p in
    let l = c.loop-p-test.true in
    let placed : 4 * g + p < byte s 6 = omega (arith, c.if-u-units.true, c.units-in-loop-p.ensures) in
    let fill = fill_at s (4 * g + p) asked.1 c.from-then-u-units.ensures (omega (arith, placed, c.args.header.ranged.most)) in
    rw (c.unit.ensures.0, c.unit.ensures.1) (placed, fill, omega (arith, least s _ g asked.0 asked.1 c.common_ranks-f.ensures p l, fill))

pub returns-then-not-own_listed : goal.returns-then-not-own_listed
returns-then-not-own_listed c =
    let asked = c.requires in
    let s = c.args.header.store.now in
    let u : ℕ = 4 * c.args.g + c.loop-p.p in
    let inv = c.loop-p.invariant in
    let l = c.loop-p-test.true in
    let placed : u < byte s 6 = omega (arith, c.if-u-units.true, c.units-in-loop-p.ensures) in
    let fill = fill_at s u asked.1 c.from-then-u-units.ensures (omega (arith, placed, c.args.header.ranged.most)) in
    passing_fail inv.0 l (sym (place_own_lem s c.args.g c.loop-p.p _ inv.1 l placed fill (rw (c.unit.ensures.0, c.unit.ensures.1) at c.own_listed.ensures)) ∙ c.if-not-own_listed.true)

pub loop-p-preserved : goal.loop-p-preserved
loop-p-preserved c =
    let asked = c.requires in
    let s = c.args.header.store.now in
    let g = c.args.g in
    let p = c.loop-p.p in
    let inv = c.loop-p.invariant in
    let l = c.loop-p-test.true in (
      passing_turn inv.0 l (elim c.if-u-units.branch [
        | then-u-units+else-not-own_listed w ↦
            let placed : 4 * g + p < byte s 6 = omega (arith, w.if-u-units.true, c.units-in-loop-p.ensures) in
            let fill = fill_at s (4 * g + p) asked.1 w.from-then-u-units.ensures (omega (arith, placed, c.args.header.ranged.most)) in
            sym (place_own_lem s g p _ inv.1 l placed fill (rw (w.unit.ensures.0, w.unit.ensures.1) at w.own_listed.ensures)) ∙ w.if-not-own_listed.false
        | else-u-units w ↦ place_absent s g p (omega (arith, w.if-u-units.false, c.units-in-loop-p.ensures))
      ]),
      inv.1,
    )

pub returns : goal.returns
returns c =
    passing_end c.loop-p.invariant.0 c.loop-p-test.false
