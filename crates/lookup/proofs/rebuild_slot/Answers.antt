-- `lookup::rebuild_slot` meets its contract.
use mathlib.Core.Path.{◌≡◌, sym, ap, ap₂, ◌∙◌}
use mathlib.Core.List.{List, ◌++◌}
use Prim.Native.Nat.{ℕ, ◌+◌, ◌*◌, ◌-◌, ◌≤◌}
use native.Mathlib.Omega.{arith}
use lib.ListN.{length, take, drop}
use borrow.Author.Rules.{rules}
use Rattle.buffer.specs.SpliceLaws.{part_lent}
use Rattle.group.specs.Widths.{check_bytes}
use Rattle.model.specs.Layout.{view}
use Rattle.model.specs.Reads.{listed_key}
use Rattle.lookup.specs.Keys.{keys_at}
use Rattle.lookup.specs.Groups.{Rebuildable}
use Rattle.lookup.specs.GroupLaws.{missing_rank}
use Rattle.lookup.specs.SlotLaws.{missing_keys, missing_key_long, decoder_low, decoder_small, field_rebuilt, whole_missing}
use Rattle.lookup.proofs.Lent.{field_room, two_parts}
use Rattle.lookup.proofs.rebuild_slot.Goals as goal

-- the key of rank i, which is r, stands in the store, and is the one listed
module _ {s : List ℕ} {u r keys i : ℕ} (h : Rebuildable s u r) (e : keys ≡ keys_at s u) (same : i ≡ r) where
  key_inside : keys + check_bytes * i + 4 ≤ length s
  key_inside = (missing_keys h e).within.fits i (omega (arith, same, missing_rank h))

  key_there : {key : List ℕ} → key ≡ take (keys + check_bytes * i + 4 - (keys + check_bytes * i)) (drop (keys + check_bytes * i) s) → key ≡ listed_key (view s) u r
  key_there q =
      q ∙ part_lent s (keys + check_bytes * i) 4 (keys + check_bytes * r) (ap (λ (n : ℕ). keys + check_bytes * n) same) ∙ (missing_keys h e).bytes r

pub overflow_add-at : goal.overflow_add-at
overflow_add-at c =
    let fits : c.args.keys + check_bytes * c.from.result + 4 ≤ length c.args.s.now = key_inside c.requires.1 c.requires.3 c.from.ensures in search rules

pub overflow_add-at-2 : goal.overflow_add-at-2
overflow_add-at-2 c =
    let fits : c.args.keys + check_bytes * c.from.result + 4 ≤ length c.args.s.now = key_inside c.requires.1 c.requires.3 c.from.ensures in search rules

pub slice_bounds-copy_from_slice-end-2 : goal.slice_bounds-copy_from_slice-end-2
slice_bounds-copy_from_slice-end-2 c =
    omega (arith, key_inside c.requires.1 c.requires.3 c.from.ensures)

pub rebuild_field-requires : goal.rebuild_field-requires
rebuild_field-requires c =
    let p = c.requires in
    let key = key_there p.1 p.3 c.from.ensures c.copy_from_slice.ensures.after in (
      field_room c.args.out.now c.copy_from_slice.new.self p.0 (ap length key ∙ missing_key_long p.1),
      p.1.sized,
      omega (arith, p.1.unit),
      missing_rank p.1,
      decoder_low p.1 p.2,
      decoder_small p.1 p.2,
    )

pub returns : goal.returns
returns c =
    let p = c.requires in
    let key = key_there p.1 p.3 c.from.ensures c.copy_from_slice.ensures.after in
    two_parts c.args.out.now c.copy_from_slice.new.self p.0 (ap length key ∙ missing_key_long p.1) c.rebuild_field.new.out
    ∙ ap₂ (λ (x y : List ℕ). x ++ y) key (c.rebuild_field.ensures ∙ field_rebuilt p.1 p.2)
    ∙ sym (whole_missing p.1)
