use mathlib.Core.Path.{◌≡◌}
use Prim.Native.Nat.{ℕ, zero, suc}
use Rattle.model.specs.Layout.{Store, view}
use Rattle.lookup.specs.Decoders.{ends_before}
use Rattle.lookup.proofs.decoders.changes_at.Given as goal

-- the end by the first n places of the group
unfoldable pub end_by : Store → ℕ → ℕ → ℕ → ℕ
end_by v g r zero = v.size
end_by v g r (suc n) = ends_before v g n r (end_by v g r n)

abbrev pub invariant-loop-p : goal.invariant-loop-p
invariant-loop-p l =
    l.end ≡ end_by (view l.s) l.g l.r l.p
