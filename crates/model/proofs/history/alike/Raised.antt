-- Raise leads from alike stores to alike stores: the added check units list the keys of the same records.
use Prim.Native.Nat.{ℕ, suc, ◌+◌, ◌*◌, ◌/◌, ◌%◌}
use mathlib.Core.Path.{◌≡◌, ap, ◌∙◌}
use mathlib.Core.List.{List}
use native.Mathlib.Omega.{arith}
use lib.ListN.{set, length-set}
use lib.Seq.{get_or-set_other}
use Rattle.group.specs.CheckRecord.{check_record}
use Rattle.model.specs.Layout.{Store, level_in}
use Rattle.model.specs.Changes.{added, raised}
use Rattle.model.proofs.history.alike.Alike.{LikeCheck, Alike, pick_both, units_alike, level_alike, idle_kept}
use Rattle.model.proofs.history.alike.Repaired.{anew_like}

module _ (v w : Store) (a : Alike v w) where
  added_alike : (c : ℕ) → added v c ≡ added w c
  unfolding added
  added_alike c = rw (units_alike v w a, level_alike v w a)

  abbrev made : Store → ℕ → ℕ → List ℕ
  made s c r = check_record (c % 3) (λ p. s.slot (4 * (c / 3) + p) r)

  pub raised_alike : Alike (raised v) (raised w)
  unfolding raised
  raised_alike = record {
    front = rw (level_alike v w a) (ap (λ (x : List ℕ). set x 7 (suc (level_in w))) a.front);
    whole = length-set v.front 7 (suc (level_in v)) ∙ a.whole;
    sized = get_or-set_other v.front 7 5 (suc (level_in v)) 0 (omega arith) ∙ a.sized;
    size = a.size;
    dstate = a.dstate;
    cstate = λ c l. rw (added_alike c, a.cstate c l);
    slot = a.slot;
    check = λ c r l m. rw (← (added_alike c))
        (pick_both LikeCheck (added v c) (made v c r) (made w c r) (v.check c r) (w.check c r)
        (λ _. anew_like (c % 3) _ _ (λ p i. a.slot (4 * (c / 3) + p) r (omega arith) m)) (λ _. a.check c r l m));
    idle = λ c r l m. rw (← (added_alike c)) (idle_kept v w a (added v c) (made v c r) (made w c r) c r l m);
    rest = a.rest;
  }
