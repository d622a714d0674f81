-- The store that a granted call leaves, part by part, of any sound store: read back from the bytes (`left_same`), and so for each call (`teach_left` to
-- `shrink_left`); and the units that keep their bytes (`unit_same`, `unit_kept`). For a raise it is in `Raised`.
use Prim.Native.Nat.{ℕ, pred, ◌-◌, ◌≤◌, ◌<◌}
use mathlib.Core.Path.{◌≡◌, refl, sym, ◌∙◌}
use mathlib.Core.List.{List}
use mathlib.Core.Bool.{true, false}
use native.Mathlib.Omega.{arith}
use lib.Dec.{ltb, leb}
use lib.ListN.{length}
use borrow.Author.Tests.{eq-eqb, lt-ltb, le-ltb, ltb-true, ltb-false, leb-false, not-false}
use Rattle.buffer.specs.ChoiceLaws.{pick_true, pick-false, pick-ext}
use Rattle.buffer.specs.Table.{tab}
use Rattle.buffer.specs.TableLaws.{tab_ext}
use Rattle.group.specs.Widths.{slot_bytes}
use Rattle.model.specs.Layout.{Store, bytes, view, units_in, slot_of}
use Rattle.model.specs.LayoutLaws.{Shaped, Same, view_bytes, view_shaped}
use Rattle.model.specs.Reads.{home_in, fill_in, rank_in, state_in, beyond_in}
use Rattle.model.proofs.ReadLaws.{fill_le}
use Rattle.model.specs.Sound.{sound}
use Rattle.model.proofs.SoundSays.{ranged, units_some, units_few}
use Rattle.model.specs.Changes.{written, erased, unit_lost, repaired, grown, shrunk}
use Rattle.model.specs.ChangeLaws.{length_args, written_shaped}
use Rattle.model.specs.Numbers.{Call, teach, correct, erase, unit_out, repair, grow, shrink, refusals_in, number_in}
use Rattle.model.specs.RowLaws.{Free}
use Rattle.model.specs.Perform.{granted_in, after_in, perform}
use Rattle.model.specs.PerformLaws.{none_holds}
use Rattle.model.specs.MadeAnew.{left_by}
use Rattle.model.specs.history.Runs.{unit_in}
use Rattle.model.proofs.history.alike.Alike.{Alike, alike_refl, left_shaped}
use Rattle.model.proofs.history.alike.Written.{erased_alike, lost_alike}
use Rattle.model.proofs.history.alike.Repaired.{repaired_alike}
use Rattle.model.proofs.history.alike.Numbers.{home_inside, split_inside, split_before}
use Rattle.model.proofs.history.alike.Dealt.{grown_shaped, shrunk_alike}

-- ---- a sound store

module _ (s : List ℕ) (ok : sound s ≡ true) where
  pub shaped : Shaped (view s)
  shaped = view_shaped s (ranged s ok).long

  pub itself : Alike (view s) (view s)
  itself = alike_refl (view s) shaped

-- ---- a granted call

module _ (s : List ℕ) (c : Call) (zero : number_in s c ≡ 0) where
  -- none of its rows holds
  pub free : Free (refusals_in (sound s) (view s) c)
  unfolding number_in
  free = none_holds (sound s) (view s) c (number_in s c) refl zero

  left_store : (perform s c).store ≡ granted_in s c
  unfolding perform after_in
  left_store = pick_true (eq-eqb (number_in s c) 0 zero) (granted_in s c) s

  -- it leaves the bytes of the store t
  pub left_same : (t : Store) → granted_in s c ≡ bytes t → Shaped t → Same (left_by s c) t
  left_same t e h = rw (left_store, e) (view_bytes t h)

-- ---- the ranks of a key's unit, in a sound store

module _ (s : List ℕ) (ok : sound s ≡ true) (k : ℕ) where
  pub home_in_lem : home_in (view s) k < 16
  home_in_lem = home_inside (view s) (view s) (itself s ok) (units_some s ok) (units_few s ok) k

-- the rank of a key that is present, and the last rank of its unit
module _ (v : Store) (k : ℕ) (present : leb (fill_in v (home_in v k)) (rank_in v (home_in v k) k) ≡ false) where
  below : rank_in v (home_in v k) k < fill_in v (home_in v k)
  below = leb-false (fill_in v (home_in v k)) (rank_in v (home_in v k) k) present

  rank_in_lem : rank_in v (home_in v k) k < v.size
  rank_in_lem = omega (arith, below, fill_le v (home_in v k))

  last_in : pred (fill_in v (home_in v k)) < v.size
  last_in = omega (arith, below, fill_le v (home_in v k))

-- ---- a granted teach or correct writes one slot of the key's unit

module _ (s : List ℕ) (c : Call) (zero : number_in s c ≡ 0) (ok : sound s ≡ true) (k r : ℕ) (y : List ℕ) where
  write_left : granted_in s c ≡ bytes (written (view s) (home_in (view s) k) r y) → r < (view s).size → length y ≡ slot_bytes
      → Same (left_by s c) (written (view s) (home_in (view s) k) r y)
  write_left e m l =
      left_same s c zero (written (view s) (home_in (view s) k) r y) e (written_shaped (view s) (home_in (view s) k) r y (shaped s ok) (home_in_lem s ok k) m l)

module _ (s : List ℕ) (k : ℕ) (x : List ℕ) (zero : number_in s (teach k x) ≡ 0) where
  pub teach_sound : sound s ≡ true
  unfolding refusals_in
  teach_sound = not-false (sound s) (free s (teach k x) zero).1.1.0

  pub teach_slot : length (slot_of k x) ≡ slot_bytes
  unfolding refusals_in
  teach_slot = length_args k x (free s (teach k x) zero).1.0

  pub teach_room : fill_in (view s) (home_in (view s) k) < (view s).size
  unfolding refusals_in
  teach_room = leb-false (view s).size (fill_in (view s) (home_in (view s) k)) (free s (teach k x) zero).1.1.1.1.1.0

  pub teach_left : Same (left_by s (teach k x)) (written (view s) (home_in (view s) k) (fill_in (view s) (home_in (view s) k)) (slot_of k x))
  unfolding granted_in
  teach_left = write_left s (teach k x) zero teach_sound k (fill_in (view s) (home_in (view s) k)) (slot_of k x) refl teach_room teach_slot

module _ (s : List ℕ) (k : ℕ) (x : List ℕ) (zero : number_in s (correct k x) ≡ 0) where
  pub correct_sound : sound s ≡ true
  unfolding refusals_in
  correct_sound = not-false (sound s) (free s (correct k x) zero).1.1.0

  pub correct_slot : length (slot_of k x) ≡ slot_bytes
  unfolding refusals_in
  correct_slot = length_args k x (free s (correct k x) zero).1.0

  pub correct_rank : rank_in (view s) (home_in (view s) k) k < (view s).size
  unfolding refusals_in
  correct_rank = rank_in_lem (view s) k (free s (correct k x) zero).1.1.1.1.0

  pub correct_left : Same (left_by s (correct k x)) (written (view s) (home_in (view s) k) (rank_in (view s) (home_in (view s) k) k) (slot_of k x))
  unfolding granted_in
  correct_left = write_left s (correct k x) zero correct_sound k (rank_in (view s) (home_in (view s) k) k) (slot_of k x) refl correct_rank correct_slot

-- ---- a granted erase

module _ (s : List ℕ) (k : ℕ) (zero : number_in s (erase k) ≡ 0) where
  pub erase_sound : sound s ≡ true
  unfolding refusals_in
  erase_sound = not-false (sound s) (free s (erase k) zero).1.0

  pub erase_rank : rank_in (view s) (home_in (view s) k) k < (view s).size
  unfolding refusals_in
  erase_rank = rank_in_lem (view s) k (free s (erase k) zero).1.1.1.0

  pub erase_last : pred (fill_in (view s) (home_in (view s) k)) < (view s).size
  unfolding refusals_in
  erase_last = last_in (view s) k (free s (erase k) zero).1.1.1.0

  pub erase_left : Same (left_by s (erase k))
      (erased (view s) (home_in (view s) k) (rank_in (view s) (home_in (view s) k) k) (pred (fill_in (view s) (home_in (view s) k))))
  unfolding granted_in
  erase_left =
      let v : Store = view s in
      let u : ℕ = home_in v k in
      let r : ℕ = rank_in v u k in
      let last : ℕ = pred (fill_in v u) in
      left_same s (erase k) zero (erased v u r last) refl
      (left_shaped (erased v u r last) (erased v u r last) (erased_alike v v (itself s erase_sound) u r last (home_in_lem s erase_sound k) erase_rank erase_last))

-- ---- a granted unit out

module _ (s : List ℕ) (w : ℕ) (zero : number_in s (unit_out w) ≡ 0) where
  pub out_unit : w < 28
  unfolding refusals_in
  out_unit = omega (arith, ltb-false 27 w (free s (unit_out w) zero).0)

  pub out_left : Same (left_by s (unit_out w)) (unit_lost (view s) w)
  unfolding refusals_in granted_in
  out_left =
      let v : Store = view s in
      let ok : sound s ≡ true = not-false (sound s) (free s (unit_out w) zero).1.0 in
      left_same s (unit_out w) zero (unit_lost v w) refl (left_shaped (unit_lost v w) (unit_lost v w) (lost_alike v v (itself s ok) w))

-- ---- a granted repair

module _ (s : List ℕ) (g : ℕ) (zero : number_in s (repair g) ≡ 0) where
  pub repair_group : g < 4
  unfolding refusals_in
  repair_group = omega (arith, ltb-false 3 g (free s (repair g) zero).0)

  pub repair_sound : sound s ≡ true
  unfolding refusals_in
  repair_sound = not-false (sound s) (free s (repair g) zero).1.0

  pub repair_near : beyond_in (view s) g ≡ false
  unfolding refusals_in
  repair_near = (free s (repair g) zero).1.1.1.0

  pub repair_left : Same (left_by s (repair g)) (repaired (view s) g)
  unfolding granted_in
  repair_left =
      let v : Store = view s in
      left_same s (repair g) zero (repaired v g) refl
      (left_shaped (repaired v g) (repaired v g) (repaired_alike v v (itself s repair_sound) g repair_group repair_near))

-- ---- a granted grow

module _ (s : List ℕ) (zero : number_in s grow ≡ 0) where
  pub grow_sound : sound s ≡ true
  unfolding refusals_in
  grow_sound = not-false (sound s) (free s grow zero).0

  pub grow_room : units_in (view s) < 16
  unfolding refusals_in
  grow_room = leb-false 16 (units_in (view s)) (free s grow zero).1.0

  pub grow_left : Same (left_by s grow) (grown (view s) (units_in (view s)))
  unfolding granted_in
  grow_left =
      let v : Store = view s in
      let a : Alike (view s) (view s) = itself s grow_sound in
      left_same s grow zero (grown v (units_in v)) refl
      (grown_shaped v v a (units_in v) grow_room (split_inside v v a (units_some s grow_sound) (units_few s grow_sound)))

-- ---- a granted shrink

module _ (s : List ℕ) (zero : number_in s shrink ≡ 0) where
  pub shrink_sound : sound s ≡ true
  unfolding refusals_in
  shrink_sound = not-false (sound s) (free s shrink zero).0

  pub shrink_two : 1 < units_in (view s)
  unfolding refusals_in
  shrink_two = leb-false (units_in (view s)) 1 (free s shrink zero).1.0

  pub shrink_left : Same (left_by s shrink) (shrunk (view s) (pred (units_in (view s))))
  unfolding granted_in
  shrink_left =
      let v : Store = view s in
      let m : ℕ = pred (units_in v) in
      let a : Alike (view s) (view s) = itself s shrink_sound in
      let some : 1 ≤ units_in v = units_some s shrink_sound in
      let few : units_in v ≤ 16 = units_few s shrink_sound in
      left_same s shrink zero (shrunk v m) refl
      (left_shaped (shrunk v m) (shrunk v m) (shrunk_alike v v a m (omega arith) (split_before v v a some few shrink_two)))

-- ---- a unit that keeps what it holds keeps its bytes

module _ (v t : Store) (w : ℕ) (l : w < 28) (size : t.size ≡ v.size) (slots : (r : ℕ) → r < v.size → w < 16 → t.slot w r ≡ v.slot w r)
    (checks : (r : ℕ) → r < v.size → 16 ≤ w → t.check (w - 16) r ≡ v.check (w - 16) r) where
  pub unit_same : unit_in t w ≡ unit_in v w
  unfolding unit_in
  unit_same =
      rw size (pick-ext (ltb w 16) (tab v.size (t.slot w)) _ (tab v.size (v.slot w)) _
      (λ e. tab_ext v.size (t.slot w) (v.slot w) (λ r m. slots r m (ltb-true w 16 e)))
      (λ e. tab_ext v.size (t.check (w - 16)) (v.check (w - 16)) (λ r m. checks r m (ltb-false w 16 e))))

-- ---- units in service that keep what they hold keep their bytes

module _ (v t : Store) (size : t.size ≡ v.size) (slots : (u r : ℕ) → u < 16 → r < v.size → v.dstate u ≡ 1 → t.slot u r ≡ v.slot u r)
    (checks : (c r : ℕ) → c < 12 → r < v.size → v.cstate c ≡ 1 → t.check c r ≡ v.check c r) where
  pub unit_kept : (w : ℕ) → w < 28 → state_in v w ≡ 1 → unit_in t w ≡ unit_in v w
  unfolding state_in
  unit_kept w l e =
      unit_same v t w l size
      (λ r m d. slots w r d m (sym (pick_true (lt-ltb w 16 d) (v.dstate w) (v.cstate (w - 16))) ∙ e))
      (λ r m d. checks (w - 16) r (omega arith) m (sym (pick-false (le-ltb w 16 d) (v.dstate w) (v.cstate (w - 16))) ∙ e))
