-- What the granted calls leave in a store, part by part (document 01, "Units, keys and ranks").
use Rattle.std.specs.Prelude.{ℕ, zero, suc, ◌+◌, ◌*◌, ◌/◌, ◌%◌, List, [], ◌∷◌, ◌++◌, Bool, not, ◌&&◌, eqb, ltb, take, drop, get_or, set}
use Rattle.buffer.specs.Choice.{pick}
use Rattle.buffer.specs.Bytes.{zeros}
use Rattle.buffer.specs.Table.{upd}
use Rattle.group.specs.Widths.{key_bytes, slot_bytes, check_bytes}
use Rattle.group.specs.Body.{add_body}
use Rattle.group.specs.CheckRecord.{check_record, patched}
use Rattle.model.specs.Units.{split_pointer, moves, touched, begins}
use Rattle.model.specs.Layout.{Store, changed, units_in, level_in, key_of}
use Rattle.model.specs.Reads.{fill_in, whole_slot}

-- Teach, correct and erase write a slot at a time: slot (u, r) becomes x, and each check unit in service of u's group gets its key, and the
-- change of its field times the coefficient, at that rank.
unfoldable pub written : Store → ℕ → ℕ → List ℕ → Store
written s u r x =
    changed s s.front s.dstate s.cstate
    (λ v q. pick (eqb v u && eqb q r) x (s.slot v q))
    (λ c q. pick (eqb (c / 3) (u / 4) && eqb q r && eqb (s.cstate c) 1)
    (patched (c % 3) (u % 4) (take key_bytes x) (add_body (drop key_bytes (s.slot u r)) (drop key_bytes x)) (s.check c q)) (s.check c q))

-- the record of slot (u, last) moves into slot (u, r), and slot (u, last) becomes empty
unfoldable pub erased : Store → ℕ → ℕ → ℕ → Store
erased s u r last = written (written s u r (s.slot u last)) u last (zeros slot_bytes)

-- unit out: that unit's bytes are zeroed
unfoldable pub unit_lost : Store → ℕ → Store
unit_lost v w =
    changed v v.front (upd v.dstate w 2) (λ c. pick (eqb (16 + c) w) 2 (v.cstate c))
    (λ u r. pick (eqb u w) (zeros slot_bytes) (v.slot u r))
    (λ c r. pick (eqb (16 + c) w) (zeros check_bytes) (v.check c r))

-- repair: rebuilt slots in the data units, the missing check units made from them, every out unit in service
unfoldable pub repaired : Store → ℕ → Store
repaired v g =
    changed v v.front
    (λ u. pick (eqb (u / 4) g && eqb (v.dstate u) 2) 1 (v.dstate u))
    (λ c. pick (eqb (c / 3) g && eqb (v.cstate c) 2) 1 (v.cstate c))
    (λ u r. pick (eqb (u / 4) g) (whole_slot v u r) (v.slot u r))
    (λ c r. pick (eqb (c / 3) g && eqb (v.cstate c) 2) (check_record (c % 3) (λ p. whole_slot v (4 * g + p) r)) (v.check c r))

-- those for which p holds, in order
unfoldable pub filter_by : {A : Type 0} → (A → Bool) → List A → List A
filter_by p [] = []
filter_by p (x ∷ xs) = pick (p x) (x ∷ filter_by p xs) (filter_by p xs)

-- the list of f 0, f 1, .., f (n - 1)
unfoldable pub rows : {A : Type 0} → ℕ → (ℕ → A) → List A
rows zero f = []
rows (suc n) f = rows n f ++ (f n ∷ [])

-- the records of a unit, by rank
unfoldable pub records_in : Store → ℕ → List (List ℕ)
records_in v u = rows (fill_in v u) (v.slot u)

-- the slots after unit m is split from unit n: records that stay and records that move get ranks from the first on, each in their old order
unfoldable pub dealt : Store → ℕ → ℕ → ℕ → List ℕ
dealt v m u r =
    pick (eqb u m) (get_or (filter_by (λ x. moves m (key_of x)) (records_in v (split_pointer m))) r (zeros slot_bytes))
    (pick (eqb u (split_pointer m)) (get_or (filter_by (λ x. not (moves m (key_of x))) (records_in v (split_pointer m))) r (zeros slot_bytes))
    (v.slot u r))

-- the state of a check unit then: a new group starts with K check units, and none is added to an old one
unfoldable pub grown_state : Store → ℕ → ℕ → ℕ
grown_state v m c = pick (begins m (c / 3)) (pick (ltb (c % 3) (level_in v)) 1 0) (v.cstate c)

-- grow: unit m is added; the check units of the groups of both units are made anew from the data
unfoldable pub grown : Store → ℕ → Store
grown v m =
    changed v (set v.front 6 (suc m)) (upd v.dstate m 1) (grown_state v m) (dealt v m)
    (λ c r. pick (touched m (c / 3) && eqb (grown_state v m c) 1) (check_record (c % 3) (λ p. dealt v m (4 * (c / 3) + p) r)) (v.check c r))

-- the slots after unit m, the last, is removed: its records, in order, behind those of the unit that it was split from
unfoldable pub merged : Store → ℕ → ℕ → ℕ → List ℕ
merged v m u r =
    pick (eqb u m) (zeros slot_bytes)
    (pick (eqb u (split_pointer m)) (get_or (records_in v (split_pointer m) ++ records_in v m) r (zeros slot_bytes))
    (v.slot u r))

unfoldable pub shrunk_state : Store → ℕ → ℕ → ℕ
shrunk_state v m c = pick (begins m (c / 3)) 0 (v.cstate c)

-- shrink: unit m, the last, is removed; a group left with no data unit loses its check units; the others of both groups are made anew
unfoldable pub shrunk : Store → ℕ → Store
shrunk v m =
    changed v (set v.front 6 m) (upd v.dstate m 0) (shrunk_state v m) (merged v m)
    (λ c r. pick (touched m (c / 3))
    (pick (eqb (shrunk_state v m c) 1) (check_record (c % 3) (λ p. merged v m (4 * (c / 3) + p) r)) (zeros check_bytes)) (v.check c r))

-- the check units that a raise adds: check unit K, counted from 0, of every group in place
unfoldable pub added : Store → ℕ → Bool
added v c = ltb (4 * (c / 3)) (units_in v) && eqb (c % 3) (level_in v)

-- raise: one is added to the level; the added check units are in service, made from the data, and all others stay as they are
unfoldable pub raised : Store → Store
raised v =
    changed v (set v.front 7 (suc (level_in v))) v.dstate (λ c. pick (added v c) 1 (v.cstate c)) v.slot
    (λ c r. pick (added v c) (check_record (c % 3) (λ p. v.slot (4 * (c / 3) + p) r)) (v.check c r))
