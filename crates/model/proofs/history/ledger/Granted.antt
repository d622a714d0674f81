-- A granted call on a ledger: none of the conditions of its rows holds, and the ledger changes; a refused call changes nothing. No call changes the
-- ranks of a unit.
use mathlib.Core.Path.{◌≡◌, refl}
use mathlib.Core.Bool.{true, false}
use lib.Dec.{eqb}
use borrow.Author.Tests.{eqb-true}
use Rattle.buffer.specs.ChoiceLaws.{by-pick, pick_true, pick-false}
use Rattle.model.specs.Numbers.{Call, teach, correct, erase, read, read_in_place, list, unit_out, repair, grow, shrink, raise}
use Rattle.model.specs.RowLaws.{Free, Numbered, first_free}
use Rattle.model.specs.history.Ledger.{Ledger, with_records, grown_ledger, shrunk_ledger, granted}
use Rattle.model.specs.history.Table.{refusals, number}
use Rattle.model.specs.history.Answers.{after}

pub numbered : (l : Ledger) (c : Call) → Numbered (refusals l c)
unfolding refusals
numbered l (teach k x) = (refl, (refl, (refl, (refl, (refl, (refl, tt))))))
numbered l (correct k x) = (refl, (refl, (refl, (refl, (refl, tt)))))
numbered l (erase k) = (refl, (refl, (refl, (refl, tt))))
numbered l (read k out) = (refl, (refl, (refl, (refl, (refl, tt)))))
numbered l (read_in_place k) = tt
numbered l (list out) = (refl, (refl, (refl, tt)))
numbered l (unit_out w) = (refl, (refl, (refl, (refl, tt))))
numbered l (repair g) = (refl, (refl, (refl, (refl, tt))))
numbered l grow = (refl, (refl, (refl, (refl, tt))))
numbered l shrink = (refl, (refl, (refl, (refl, (refl, tt)))))
numbered l raise = (refl, (refl, (refl, tt)))

pub granted_free : (l : Ledger) (c : Call) → eqb (number l c) 0 ≡ true → Free (refusals l c)
unfolding number
granted_free l c e = first_free (refusals l c) (numbered l c) (eqb-true (number l c) 0 e)

pub granted_after : (l : Ledger) (c : Call) → eqb (number l c) 0 ≡ true → after l c ≡ granted l c
unfolding after
granted_after l c e = pick_true e (granted l c) l

pub refused_after : (l : Ledger) (c : Call) → eqb (number l c) 0 ≡ false → after l c ≡ l
unfolding after
refused_after l c e = pick-false e (granted l c) l

granted_size : (l : Ledger) (c : Call) → (granted l c).size ≡ l.size
unfolding granted with_records grown_ledger shrunk_ledger
granted_size l (teach k x) = refl
granted_size l (correct k x) = refl
granted_size l (erase k) = refl
granted_size l (read k out) = refl
granted_size l (read_in_place k) = refl
granted_size l (list out) = refl
granted_size l (unit_out w) = refl
granted_size l (repair g) = refl
granted_size l grow = refl
granted_size l shrink = refl
granted_size l raise = refl

pub after_size : (l : Ledger) (c : Call) → (after l c).size ≡ l.size
unfolding after
after_size l c = by-pick (λ (m : Ledger). m.size ≡ l.size) (eqb (number l c) 0) (granted l c) l (λ e. granted_size l c) (λ e. refl)
