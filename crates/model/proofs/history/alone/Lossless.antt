-- The ledger with no unit out: it is what the lasting calls alone leave, and run alone they are all granted.
use Prim.Native.Nat.{ℕ, pred, ◌+◌, ◌*◌, ◌/◌}
use mathlib.Core.Path.{◌≡◌, refl, sym, ap, ◌∙◌, subst}
use mathlib.Core.List.{List, [], ◌∷◌}
use mathlib.Core.Bool.{Bool, true, false, ◌&&◌, and-false}
use native.Mathlib.Omega.{arith}
use lib.Dec.{eqb, ltb}
use borrow.Author.Tests.{eq-eqb, le-leb}
use Rattle.buffer.specs.Choice.{pick}
use Rattle.buffer.specs.ChoiceLaws.{by-pick}
use Rattle.buffer.specs.RangeLaws.{all_holds, count_fails}
use Rattle.buffer.specs.TestLaws.{not-both, and-true}
use Rattle.model.specs.Units.{split_pointer}
use Rattle.model.specs.Numbers.{Call, teach, correct, erase, read, read_in_place, list, unit_out, repair, grow, shrink, raise, first_of}
use Rattle.model.specs.RowLaws.{Free, free_first}
use Rattle.model.specs.history.Ledger.{Ledger, opened, home, placed, is_out, state, outs_of, units_out, total, with_records, grown_ledger, shrunk_ledger}
use Rattle.model.specs.history.Ledger.{missing_of, checks_serving_of, rebuildable_of, keys_lost_of, beyond_of, lost, granted}
use Rattle.model.specs.history.Table.{refusals, number}
use Rattle.model.specs.history.Answers.{after, final}
use Rattle.model.specs.history.Runs.{lasting}
use Rattle.model.specs.history.Typed.{AllTyped}
use Rattle.model.proofs.history.ledger.Granted.{granted_free, granted_after, refused_after}
use Rattle.model.proofs.history.ledger.States.{by_state, not_missing, keys_not_lost, key_not_beyond}

-- the same ledger with no unit out
unfoldable pub lossless : Ledger → Ledger
lossless l = record { size = l.size; units = l.units; level = l.level; records = l.records; out = λ w. false }

-- the granted calls of a list other than losses and repairs, by the ledger
unfoldable pub alone : Ledger → List Call → List Call
alone l [] = []
alone l (c ∷ cs) = pick (eqb (number l c) 0 && lasting c) (c ∷ alone (after l c) cs) (alone (after l c) cs)

-- every call of a list is granted, by the ledger
unfoldable pub all_granted_by : Ledger → List Call → Bool
all_granted_by l [] = true
all_granted_by l (c ∷ cs) = eqb (number l c) 0 && all_granted_by (after l c) cs

module _ (l : Ledger) where
  is_out_lossless : (w : ℕ) → is_out (lossless l) w ≡ false
  unfolding is_out lossless
  is_out_lossless w = and-false (placed (lossless l) w)

  outs_lossless : (g : ℕ) → outs_of (lossless l) g ≡ 0
  unfolding outs_of
  outs_lossless g = rw (
    count_fails 4 (λ p. is_out (lossless l) (4 * g + p)) (λ p a. is_out_lossless (4 * g + p)),
    count_fails 3 (λ j. is_out (lossless l) (16 + (3 * g + j))) (λ j a. is_out_lossless (16 + (3 * g + j))),
  )

  none_out : (g : ℕ) → ltb 0 (outs_of (lossless l) g) ≡ false
  none_out g = rw (outs_lossless g)

  -- nothing is beyond recovery
  rebuildable_lossless : (g r : ℕ) → rebuildable_of (lossless l) g r ≡ true
  unfolding rebuildable_of
  rebuildable_lossless g r =
      le-leb _ (checks_serving_of (lossless l) g)
      (omega (arith, count_fails 4 (λ p. missing_of (lossless l) (4 * g + p) r) (λ p a. not_missing (lossless l) (4 * g + p) r (is_out_lossless (4 * g + p)))))

  beyond_lossless : (g : ℕ) → beyond_of (lossless l) g ≡ false
  unfolding beyond_of
  beyond_lossless g = rw (
    count_fails 4 (λ p. keys_lost_of (lossless l) (4 * g + p)) (λ p a. keys_not_lost (lossless l) (4 * g + p) (is_out_lossless (4 * g + p))),
    all_holds (lossless l).size (rebuildable_of (lossless l) g) (λ r a. rebuildable_lossless g r),
  )

  lost_lossless : lost (lossless l) ≡ false
  unfolding lost
  lost_lossless = rw (count_fails 4 (beyond_of (lossless l)) (λ g a. beyond_lossless g))

  -- what is granted is granted with no unit out
  free_lossless : (c : Call) → lasting c ≡ true → Free (refusals l c) → Free (refusals (lossless l) c)
  unfolding refusals lasting lossless home total units_out
  free_lossless (teach k x) a f = (f.0, (f.1.0, (refl, (none_out (home l k / 4), f.1.1.1.1))))
  free_lossless (correct k x) a f = (f.0, (f.1.0, (refl, (none_out (home l k / 4), f.1.1.1.1))))
  free_lossless (erase k) a f = (f.0, (refl, (none_out (home l k / 4), f.1.1.1)))
  free_lossless (read k out) a f = (f.0, (f.1.0, (refl, (key_not_beyond (lossless l) k (is_out_lossless (home l k)), f.1.1.1.1))))
  free_lossless (read_in_place k) a f = tt
  free_lossless (list out) a f = (refl, (lost_lossless, f.1.1))
  free_lossless (unit_out w) a f = not-both a refl
  free_lossless (repair g) a f = not-both a refl
  free_lossless grow a f = (refl, (f.1.0, (none_out (l.units / 4), (none_out (split_pointer l.units / 4), tt))))
  free_lossless shrink a f = (refl, (f.1.0, (none_out (pred l.units / 4), (none_out (split_pointer (pred l.units) / 4), f.1.1.1.1))))
  free_lossless raise a f =
      let none : ltb 0 (units_out (lossless l)) ≡ false = rw (count_fails 28 (is_out (lossless l)) (λ w b. is_out_lossless w)) in
      (refl, (search, (search, tt)))

  number_lossless : (c : Call) → lasting c ≡ true → eqb (number l c) 0 ≡ true → eqb (number (lossless l) c) 0 ≡ true
  unfolding number
  number_lossless c a e = eq-eqb (first_of (refusals (lossless l) c)) 0 (free_first (refusals (lossless l) c) (free_lossless c a (granted_free l c e)))

  granted_lossless : (c : Call) → lasting c ≡ true → lossless (granted l c) ≡ granted (lossless l) c
  unfolding granted lasting lossless with_records home grown_ledger shrunk_ledger
  granted_lossless (teach k x) a = refl
  granted_lossless (correct k x) a = refl
  granted_lossless (erase k) a = refl
  granted_lossless (read k out) a = refl
  granted_lossless (read_in_place k) a = refl
  granted_lossless (list out) a = refl
  granted_lossless (unit_out w) a = not-both a refl
  granted_lossless (repair g) a = not-both a refl
  granted_lossless grow a = refl
  granted_lossless shrink a = refl
  granted_lossless raise a = refl

  -- losses and repairs touch no list
  passing_lossless : (c : Call) → lasting c ≡ false → lossless (granted l c) ≡ lossless l
  unfolding granted lasting lossless
  passing_lossless (teach k x) a = not-both refl a
  passing_lossless (correct k x) a = not-both refl a
  passing_lossless (erase k) a = not-both refl a
  passing_lossless (read k out) a = not-both refl a
  passing_lossless (read_in_place k) a = not-both refl a
  passing_lossless (list out) a = not-both refl a
  passing_lossless (unit_out w) a = refl
  passing_lossless (repair g) a = refl
  passing_lossless grow a = not-both refl a
  passing_lossless shrink a = not-both refl a
  passing_lossless raise a = not-both refl a

  after_lasting : (c : Call) → lasting c ≡ true → eqb (number l c) 0 ≡ true → after (lossless l) c ≡ lossless (after l c)
  after_lasting c a e = granted_after (lossless l) c (number_lossless c a e) ∙ sym (granted_lossless c a) ∙ ap lossless (sym (granted_after l c e))

  after_passing : (c : Call) → lasting c ≡ false → eqb (number l c) 0 ≡ true → lossless (after l c) ≡ lossless l
  after_passing c a e = ap lossless (granted_after l c e) ∙ passing_lossless c a

  after_refused : (c : Call) → eqb (number l c) 0 ≡ false → lossless (after l c) ≡ lossless l
  after_refused c e = ap lossless (refused_after l c e)

-- what holds, with no unit out, of the lasting calls behind a call holds of them from that call on, if a call that is granted there keeps it
by_lasting : (P : Ledger → List Call → Type 0) (c : Call) (cs : List Call) (l : Ledger)
    → ((ds : List Call) → eqb (number (lossless l) c) 0 ≡ true → P (after (lossless l) c) ds → P (lossless l) (c ∷ ds))
    → P (lossless (after l c)) (alone (after l c) cs) → P (lossless l) (alone l (c ∷ cs))
unfolding alone pick
by_lasting P c cs l more h = go (eqb (number l c) 0) (lasting c) refl refl
  where
    rest : List Call
    rest = alone (after l c) cs

    go : (t w : Bool) → eqb (number l c) 0 ≡ t → lasting c ≡ w → P (lossless l) (pick (t && w) (c ∷ rest) rest)
    go true true e f = more rest (number_lossless l c f e) (subst (λ (m : Ledger). P m rest) (sym (after_lasting l c f e)) h)
    go true false e f = subst (λ (m : Ledger). P m rest) (after_passing l c f e) h
    go false w e f = subst (λ (m : Ledger). P m rest) (after_refused l c e) h

-- THE LASTING CALLS ALONE leave the same ledger, with no unit out
pub final_lossless : (cs : List Call) (l : Ledger) → final (lossless l) (alone l cs) ≡ lossless (final l cs)
unfolding final alone
final_lossless [] l = refl
final_lossless (c ∷ cs) l = by_lasting (λ m ds. final m ds ≡ lossless (final (after l c) cs)) c cs l (λ ds e h. h) (final_lossless cs (after l c))

-- and each of them is granted there
pub alone_again : (cs : List Call) (l : Ledger) → all_granted_by (lossless l) (alone l cs) ≡ true
unfolding all_granted_by alone
alone_again [] l = refl
alone_again (c ∷ cs) l = by_lasting (λ m ds. all_granted_by m ds ≡ true) c cs l (λ ds e h. and-true e h) (alone_again cs (after l c))

-- ---- from a layout

pub lossless_opened : (b : ℕ) → lossless (opened b) ≡ opened b
unfolding lossless opened
lossless_opened b = refl

-- a unit in service is in service with no unit out
pub lossless_state : (l : Ledger) (w : ℕ) → state l w ≡ 1 → state (lossless l) w ≡ 1
unfolding lossless state placed pick
lossless_state l w = by_state l (λ p o n. n ≡ 1 → ◌≡◌ {A = ℕ} (pick p 1 0) 1) w (λ e. refl) (λ e. refl) (λ o e. e)

pub alone_typed : (cs : List Call) (l : Ledger) → AllTyped cs → AllTyped (alone l cs)
unfolding alone
alone_typed [] l t = tt
alone_typed (c ∷ cs) l t =
    let rest : AllTyped (alone (after l c) cs) = alone_typed cs (after l c) t.1 in
    by-pick AllTyped (eqb (number l c) 0 && lasting c) (c ∷ alone (after l c) cs) (alone (after l c) cs) (λ e. (t.0, rest)) (λ e. rest)
