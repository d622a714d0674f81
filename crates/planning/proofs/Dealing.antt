-- The loop that makes the plan of a store: what holds at each of its turns, and what it leaves.
use Prim.Native.Nat.{ℕ, ◌+◌, ◌-◌, ◌≤◌, ◌<◌}
use mathlib.Core.Path.{◌≡◌, refl, sym, ap, ◌∙◌}
use mathlib.Core.List.{List, [], ◌∷◌, ◌++◌}
use mathlib.Core.Bool.{Bool, true, false, not}
use Rattle.std.specs.Int.{from_bool}
use native.Mathlib.Omega.{arith}
use native.Mathlib.Numerals.{add-one}
use lib.Dec.{eqb}
use lib.ListN.{length}
use Rattle.buffer.specs.Choice.{pick}
use Rattle.buffer.specs.Range.{count}
use Rattle.buffer.specs.RangeLaws.{count_none, count_more, count_le, count_not, length_entries, entries_more}
use Rattle.buffer.specs.Bytes.{byte}
use Rattle.buffer.specs.Loops.{entries}
use Rattle.moves.specs.declared.Move.{Move}
use Rattle.moves.specs.declared.plan.Plan.{Plan}
use Rattle.moves.specs.Drafts.{moves_of}
use Rattle.moves.specs.DraftLaws.{length_moves}
use Rattle.model.specs.Units.{split_pointer, unit_of, moves}
use Rattle.model.specs.Layout.{Store, view, units_in, key_of}
use Rattle.model.specs.StoreLaws.{units_of}
use Rattle.model.specs.Reads.{fill_in}
use Rattle.model.specs.history.Plan.{leaves, move_in, plan_in}
use Rattle.planning.specs.Drafted.{move_from}

-- a test as a number
bool_is : (b : Bool) → from_bool b ≡ pick b 1 0
unfolding pick
bool_is true = refl
bool_is false = refl

-- r records of n are dealt
pub record Dealing (s : List ℕ) (n : ℕ) (p : Plan) (leaving r : ℕ) : Type 0 where
  pub within : r ≤ n
  pub counted : leaving ≡ count r (leaves (view s))
  pub few : leaving ≤ r
  pub made : moves_of p ≡ entries r (move_in (view s))

pub dealing_start : (s : List ℕ) (n : ℕ) {p : Plan} → moves_of p ≡ [] → Dealing s n p 0 0
unfolding entries
dealing_start s n e = record { within = omega arith; counted = sym (count_none _); few = omega arith; made = e }

-- as many moves as records
pub dealt_count : {s : List ℕ} {n leaving r : ℕ} {p : Plan} → Dealing s n p leaving r → p.count ≡ r
dealt_count {s} {n} {leaving} {r} {p} d = sym (length_moves p) ∙ ap length d.made ∙ length_entries r (move_in (view s))

module _ (s : List ℕ) {m u n r leaving k v : ℕ} {p : Plan} (em : m ≡ byte s 6) (eu : u ≡ split_pointer m) (ek : k ≡ key_of ((view s).slot u r))
    (ev : v ≡ unit_of (m + 1) k) (before : r < n) (d : Dealing s n p leaving r) where
  abbrev t : Store
  t = view s

  units : m ≡ units_in t
  units = em ∙ units_of s

  leaves_is : eqb v m ≡ leaves t r
  unfolding leaves moves
  leaves_is = rw (← units, ← eu, ← ek, ← add-one m, ← ev)

  stayed : r - leaving ≡ count r (λ q. not (leaves t q))
  stayed = omega (arith, d.counted, count_not r (leaves t))

  move_is : move_from u m r (eqb v m) leaving ≡ move_in t r
  unfolding move_from move_in
  move_is = rw (leaves_is, ← units, ← eu, ← d.counted, ← stayed, add-one r, add-one leaving, add-one (r - leaving))

  pub dealing_turn : {q : Plan} {a : Move} {one : ℕ} → a ≡ move_from u m r (eqb v m) leaving → moves_of q ≡ moves_of p ++ (a ∷ [])
      → one ≡ from_bool (eqb v m) → Dealing s n q (leaving + one) (r + 1)
  dealing_turn ea eq em =
      let counts : count (r + 1) (leaves t) ≡ leaving + pick (eqb v m) 1 0 = rw (count_more (leaves t) r, leaves_is, ← d.counted) in
      let all = ap (λ b. leaving + b) (em ∙ bool_is (eqb v m)) ∙ sym counts in
      record {
        within = omega (arith, before);
        counted = all;
        few = omega (arith, all, count_le (r + 1) (leaves t));
        made = eq ∙ rw (ea, move_is, d.made) (sym (entries_more r (move_in t)));
      }

pub dealing_end : (s : List ℕ) {m u n r leaving : ℕ} {p : Plan} → m ≡ byte s 6 → u ≡ split_pointer m → n ≡ fill_in (view s) u → n ≤ r
    → Dealing s n p leaving r → moves_of p ≡ plan_in (view s)
unfolding plan_in
dealing_end s {m} {u} {n} {r} em eu en over d =
    let units : m ≡ units_in (view s) = em ∙ units_of s in
    let all : r ≡ n = omega (arith, d.within) in
    d.made ∙ rw (← units, ← eu, ← en, all)
