-- The ways out of read, read in place and list are what `perform` says.
use Rattle.std.specs.Prelude.{ℕ, ◌+◌, ◌-◌, ◌≡◌, refl, not, List, [], ◌++◌, eqb, length, take, drop}
use Rattle.std.proofs.Common.{sym, ap, ◌∙◌, arith, append-nil, drop_of_length-le}
use borrow.Author.Tests.{eq-eqb, ne_eqb}
use Rattle.buffer.specs.Choice.{pick}
use Rattle.buffer.specs.ChoiceLaws.{pick_true, pick-false}
use Rattle.buffer.specs.TestLaws.{and-true, and_false_first, and_false_second}
use Rattle.buffer.specs.Bytes.{byte, zeros, part}
use Rattle.buffer.specs.ByteLaws.{length_zeros}
use Rattle.group.specs.Widths.{key_bytes, field_bytes, slot_bytes}
use Rattle.lookup.specs.KeyLaws.{own_rank}
use Rattle.lookup.specs.Parts.{part_start}
use Rattle.model.specs.Layout.{view, slot_at}
use Rattle.model.specs.Reads.{home_in, field_in, listed_rank, whole_slot, total_in, listing_in}
use Rattle.model.specs.Sound.{sound}
use Rattle.model.specs.Numbers.{Call, number_in, refusals_in, first_of}
use Rattle.model.specs.Perform.{copied, lent, listed, output, reply, Place, place_in, given_in, granted_in, outcome, answer_in, after_in, perform}
use Rattle.refusal.specs.Number.{code}
use Rattle.refusal.specs.NumberLaws.{refused}
use Rattle.refusal.specs.declared.Refusal.{Refusal}
use Rattle.reading.specs.Rows.{read_number, read_rows, list_number, list_rows}
use Rattle.reading.specs.Found.{Placed}

-- ---- read
module _ (s : List ℕ) (k : ℕ) (out : List ℕ) where
  pub read_refused : (e : Refusal) → code e ≡ read_number (sound s) (view s) k (length out) → outcome (copied (code e) out) s ≡ perform s (Call.read k out)
  unfolding perform answer_in after_in reply output pick
  read_refused e q = rw (← read_rows s (sound s) k (length out) out refl refl, ← q, refused e)

  pub read_granted : (new : List ℕ) → 0 ≡ read_number (sound s) (view s) k (length out) → new ≡ field_in (view s) k → length new ≡ length out
      → outcome (copied 0 new) s ≡ perform s (Call.read k out)
  unfolding perform answer_in after_in reply output given_in granted_in pick
  read_granted new e f l =
      rw (← read_rows s (sound s) k (length out) out refl refl, ← e, ← f, drop_of_length-le out {i = length new} (omega arith), append-nil new)

-- the field of a record that was found, in the store of its survey
pub field_is : {s t : List ℕ} {k u r : ℕ} {x : List ℕ} → Placed s k u r → t ≡ s → x ≡ drop key_bytes (whole_slot (view t) u r) → x ≡ field_in (view s) k
unfolding field_in
field_is h e ex = ex ∙ rw (e, h.found, h.home)

-- ---- list
module _ (s out : List ℕ) where
  pub list_refused : (e : Refusal) → code e ≡ list_number (sound s) (view s) (length out) → outcome (listed (code e) 0 out) s ≡ perform s (Call.list out)
  unfolding perform answer_in after_in reply output pick
  list_refused e q = rw (← list_rows s (sound s) (length out) out refl refl, ← q, refused e)

  pub list_granted : (t new : List ℕ) (n : ℕ) → 0 ≡ list_number (sound s) (view s) (length out) → t ≡ s → n ≡ total_in (view t)
      → new ≡ listing_in (view t) ++ drop (length (listing_in (view t))) out → outcome (listed 0 n new) s ≡ perform s (Call.list out)
  unfolding perform answer_in after_in reply output given_in granted_in pick
  list_granted t new n q e f g = rw (f, g, e, ← list_rows s (sound s) (length out) out refl refl, ← q)

-- ---- read in place
module _ (s : List ℕ) (k : ℕ) where
  -- refused as read into a buffer that fits
  fits : read_number (sound s) (view s) k field_bytes ≡ number_in s (Call.read k (zeros field_bytes))
  fits = read_rows s (sound s) k field_bytes (zeros field_bytes) refl (sym (length_zeros field_bytes))

  pub nowhere : (e : Refusal) → code e ≡ read_number (sound s) (view s) k field_bytes → place_in s k ≡ record { at = 0; size = 0 }
  unfolding place_in
  nowhere e q =
      let no = and_false_first (ap (λ x. eqb x 0) (sym (q ∙ fits)) ∙ refused e) (not (eqb ((view s).dstate (home_in (view s) k)) 2)) in
      pick-false no _ _

  pub out_unit : (u : ℕ) → u ≡ home_in (view s) k → byte s (8 + u) ≡ 2 → place_in s k ≡ record { at = 0; size = 0 }
  unfolding place_in
  out_unit u e h =
      let here : (view s).dstate (home_in (view s) k) ≡ 2 = rw (← e) (unfold view in h) in
      pick-false (and_false_second (eqb (number_in s (Call.read k (zeros field_bytes))) 0) (ap not (eq-eqb _ 2 here))) _ _

  pub stands : (u r : ℕ) → 0 ≡ read_number (sound s) (view s) k field_bytes → u ≡ home_in (view s) k → r ≡ listed_rank (view s) u k → (byte s (8 + u) ≡ 2 → ⊥)
      → place_in s k ≡ record { at = slot_at (byte s 5) u r + key_bytes; size = field_bytes }
  unfolding place_in
  stands u r e eu er h =
      let here : ((view s).dstate (home_in (view s) k) ≡ 2 → ⊥) = rw (← eu) (unfold view in h) in
      pick_true (and-true (ap (λ x. eqb x 0) (sym (e ∙ fits))) (ap not (ne_eqb _ 2 here))) _ _
      ∙ rw (← eu, own_rank s u h k, ← er) (unfold view in refl)

  -- the part that code hands back, and where it starts in the store, which starts at (block, o): nothing, of which no start is asked
  lent_part : (x : List ℕ) → x ≡ part (place_in s k).at (place_in s k).size s → outcome (lent x) s ≡ perform s (Call.read_in_place k)
  unfolding perform answer_in after_in reply given_in granted_in number_in refusals_in first_of pick
  lent_part x e = rw e

  pub lent_nothing : {A : Type 0} → place_in s k ≡ record { at = 0; size = 0 }
      → (outcome (lent []) s ≡ perform s (Call.read_in_place k)) × (([] ≡ part (place_in s k).at (place_in s k).size s) × ((place_in s k).size ≡ field_bytes → A))
  unfolding part
  lent_nothing e =
      let none : (place_in s k).size ≡ 0 = ap (λ (q : Place). q.size) e in
      let here : [] ≡ part (place_in s k).at (place_in s k).size s = sym (ap (λ (q : Place). part q.at q.size s) e) in
      (lent_part [] here, (here, λ h. absurd (omega arith)))

  -- or the field behind the key of a slot
  pub lent_field : (block o slot at : ℕ) → place_in s k ≡ record { at = slot + key_bytes; size = field_bytes } → at ≡ slot
      → (outcome (lent (take (at + slot_bytes - (at + 4)) (drop (at + 4) s))) s ≡ perform s (Call.read_in_place k))
      × ((take (at + slot_bytes - (at + 4)) (drop (at + 4) s) ≡ part (place_in s k).at (place_in s k).size s)
      × ((place_in s k).size ≡ field_bytes → ◌≡◌ {A = ℕ × ℕ} (block, at + 4 + o) (block, o + (place_in s k).at)))
  unfolding part
  lent_field block o slot at e f =
      let there : (place_in s k).at ≡ slot + key_bytes = ap (λ (q : Place). q.at) e in
      let width : at + slot_bytes - (at + 4) ≡ field_bytes = omega arith in
      let here : take (at + slot_bytes - (at + 4)) (drop (at + 4) s) ≡ part (place_in s k).at (place_in s k).size s =
      rw (width, f) (sym (ap (λ (q : Place). part q.at q.size s) e)) in
      (lent_part _ here, (here, λ _. part_start block o (at + 4) (place_in s k).at (omega arith)))
