-- A granted layout: what it leaves is the picture of the ledger that it opens, and that ledger is valid.
use Prim.Native.Nat.{ℕ, ◌+◌, ◌*◌, ◌%◌, ◌≤◌}
use mathlib.Core.Path.{◌≡◌, refl, sym, ap, ◌∙◌}
use mathlib.Core.List.{List, [], ◌∷◌, ◌++◌, append_assoc}
use native.Mathlib.Omega.{arith}
use native.Mathlib.Nat.{not-suc-le-zero}
use lib.Dec.{eqb}
use lib.ListN.{drop}
use borrow.Author.Tests.{eq-eqb}
use Rattle.buffer.specs.Choice.{pick}
use Rattle.buffer.specs.ChoiceLaws.{pick_true, pick_same}
use Rattle.buffer.specs.Bytes.{zeros}
use Rattle.buffer.specs.ByteLaws.{zeros_append}
use Rattle.buffer.specs.Table.{tab}
use Rattle.buffer.specs.TableLaws.{tab_ext, tab_zeros}
use Rattle.group.specs.Widths.{slot_bytes, check_bytes}
use Rattle.model.specs.Layout.{bytes, store_bytes, front_of}
use Rattle.model.specs.Perform.{laid_out, lay_out_number, lay_out}
use Rattle.model.specs.history.Ledger.{opened, record_at, placed, state}
use Rattle.model.specs.history.Picture.{picture_slot, picture_check, image, picture}
use Rattle.model.proofs.history.ledger.Valid.{empty_good, Valid}
use Rattle.model.proofs.history.picture.Records.{empty_bytes, over_empty}

-- ---- the layout's number is 0

pub layout_is : (s : List ℕ) (b : ℕ) → lay_out_number s b ≡ 0 → (lay_out s b).store ≡ laid_out b s
unfolding lay_out
layout_is s b e = pick_true (eq-eqb (lay_out_number s b) 0 e) (laid_out b s) s

-- ---- the picture

module _ (b : ℕ) where
  slot_zero : (u r : ℕ) → picture_slot (opened b) u r ≡ zeros slot_bytes
  unfolding picture_slot record_at opened
  slot_zero u r = rw empty_bytes (pick_same (eqb (state (opened b) u) 1) (zeros slot_bytes))

  check_zero_lem : (c r : ℕ) → picture_check (opened b) c r ≡ zeros check_bytes
  unfolding picture_check record_at opened
  check_zero_lem c r = rw (over_empty (c % 3) (omega arith)) (pick_same (eqb (state (opened b) (16 + c)) 1) (zeros check_bytes))

  region_zero : (n w : ℕ) (f : ℕ → ℕ → List ℕ) → ((u r : ℕ) → f u r ≡ zeros w) → tab n (λ u. tab b (f u)) ≡ zeros (w * b * n)
  region_zero n w f h =
      tab_ext n (λ u. tab b (f u)) (λ u. zeros (w * b)) (λ u l. tab_ext b (f u) (λ r. zeros w) (λ r m. h u r) ∙ tab_zeros b w)
      ∙ tab_zeros n (w * b)

  data_states : tab 16 (λ u. state (opened b) u ∷ []) ≡ 1 ∷ zeros 15
  unfolding tab state placed opened zeros pick
  data_states = refl

  check_states : tab 12 (λ c. state (opened b) (16 + c) ∷ []) ≡ 1 ∷ zeros 11
  unfolding tab state placed opened zeros pick
  check_states = refl

  pub layout_picture : (s : List ℕ) → laid_out b s ≡ picture (opened b) (drop (store_bytes b) s)
  unfolding laid_out bytes image opened
  layout_picture s =
      let m : ℕ = slot_bytes * b * 16 in
      let n : ℕ = check_bytes * b * 12 in
      let e : (16 * slot_bytes + 12 * check_bytes) * b ≡ m + n = omega arith in
      let rest : List ℕ = drop (store_bytes b) s in
      ap (λ (z : List ℕ). front_of b 1 1 ++ ((1 ∷ zeros 15) ++ ((1 ∷ zeros 11) ++ z)))
      (ap (λ (k : ℕ). zeros k ++ rest) e ∙ ap (λ (z : List ℕ). z ++ rest) (sym (zeros_append m n)) ∙ append_assoc (zeros m) (zeros n) rest)
      ∙ sym (rw (data_states, check_states, region_zero 16 slot_bytes (picture_slot (opened b)) slot_zero, region_zero 12 check_bytes _ check_zero_lem))

  pub opened_valid : 1 ≤ b → b ≤ 64 → Valid (opened b)
  unfolding opened record_at
  opened_valid p q = record {
    some = omega arith;
    few = omega arith;
    least = p;
    most = q;
    levelled = omega arith;
    topped = omega arith;
    fits = λ u. omega arith;
    good = λ u r. empty_good;
    keyed = λ u r l. absurd (not-suc-le-zero l);
    own = λ u r l. absurd (not-suc-le-zero l);
    differ = λ u r q m l. absurd (not-suc-le-zero l);
    none = λ u l. refl;
    calm = λ w e. refl;
  }
