-- Laws of the keys of a unit as they are listed: they are those that the definitions read, and a search through them finds what these say.
use Rattle.std.specs.Prelude.{ℕ, ◌+◌, ◌*◌, ◌/◌, ◌%◌, ◌≤◌, ◌<◌, ◌≡◌, refl, List, false}
use Rattle.std.proofs.Math.Path.{sym, ap}
use Rattle.std.proofs.Common.{◌∙◌, arith}
use Rattle.std.proofs.Math.Dec.{eqb}
use borrow.Author.Tests.{eq-eqb, ne_eqb, eqb-true, eqb-false}
use Rattle.buffer.specs.Choice.{pick}
use Rattle.buffer.specs.ChoiceLaws.{by-test, pick_true, pick-false}
use Rattle.buffer.specs.Range.{first}
use Rattle.buffer.specs.RangeLaws.{first_ext}
use Rattle.buffer.specs.Bytes.{byte, be32, part}
use Rattle.buffer.specs.Strided.{strided32, Within}
use Rattle.buffer.specs.ByteLaws.{be32_part}
use Rattle.buffer.specs.SpliceLaws.{part_part}
use Rattle.group.specs.Widths.{key_bytes, slot_bytes, check_bytes}
use Rattle.model.specs.Layout.{view, slot_at, check_at, key_of}
use Rattle.model.specs.Reads.{fill_in, rank_in, first_check, listed_key, listed_fill, listed_rank}
use Rattle.model.proofs.ReadLaws as reads
use Rattle.model.proofs.LossLaws.{first_check_found}
use Rattle.lookup.specs.Sized.{Sized}
use Rattle.lookup.specs.SizedLaws.{slot_fits, check_fits_lem}
use Rattle.lookup.specs.Keys.{keys_at, keys_from, keys_step, Known, Lists}

-- ---- the key of a slot
pub slot_key : (s : List ℕ) (u r : ℕ) → be32 s (slot_at (byte s 5) u r) ≡ key_of ((view s).slot u r)
unfolding key_of view
slot_key s u r =
    let at : ℕ = slot_at (byte s 5) u r in
    let z : at + 0 ≡ at = omega arith in
    ap (be32 s) (sym z) ∙ sym (be32_part at slot_bytes s 0 (omega arith))

-- ---- the keys of a data unit, as a list
pub unit_key : (s : List ℕ) (u r : ℕ) → strided32 s (slot_at (byte s 5) u 0) slot_bytes r ≡ key_of ((view s).slot u r)
unfolding strided32
unit_key s u r =
    let e : slot_at (byte s 5) u 0 + slot_bytes * r ≡ slot_at (byte s 5) u r = omega arith in
    ap (be32 s) e ∙ slot_key s u r

pub unit_within : {s : List ℕ} → Sized s → (u n at : ℕ) → u < 16 → n ≤ byte s 5 → at ≡ slot_at (byte s 5) u 0 → Within s at slot_bytes n
unit_within {s} h u n at l k e = record { fits = λ i m. omega (arith, slot_fits h u i l (omega arith)) }

-- ---- the keys of a unit that is out, as a list
pub out_within : {s : List ℕ} → Sized s → (c p n at : ℕ) → c < 12 → p < 4 → n ≤ byte s 5 → at ≡ check_at (byte s 5) c 0 + 4 * p → Within s at check_bytes n
out_within {s} h c p n at l q k e = record { fits = λ i m. omega (arith, check_fits_lem h c i l (omega arith)) }

pub lists_key : {s : List ℕ} {u base step : ℕ} → Lists s u base step → (r : ℕ) → strided32 s base step r ≡ key_of (listed_key (view s) u r)
unfolding strided32 key_of
lists_key {s} {u} {base} {step} h r =
    let at : ℕ = base + step * r in
    let z : at + 0 ≡ at = omega arith in
    ap (be32 s) (sym z) ∙ sym (be32_part at key_bytes s 0 (omega arith)) ∙ ap (λ x. be32 x 0) (h.bytes r)

-- a slot's own key, and the one that a check unit lists
own_bytes : (s : List ℕ) (u r i : ℕ) → (byte s (8 + u) ≡ 2 → ⊥) → i ≡ slot_at (byte s 5) u r + 0 → part i key_bytes s ≡ listed_key (view s) u r
unfolding listed_key view
own_bytes s u r i h place =
    ap (λ j. part j key_bytes s) place
    ∙ sym (part_part (slot_at (byte s 5) u r) slot_bytes 0 key_bytes s (omega arith))
    ∙ unfold part in sym (pick-false (ne_eqb (byte s (8 + u)) 2 h) _ _)

out_bytes : (s : List ℕ) (u r i : ℕ) → byte s (8 + u) ≡ 2 → i ≡ check_at (byte s 5) (first_check (view s) (u / 4)) r + key_bytes * (u % 4)
    → part i key_bytes s ≡ listed_key (view s) u r
unfolding listed_key view
out_bytes s u r i h place =
    ap (λ j. part j key_bytes s) place
    ∙ sym (part_part (check_at (byte s 5) (first_check (view s) (u / 4)) r) check_bytes (key_bytes * (u % 4)) key_bytes s (omega arith))
    ∙ sym (pick_true (eq-eqb (byte s (8 + u)) 2 h) _ _)

module _ {s : List ℕ} {u : ℕ} (known : Known s u) where
  lists_own : (byte s (8 + u) ≡ 2 → ⊥) → Lists s u (slot_at (byte s 5) u 0) slot_bytes
  lists_own h =
      let at : ℕ = slot_at (byte s 5) u 0 in
      record {
        bytes = λ r. own_bytes s u r (at + slot_bytes * r) h (omega arith);
        within = unit_within known.sized u (byte s 5) at known.unit (omega arith) refl;
      }

  -- the check unit that lists them where the unit is out
  pub known_check : byte s (8 + u) ≡ 2 → first_check (view s) (u / 4) < 12
  unfolding view
  known_check h = omega (arith, first_check_found (view s) u known.kept (eq-eqb (byte s (8 + u)) 2 h), known.unit)

  pub lists_out : (at : ℕ) → byte s (8 + u) ≡ 2 → at ≡ keys_at s u → Lists s u at check_bytes
  lists_out at h e =
      record {
        bytes = λ r. out_bytes s u r (at + check_bytes * r) h (omega arith);
        within =
            out_within known.sized (first_check (view s) (u / 4)) (u % 4) (byte s 5) at (known_check h) (omega arith) (omega arith) e;
      }

  pub lists_known : {base step : ℕ} → (base ≡ keys_from s u) × (step ≡ keys_step s u) → Lists s u base step
  unfolding keys_from keys_step pick
  lists_known e =
      rw (e.0, e.1)
      (by-test (λ t. Lists s u (pick t (keys_at s u) (slot_at (byte s 5) u 0)) (pick t check_bytes slot_bytes)) (eqb (byte s (8 + u)) 2)
      (λ h. lists_out (keys_at s u) (eqb-true (byte s (8 + u)) 2 h) refl) (λ h. lists_own (eqb-false (byte s (8 + u)) 2 h)))

-- ---- a search through the keys finds what the definitions say
pub rank_found : (s : List ℕ) (u n r at key : ℕ) → at ≡ slot_at (byte s 5) u 0 → r ≡ first n (λ i. eqb (strided32 s at slot_bytes i) key)
    → r ≡ first n (λ q. eqb (key_of ((view s).slot u q)) key)
rank_found s u n r at key ea er = er ∙ rw ea (first_ext n _ _ (λ k l. ap (λ x. eqb x key) (unit_key s u k)))

pub rank_in_lem : (s : List ℕ) (u n r key : ℕ) → n ≡ fill_in (view s) u → r ≡ first n (λ q. eqb (key_of ((view s).slot u q)) key) → r ≡ rank_in (view s) u key
unfolding rank_in
rank_in_lem s u n r key en er = er ∙ rw en

module _ {s : List ℕ} {u base step : ℕ} (lists : Lists s u base step) where
  pub listed_rank_found : (n r key : ℕ) → n ≡ listed_fill (view s) u → r ≡ first n (λ i. eqb (strided32 s base step i) key) → r ≡ listed_rank (view s) u key
  unfolding listed_rank
  listed_rank_found n r key en er = er ∙ rw en (first_ext (listed_fill (view s) u) _ _ (λ k l. ap (λ x. eqb x key) (lists_key lists k)))

-- ---- a unit in service lists its own keys
module _ (s : List ℕ) (u : ℕ) (serves : byte s (8 + u) ≡ 2 → ⊥) where
  kept : eqb ((view s).dstate u) 2 ≡ false
  unfolding view
  kept = ne_eqb (byte s (8 + u)) 2 serves

  pub own_fill : fill_in (view s) u ≡ listed_fill (view s) u
  own_fill = sym (reads.own_fill (view s) u kept)

  pub own_rank : (k : ℕ) → rank_in (view s) u k ≡ listed_rank (view s) u k
  own_rank k = sym (reads.own_rank (view s) u kept k)

-- no more records are listed than a unit has ranks
pub listed_fill_small : (s : List ℕ) (u : ℕ) → listed_fill (view s) u ≤ byte s 5
unfolding view
listed_fill_small s u = reads.listed_le (view s) u
