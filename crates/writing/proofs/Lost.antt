-- A unit's bytes cleared and its state set are the unit lost.
use Prim.Native.Nat.{ℕ, ◌+◌, ◌*◌, ◌-◌, ◌≤◌, ◌<◌}
use mathlib.Core.Path.{◌≡◌, refl, sym, ap, ◌∙◌}
use mathlib.Core.List.{List}
use native.Mathlib.Omega.{arith}
use lib.Dec.{eqb, ltb}
use lib.ListN.{length, set}
use borrow.Author.Tests.{ne_eqb, eqb-true, eq-eqb, le-ltb, ltb-true, ltb-false}
use Rattle.buffer.specs.Choice.{pick}
use Rattle.buffer.specs.ChoiceLaws.{by-test, by-pick, pick-false}
use Rattle.buffer.specs.TestLaws.{same_test}
use Rattle.buffer.specs.Bytes.{byte, zeros, part, splice}
use Rattle.buffer.specs.ByteLaws.{length_zeros}
use Rattle.buffer.specs.SpliceLaws.{length_part}
use Rattle.buffer.specs.Table.{upd}
use Rattle.group.specs.Widths.{slot_bytes, check_bytes}
use Rattle.model.specs.Layout.{Store, bytes, view, store_bytes, slot_at, check_at}
use Rattle.model.specs.Places.{Long, data_units, check_units, Region, units, width, chunk_at}
use Rattle.model.specs.Parts.{with_dstates, with_cstates, with_slots, with_checks, chunks_in, with_chunks}
use Rattle.model.specs.LayoutLaws.{Shaped, Same, bytes_ext, bytes_view, view_shaped, ranks_within, chunked}
use Rattle.model.specs.RunLaws.{run, run_unit, length_run}
use Rattle.model.specs.StoreLaws.{size_of, dstate_set, cstate_set, chunks_clear, chunks_shaped}
use Rattle.model.specs.Changes.{unit_lost}
use Rattle.writing.specs.Places.{unit_at}

lost_slots : (v : Store) (u b : ℕ) → u < 16 → b ≡ v.size
    → Same (with_dstates (with_slots v (run v.slot u 0 b (λ _. zeros slot_bytes))) (upd (with_slots v (run v.slot u 0 b (λ _. zeros slot_bytes))).dstate u 2))
    (unit_lost v u)
unfolding with_dstates with_slots unit_lost
lost_slots v u b hu eb = record {
  front = refl;
  size = refl;
  dstate = λ w a. refl;
  cstate = λ c a. sym (pick-false (ne_eqb (16 + c) u (omega arith)) 2 (v.cstate c));
  slot = λ w r a l. run_unit v.slot u b (λ _. zeros slot_bytes) w r (omega arith);
  check = λ c r a l. sym (pick-false (ne_eqb (16 + c) u (omega arith)) (zeros check_bytes) (v.check c r));
  rest = refl;
}

-- the number of a check unit among all units
beyond_data : (c d : ℕ) → eqb d c ≡ eqb (16 + d) (16 + c)
beyond_data c d =
    same_test
    (eqb d c)
    (eqb (16 + d) (16 + c))
    (λ e. let q : d ≡ c = eqb-true d c e in eq-eqb (16 + d) (16 + c) (omega arith))
    (λ e. let q : 16 + d ≡ 16 + c = eqb-true (16 + d) (16 + c) e in eq-eqb d c (omega arith))

lost_checks : (v : Store) (c b : ℕ) → b ≡ v.size
    → Same (with_cstates (with_checks v (run v.check c 0 b (λ _. zeros check_bytes)))
    (upd (with_checks v (run v.check c 0 b (λ _. zeros check_bytes))).cstate c 2)) (unit_lost v (16 + c))
unfolding with_cstates with_checks unit_lost upd
lost_checks v c b eb = record {
  front = refl;
  size = refl;
  dstate = λ w a. sym (pick-false (ne_eqb w (16 + c) (omega arith)) 2 (v.dstate w));
  cstate = λ d a. ap (λ t. pick t 2 (v.cstate d)) (beyond_data c d);
  slot = λ w r a l. sym (pick-false (ne_eqb w (16 + c) (omega arith)) (zeros slot_bytes) (v.slot w r));
  check = λ d r a l. run_unit v.check c b (λ _. zeros check_bytes) d r (omega arith) ∙ ap (λ t. pick t (zeros check_bytes) (v.check d r)) (beyond_data c d);
  rest = refl;
}

-- where a unit starts; the check units stand behind the data units
pub data_at : (b w : ℕ) → w ≤ 16 → unit_at b w ≡ slot_at b w 0
unfolding unit_at
data_at b w l =
    by-pick
    (λ at. at ≡ slot_at b w 0)
    (ltb w 16)
    (slot_at b w 0)
    (check_at b (w - 16) 0)
    (λ _. refl)
    (λ t. let m : 16 ≤ w = ltb-false w 16 t in let e : w ≡ 16 = omega arith in rw e (omega arith))

pub checks_at : (b w : ℕ) → 16 ≤ w → unit_at b w ≡ check_at b (w - 16) 0
unfolding unit_at
checks_at b w l = pick-false (le-ltb w 16 l) (slot_at b w 0) (check_at b (w - 16) 0)

nth_check : (b w c : ℕ) → w ≡ 16 + c → unit_at b w ≡ check_at b c 0
nth_check b w c e = let same : w - 16 ≡ c = omega arith in checks_at b w (omega arith) ∙ ap (λ d. check_at b d 0) same

by_kind : (P : ℕ → Type 0) (w : ℕ) → (w < 16 → P w) → ((c : ℕ) → P (16 + c)) → P w
by_kind P w data-unit check-unit =
    by-test
    (λ _. P w)
    (ltb w 16)
    (λ t. data-unit (ltb-true w 16 t))
    (λ t. let l : 16 ≤ w = ltb-false w 16 t in let same : 16 + (w - 16) ≡ w = omega arith in rw same at (check-unit (w - 16)))

-- the bytes of a unit lie in the store
pub unit_within : (b w n : ℕ) → w < 28 → store_bytes b ≤ n → (unit_at b w ≤ unit_at b (w + 1)) × (unit_at b (w + 1) ≤ n)
unit_within b w n =
    by_kind
    (λ w. w < 28 → store_bytes b ≤ n → (unit_at b w ≤ unit_at b (w + 1)) × (unit_at b (w + 1) ≤ n))
    w
    (λ k l h. rw (data_at b w (omega arith), data_at b (w + 1) (omega arith)) (omega arith, omega (arith, ranks_within data_units b w 0 b n k (omega arith) h)))
    (λ c l h. rw (nth_check b (16 + c) c (omega arith), nth_check b (16 + c + 1) (c + 1) (omega arith))
    (omega arith, omega (arith, ranks_within check_units b c 0 b n (omega arith) (omega arith) h)))

-- from the code's facts: the unit's bytes stand from `from` to `to`
module _ (s₀ s' z : List ℕ) (b from to at : ℕ) (long : Long s₀) (eb : b ≡ byte s₀ 5) (cleared : z ≡ zeros (length (part from (to - from) s₀))) where
  abbrev s : List ℕ
  s = splice from (to - from) z s₀

  size : b ≡ (view s₀).size
  size = eb ∙ size_of s₀

  within : (n : ℕ) → to - from ≡ n → from + n ≤ length s₀ → s ≡ splice from n (zeros n) s₀
  within n e l = rw (cleared, e, length_part from n s₀ l)

  -- the store with the ranks of unit u of a region cleared
  abbrev emptied : Region → ℕ → Store
  emptied k u = with_chunks k (view s₀) (run (chunks_in k (view s₀)) u 0 b (λ _. zeros (width k)))

  emptied_shaped : (k : Region) (u : ℕ) → Shaped (emptied k u)
  emptied_shaped k u =
      let h : Shaped (view s₀) = view_shaped s₀ long in
      chunks_shaped k (view s₀) _ h (λ w r a l. length_run (chunks_in k (view s₀)) u 0 b (λ _. zeros (width k)) (width k) w r (length_zeros (width k))
      (chunked k h w r a l))

  emptied_is : (k : Region) (u : ℕ) → u < units k → from ≡ chunk_at k b u 0 → to ≡ chunk_at k b (u + 1) 0 → s ≡ bytes (emptied k u)
  emptied_is k u hu ef et =
      let n : to - from ≡ width k * b = omega arith in
      let room : from + width k * b ≤ length s₀ = rw ef (ranks_within k b u 0 b (length s₀) hu (omega arith) (rw eb long)) in
      chunks_clear k (view s₀) (view_shaped s₀ long) s₀ (sym (bytes_view s₀ long)) b size s from (width k * b) u 0 b ef refl hu (omega arith)
      (within (width k * b) n room)

  lost_data : (u : ℕ) → u < 16 → from ≡ slot_at b u 0 → to ≡ slot_at b (u + 1) 0 → at ≡ 8 + u → s' ≡ set s at 2 → s' ≡ bytes (unit_lost (view s₀) u)
  lost_data u hu ef et ea es =
      dstate_set (emptied data_units u) (emptied_shaped data_units u) s (emptied_is data_units u hu ef et) s' at u 2 ea hu es
      ∙ bytes_ext _ (unit_lost (view s₀) u) (lost_slots (view s₀) u b hu size)

  lost_check : (c : ℕ) → c < 12 → from ≡ check_at b c 0 → to ≡ check_at b (c + 1) 0 → at ≡ 24 + c → s' ≡ set s at 2 → s' ≡ bytes (unit_lost (view s₀) (16 + c))
  lost_check c hc ef et ea es =
      cstate_set (emptied check_units c) (emptied_shaped check_units c) s (emptied_is check_units c hc ef et) s' at c 2 ea hc es
      ∙ bytes_ext _ (unit_lost (view s₀) (16 + c)) (lost_checks (view s₀) c b size)

  pub lost_unit : (w : ℕ) → w < 28 → from ≡ unit_at b w → to ≡ unit_at b (w + 1) → at ≡ 8 + w → s' ≡ set s at 2 → s' ≡ bytes (unit_lost (view s₀) w)
  lost_unit w =
      by_kind
      (λ w. w < 28 → from ≡ unit_at b w → to ≡ unit_at b (w + 1) → at ≡ 8 + w → s' ≡ set s at 2 → s' ≡ bytes (unit_lost (view s₀) w))
      w
      (λ l hw ef et ea es. lost_data w l (ef ∙ data_at b w (omega arith)) (et ∙ data_at b (w + 1) (omega arith)) ea es)
      (λ c hw ef et ea es. lost_check c (omega arith) (ef ∙ nth_check b (16 + c) c (omega arith))
      (et ∙ nth_check b (16 + c + 1) (c + 1) (omega arith)) (omega arith) es)
