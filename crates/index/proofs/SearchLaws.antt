-- What a search in entries that rise finds: the first place whose key is not below k, and the key itself.
use Rattle.std.specs.Prelude.{◌≡◌, refl, ℕ, zero, suc, ◌+◌, ◌*◌, ◌-◌, ◌≤◌, ◌<◌, Bool, true, false, List, [], eqb, leb, ltb, length, get_or, drop, Some, None}
use Rattle.std.specs.Simd.{first_chunks}
use Rattle.std.specs.List.Sorted.{IsPartitionedBy, IsPartitionPoint}
use Rattle.std.proofs.Math.Nat.{mul-zero}
use Rattle.std.proofs.Math.Seq.{drop-drop}
use Rattle.std.proofs.Common.{sym, ap, ◌∙◌, not-suc-le-zero, le_of_suc-le-suc, lt-ltb, le-ltb, arith, ltb-true, ltb-false, le-leb, leb-true, leb-false, eq-eqb, ne_eqb}
use Rattle.std.proofs.lemmas.Bool.{lt-leb}
use Rattle.buffer.specs.Choice.{pick}
use Rattle.buffer.specs.ChoiceLaws.{by-test, pick_true, pick-false}
use Rattle.buffer.specs.Bytes.{byte, be32, part}
use Rattle.buffer.specs.ByteLaws.{be32_ext, be32_part}
use Rattle.buffer.specs.Range.{first}
use Rattle.buffer.specs.RangeLaws.{first_at, first_none, first_holds, first_misses}
use Rattle.index.specs.Entries.{count_bytes, entry_width, entry_at}
use Rattle.index.specs.Reading.{read_key}
use Rattle.index.specs.Form.{KeysRise, place_for}

-- f 0 to f (n - 1) do not fall
pub record Climbing (f : ℕ → ℕ) (n : ℕ) : Type 0 where
  pub climbs : (i j : ℕ) → i ≤ j → j < n → f i ≤ f j

climb : (f : ℕ → ℕ) (n : ℕ) → ((i : ℕ) → suc i < n → f i < f (suc i)) → (d i j : ℕ) → j ≡ i + d → j < n → f i ≤ f j
climb f n h zero i j e l = let same : j ≡ i = omega arith in rw same (omega arith)
climb f n h (suc d) i j e l =
    let next : j ≡ suc (i + d) = omega arith in
    let up : f (i + d) < f (suc (i + d)) = h (i + d) (omega arith) in
    omega (arith, climb f n h d i (i + d) refl (omega arith), ap f next)

pub climbing : {f : ℕ → ℕ} {n : ℕ} → ((i : ℕ) → suc i < n → f i < f (suc i)) → Climbing f n
climbing {f} {n} h = record { climbs = λ i j p q. climb f n h (j - i) i j (omega arith) q }

-- what a search ends with: those before r are below k, and those from r on are not
pub place_is : {f : ℕ → ℕ} {n k r : ℕ} → r ≤ n → ((i : ℕ) → i < r → f i < k) → ((i : ℕ) → r ≤ i → i < n → k ≤ f i) → r ≡ first n (λ i. leb k (f i))
place_is {f} {n} {k} {r} h below above =
    by-test (λ t. r ≡ first n (λ i. leb k (f i))) (ltb r n)
    (λ t.
    let l : r < n = ltb-true r n t in
    sym (first_at n (λ i. leb k (f i)) r l (λ i p. lt-leb k (f i) (below i p)) (le-leb k (f r) (above r (omega arith) l))))
    (λ t.
    let l : n ≤ r = ltb-false r n t in
    let end : r ≡ n = omega arith in
    end ∙ sym (first_none n (λ i. leb k (f i)) (λ i p. lt-leb k (f i) (below i (omega arith)))))

-- ---- the entries as chunks of a list
length_chunks : (w n : ℕ) (y : List ℕ) → length (first_chunks w n y) ≡ n
length_chunks w zero y = refl
length_chunks w (suc n) y = ap suc (length_chunks w n (drop w y))

get_or_chunks : (w n : ℕ) (y : List ℕ) (i : ℕ) (d : List ℕ) → i < n → get_or (first_chunks w n y) i d ≡ part (w * i) w y
unfolding part
get_or_chunks w zero y i d h = absurd (not-suc-le-zero h)
get_or_chunks w (suc n) y zero d h = rw mul-zero
get_or_chunks w (suc n) y (suc i) d h =
    let next : w * suc i ≡ w + w * i = omega arith in
    get_or_chunks w n (drop w y) i d (le_of_suc-le-suc h) ∙ rw (next, drop-drop)

-- the chunk's key is below this one
abbrev pub below : ℕ → List ℕ → Bool
below key e = ltb (be32 e 0) key

-- y is the entries of the index x
module _ (x y : List ℕ) (n key : ℕ) (same : (k : ℕ) → k < entry_width * n → byte y k ≡ byte x (count_bytes + k)) where
  abbrev chunks : List (List ℕ)
  chunks = first_chunks entry_width n y

  chunk_key : (i : ℕ) (d : List ℕ) → i < n → be32 (get_or chunks i d) 0 ≡ read_key x i
  chunk_key i d h =
      ap (λ e. be32 e 0) (get_or_chunks entry_width n y i d h)
      ∙ be32_part (entry_width * i) entry_width y 0 (omega arith)
      ∙ be32_ext y (entry_width * i + 0) x (entry_at i) (λ k l. same (entry_width * i + 0 + k) (omega arith) ∙ ap (byte x) (omega arith))

  module _ (rise : KeysRise x n) where
    pub parted : IsPartitionedBy (below key) chunks
    parted i j d h l t =
        let small : j < n = omega (arith, length_chunks entry_width n y) in
        lt-ltb _ key (omega (arith, chunk_key i d (omega arith), chunk_key j d small, (climbing rise).climbs i j h small, ltb-true _ key t))

    pub searched : {r : ℕ} → r ≤ length chunks → IsPartitionPoint (λ e. below key e ≡ true) (λ e. below key e ≡ false) chunks r
        → (r ≡ place_for x n key) × (r ≤ n)
    unfolding place_for
    searched {r} h p =
        let few : r ≤ n = omega (arith, length_chunks entry_width n y) in (
          place_is few
              (λ i l. omega (arith, chunk_key i [] (omega arith), ltb-true _ key (p.0 i [] (omega arith) l)))
              (λ i l m. omega (arith, chunk_key i [] m, ltb-false _ key (p.1 i [] l (omega (arith, length_chunks entry_width n y))))),
          few,
        )

-- ---- the key itself, by the first place that is not below it
module _ {f : ℕ → ℕ} {n i : ℕ} (k : ℕ) (c : Climbing f n) (e : i ≡ first n (λ j. leb k (f j))) where
  before_below : (j : ℕ) → j < i → f j < k
  before_below j h = leb-false k (f j) (first_misses n (λ j. leb k (f j)) j (omega (arith, h, e)))

  pub found_there : i < n → f i ≡ k → i ≡ first n (λ j. eqb (f j) k)
  found_there h p =
      sym (first_at n (λ j. eqb (f j) k) i h (λ j l. ne_eqb (f j) k (λ q. absurd (omega (arith, before_below j l)))) (eq-eqb (f i) k p))

  pub found_not : i < n → (f i ≡ k → ⊥) → n ≡ first n (λ j. eqb (f j) k)
  found_not h p =
      let up : k ≤ f i = leb-true k (f i) (ap (λ (m : ℕ). leb k (f m)) e ∙ first_holds n (λ j. leb k (f j)) (omega (arith, h, e))) in
      sym (first_none n (λ j. eqb (f j) k) (λ j l. ne_eqb (f j) k (other up j l)))
    where
      other : k ≤ f i → (j : ℕ) → j < n → f j ≡ k → ⊥
      other up j l q =
          by-test (λ t. ⊥) (ltb j i) (λ t. omega (arith, before_below j (ltb-true j i t)))
          (λ t. let later : i ≤ j = ltb-false j i t in
          let high : f i ≤ f j = c.climbs i j later l in
          p (omega arith))

  pub found_end : n ≤ i → n ≡ first n (λ j. eqb (f j) k)
  found_end h = sym (first_none n (λ j. eqb (f j) k) (λ j l. ne_eqb (f j) k (λ q. absurd (omega (arith, before_below j (omega arith))))))

-- the place as an option
pub found_some : {n i at : ℕ} → i < n → i ≡ at → Some i ≡ pick (ltb at n) (Some at) None
found_some {n} {i} {at} h e = rw (← e) (sym (pick_true (lt-ltb i n h) (Some i) None))

pub found_none : {n at : ℕ} → n ≡ at → None ≡ pick (ltb at n) (Some at) None
found_none {n} {at} e = rw (← e) (sym (pick-false (le-ltb n n (omega arith)) (Some n) None))
