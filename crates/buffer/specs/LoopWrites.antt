-- What holds at each turn of a loop that writes a list: entry by entry from the front or from a place on, or piece behind piece. A record for each
-- kind, which holds at the start, is handed on by a turn, and gives the list at the end.
use Rattle.std.specs.Prelude.{◌≡◌, refl, List, [], ◌∷◌, ◌++◌, ℕ, zero, suc, ◌+◌, ◌*◌, ◌≤◌, ◌<◌, length, get_or, set, drop}
use Rattle.std.proofs.Common.{sym, ap, ◌∙◌, append_assoc, append-nil, zero-add, suc-add, le_of_suc-le-suc, not-suc-le-zero, add-one, arith, length-append, length-drop, length-set, take-append-drop, drop_of_length-le, take_at}
use Rattle.std.proofs.Math.ListN.{get_or-eq_default, get_or-append}
use Rattle.std.proofs.Math.Seq.{drop_at, drop-drop}
use Rattle.buffer.specs.Loops.{entries}
use Rattle.buffer.specs.RangeLaws.{length_entries, get_or_entries, entries_ext}
use Rattle.buffer.specs.Bytes.{byte, splice}
use Rattle.buffer.specs.SpliceLaws.{length_splice, splice_next}
use Rattle.buffer.specs.ByteLaws.{byte_splice_before}
use Rattle.buffer.specs.Table.{tab}
use Rattle.buffer.specs.TableLaws.{Wide, tab_more, length_tab}

-- ---- from the front, an entry a turn
-- l with its first n entries replaced by f's
unfoldable pub filled : {A : Type 0} → (ℕ → A) → ℕ → List A → List A
filled f n l = entries n f ++ drop n l

pub filled_none : {A : Type 0} (f : ℕ → A) (l : List A) → l ≡ filled f 0 l
unfolding filled entries
filled_none f l = refl

pub filled_all : {A : Type 0} (f : ℕ → A) (l : List A) (n : ℕ) → length l ≤ n → filled f n l ≡ entries n f
unfolding filled
filled_all f l n h = rw (drop_of_length-le l h) (append-nil (entries n f))

fill_suc : {A : Type 0} (f : ℕ → A) (l : List A) (i : ℕ) → i < length l → set (filled f i l) i (f i) ≡ filled f (suc i) l
unfolding filled entries
fill_suc f [] i h = absurd (not-suc-le-zero h)
fill_suc f (x ∷ l) zero h = refl
fill_suc f (x ∷ l) (suc i) h = ap (λ t. f 0 ∷ t) (fill_suc (λ (k : ℕ). f (suc k)) l i (le_of_suc-le-suc h))

pub filled_more : {A : Type 0} (f : ℕ → A) (l : List A) (i : ℕ) → i < length l → set (filled f i l) i (f i) ≡ filled f (i + 1) l
filled_more f l i h = rw add-one (fill_suc f l i h)

pub length_filled : {A : Type 0} (f : ℕ → A) (l : List A) (n : ℕ) → n ≤ length l → length (filled f n l) ≡ length l
unfolding filled
length_filled f l n h = simp (length-append, length_entries, length-drop) (omega arith)

-- an entry that no turn has written yet
pub filled_rest : (f : ℕ → ℕ) (l : List ℕ) (i : ℕ) → get_or (filled f i l) i 0 ≡ get_or l i 0
unfolding filled entries
filled_rest f l zero = refl
filled_rest f [] (suc i) = get_or-eq_default (entries i (λ (k : ℕ). f (suc k)) ++ []) 0 (simp (length-append, length_entries) (omega arith))
filled_rest f (x ∷ l) (suc i) = filled_rest (λ (k : ℕ). f (suc k)) l i

-- l₀ is the list where the loop begins
pub record Filling (f : ℕ → ℕ) (l₀ l : List ℕ) (i : ℕ) : Type 0 where
  pub within : i ≤ length l₀
  pub long : length l ≡ length l₀
  pub bytes : l ≡ filled f i l₀

pub filling_start : {f : ℕ → ℕ} {l : List ℕ} → Filling f l l 0
filling_start {f} {l} = record { within = omega arith; long = refl; bytes = filled_none f l }

pub filling_turn : {f : ℕ → ℕ} {l₀ l : List ℕ} {i : ℕ} (v : ℕ) → Filling f l₀ l i → i < length l → v ≡ f i → Filling f l₀ (set l i v) (i + 1)
filling_turn {f} {l₀} {l} {i} v g h q =
    let k : i < length l₀ = omega arith in
    record {
      within = omega arith;
      long = length-set l i v ∙ g.long;
      bytes = rw (g.bytes, q) (filled_more f l₀ i k);
    }

-- the entry that the next turn writes is as it was
pub filling_read : {f : ℕ → ℕ} {l₀ l : List ℕ} {i : ℕ} → Filling f l₀ l i → get_or l i 0 ≡ get_or l₀ i 0
filling_read {f} {l₀} {l} {i} g = rw g.bytes (filled_rest f l₀ i)

-- an entry that a turn has written
pub filling_written : {f : ℕ → ℕ} {l₀ l : List ℕ} {i : ℕ} → Filling f l₀ l i → (k : ℕ) → k < i → get_or l k 0 ≡ f k
unfolding filled
filling_written {f} {l₀} {l} {i} g k h =
    rw g.bytes (get_or-append (entries i f) (drop i l₀) 0 k (rw length_entries h) ∙ get_or_entries i f k 0 h)

pub filling_end : {f : ℕ → ℕ} {l₀ l : List ℕ} {i : ℕ} → Filling f l₀ l i → length l ≤ i → l ≡ entries (length l₀) f
filling_end {f} {l₀} {l} {i} g h =
    let e : i ≡ length l₀ = omega arith in
    g.bytes ∙ rw e (filled_all f l₀ (length l₀) (omega arith))

-- ---- from a place on, some entries a turn; what stands before it may be read meanwhile
pub record FillingFrom (f : ℕ → ℕ) (at : ℕ) (l₀ l : List ℕ) (i : ℕ) : Type 0 where
  pub long : length l ≡ length l₀
  pub bytes : l ≡ splice at i (entries i f) l₀

entries_append : (i w : ℕ) (f : ℕ → ℕ) → entries i f ++ entries w (λ k. f (i + k)) ≡ entries (i + w) f
unfolding entries
entries_append zero w f = rw zero-add (entries_ext w (λ k. f (0 + k)) f (λ k _. rw zero-add))
entries_append (suc i) w f =
    rw (suc-add i w)
    (ap (λ (t : List ℕ). f 0 ∷ (entries i (λ k. f (suc k)) ++ t)) (entries_ext w (λ k. f (suc i + k)) (λ k. f (suc (i + k))) (λ k _. rw (suc-add i k)))
    ∙ ap (λ (t : List ℕ). f 0 ∷ t) (entries_append i w (λ k. f (suc k))))

pub from_start : {f : ℕ → ℕ} {at : ℕ} {l : List ℕ} → FillingFrom f at l l 0
unfolding splice entries
from_start {f} {at} {l} = record { long = refl; bytes = sym (take-append-drop at l) }

pub from_turn : {f : ℕ → ℕ} {at : ℕ} {l₀ l l' : List ℕ} {i : ℕ} (w : ℕ) (y : List ℕ) → FillingFrom f at l₀ l i → at + i + w ≤ length l
    → y ≡ entries w (λ k. f (i + k)) → l' ≡ splice (at + i) w y l → FillingFrom f at l₀ l' (i + w)
from_turn {f} {at} {l₀} {l} {l'} {i} w y g h e q = record {
  long = ap length q ∙ length_splice (at + i) w y l h (ap length e ∙ length_entries w _) ∙ g.long;
  bytes =
      q
      ∙ ap (splice (at + i) w y) g.bytes
      ∙ splice_next at i w (entries i f) y l₀ (omega (arith, g.long)) (length_entries i f)
      ∙ ap (λ (x : List ℕ). splice at (i + w) x l₀) (ap (λ (x : List ℕ). entries i f ++ x) e ∙ entries_append i w f);
}

pub from_read : {f : ℕ → ℕ} {at : ℕ} {l₀ l : List ℕ} {i : ℕ} → FillingFrom f at l₀ l i → (k : ℕ) → at ≤ length l₀ → k < at → byte l k ≡ byte l₀ k
from_read {f} {at} {l₀} {l} {i} g k h p = ap (λ (x : List ℕ). byte x k) g.bytes ∙ byte_splice_before at i (entries i f) l₀ k h p

-- ---- piece behind piece; `at` is where the next goes
pub record Appending (f : ℕ → List ℕ) (n : ℕ) (o₀ o : List ℕ) (i at : ℕ) : Type 0 where
  pub within : i ≤ n
  pub place : at ≡ length (tab i f)
  pub long : length o ≡ length o₀
  pub bytes : o ≡ tab i f ++ drop at o₀

pub appending_start : {f : ℕ → List ℕ} {n : ℕ} {o : List ℕ} → Appending f n o o 0 0
unfolding tab
appending_start = record { within = omega arith; place = refl; long = refl; bytes = refl }

pub appending_turn : {f : ℕ → List ℕ} {n : ℕ} {o₀ o o' : List ℕ} {i at : ℕ} (w : ℕ) → Appending f n o₀ o i at → i < n → w ≡ length (f i) → at + w ≤ length o
    → o' ≡ splice at w (f i) o → Appending f n o₀ o' (i + 1) (at + w)
appending_turn {f} {n} {o₀} {o} {o'} {i} {at} w g h e l q =
    record {
      within = omega arith;
      place = rw (tab_more i f) (simp length-append (omega arith));
      long = ap length q ∙ length_splice at w (f i) o l (sym e) ∙ g.long;
      bytes = q ∙ ap (splice at w (f i)) g.bytes ∙ next f i at w o₀ (sym g.place);
    }
  where
    next : (f : ℕ → List ℕ) (i at w : ℕ) (o₀ : List ℕ) → length (tab i f) ≡ at → splice at w (f i) (tab i f ++ drop at o₀) ≡ tab (i + 1) f ++ drop (at + w) o₀
    next f i at w o₀ p =
        unfold splice in rw (take_at (tab i f) (drop at o₀) at p, drop_at (tab i f) (drop at o₀) at p, drop-drop w at o₀, tab_more i f)
        (sym (append_assoc (tab i f) (f i) (drop (at + w) o₀)))

pub appending_end : {f : ℕ → List ℕ} {n : ℕ} {o₀ o : List ℕ} {i at : ℕ} → Appending f n o₀ o i at → n ≤ i → o ≡ tab n f ++ drop (length (tab n f)) o₀
appending_end {f} {n} {o₀} {o} {i} {at} g h =
    let same : i ≡ n = omega arith in
    g.bytes ∙ rw (g.place, same)

-- pieces of w bytes each: where the next goes, and the whole output where they fill it
module _ {f : ℕ → List ℕ} {n : ℕ} {o₀ o : List ℕ} {i at : ℕ} (g : Appending f n o₀ o i at) where
  pub appended_at : (w : ℕ) → Wide n w f → at ≡ w * i
  appended_at w h = g.place ∙ length_tab i w f (λ k l. h k (omega (arith, g.within)))

  pub appended_all : n ≤ i → length o₀ ≡ length (tab n f) → o ≡ tab n f
  appended_all l e = appending_end g l ∙ ap (λ x. tab n f ++ x) (drop_of_length-le o₀ {i = length (tab n f)} (omega arith)) ∙ append-nil (tab n f)
