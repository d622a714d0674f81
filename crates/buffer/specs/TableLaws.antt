-- Laws of lists that are made of chunks, and of functions changed at one place. Chunk i of a table of chunks of w bytes starts at w * i.
use Rattle.std.specs.Prelude.{◌≡◌, refl, ◌⊎◌, List, [], ◌∷◌, ◌++◌, ℕ, zero, suc, ◌+◌, ◌*◌, ◌-◌, ◌≤◌, ◌<◌, eqb, length}
use Rattle.std.proofs.Common.{sym, ap, ap₂, ◌∙◌, inl, inr, append_assoc, append-nil, mul-le-mul_left, mul-zero, mul-suc, add-zero, add-suc, not-suc-le-zero, zero-add, add-one, arith, length-append, eq-eqb, ne_eqb}
use Rattle.std.proofs.Math.Nat.{le-suc_iff}
use Rattle.buffer.specs.ChoiceLaws.{pick_true, pick-false, pick-map}
use Rattle.buffer.specs.Range.{sum}
use Rattle.buffer.specs.Bytes.{byte, zeros, part, splice}
use Rattle.buffer.specs.SpliceLaws.{part_left, part_right, part_whole, part_append, splice_left, splice_right, splice_whole}
use Rattle.buffer.specs.ByteLaws.{byte_part, zeros_append}
use Rattle.buffer.specs.Table.{tab, upd}

-- ---- a function changed at one place
pub upd-at {ℓ} : {A : Type ℓ} (f : ℕ → A) (i : ℕ) (x : A) (k : ℕ) → k ≡ i → upd f i x k ≡ x
unfolding upd
upd-at f i x k e = pick_true (eq-eqb k i e) x (f k)

pub upd_same {ℓ} : {A : Type ℓ} (f : ℕ → A) (i : ℕ) (x : A) → upd f i x i ≡ x
upd_same f i x = upd-at f i x i refl

pub upd_other {ℓ} : {A : Type ℓ} (f : ℕ → A) (i : ℕ) (x : A) (k : ℕ) → (k ≡ i → ⊥) → upd f i x k ≡ f k
unfolding upd
upd_other f i x k e = pick-false (ne_eqb k i e) x (f k)

-- a function of a changed function
pub upd-map {ℓ κ} : {A : Type ℓ} {B : Type κ} (g : A → B) (f : ℕ → A) (i : ℕ) (x : A) (k : ℕ) → g (upd f i x k) ≡ upd (λ j. g (f j)) i (g x) k
unfolding upd
upd-map g f i x k = pick-map g (eqb k i) x (f k)

pub tab_more : (n : ℕ) (f : ℕ → List ℕ) → tab (n + 1) f ≡ tab n f ++ f n
unfolding tab
tab_more n f = rw add-one

pub tab_one : (f : ℕ → List ℕ) → tab 1 f ≡ f 0
unfolding tab
tab_one f = refl

pub tab_ext : (n : ℕ) (f g : ℕ → List ℕ) → ((k : ℕ) → k < n → f k ≡ g k) → tab n f ≡ tab n g
unfolding tab
tab_ext zero f g h = refl
tab_ext (suc n) f g h = rw (tab_ext n f g (λ k l. h k (omega arith)), h n (omega arith))

-- a table taken apart
pub tab_append : (n m : ℕ) (f : ℕ → List ℕ) → tab (n + m) f ≡ tab n f ++ tab m (λ k. f (n + k))
unfolding tab
tab_append n zero f = rw add-zero (sym (append-nil (tab n f)))
tab_append n (suc m) f = rw (add-suc, tab, tab_append n m f) (append_assoc (tab n f) (tab m (λ k. f (n + k))) (f (n + m)))

-- a table taken apart into rows, g i chunks in row i
pub tab_rows : (n : ℕ) (g : ℕ → ℕ) (f : ℕ → List ℕ) → tab (sum n g) f ≡ tab n (λ i. tab (g i) (λ r. f (sum i g + r)))
unfolding tab sum
tab_rows zero g f = refl
tab_rows (suc n) g f = rw (tab_append (sum n g) (g n) f, tab_rows n g f)

-- the chunks before chunk i, and chunk i, are no longer than all
pub tab_room : (n i : ℕ) (f : ℕ → List ℕ) → i < n → length (tab i f) + length (f i) ≤ length (tab n f)
unfolding tab
tab_room zero i f h = absurd (not-suc-le-zero h)
tab_room (suc n) i f h = go (le-suc_iff.0 h) (tab_room n i f)
  where
    go : (suc i ≤ n) ⊎ (suc i ≡ suc n) → (i < n → length (tab i f) + length (f i) ≤ length (tab n f))
        → length (tab i f) + length (f i) ≤ length (tab n f ++ f n)
    go (inl a) ih = simp length-append (omega (arith, ih a))
    go (inr e) ih =
        let same : i ≡ n = omega arith in
        rw same (simp length-append (omega arith))

pub length_tab_sum : (n w : ℕ) (f : ℕ → List ℕ) (g : ℕ → ℕ) → ((k : ℕ) → k < n → length (f k) ≡ w * g k) → length (tab n f) ≡ w * sum n g
unfolding tab sum
length_tab_sum zero w f g h = sym (mul-zero w)
length_tab_sum (suc n) w f g h = simp length-append (omega (arith, h n (omega arith), length_tab_sum n w f g (λ k l. h k (omega arith))))

-- ---- chunks of one length
-- each of the first n chunks has w bytes
abbrev pub Wide : ℕ → ℕ → (ℕ → List ℕ) → Type 0
Wide n w f = (k : ℕ) → k < n → length (f k) ≡ w

pub length_tab : (n w : ℕ) (f : ℕ → List ℕ) → Wide n w f → length (tab n f) ≡ w * n
unfolding tab
length_tab zero w f h = sym (mul-zero w)
length_tab (suc n) w f h = simp length-append (omega (arith, length_tab n w f (λ k l. h k (omega arith)), h n (omega arith)))

-- a part of a chunk
pub part_tab : (n w : ℕ) (f : ℕ → List ℕ) → Wide n w f → (i o m : ℕ) → i < n → o + m ≤ w → part (w * i + o) m (tab n f) ≡ part o m (f i)
unfolding tab
part_tab zero w f h i o m l k = absurd (not-suc-le-zero l)
part_tab (suc n) w f h i o m l k = go (le-suc_iff.0 l) (part_tab n w f hn i o m)
  where
    hn : Wide n w f
    hn = λ j q. h j (omega arith)

    go : (suc i ≤ n) ⊎ (suc i ≡ suc n) → (i < n → o + m ≤ w → part (w * i + o) m (tab n f) ≡ part o m (f i))
        → part (w * i + o) m (tab n f ++ f n) ≡ part o m (f i)
    go (inl a) ih =
        let b : w * suc i ≤ w * n = mul-le-mul_left w a in
        part_left (w * i + o) m (tab n f) (f n) (omega (arith, length_tab n w f hn)) ∙ ih a k
    go (inr e) ih =
        let same : i ≡ n = omega arith in
        rw same (part_right (w * n) o m (tab n f) (f n) (length_tab n w f hn))

-- a chunk
pub part_chunk : (n w : ℕ) (f : ℕ → List ℕ) → Wide n w f → (i : ℕ) → i < n → part (w * i) w (tab n f) ≡ f i
part_chunk n w f h i l =
    ap (λ j. part j w (tab n f)) (sym (add-zero (w * i))) ∙ part_tab n w f h i 0 w l (omega arith) ∙ part_whole w (f i) (omega (arith, h i l))

-- rows of chunks of w bytes, g i of them in row i, one behind the other: their length, and the chunk at place r of row i, whatever stands behind
module _ (w : ℕ) (g : ℕ → ℕ) (f : ℕ → ℕ → List ℕ) where
  pub length_rows : (n : ℕ) → ((i r : ℕ) → i < n → r < g i → length (f i r) ≡ w) → length (tab n (λ i. tab (g i) (f i))) ≡ w * sum n g
  length_rows n h = length_tab_sum n w (λ i. tab (g i) (f i)) g (λ i l. length_tab (g i) w (f i) (λ r m. h i r l m))

  pub part_rows : (n : ℕ) → ((i r : ℕ) → i < n → r < g i → length (f i r) ≡ w) → (rest : List ℕ) (i r : ℕ) → i < n → r < g i
      → part (w * (sum i g + r)) w (tab n (λ i. tab (g i) (f i)) ++ rest) ≡ f i r
  part_rows n h rest i r l m =
      let row : ℕ → List ℕ = λ i. tab (g i) (f i) in
      let k : ℕ = n - suc i in
      let whole : n ≡ i + (1 + k) = omega arith in
      let here : i + 0 ≡ i = omega arith in
      let at : w * (sum i g + r) ≡ w * sum i g + w * r = omega arith in
      let inside : w * suc r ≤ w * g i = mul-le-mul_left w m in
      let long : length (row i) ≡ w * g i = length_tab (g i) w (f i) (λ q d. h i q l d) in
      let split : tab n row ++ rest ≡ tab i row ++ (row i ++ (tab k (λ j. row (i + (1 + j))) ++ rest)) =
      ap (λ x. x ++ rest) (ap (λ j. tab j row) whole ∙ tab_append i (1 + k) row
      ∙ ap (λ x. tab i row ++ x) (tab_append 1 k (λ j. row (i + j)) ∙ ap (λ x. x ++ tab k (λ j. row (i + (1 + j)))) (tab_one (λ j. row (i + j)) ∙ ap row here)))
      ∙ append_assoc (tab i row) (row i ++ tab k (λ j. row (i + (1 + j)))) rest
      ∙ ap (λ x. tab i row ++ x) (append_assoc (row i) (tab k (λ j. row (i + (1 + j)))) rest) in
      ap₂ (λ (o : ℕ) (x : List ℕ). part o w x) at split
      ∙ part_right (w * sum i g) (w * r) w (tab i row) _ (length_rows i (λ q t d e. h q t (omega arith) e))
      ∙ part_left (w * r) w (row i) _ (omega arith)
      ∙ part_chunk (g i) w (f i) (λ q d. h i q l d) r m

-- a byte, and a number, of a chunk
pub byte_tab : (n w : ℕ) (f : ℕ → List ℕ) → Wide n w f → (i o : ℕ) → i < n → o < w → byte (tab n f) (w * i + o) ≡ byte (f i) o
byte_tab n w f h i o l k = sym (byte_part (w * i) w (tab n f) o k) ∙ ap (λ s. byte s o) (part_chunk n w f h i l)

-- a part of a chunk replaced
pub splice_tab : (n w : ℕ) (f : ℕ → List ℕ) → Wide n w f → (i o m : ℕ) (z : List ℕ) → i < n → o + m ≤ w
    → splice (w * i + o) m z (tab n f) ≡ tab n (upd f i (splice o m z (f i)))
unfolding tab
splice_tab zero w f h i o m z l k = absurd (not-suc-le-zero l)
splice_tab (suc n) w f h i o m z l k = go (le-suc_iff.0 l) (splice_tab n w f hn i o m z)
  where
    hn : Wide n w f
    hn = λ j q. h j (omega arith)

    g : ℕ → List ℕ
    g = upd f i (splice o m z (f i))

    go : (suc i ≤ n) ⊎ (suc i ≡ suc n) → (i < n → o + m ≤ w → splice (w * i + o) m z (tab n f) ≡ tab n g)
        → splice (w * i + o) m z (tab n f ++ f n) ≡ tab n g ++ g n
    go (inl a) ih =
        let b : w * suc i ≤ w * n = mul-le-mul_left w a in
        splice_left (w * i + o) m z (tab n f) (f n) (omega (arith, length_tab n w f hn))
        ∙ ap (λ r. r ++ f n) (ih a k)
        ∙ ap (λ r. tab n g ++ r) (sym (upd_other f i (splice o m z (f i)) n (omega arith)))
    go (inr e) ih =
        let same : i ≡ n = omega arith in
        ap (λ j. splice (w * j + o) m z (tab n f ++ f n)) same
        ∙ splice_right (w * n) o m z (tab n f) (f n) (length_tab n w f hn)
        ∙ ap (λ r. r ++ splice o m z (f n)) (tab_ext n f g (λ j q. sym (upd_other f i (splice o m z (f i)) j (omega arith))))
        ∙ ap (λ r. tab n g ++ r) (sym (upd-at f i (splice o m z (f i)) n (sym same) ∙ ap (λ j. splice o m z (f j)) same))

-- a chunk replaced
pub splice_chunk : (n w : ℕ) (f : ℕ → List ℕ) → Wide n w f → (i : ℕ) (z : List ℕ) → i < n → splice (w * i) w z (tab n f) ≡ tab n (upd f i z)
splice_chunk n w f h i z l =
    ap (λ j. splice j w z (tab n f)) (sym (add-zero (w * i)))
    ∙ splice_tab n w f h i 0 w z l (omega arith)
    ∙ ap (λ x. tab n (upd f i x)) (splice_whole w z (f i) (omega (arith, h i l)))

-- a part cut into chunks, and a whole list
pub tab_cut : (n w at : ℕ) (s : List ℕ) → tab n (λ k. part (at + w * k) w s) ≡ part at (w * n) s
unfolding tab part
tab_cut zero w at s = rw mul-zero
tab_cut (suc n) w at s = rw (tab_cut n w at s, mul-suc) (part_append at (w * n) w s)

pub tab_parts : (n w : ℕ) (s : List ℕ) → length s ≡ w * n → tab n (λ k. part (w * k) w s) ≡ s
tab_parts n w s e = tab_ext n _ _ (λ k l. ap (λ j. part j w s) (sym (zero-add (w * k)))) ∙ tab_cut n w 0 s ∙ part_whole (w * n) s (omega arith)

-- zeros, and single bytes
pub tab_zeros : (n w : ℕ) → tab n (λ _. zeros w) ≡ zeros (w * n)
unfolding tab
tab_zeros zero w = rw mul-zero (unfold zeros in refl)
tab_zeros (suc n) w = rw (tab_zeros n w, mul-suc) (zeros_append (w * n) w)

pub byte_ones : (n : ℕ) (f : ℕ → ℕ) (i : ℕ) → i < n → byte (tab n (λ k. f k ∷ [])) i ≡ f i
byte_ones n f i l =
    let place : 1 * i + 0 ≡ i = omega arith in
    ap (λ j. byte (tab n (λ k. f k ∷ [])) j) (sym place) ∙ byte_tab n 1 (λ k. f k ∷ []) (λ k q. refl) i 0 l (omega arith)
