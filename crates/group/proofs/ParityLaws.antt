-- Laws of four bodies at a column, and of parity. Adding the change of one body, times its coefficient, gives the body at the column made anew
-- (`at_upd`, for parity `parity_upd`); done to a wrong parity, it leaves the same error in it (`parity_error`).
use Rattle.std.specs.Prelude.{◌≡◌, refl, List, ℕ, ◌+◌, ◌<◌, eqb, length}
use Rattle.std.proofs.Common.{sym, ap₂, ◌∙◌, arith, eqb-true}
use Rattle.std.proofs.Math.Path.{ap}
use Rattle.std.specs.Int.Bits.{bit_xor}
use Rattle.std.proofs.lemmas.Bool.{eqb-false}
use Rattle.buffer.specs.Choice.{pick}
use Rattle.buffer.specs.ChoiceLaws.{by-test}
use Rattle.buffer.specs.Bytes.{byte, zeros}
use Rattle.buffer.specs.ByteLaws.{length_zeros}
use Rattle.buffer.specs.Loops.{entries}
use Rattle.buffer.specs.RangeLaws.{below-four, entries_of}
use Rattle.buffer.specs.Table.{upd}
use Rattle.buffer.specs.TableLaws.{upd-at, upd_other}
use Rattle.code.specs.Matrix.{entry}
use Rattle.code.specs.MatrixLaws.{entry_bound}
use Rattle.code.specs.Scaling.{scale}
use Rattle.group.specs.Body.{add_body, scale_body}
use Rattle.group.specs.BodyLaws.{length_add, length_scale, byte_add, byte_scale, add_swap}
use Rattle.group.specs.BodyLaws.{add_self, add_zeros, zeros_add, add_back, scale_sum, scale_zeros}
use Rattle.group.specs.Parity.{coefficient, sum4, body_at, parity, adjusted}

-- ---- sums over the four places
pub sum4_ext : (f g : ℕ → List ℕ) → ((p : ℕ) → p < 4 → f p ≡ g p) → sum4 f ≡ sum4 g
unfolding sum4
sum4_ext f g h = rw (h 0 (omega arith), h 1 (omega arith), h 2 (omega arith), h 3 (omega arith))

pub length_sum4 : (n : ℕ) (f : ℕ → List ℕ) → ((p : ℕ) → p < 4 → length (f p) ≡ n) → length (sum4 f) ≡ n
unfolding sum4
length_sum4 n f h =
    length_add
    n
    (add_body (add_body (f 0) (f 1)) (f 2))
    (f 3)
    (length_add n (add_body (f 0) (f 1)) (f 2) (length_add n (f 0) (f 1) (h 0 (omega arith)) (h 1 (omega arith))) (h 2 (omega arith)))
    (h 3 (omega arith))

pub byte_sum4 : (n : ℕ) (f : ℕ → List ℕ) → ((p : ℕ) → p < 4 → length (f p) ≡ n) → (i : ℕ)
    → byte (sum4 f) i ≡ bit_xor (bit_xor (bit_xor (byte (f 0) i) (byte (f 1) i)) (byte (f 2) i)) (byte (f 3) i)
unfolding sum4
byte_sum4 n f h i =
    let two : length (add_body (f 0) (f 1)) ≡ n = length_add n (f 0) (f 1) (h 0 (omega arith)) (h 1 (omega arith)) in
    let three : length (add_body (add_body (f 0) (f 1)) (f 2)) ≡ n = length_add n (add_body (f 0) (f 1)) (f 2) two (h 2 (omega arith)) in
    byte_add (add_body (add_body (f 0) (f 1)) (f 2)) (f 3) i (three ∙ sym (h 3 (omega arith)))
    ∙ ap (λ b. bit_xor b (byte (f 3) i))
    (byte_add (add_body (f 0) (f 1)) (f 2) i (two ∙ sym (h 2 (omega arith)))
    ∙ ap (λ b. bit_xor b (byte (f 2) i)) (byte_add (f 0) (f 1) i (h 0 (omega arith) ∙ sym (h 1 (omega arith)))))

pub sum4_add : (f g : ℕ → List ℕ) → sum4 (λ p. add_body (f p) (g p)) ≡ add_body (sum4 f) (sum4 g)
unfolding sum4
sum4_add f g =
    ap
    (λ v. add_body (add_body v (add_body (f 2) (g 2))) (add_body (f 3) (g 3)))
    (add_swap (f 0) (g 0) (f 1) (g 1))
    ∙ ap (λ v. add_body v (add_body (f 3) (g 3))) (add_swap (add_body (f 0) (f 1)) (add_body (g 0) (g 1)) (f 2) (g 2))
    ∙ add_swap (add_body (add_body (f 0) (f 1)) (f 2)) (add_body (add_body (g 0) (g 1)) (g 2)) (f 3) (g 3)

-- one term among zeros
sum4_alone : (n : ℕ) (d : List ℕ) → length d ≡ n → (p : ℕ) → p < 4 → sum4 (upd (λ _. zeros n) p d) ≡ d
unfolding sum4 upd pick
sum4_alone n d e =
    let z : length (zeros n) ≡ n = length_zeros n in
    below-four
    (λ p. sum4 (upd (λ _. zeros n) p d) ≡ d)
    (simp (add_zeros n d e))
    (simp (zeros_add n d e, add_zeros n d e))
    (simp (add_zeros n (zeros n) z, zeros_add n d e, add_zeros n d e))
    (simp (add_zeros n (zeros n) z, zeros_add n d e))

-- one term replaced
pub sum4_upd : (n : ℕ) (f : ℕ → List ℕ) → ((p : ℕ) → p < 4 → length (f p) ≡ n) → (p : ℕ) (x : List ℕ) → p < 4 → length x ≡ n
    → sum4 (upd f p x) ≡ add_body (sum4 f) (add_body (f p) x)
sum4_upd n f h p x l e =
    sum4_ext (upd f p x) (λ q. add_body (f q) (g q)) (λ q k. at q k)
    ∙ sum4_add f g
    ∙ ap (add_body (sum4 f)) (sum4_alone n d (length_add n (f p) x (h p l) e) p l)
  where
    d : List ℕ
    d = add_body (f p) x

    g : ℕ → List ℕ
    g = upd (λ _. zeros n) p d

    at : (q : ℕ) → q < 4 → upd f p x q ≡ add_body (f q) (g q)
    at q k =
        by-test
        (λ _. upd f p x q ≡ add_body (f q) (g q))
        (eqb q p)
        (λ t.
        let same : q ≡ p = eqb-true q p t in
        upd-at f p x q same
        ∙ sym (ap₂ add_body (ap f same) (upd-at (λ _. zeros n) p d q same) ∙ add_back n (f p) x (h p l) e))
        (λ t.
        upd_other f p x q (eqb-false q p t)
        ∙ sym (ap (add_body (f q)) (upd_other (λ _. zeros n) p d q (eqb-false q p t)) ∙ add_zeros n (f q) (h q k)))

-- ---- at a column
pub at_ext : (c : ℕ) (f g : ℕ → List ℕ) → ((p : ℕ) → p < 4 → f p ≡ g p) → body_at c f ≡ body_at c g
unfolding body_at
at_ext c f g h = sum4_ext _ _ (λ p l. ap (scale_body (entry p c)) (h p l))

pub length_at : (n c : ℕ) (f : ℕ → List ℕ) → ((p : ℕ) → p < 4 → length (f p) ≡ n) → length (body_at c f) ≡ n
unfolding body_at
length_at n c f h = length_sum4 n _ (λ p l. length_scale (entry p c) (f p) ∙ h p l)

-- empty bodies
at_zeros : (n c : ℕ) → c < 17 → body_at c (λ _. zeros n) ≡ zeros n
unfolding body_at
at_zeros n c k =
    sum4_ext (λ p. scale_body (entry p c) (zeros n)) (λ _. zeros n) (λ p l. scale_zeros (entry p c) n (entry_bound p c l k))
    ∙ (unfold sum4 in simp (add_zeros n (zeros n) (length_zeros n)))

-- THE LAW OF CHANGE
pub at_upd : (n c p : ℕ) → c < 17 → p < 4 → (bodies : ℕ → List ℕ) → ((q : ℕ) → q < 4 → length (bodies q) ≡ n) → (new : List ℕ) → length new ≡ n
    → body_at c (upd bodies p new) ≡ add_body (body_at c bodies) (scale_body (entry p c) (add_body (bodies p) new))
unfolding body_at
at_upd n c p hc hp bodies h new e =
    sum4_ext (λ q. scale_body (entry q c) (upd bodies p new q)) (upd terms p (scale_body (entry p c) new)) (λ q k. at q)
    ∙ sum4_upd n terms (λ q k. length_scale (entry q c) (bodies q) ∙ h q k) p (scale_body (entry p c) new) hp (length_scale (entry p c) new ∙ e)
    ∙ ap (add_body (sum4 terms)) (sym (scale_sum (entry p c) (entry_bound p c hp hc) (bodies p) new))
  where
    terms : ℕ → List ℕ
    terms = λ q. scale_body (entry q c) (bodies q)

    at : (q : ℕ) → scale_body (entry q c) (upd bodies p new q) ≡ upd terms p (scale_body (entry p c) new) q
    at q =
        by-test
        (λ _. scale_body (entry q c) (upd bodies p new q) ≡ upd terms p (scale_body (entry p c) new) q)
        (eqb q p)
        (λ t.
        let same : q ≡ p = eqb-true q p t in
        ap₂ (λ k x. scale_body (entry k c) x) same (upd-at bodies p new q same) ∙ sym (upd-at terms p (scale_body (entry p c) new) q same))
        (λ t.
        ap (scale_body (entry q c)) (upd_other bodies p new q (eqb-false q p t))
        ∙ sym (upd_other terms p (scale_body (entry p c) new) q (eqb-false q p t)))

-- ---- parity
pub coefficient_bound : (p j : ℕ) → p < 4 → j < 3 → coefficient p j < 16
unfolding coefficient
coefficient_bound p j l k = entry_bound p (4 + j) l (omega arith)

pub parity_ext : (j : ℕ) (f g : ℕ → List ℕ) → ((p : ℕ) → p < 4 → f p ≡ g p) → parity j f ≡ parity j g
unfolding parity
parity_ext j f g h = at_ext _ f g h

pub length_parity : (n j : ℕ) (f : ℕ → List ℕ) → ((p : ℕ) → p < 4 → length (f p) ≡ n) → length (parity j f) ≡ n
unfolding parity
length_parity n j f h = length_at n _ f h

pub parity_zeros : (n j : ℕ) → j < 3 → parity j (λ _. zeros n) ≡ zeros n
unfolding parity
parity_zeros n j k = at_zeros n _ (omega arith)

-- a change, as code writes it, byte by byte
pub length_adjusted : (n j p : ℕ) (change old : List ℕ) → length change ≡ n → length old ≡ n → length (adjusted j p change old) ≡ n
unfolding adjusted
length_adjusted n j p change old e f = length_add n old (scale_body (coefficient p j) change) f (length_scale (coefficient p j) change ∙ e)

pub add_scaled_entries : (c : ℕ) (x y : List ℕ) → length x ≡ length y
    → add_body x (scale_body c y) ≡ entries (length x) (λ i. bit_xor (byte x i) (scale c (byte y i)))
add_scaled_entries c x y e =
    let k : length x ≡ length (scale_body c y) = e ∙ sym (length_scale c y) in
    entries_of
    (add_body x (scale_body c y))
    (length x)
    (λ i. bit_xor (byte x i) (scale c (byte y i)))
    (length_add (length x) x (scale_body c y) refl (sym k))
    (λ i h. byte_add x (scale_body c y) i k ∙ ap (bit_xor (byte x i)) (byte_scale c y i (rw (← e) h)))

module _ (n j p : ℕ) (j3 : j < 3) (p4 : p < 4) (bodies : ℕ → List ℕ) (h : (q : ℕ) → q < 4 → length (bodies q) ≡ n) (new : List ℕ) (e : length new ≡ n) where
  pub parity_upd : parity j (upd bodies p new) ≡ adjusted j p (add_body (bodies p) new) (parity j bodies)
  unfolding parity adjusted coefficient
  parity_upd = at_upd n (4 + j) p (omega arith) p4 bodies h new e

  -- a wrong parity y stays wrong by the same error
  pub parity_error : (y : List ℕ) → length y ≡ n
      → add_body (adjusted j p (add_body (bodies p) new) y) (parity j (upd bodies p new)) ≡ add_body y (parity j bodies)
  parity_error y k =
      ap (add_body (adjusted j p change y)) parity_upd ∙ cancel
    where
      change : List ℕ
      change = add_body (bodies p) new

      s : List ℕ
      s = scale_body (coefficient p j) change

      cancel : add_body (adjusted j p change y) (adjusted j p change (parity j bodies)) ≡ add_body y (parity j bodies)
      cancel =
          unfold adjusted in add_swap y s (parity j bodies) s
          ∙ ap (add_body (add_body y (parity j bodies))) (add_self n s (length_scale (coefficient p j) change ∙ length_add n (bodies p) new (h p p4) e))
          ∙ add_zeros n (add_body y (parity j bodies)) (length_add n y (parity j bodies) k (length_parity n j bodies h))
