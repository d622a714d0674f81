-- Tests of numbers, and tests joined by "and" or by "or".
use Rattle.std.specs.Prelude.{◌≡◌, refl, Bool, true, false, not, ◌&&◌, ◌||◌, ℕ, suc, ◌≤◌, ◌<◌, eqb, leb, ltb}
use Rattle.std.proofs.Common.{sym, ◌∙◌, true≢false, arith, lt-ltb, le-leb, eq-eqb, ne_eqb, eqb-true, ltb-true}
use Rattle.std.specs.Int.Bits.{bit_or, or_add_and}
use Rattle.std.proofs.lemmas.Nat.{and_le_l, and_le_r}
use Rattle.std.proofs.lemmas.Bool.{lt-leb, eqb-false, not-true, not-false}
use Rattle.buffer.specs.ChoiceLaws.{by-test}

-- no test says both
pub not-both {ℓ} : {A : Type ℓ} {t : Bool} → t ≡ true → t ≡ false → A
not-both e f = absurd (true≢false (sym e ∙ f))

-- ---- a test of a definition, from the branch that the code took: the code compares x, which a callee says is y
pub is_eq : {x y k l : ℕ} → x ≡ y → k ≡ l → x ≡ k → eqb y l ≡ true
is_eq p q e = eq-eqb _ _ (sym p ∙ e ∙ q)

pub is_ne : {x y k l : ℕ} → x ≡ y → k ≡ l → (x ≡ k → ⊥) → eqb y l ≡ false
is_ne p q e = ne_eqb _ _ (λ h. e (p ∙ h ∙ sym q))

pub is_le : {x y k l : ℕ} → x ≡ y → k ≡ l → x ≤ k → leb y l ≡ true
is_le {y = y} {l = l} p q e = le-leb y l (rw (← p, ← q) e)

pub not_le : {x y k l : ℕ} → x ≡ y → k ≡ l → k < x → leb y l ≡ false
not_le {y = y} {l = l} p q e = lt-leb y l (rw (← p, ← q) e)

-- the same of a test that a callee made: `if !f(..)` taken, and left
pub is_no : {r b : Bool} → r ≡ b → not r ≡ true → b ≡ false
is_no {r} e h = sym e ∙ not-true r h

pub is_yes : {r b : Bool} → r ≡ b → not r ≡ false → b ≡ true
is_yes {r} e h = sym e ∙ not-false r h

-- ---- two tests are the same where each follows from the other
pub same_test : (s t : Bool) → (s ≡ true → t ≡ true) → (t ≡ true → s ≡ true) → s ≡ t
same_test true t h k = sym (h refl)
same_test false true h k = k refl
same_test false false h k = refl

-- ---- and
pub and-true : {s t : Bool} → s ≡ true → t ≡ true → (s && t) ≡ true
and-true p q = rw (p, q)

pub and_first : (s t : Bool) → (s && t) ≡ true → s ≡ true
and_first true t h = refl
and_first false t h = h

pub and_second : (s t : Bool) → (s && t) ≡ true → t ≡ true
and_second true t h = h
and_second false t h = not-both h refl

pub and_false_first : {s : Bool} → s ≡ false → (t : Bool) → (s && t) ≡ false
and_false_first e t = rw e

pub and_false_second : (s : Bool) {t : Bool} → t ≡ false → (s && t) ≡ false
and_false_second true e = e
and_false_second false e = refl

-- the second test counts only where the first holds
pub and_ext : (s t u : Bool) → (s ≡ true → t ≡ u) → (s && t) ≡ (s && u)
and_ext true t u h = h refl
and_ext false t u h = refl

-- where both do not hold and the first does, the second does not
pub and_other : (s t : Bool) → s ≡ true → (s && t) ≡ false → t ≡ false
and_other true t e h = h
and_other false t e h = not-both e refl

-- two numbers compared at once
pub by_both {ℓ} : (P : Bool → Type ℓ) (v u q r : ℕ) → (v ≡ u → q ≡ r → P true) → ((v ≡ u → q ≡ r → ⊥) → P false) → P (eqb v u && eqb q r)
by_both P v u q r h k =
    by-test
    (λ s. P (s && eqb q r))
    (eqb v u)
    (λ d. by-test P (eqb q r) (λ e. h (eqb-true v u d) (eqb-true q r e)) (λ e. k (λ _ f. eqb-false q r e f)))
    (λ d. k (λ f _. eqb-false v u d f))

-- ---- or
-- the second test counts only where the first fails
pub or_else : (s t : Bool) → (s ≡ false → t ≡ true) → (s || t) ≡ true
or_else true t h = refl
or_else false t h = h refl

pub or_other : (s t : Bool) → s ≡ false → (s || t) ≡ true → t ≡ true
or_other s t e h = rw e at h

pub or_false_first : (s t : Bool) → (s || t) ≡ false → s ≡ false
or_false_first true t h = h
or_false_first false t h = refl

pub or_false_second : (s t : Bool) → (s || t) ≡ false → t ≡ false
or_false_second true t h = not-both refl h
or_false_second false t h = h

pub or_ext : (s t u : Bool) → (s ≡ false → t ≡ u) → (s || t) ≡ (s || u)
or_ext true t u h = refl
or_ext false t u h = h refl

-- ---- two numbers joined by "or" are 0 where both are
pub or_zero : (a b : ℕ) → eqb (bit_or a b) 0 ≡ (eqb a 0 && eqb b 0)
or_zero a b =
    same_test
    (eqb (bit_or a b) 0)
    (eqb a 0 && eqb b 0)
    (λ h.
    let z : bit_or a b ≡ 0 = eqb-true (bit_or a b) 0 h in
    and-true
    (eq-eqb a 0 (omega (arith, or_add_and a b, and_le_l a b, and_le_r a b)))
    (eq-eqb b 0 (omega (arith, or_add_and a b, and_le_l a b, and_le_r a b))))
    (λ h.
    let x : a ≡ 0 = eqb-true a 0 (and_first (eqb a 0) (eqb b 0) h) in
    let y : b ≡ 0 = eqb-true b 0 (and_second (eqb a 0) (eqb b 0) h) in
    eq-eqb (bit_or a b) 0 (omega (arith, or_add_and a b)))

-- ---- a bound that grows by one
pub ltb_suc : (a n : ℕ) → (a ≡ n → ⊥) → ltb a n ≡ ltb a (suc n)
ltb_suc a n h =
    same_test
    (ltb a n)
    (ltb a (suc n))
    (λ e. let l : a < n = ltb-true a n e in lt-ltb a (suc n) (omega arith))
    (λ e. let l : a < suc n = ltb-true a (suc n) e in lt-ltb a n (omega arith))
