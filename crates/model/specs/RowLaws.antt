-- Rows of the table of numbers: two lists of rows that give one number, rows of which none holds, a front part and the first row.
use Rattle.std.specs.Prelude.{ℕ, ◌≤◌, ◌≡◌, refl, ◌≢◌, List, [], ◌∷◌, ◌++◌, Bool, true, false, ◌&&◌, ◌||◌, eqb, leb}
use Rattle.std.proofs.Common.{sym, ◌∙◌, subst, arith, eq-eqb, eqb-true, leb-true}
use Rattle.std.proofs.lemmas.Bool.{eqb-false}
use Rattle.buffer.specs.Choice.{pick}
use Rattle.buffer.specs.ChoiceLaws.{by-test, by-pick, pick_true, pick-false, pick-ext}
use Rattle.buffer.specs.TestLaws.{not-both, and-true, and_first, and_second}
use Rattle.model.specs.Layout.{Store}
use Rattle.model.specs.Numbers.{Call, teach, correct, erase, read, read_in_place, list, unit_out, repair, grow, shrink, raise, first_of, refusals_in}

-- row by row the same, each where none before it holds
abbrev pub Agree : List (Bool × ℕ) → List (Bool × ℕ) → Type 0
Agree [] [] = Unit {0}
Agree [] (t ∷ ts) = ⊥
Agree (s ∷ ss) [] = ⊥
Agree (s ∷ ss) (t ∷ ts) = (s.1 ≡ t.1) × (s.0 ≡ t.0) × (t.0 ≡ false → Agree ss ts)

-- one row of the two lists, and those behind it, P
pub row : {n : ℕ} {s t : Bool} {P : Type 0} → s ≡ t → (t ≡ false → P) → (n ≡ n) × (s ≡ t) × (t ≡ false → P)
row e h = (refl, e, h)

pub agree_same : (ts : List (Bool × ℕ)) → Agree ts ts
agree_same [] = tt
agree_same (t ∷ ts) = (refl, refl, λ _. agree_same ts)

-- none holds
abbrev pub Free : List (Bool × ℕ) → Type 0
Free [] = Unit {0}
Free (t ∷ ts) = (t.0 ≡ false) × Free ts

-- the rows give numbers from 1 to 9: none gives 0, the number of a granted call
abbrev pub Numbered : List (Bool × ℕ) → Type 0
Numbered [] = Unit {0}
Numbered (t ∷ ts) = (leb 1 t.1 && leb t.1 9 ≡ true) × Numbered ts

-- none that gives n holds
abbrev pub Lacks : ℕ → List (Bool × ℕ) → Type 0
Lacks n [] = Unit {0}
Lacks n (t ∷ ts) = ((eqb t.1 n && t.0) ≡ false) × Lacks n ts

pub agree_first : (ss ts : List (Bool × ℕ)) → Agree ss ts → first_of ss ≡ first_of ts
unfolding first_of
agree_first [] [] h = refl
agree_first [] (t ∷ ts) h = absurd h
agree_first (s ∷ ss) [] h = absurd h
agree_first (s ∷ ss) (t ∷ ts) h = rw (h.0, h.1) (rest (λ e. agree_first ss ts (h.2 e)))
  where
    rest : (t.0 ≡ false → first_of ss ≡ first_of ts) → pick t.0 t.1 (first_of ss) ≡ pick t.0 t.1 (first_of ts)
    rest ih = pick-ext t.0 t.1 (first_of ss) t.1 (first_of ts) (λ e. refl) ih

-- a number of 0 says that none holds, and the other way
pub first_free : (ts : List (Bool × ℕ)) → Numbered ts → first_of ts ≡ 0 → Free ts
unfolding first_of
first_free [] n e = tt
first_free (t ∷ ts) n e = go (first_free ts n.1)
  where
    go : (first_of ts ≡ 0 → Free ts) → (t.0 ≡ false) × Free ts
    go ih =
        by-test
        (λ b. pick b t.1 (first_of ts) ≡ 0 → (b ≡ false) × Free ts)
        t.0
        (λ q f. absurd (omega (arith, leb-true 1 t.1 (and_first (leb 1 t.1) (leb t.1 9) n.0), sym (pick_true refl t.1 (first_of ts)) ∙ f)))
        (λ q f. (refl, ih (sym (pick-false refl t.1 (first_of ts)) ∙ f)))
        e

pub free_first : (ts : List (Bool × ℕ)) → Free ts → first_of ts ≡ 0
unfolding first_of
free_first [] f = refl
free_first (t ∷ ts) f = pick-false f.0 t.1 (first_of ts) ∙ free_first ts f.1

pub lacks_first : (n : ℕ) → n ≢ 0 → (ts : List (Bool × ℕ)) → Lacks n ts → first_of ts ≢ n
unfolding first_of
lacks_first n some [] h = λ e. some (sym e)
lacks_first n some (t ∷ ts) h =
    by-pick (λ (m : ℕ). m ≢ n) t.0 t.1 (first_of ts) (λ e q. not-both (and-true (eq-eqb t.1 n q) e) h.0) (λ _. lacks_first n some ts h.1)

pub first_low : (ts : List (Bool × ℕ)) → Numbered ts → first_of ts ≤ 9
unfolding first_of
first_low [] h = omega arith
first_low (t ∷ ts) h =
    let rest : first_of ts ≤ 9 = first_low ts h.1 in
    by-pick (λ (n : ℕ). n ≤ 9) t.0 t.1 (first_of ts) (λ e. leb-true t.1 9 (and_second (leb 1 t.1) (leb t.1 9) h.0)) (λ e. rest)

-- ---- a front part of the rows

pub front_holds : (ts us : List (Bool × ℕ)) → (first_of ts ≡ 0 → ⊥) → first_of (ts ++ us) ≡ first_of ts
unfolding first_of
front_holds [] us h = absurd (h refl)
front_holds (t ∷ ts) us h =
    pick-ext t.0 t.1 (first_of (ts ++ us)) t.1 (first_of ts) (λ e. refl) (λ e. front_holds ts us (λ z. h (pick-false e t.1 (first_of ts) ∙ z)))

pub front_free : (ts us : List (Bool × ℕ)) → Free ts → first_of (ts ++ us) ≡ first_of us
unfolding first_of
front_free [] us f = refl
front_free (t ∷ ts) us f = pick-false f.0 t.1 (first_of (ts ++ us)) ∙ front_free ts us f.1

-- rows behind count only where none of the front part holds
pub agree_append : (ss ts us vs : List (Bool × ℕ)) → Agree ss ts → (Free ts → Agree us vs) → Agree (ss ++ us) (ts ++ vs)
agree_append [] [] us vs h k = k tt
agree_append [] (t ∷ ts) us vs h k = absurd h
agree_append (s ∷ ss) [] us vs h k = absurd h
agree_append (s ∷ ss) (t ∷ ts) us vs h k = (h.0, h.1, λ e. agree_append ss ts us vs (h.2 e) (λ f. k (e, f)))

-- by whether the front part refuses
pub by_front {ℓ} : (P : ℕ → Type ℓ) (ts us : List (Bool × ℕ)) → Numbered ts
    → (first_of ts ≢ 0 → P (first_of ts)) → (Free ts → P (first_of us)) → P (first_of (ts ++ us))
by_front P ts us n refused free = by-test (λ (t : Bool). P (first_of (ts ++ us))) (eqb (first_of ts) 0)
    (λ e. let f : Free ts = first_free ts n (eqb-true (first_of ts) 0 e) in subst P (sym (front_free ts us f)) (free f))
    (λ e. let z : first_of ts ≢ 0 = eqb-false (first_of ts) 0 e in subst P (sym (front_holds ts us z)) (refused z))

-- where all rows together refuse nothing, the front part does not
pub front_granted : (ts us : List (Bool × ℕ)) → Numbered ts → first_of (ts ++ us) ≡ 0 → Free ts
front_granted ts us n = by_front (λ k. k ≡ 0 → Free ts) ts us n (λ z e. absurd (z e)) (λ f e. f)

-- ---- the first row

pub row_holds : {t : Bool} (n : ℕ) (ts : List (Bool × ℕ)) → t ≡ true → first_of ((t, n) ∷ ts) ≡ n
unfolding first_of
row_holds n ts e = pick_true e n (first_of ts)

pub row_fails : {t : Bool} (n : ℕ) (ts : List (Bool × ℕ)) → t ≡ false → first_of ((t, n) ∷ ts) ≡ first_of ts
unfolding first_of
row_fails n ts e = pick-false e n (first_of ts)

-- two rows of one number are a row of either
pub row_pair : (a b : Bool) (n : ℕ) (ts : List (Bool × ℕ)) → first_of ((a, n) ∷ (b, n) ∷ ts) ≡ first_of ((a || b, n) ∷ ts)
unfolding first_of pick
row_pair true b n ts = refl
row_pair false b n ts = refl

-- ---- the rows of a store

pub numbered_in : (ok : Bool) (v : Store) (c : Call) → Numbered (refusals_in ok v c)
unfolding refusals_in
numbered_in ok v (teach k x) = (refl, (refl, (refl, (refl, (refl, (refl, tt))))))
numbered_in ok v (correct k x) = (refl, (refl, (refl, (refl, (refl, tt)))))
numbered_in ok v (erase k) = (refl, (refl, (refl, (refl, tt))))
numbered_in ok v (read k out) = (refl, (refl, (refl, (refl, (refl, tt)))))
numbered_in ok v (read_in_place k) = tt
numbered_in ok v (list out) = (refl, (refl, (refl, tt)))
numbered_in ok v (unit_out w) = (refl, (refl, (refl, (refl, tt))))
numbered_in ok v (repair g) = (refl, (refl, (refl, (refl, tt))))
numbered_in ok v grow = (refl, (refl, (refl, (refl, tt))))
numbered_in ok v shrink = (refl, (refl, (refl, (refl, (refl, tt)))))
numbered_in ok v raise = (refl, (refl, (refl, tt)))
