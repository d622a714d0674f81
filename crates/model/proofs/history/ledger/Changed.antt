-- A list of records with different keys after a correct (one record replaced) and after an erase (the last record moved into the freed place):
-- which keys it then has.
use Prim.Native.Nat.{ℕ, suc, ◌<◌}
use mathlib.Core.Path.{◌≡◌, sym, ap, ◌∙◌, subst}
use mathlib.Core.Logic.{◌≢◌}
use mathlib.Core.List.{List}
use mathlib.Core.Option.{none, some}
use native.Mathlib.Omega.{arith}
use lib.Dec.{eqb, ltb}
use lib.ListN.{length, take, get_or, set, length-set, length-take}
use lib.Seq.{get_or-set_same, get_or-set_other, get_or-take}
use borrow.Author.Tests.{eqb-true, eqb-false, ltb-true, ltb-false}
use Rattle.buffer.specs.ChoiceLaws.{by-test}
use Rattle.model.specs.history.Ledger.{Rec, empty}
use Rattle.model.proofs.history.ledger.Seek.{seek, Different, Without, seek_miss, seek_hit, by_seek}

-- a key that two lists both have with one field, or both have not
same_seek : (xs ys : List Rec) (k : ℕ) → Different xs → Different ys
    → ((r : ℕ) → r < length xs → (get_or xs r empty).key ≡ k → (q : ℕ) × (q < length ys) × (get_or ys q empty ≡ get_or xs r empty))
    → (Without xs k → Without ys k) → seek ys k ≡ seek xs k
same_seek xs ys k d e there gone =
    by_seek xs k (seek ys k ≡ seek xs k)
    (λ r a f.
    let w = there r a f in
    seek_hit ys k w.0 e w.1 (ap (λ (z : Rec). z.key) w.2 ∙ f) ∙ ap (λ (z : Rec). some z.field) w.2 ∙ sym (seek_hit xs k r d a f))
    (λ a. seek_miss ys k (gone a) ∙ sym (seek_miss xs k a))

-- ---- one record replaced by one with the same key

module _ (rs : List Rec) (d : Different rs) (n : ℕ) (y : Rec) (inside : n < length rs) (hit : (get_or rs n empty).key ≡ y.key) where
  here : get_or (set rs n y) n empty ≡ y
  here = get_or-set_same rs n y empty inside

  pub same_key : (r : ℕ) → (get_or (set rs n y) r empty).key ≡ (get_or rs r empty).key
  same_key r =
      by-test
      (λ t. (get_or (set rs n y) r empty).key ≡ (get_or rs r empty).key)
      (eqb r n)
      (λ e.
      ap (λ (i : ℕ). (get_or (set rs n y) i empty).key) (eqb-true r n e)
      ∙ ap (λ (z : Rec). z.key) here
      ∙ sym hit
      ∙ ap (λ (i : ℕ). (get_or rs i empty).key) (sym (eqb-true r n e)))
      (λ e. ap (λ (z : Rec). z.key) (get_or-set_other rs n r y empty (eqb-false r n e)))

  pub set_differ : Different (set rs n y)
  set_differ r q a b = rw (same_key r, same_key q) (d r q a (omega (arith, length-set rs n y)))

  pub set_seek : seek (set rs n y) y.key ≡ some y.field
  set_seek =
      seek_hit (set rs n y) y.key n set_differ (omega (arith, length-set rs n y)) (ap (λ (z : Rec). z.key) here) ∙ ap (λ (z : Rec). some z.field) here

  pub set_other : (k : ℕ) → y.key ≢ k → seek (set rs n y) k ≡ seek rs k
  set_other k miss =
      same_seek rs (set rs n y) k d set_differ
      (λ r a f. (r, omega (arith, length-set rs n y), get_or-set_other rs n r y empty (λ q. miss (sym hit ∙ ap (λ (i : ℕ). (get_or rs i empty).key) (sym q) ∙ f))))
      (λ a r b f. a r (omega (arith, length-set rs n y)) (sym (same_key r) ∙ f))

-- ---- the last record, at place e, moved into place n, and the list cut behind it

abbrev pub cut : List Rec → ℕ → ℕ → List Rec
cut rs n e = take e (set rs n (get_or rs e empty))

module _ (rs : List Rec) (d : Different rs) (n e : ℕ) (inside : n < length rs) (end : length rs ≡ suc e) where
  pub cut_length : length (cut rs n e) ≡ e
  cut_length = omega (arith, length-take e (set rs n (get_or rs e empty)), length-set rs n (get_or rs e empty))

  cut_here : n < e → get_or (cut rs n e) n empty ≡ get_or rs e empty
  cut_here a = get_or-take e (set rs n (get_or rs e empty)) n empty a ∙ get_or-set_same rs n (get_or rs e empty) empty inside

  cut_there : (r : ℕ) → r < e → (r ≡ n → ⊥) → get_or (cut rs n e) r empty ≡ get_or rs r empty
  cut_there r a b = get_or-take e (set rs n (get_or rs e empty)) r empty a ∙ get_or-set_other rs n r (get_or rs e empty) empty b

  -- where a record of the new list stood
  pub cut_from : (P : Rec → Type 0) (r : ℕ) → r < e → (r ≡ n → n < e → P (get_or rs e empty)) → ((r ≡ n → ⊥) → P (get_or rs r empty))
      → P (get_or (cut rs n e) r empty)
  cut_from P r a p q =
      by-test
      (λ t. P (get_or (cut rs n e) r empty))
      (eqb r n)
      (λ f.
      let m : r ≡ n = eqb-true r n f in
      let b : n < e = omega arith in
      subst P (sym (ap (λ (i : ℕ). get_or (cut rs n e) i empty) m ∙ cut_here b)) (p m b))
      (λ f. subst P (sym (cut_there r a (eqb-false r n f))) (q (eqb-false r n f)))

  pub cut_differ : Different (cut rs n e)
  cut_differ r q a b =
      let qe : q < e = omega (arith, cut_length) in
      cut_from (λ (x : Rec). x.key ≢ (get_or (cut rs n e) q empty).key) r (omega arith)
      (λ m c. rw (cut_there q qe (omega arith)) (λ f. d q e qe (omega arith) (sym f)))
      (λ f. cut_from (λ (y : Rec). (get_or rs r empty).key ≢ y.key) q qe (λ m c. d r e (omega arith) (omega arith)) (λ g. d r q a (omega arith)))

  apart : (r q : ℕ) → r < length rs → q < length rs → (r ≡ q → ⊥) → (get_or rs r empty).key ≢ (get_or rs q empty).key
  apart r q a b c =
      by-test
      (λ t. (get_or rs r empty).key ≢ (get_or rs q empty).key)
      (ltb r q)
      (λ f. d r q (ltb-true r q f) b)
      (λ f g. d q r (omega (arith, ltb-false r q f)) a (sym g))

  pub cut_seek : seek (cut rs n e) (get_or rs n empty).key ≡ none
  cut_seek = seek_miss (cut rs n e) (get_or rs n empty).key (λ r a.
      let b : r < e = omega (arith, cut_length) in
      cut_from (λ (x : Rec). x.key ≢ (get_or rs n empty).key) r b
      (λ m c f. d n e c (omega arith) (sym f))
      (λ m. apart r n (omega arith) inside m))

  pub cut_other : (k : ℕ) → (get_or rs n empty).key ≢ k → seek (cut rs n e) k ≡ seek rs k
  cut_other k miss =
      same_seek rs (cut rs n e) k d cut_differ
      (λ r a f. place r a (λ m. miss (ap (λ (i : ℕ). (get_or rs i empty).key) (sym m) ∙ f)))
      (λ a r b.
      let c : r < e = omega (arith, cut_length) in
      cut_from (λ (x : Rec). x.key ≢ k) r c (λ m g. a e (omega arith)) (λ m. a r (omega arith)))
    where
      place : (r : ℕ) → r < length rs → (r ≡ n → ⊥)
          → (q : ℕ) × (q < length (cut rs n e)) × (get_or (cut rs n e) q empty ≡ get_or rs r empty)
      place r a m =
          by-test
          (λ t. (q : ℕ) × (q < length (cut rs n e)) × (get_or (cut rs n e) q empty ≡ get_or rs r empty))
          (eqb r e)
          (λ g.
          let s : r ≡ e = eqb-true r e g in
          let b : n < e = omega arith in
          (n, omega (arith, cut_length), cut_here b ∙ ap (λ (i : ℕ). get_or rs i empty) (sym s)))
          (λ g.
          let b : r < e = omega (arith, eqb-false r e g) in
          (r, omega (arith, cut_length), cut_there r b m))
