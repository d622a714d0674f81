-- What stands in a list: in lists one behind the other, in the list of f 0 to f (n - 1), at a place, and in a list changed entry by entry.
use Prim.Native.Nat.{ℕ, zero, suc, ◌<◌}
use Rattle.std.specs.Prelude.{◌≡◌, ◌⊎◌, List, [], ◌∷◌, ◌++◌, map, length, get_or}
use Rattle.std.proofs.Math.Path.{refl}
use Rattle.std.proofs.Common.{sym, ap, ap₂, le_of_suc-le-suc, not-suc-le-zero}
use Rattle.std.proofs.Math.Logic.{inl, inr, ⊎_elim}
use native.Mathlib.Omega.{arith}
use Rattle.buffer.specs.Loops.{entries}

-- an element stands in a list
abbrev pub In : {A : Type 0} → A → List A → Type 0
In e [] = ⊥
In e (f ∷ fs) = (e ≡ f) ⊎ In e fs

-- all that stands in one list stands in another
abbrev pub Inside : {A : Type 0} → List A → List A → Type 0
Inside xs ys = (e : _) → In e xs → In e ys

module _ {A : Type 0} where
  -- ---- lists one behind the other
  pub in_front : (e : A) (xs ys : List A) → In e xs → In e (xs ++ ys)
  in_front e [] ys i = absurd i
  in_front e (x ∷ xs) ys i = ⊎_elim (λ q. inl q) (λ j. inr (in_front e xs ys j)) i

  pub in_behind : (e : A) (xs ys : List A) → In e ys → In e (xs ++ ys)
  in_behind e [] ys i = i
  in_behind e (x ∷ xs) ys i = inr (in_behind e xs ys i)

  pub in_either : (e : A) (xs ys : List A) → In e (xs ++ ys) → In e xs ⊎ In e ys
  in_either e [] ys i = inr i
  in_either e (x ∷ xs) ys i = ⊎_elim (λ q. inl (inl q)) (λ j. ⊎_elim (λ k. inl (inr k)) (λ k. inr k) (in_either e xs ys j)) i

  -- ---- the list of f 0 to f (n - 1)
  pub in_entries : (n : ℕ) (f : ℕ → A) (r : ℕ) → r < n → In (f r) (entries n f)
  unfolding entries
  in_entries zero f r l = absurd (not-suc-le-zero l)
  in_entries (suc n) f zero l = inl refl
  in_entries (suc n) f (suc r) l = inr (in_entries n (λ (k : ℕ). f (suc k)) r (le_of_suc-le-suc l))

  pub entries_in_lem : (n : ℕ) (f : ℕ → A) (e : A) → In e (entries n f) → (r : ℕ) × (r < n) × (e ≡ f r)
  unfolding entries
  entries_in_lem zero f e i = absurd i
  entries_in_lem (suc n) f e i =
      ⊎_elim (λ q. (0, omega arith, q)) (λ j. let r = entries_in_lem n (λ (k : ℕ). f (suc k)) e j in (suc r.0, omega (arith, r.1), r.2)) i

  -- ---- by place
  pub in_place : (es : List A) (i : ℕ) (d : A) → i < length es → In (get_or es i d) es
  in_place [] i d l = absurd (not-suc-le-zero l)
  in_place (e ∷ es) zero d l = inl refl
  in_place (e ∷ es) (suc i) d l = inr (in_place es i d (le_of_suc-le-suc l))

  pub place_in : (es : List A) (d e : A) → In e es → (i : ℕ) × (i < length es) × (get_or es i d ≡ e)
  place_in [] d e j = absurd j
  place_in (f ∷ fs) d e j = ⊎_elim (λ q. (0, omega arith, sym q)) (λ k. let i = place_in fs d e k in (suc i.0, omega (arith, i.1), i.2)) j

-- ---- each changed by a function
module _ {A B : Type 0} (g : A → B) where
  pub in_map : (es : List A) (e : A) → In e es → In (g e) (map g es)
  in_map [] e i = absurd i
  in_map (f ∷ fs) e i = ⊎_elim (λ q. inl (ap g q)) (λ j. inr (in_map fs e j)) i

  pub map_in : (es : List A) (e : B) → In e (map g es) → (f : A) × In f es × (e ≡ g f)
  map_in [] e i = absurd i
  map_in (f ∷ fs) e i = ⊎_elim (λ q. (f, inl refl, q)) (λ j. let r = map_in fs e j in (r.0, inr r.1, r.2)) i

  -- two functions that agree on what stands there
  pub map_alike : (h : A → B) (es : List A) → ((e : A) → In e es → g e ≡ h e) → map g es ≡ map h es
  map_alike h [] same = refl
  map_alike h (e ∷ es) same = ap₂ ◌∷◌ (same e (inl refl)) (map_alike h es (λ d i. same d (inr i)))

pub map_none : {A : Type 0} (g : A → A) (es : List A) → ((e : A) → In e es → g e ≡ e) → map g es ≡ es
map_none g [] same = refl
map_none g (e ∷ es) same = ap₂ ◌∷◌ (same e (inl refl)) (map_none g es (λ d i. same d (inr i)))
