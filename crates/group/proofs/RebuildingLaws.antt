-- THE LAW OF REBUILDING, for any four different columns of all seventeen: bodies that are the same there are the same (`bodies_fixed`); whatever is
-- held there, right or wrong, the rebuilt bodies have it by the matrix (`rebuilt_from_has`); so rebuilding gives back the bodies that were encoded
-- (`rebuilt_from_back`). Then for the first four members in service of a group: `rebuilt_has`, `rebuilt_own`, `rebuilds`; no other member counts
-- (`rebuilt_ext`). It is shown byte by byte from the code's laws.
use Rattle.std.specs.Prelude.{◌≡◌, refl, Bool, true, ltb, length, get_or}
use Rattle.std.proofs.Math.Path.{sym}
use Rattle.std.proofs.Common.{ap, ◌∙◌, arith}
use mathlib.Core.List.{List, [], ◌∷◌}
use Prim.Native.Nat.{ℕ, ◌+◌, ◌-◌, ◌≤◌, ◌<◌}
use borrow.Author.Tests.{ne_eqb, ltb-true, ltb-false}
use Rattle.buffer.specs.Bytes.{byte}
use Rattle.buffer.specs.ByteLaws.{bytes_ext}
use Rattle.buffer.specs.ChoiceLaws.{by-test}
use Rattle.buffer.specs.Range.{count}
use Rattle.code.specs.Matrix.{within, different}
use Rattle.code.specs.Lists.{four, within_four}
use Rattle.code.specs.Columns.{FourColumns, column_at}
use Rattle.code.specs.Weights.{weights_of, mixed}
use Rattle.code.proofs.WeightsLaws.{weights_within}
use Rattle.code.specs.Bytes.{encode_bytes}
use Rattle.code.proofs.BytesLaws.{bytes_of, rebuilt_bytes_have, bytes_fixed, encode_data}
use Rattle.group.specs.Body.{IsBody, Bodies}
use Rattle.group.specs.Parity.{body_at, parity}
use Rattle.group.proofs.ParityLaws.{length_at}
use Rattle.group.proofs.WeighedLaws.{across, across_at, across_within, byte_weighed, weighed_is, weighed_ext, byte_at, is_at}
use Rattle.group.specs.Members.{first_four}
use Rattle.group.specs.MembersLaws.{Members, four_ext, first_four_lem, data_chosen}
use Rattle.group.specs.Rebuilding.{weighed, rebuilt_from, rebuilt}

-- ---- four bodies at a column
module _ (n : ℕ) (f : ℕ → List ℕ) (is : Bodies n f) where
  sizes : (p : ℕ) → p < 4 → length (f p) ≡ n
  sizes p l = (is p l).size

  -- n bytes are the bodies at a column where each of them is the code's byte there
  at_is : (c : ℕ) → c < 17 → (x : List ℕ) → length x ≡ n → ((k : ℕ) → k < n → encode_bytes (across f k) c ≡ byte x k) → body_at c f ≡ x
  at_is c h x e g =
      let long : length (body_at c f) ≡ n = length_at n c f sizes in
      bytes_ext (body_at c f) x (long ∙ sym e) (λ k q. let r : k < n = rw long at q in byte_at n c h f sizes k r ∙ g k r)

  -- columns 0 to 3 are the bodies themselves
  pub at_data : (c : ℕ) → c < 4 → body_at c f ≡ f c
  at_data c h = at_is c (omega arith) (f c) (sizes c h) (λ k l. encode_data (across f k) refl (across_within f is k) c h ∙ across_at f k c h)

-- ---- any four different columns
module _ (n : ℕ) (cs : List ℕ) (columns : FourColumns cs) where
  -- they fix the bodies
  pub bodies_fixed : (f g : ℕ → List ℕ) → Bodies n f → Bodies n g
      → ((i : ℕ) → i < 4 → body_at (get_or cs i 0) f ≡ body_at (get_or cs i 0) g) → (p : ℕ) → p < 4 → f p ≡ g p
  bodies_fixed f g isf isg same p l =
      bytes_ext (f p) (g p) ((isf p l).size ∙ sym (isg p l).size) (λ k q.
      let r : k < n = rw (isf p l).size at q in
      sym (across_at f k p l)
      ∙ ap (λ (ds : List ℕ). get_or ds p 0)
      (bytes_fixed cs columns.long columns.low columns.apart (across f k) (across g k) refl refl
      (across_within f isf k) (across_within g isg k) (λ i m.
      let c : get_or cs i 0 < 17 = column_at columns i m in
      sym (byte_at n (get_or cs i 0) c f (sizes n f isf) k r) ∙ ap (λ x. byte x k) (same i m) ∙ byte_at n (get_or cs i 0) c g (sizes n g isg) k r))
      ∙ across_at g k p l)

  module _ (hold : ℕ → List ℕ) (is : Bodies n hold) where
    rebuilt_byte : (k : ℕ) → k < n → (p : ℕ) → byte (rebuilt_from cs hold p) k ≡ mixed (weights_of cs p) (across hold k)
    rebuilt_byte k l p = byte_weighed n (weights_of cs p) (unfold weights_of in refl) hold (sizes n hold is) k l

    rebuilt_across : (k : ℕ) → k < n → across (rebuilt_from cs hold) k ≡ bytes_of cs (across hold k)
    rebuilt_across k l = λ i. rebuilt_byte k l 0 i ∷ rebuilt_byte k l 1 i ∷ rebuilt_byte k l 2 i ∷ rebuilt_byte k l 3 i ∷ []

    -- whatever is held at the columns, right or wrong, gives bodies
    pub rebuilt_from_is : Bodies n (rebuilt_from cs hold)
    rebuilt_from_is p l = weighed_is n (weights_of cs p) (unfold weights_of in refl) (weights_within cs p) hold is

    -- which have just that there
    pub rebuilt_from_has : (i : ℕ) → i < 4 → body_at (get_or cs i 0) (rebuilt_from cs hold) ≡ hold i
    rebuilt_from_has i l =
        at_is n (rebuilt_from cs hold) rebuilt_from_is (get_or cs i 0) (column_at columns i l) (hold i) (is i l).size (λ k q.
        ap (λ (ds : List ℕ). encode_bytes ds (get_or cs i 0)) (rebuilt_across k q)
        ∙ rebuilt_bytes_have cs columns.long columns.low columns.apart (across hold k) refl (across_within hold is k) i l
        ∙ across_at hold k i l)

  -- rebuilding what was encoded gives the bodies
  pub rebuilt_from_back : (f : ℕ → List ℕ) → Bodies n f → (p : ℕ) → p < 4 → rebuilt_from cs (λ i. body_at (get_or cs i 0) f) p ≡ f p
  rebuilt_from_back f is =
      let hold : ℕ → List ℕ = λ i. body_at (get_or cs i 0) f in
      let held : Bodies n hold = λ i l. is_at n (get_or cs i 0) (column_at columns i l) f is in
      bodies_fixed (rebuilt_from cs hold) f (rebuilt_from_is hold held) is (rebuilt_from_has hold held)

-- ---- the first four members in service are four different columns
pub members_within : {on : ℕ → Bool} {cs : List ℕ} → Members on cs → within 16 cs ≡ true
members_within {on} {cs} m =
    four
    (λ cs. Members on cs → within 16 cs ≡ true)
    (λ a b c d q.
    within_four 16 a b c d (omega (arith, q.low 0 (omega arith))) (omega (arith, q.low 1 (omega arith))) (omega (arith, q.low 2 (omega arith)))
    (omega (arith, q.low 3 (omega arith))))
    cs
    m.long
    m

pub members_different : {on : ℕ → Bool} {cs : List ℕ} → Members on cs → different cs ≡ true
members_different {on} {cs} m =
    four
    (λ cs. Members on cs → different cs ≡ true)
    (λ a b c d q.
    let ab : a < b = q.rising 0 1 (omega arith) (omega arith) in
    let bc : b < c = q.rising 1 2 (omega arith) (omega arith) in
    let cd : c < d = q.rising 2 3 (omega arith) (omega arith) in
    rw (
      ne_eqb a b (omega arith),
      ne_eqb a c (omega arith),
      ne_eqb a d (omega arith),
      ne_eqb b c (omega arith),
      ne_eqb b d (omega arith),
      ne_eqb c d (omega arith),
    ))
    cs
    m.long
    m

pub members_columns : {on : ℕ → Bool} {cs : List ℕ} → Members on cs → FourColumns cs
members_columns m = record { long = m.long; low = members_within m; apart = members_different m }

-- whatever these four hold, right or wrong
module _ (n : ℕ) (on : ℕ → Bool) (hold : ℕ → List ℕ) (enough : 4 ≤ count 7 on) (is : (i : ℕ) → i < 4 → IsBody n (hold (get_or (first_four on) i 0))) where
  columns : FourColumns (first_four on)
  columns = members_columns (first_four_lem on enough)

  pub rebuilt_is : Bodies n (rebuilt on hold)
  unfolding rebuilt
  rebuilt_is = rebuilt_from_is n (first_four on) columns (λ i. hold (get_or (first_four on) i 0)) is

  -- a group with the rebuilt bodies has just that at each of the four
  pub rebuilt_has : (i : ℕ) → i < 4 → body_at (get_or (first_four on) i 0) (rebuilt on hold) ≡ hold (get_or (first_four on) i 0)
  unfolding rebuilt
  rebuilt_has = rebuilt_from_has n (first_four on) columns (λ i. hold (get_or (first_four on) i 0)) is

  -- the body of a data unit in service is its own
  pub rebuilt_own : (p : ℕ) → p < 4 → on p ≡ true → rebuilt on hold p ≡ hold p
  rebuilt_own p l e =
      let c = data_chosen on enough p l e in
      sym (at_data n (rebuilt on hold) rebuilt_is p l) ∙ rw c.2 at (rebuilt_has c.0 c.1)

-- where each member in service holds its body, or its parity, and four members serve, every data unit's body is rebuilt from the first four of them
module _ (n : ℕ) (on : ℕ → Bool) (hold f : ℕ → List ℕ) (is : Bodies n f)
    (data_holds : (p : ℕ) → p < 4 → on p ≡ true → hold p ≡ f p)
    (check_holds : (j : ℕ) → j < 3 → on (4 + j) ≡ true → hold (4 + j) ≡ parity j f)
    (enough : 4 ≤ count 7 on) where
  member_holds : (m : ℕ) → m < 7 → on m ≡ true → hold m ≡ body_at m f
  unfolding parity
  member_holds m l s =
      by-test
      (λ _. hold m ≡ body_at m f)
      (ltb m 4)
      (λ t. let q : m < 4 = ltb-true m 4 t in data_holds m q s ∙ sym (at_data n f is m q))
      (λ t. let q : 4 + (m - 4) ≡ m = omega (arith, ltb-false m 4 t) in rw q at (check_holds (m - 4) (omega (arith, ltb-false m 4 t)) (ap on q ∙ s)))

  pub rebuilds : (p : ℕ) → p < 4 → rebuilt on hold p ≡ f p
  unfolding rebuilt
  rebuilds p l =
      let cs : List ℕ = first_four on in
      let chosen : Members on cs = first_four_lem on enough in
      weighed_ext (weights_of cs p) (λ i. hold (get_or cs i 0)) (λ i. body_at (get_or cs i 0) f)
      (λ i q. member_holds (get_or cs i 0) (chosen.low i q) (chosen.serving i q))
      ∙ rebuilt_from_back n cs (members_columns chosen) f is p l

-- rebuilding looks at the members in service alone
pub rebuilt_ext : (on go : ℕ → Bool) (hold held : ℕ → List ℕ) → 4 ≤ count 7 on → ((m : ℕ) → m < 7 → on m ≡ go m)
    → ((m : ℕ) → m < 7 → on m ≡ true → hold m ≡ held m) → (p : ℕ) → rebuilt on hold p ≡ rebuilt go held p
unfolding rebuilt
rebuilt_ext on go hold held enough e h p =
    let four : Members on (first_four on) = first_four_lem on enough in
    weighed_ext (weights_of (first_four on) p) (λ i. hold (get_or (first_four on) i 0)) (λ i. held (get_or (first_four on) i 0))
    (λ i l. h (get_or (first_four on) i 0) (four.low i l) (four.serving i l))
    ∙ ap (λ (cs : List ℕ). weighed (weights_of cs p) (λ i. held (get_or cs i 0))) (four_ext on go e)
