-- What holds at each turn of the two loops over the keys of a list beside another. In both the keys before are not 0. In the loop with a table they differ,
-- each has left the mark at its place in the table, where 0 has it too, and what was gathered is 0 where the other list has the same keys. In the loop for
-- few keys each has passed every test.
use mathlib.Core.Path.{◌≡◌, refl, sym, ap, ◌∙◌}
use mathlib.Core.Bool.{Bool, true, false, not, ◌&&◌, and-true}
use mathlib.Core.List.{List}
use Prim.Native.Nat.{ℕ, ◌+◌, ◌*◌, ◌≤◌, ◌<◌}
use native.Mathlib.Nat.{not-suc-le-zero}
use native.Mathlib.Omega.{arith}
use lib.Bits.{bit_or}
use lib.Dec.{eqb, ltb}
use lib.ListN.{length, get_or, set, length-set}
use lib.Seq.{get_or-set_same, get_or-set_other}
use borrow.Author.Count.{below_more}
use borrow.Author.Tests.{eqb-true, eqb-false, ltb-true, ltb-false, ne_eqb}
use Rattle.std.specs.Prelude.{Option, Some, None}
use Rattle.std.specs.Bool.{then_some}
use Rattle.buffer.specs.ChoiceLaws.{by-test}
use Rattle.buffer.specs.TestLaws.{and-true as both, and_false_first, and_false_second, not-both, or_zero}
use Rattle.buffer.specs.Range.{all, first}
use Rattle.buffer.specs.RangeLaws.{all_none, all_more, all_holds, all_fails, all_both, first_holds}
use Rattle.buffer.specs.LoopTests.{Missing, missing_start, missing_turn, missing_found, missing_end}
use Rattle.model.specs.Units.{unit_of}
use Rattle.soundness.specs.Keys.{place_of, fill_of, is_new, new_and_same, any_keys, own_keys, found}
use Rattle.soundness.proofs.Told.{holds, fails}
use Rattle.soundness.proofs.Stepping.{at_start, further}

-- ---- the ranks before the first key 0
abbrev pub NoneYet : (ℕ → ℕ) → ℕ → ℕ → Type 0
NoneYet key = Missing (λ i. eqb (key i) 0)

stopped : (key : ℕ → ℕ) {b r : ℕ} → NoneYet key b r → r < b → eqb (key r) 0 ≡ true → r ≡ fill_of b key
unfolding fill_of
stopped key = missing_found

whole : (key : ℕ → ℕ) {b r : ℕ} → NoneYet key b r → b ≤ r → r ≡ b
whole key g l = omega (arith, g.within)

full : (key : ℕ → ℕ) {b r : ℕ} → NoneYet key b r → b ≤ r → r ≡ fill_of b key
unfolding fill_of
full key g l = whole key g l ∙ missing_end g l

before : (key : ℕ → ℕ) {b r : ℕ} → NoneYet key b r → r < b → eqb (key r) 0 ≡ false → r < fill_of b key
unfolding fill_of
before key {b} {r} g l z =
    by-test
    (λ _. r < first b p)
    (ltb r (first b p))
    (λ q. ltb-true r (first b p) q)
    (λ q.
    let w : first b p ≤ r = ltb-false r (first b p) q in
    not-both (first_holds b p (omega arith)) (misses (first b p) (omega arith)))
  where
    p : ℕ → Bool
    p = λ i. eqb (key i) 0

    misses : (i : ℕ) → i < r + 1 → p i ≡ false
    misses = below_more (λ i. p i ≡ false) r g.missed z

-- the count, where every key passes a test
abbrev count_if : ℕ → (ℕ → ℕ) → (ℕ → Bool) → Option ℕ
count_if b key p = then_some (all (fill_of b key) p) (fill_of b key)

failed : (key : ℕ → ℕ) {b r : ℕ} (p : ℕ → Bool) → NoneYet key b r → r < b → eqb (key r) 0 ≡ false → p r ≡ false → None ≡ count_if b key p
failed key {b} {r} p g l z e = fails (fill_of b key) (all_fails (fill_of b key) p r (before key g l z) e)

-- ---- the loop with a table
abbrev pub new_at : (ℕ → ℕ) → ℕ → Bool
new_at key i = is_new i key (key i)

abbrev pub same_at : (ℕ → ℕ) → (ℕ → ℕ) → ℕ → Bool
same_at key other i = eqb (key i) (other i)

pub record Matching (key other : ℕ → ℕ) (b mark : ℕ) (t : List ℕ) (differ r : ℕ) : Type 0 where
  pub missing : NoneYet key b r
  pub new : all r (new_at key) ≡ true
  pub same : eqb differ 0 ≡ all r (same_at key other)
  pub marked : (q : ℕ) → q < r → get_or t (place_of (key q)) 0 ≡ mark
  pub zero : get_or t 0 0 ≡ mark
  pub sized : length t ≡ 2048

matching_start : {key other : ℕ → ℕ} {b mark : ℕ} (t : List ℕ) → length t ≡ 2048 → Matching key other b mark (set t 0 mark) 0 0
matching_start {key} {other} {b} {mark} t e =
    record {
      missing = missing_start;
      new = all_none (new_at key);
      same = sym (all_none (same_at key other));
      marked = λ q h. absurd (not-suc-le-zero h);
      zero = get_or-set_same t 0 mark 0 (omega (arith, e));
      sized = length-set t 0 mark ∙ e;
    }

-- a mark more takes no mark away
keeps : (t : List ℕ) (i h v : ℕ) → h < length t → get_or t i 0 ≡ v → get_or (set t h v) i 0 ≡ v
keeps t i h v l e =
    by-test
    (λ _. get_or (set t h v) i 0 ≡ v)
    (eqb i h)
    (λ q. rw (eqb-true i h q) (get_or-set_same t h v 0 l))
    (λ q. get_or-set_other t h i v 0 (eqb-false i h q) ∙ e)

place_zero : place_of 0 ≡ 0
unfolding place_of
place_zero = refl

-- nothing else is asked of the keys
marks_test : (key other : ℕ → ℕ) (b m u : ℕ) → count_if b key (new_and_same key other) ≡ found (any_keys m u) b key other
unfolding found any_keys
marks_test key other b m u = ap (λ t. then_some t (fill_of b key)) (sym (and-true (all (fill_of b key) (new_and_same key other))))

-- a test of a key, as read, is one of the list's
pub new_told : (key : ℕ → ℕ) (r : ℕ) {k : ℕ} {t v : Bool} → k ≡ key r → t ≡ is_new r key k → t ≡ v → is_new r key (key r) ≡ v
new_told key r read e told =
    sym (e ∙ ap (is_new r key) read) ∙ told

module _ {key other : ℕ → ℕ} {b mark : ℕ} {t : List ℕ} {differ r : ℕ} (g : Matching key other b mark t differ r) where
  pub matching_turn : {h : ℕ} (v : ℕ) → r < b → eqb (key r) 0 ≡ false → is_new r key (key r) ≡ true → h ≡ place_of (key r) → h < 2048
      → eqb v 0 ≡ eqb (key r) (other r) → Matching key other b mark (set t h mark) (bit_or differ v) (r + 1)
  matching_turn {h} v l z e p w d =
      let k : h < length t = omega (arith, g.sized) in
      record {
        missing = missing_turn g.missing l z;
        new = all_more (new_at key) r ∙ both g.new e;
        same = or_zero differ v ∙ rw (g.same, d) (sym (all_more (same_at key other) r));
        marked =
            below_more
            (λ q. get_or (set t h mark) (place_of (key q)) 0 ≡ mark)
            r
            (λ q u. keeps t (place_of (key q)) h mark k (g.marked q u))
            (rw (← p) (get_or-set_same t h mark 0 k));
        zero = keeps t 0 h mark k g.zero;
        sized = length-set t h mark ∙ g.sized;
      }

  -- a key that finds no mark is new, and not 0
  pub matching_new : {h : ℕ} → h ≡ place_of (key r) → (get_or t h 0 ≡ mark → ⊥) → is_new r key (key r) ≡ true
  unfolding is_new
  matching_new {h} p n =
      all_holds
      r
      (λ q. not (eqb (key q) (key r)))
      (λ q l. ap not (ne_eqb (key q) (key r) (λ e. n (ap (λ i. get_or t i 0) (p ∙ ap place_of (sym e)) ∙ g.marked q l))))

  pub matching_some : {h : ℕ} → h ≡ place_of (key r) → (get_or t h 0 ≡ mark → ⊥) → eqb (key r) 0 ≡ false
  matching_some {h} p n = ne_eqb (key r) 0 (λ e. n (ap (λ i. get_or t i 0) (p ∙ ap place_of e ∙ place_zero) ∙ g.zero))

  module _ (m u : ℕ) where
    ended : r ≡ fill_of b key → then_some (eqb differ 0) r ≡ found (any_keys m u) b key other
    unfolding new_and_same
    ended e =
        let one : all r (λ i. new_at key i && same_at key other i) ≡ eqb differ 0 =
        all_both r (new_at key) (same_at key other) ∙ rw g.new (sym g.same) in
        ap (λ t. then_some t r) (sym one) ∙ ap (λ n. then_some (all n (λ i. new_at key i && same_at key other i)) n) e ∙ marks_test key other b m u

    pub matching_stop : r < b → eqb (key r) 0 ≡ true → then_some (eqb differ 0) r ≡ found (any_keys m u) b key other
    matching_stop l z = ended (stopped key g.missing l z)

    pub matching_full : b ≤ r → then_some (eqb differ 0) b ≡ found (any_keys m u) b key other
    matching_full l = ap (then_some (eqb differ 0)) (sym (whole key g.missing l)) ∙ ended (full key g.missing l)

    pub matching_twice : r < b → eqb (key r) 0 ≡ false → is_new r key (key r) ≡ false → None ≡ found (any_keys m u) b key other
    unfolding new_and_same
    matching_twice l z e =
        failed key (λ i. new_at key i && same_at key other i) g.missing l z (and_false_first e (same_at key other r)) ∙ marks_test key other b m u

-- with the places that run beside the ranks
pub record Running (key other : ℕ → ℕ) (b mark base step column apart : ℕ) (t : List ℕ) (differ p q r : ℕ) : Type 0 where
  pub matching : Matching key other b mark t differ r
  pub at : p ≡ base + step * r
  pub beside : q ≡ column + apart * r

pub running_start : {key other : ℕ → ℕ} {b mark base step column apart : ℕ} (t : List ℕ) → length t ≡ 2048
    → Running key other b mark base step column apart (set t 0 mark) 0 base column 0
running_start {key} {other} {b} {mark} {base} {step} {column} {apart} t e =
    record { matching = matching_start t e; at = at_start base step; beside = at_start column apart }

pub running_turn : {key other : ℕ → ℕ} {b mark base step column apart : ℕ} {t t' : List ℕ} {differ differ' p q r : ℕ}
    → Running key other b mark base step column apart t differ p q r → Matching key other b mark t' differ' (r + 1)
    → Running key other b mark base step column apart t' differ' (p + step) (q + apart) (r + 1)
running_turn {base = base} {step} {column} {apart} {r = r} g m =
    record { matching = m; at = further base step r g.at; beside = further column apart r g.beside }

-- ---- the loop for few keys
abbrev pub good_at : ℕ → ℕ → (ℕ → ℕ) → (ℕ → ℕ) → ℕ → Bool
good_at m u key other i = new_and_same key other i && eqb (unit_of m (other i)) u

pub record MatchingFew (key other : ℕ → ℕ) (b m u r : ℕ) : Type 0 where
  pub missing : NoneYet key b r
  pub good : all r (good_at m u key other) ≡ true

pub few_start : {key other : ℕ → ℕ} {b m u : ℕ} → MatchingFew key other b m u 0
few_start {key} {other} {b} {m} {u} = record { missing = missing_start; good = all_none (good_at m u key other) }

-- the two tests of all keys are one of each
one_test : (key other : ℕ → ℕ) (b m u : ℕ) → count_if b key (good_at m u key other) ≡ found (own_keys m u) b key other
unfolding found own_keys
one_test key other b m u =
    ap (λ t. then_some t (fill_of b key)) (all_both (fill_of b key) (new_and_same key other) (λ i. eqb (unit_of m (other i)) u))

module _ {key other : ℕ → ℕ} {b m u r : ℕ} (g : MatchingFew key other b m u r) where
  few_ended : r ≡ fill_of b key → Some r ≡ found (own_keys m u) b key other
  few_ended e = holds r g.good ∙ ap (λ n. then_some (all n (good_at m u key other)) n) e ∙ one_test key other b m u

  pub few_stop : r < b → eqb (key r) 0 ≡ true → Some r ≡ found (own_keys m u) b key other
  few_stop l z = few_ended (stopped key g.missing l z)

  pub few_full : b ≤ r → Some b ≡ found (own_keys m u) b key other
  few_full l = ap Some (sym (whole key g.missing l)) ∙ few_ended (full key g.missing l)

  pub few_turn : r < b → eqb (key r) 0 ≡ false → eqb (key r) (other r) ≡ true → eqb (unit_of m (other r)) u ≡ true → is_new r key (key r) ≡ true
      → MatchingFew key other b m u (r + 1)
  unfolding new_and_same
  few_turn l z same own new =
      record {
        missing = missing_turn g.missing l z;
        good = all_more (good_at m u key other) r ∙ both g.good (both (both new same) own);
      }

  few_fail : r < b → eqb (key r) 0 ≡ false → good_at m u key other r ≡ false → None ≡ found (own_keys m u) b key other
  few_fail l z e = failed key (good_at m u key other) g.missing l z e ∙ one_test key other b m u

  pub few_other : r < b → eqb (key r) 0 ≡ false → eqb (key r) (other r) ≡ false → None ≡ found (own_keys m u) b key other
  unfolding new_and_same
  few_other l z e = few_fail l z (and_false_first (and_false_second (new_at key r) e) _)

  pub few_astray : r < b → eqb (key r) 0 ≡ false → eqb (unit_of m (other r)) u ≡ false → None ≡ found (own_keys m u) b key other
  few_astray l z e = few_fail l z (and_false_second (new_and_same key other r) e)

  pub few_twice : r < b → eqb (key r) 0 ≡ false → is_new r key (key r) ≡ false → None ≡ found (own_keys m u) b key other
  unfolding new_and_same
  few_twice l z e = few_fail l z (and_false_first (and_false_first e (same_at key other r)) _)
