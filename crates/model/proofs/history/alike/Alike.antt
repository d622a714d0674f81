-- Two stores are alike where they differ in the fields of records and in parity bytes alone: header, states, keys and key lists are the same, and so
-- are slots without a record and check units that are not in service. Then what the calls read of states and keys is the same, and the parts that
-- their bytes show are alike again.
use Prim.Native.Nat.{ℕ, ◌+◌, ◌*◌, ◌-◌, ◌<◌}
use mathlib.Core.Path.{◌≡◌, refl, sym, ap, ap₂, ◌∙◌}
use mathlib.Core.List.{List}
use mathlib.Core.Bool.{Bool, true, false}
use native.Mathlib.Omega.{arith}
use lib.Dec.{eqb, ltb}
use lib.ListN.{length, take}
use borrow.Author.Tests.{ltb-true, ltb-false}
use Rattle.buffer.specs.Choice.{pick}
use Rattle.buffer.specs.ChoiceLaws.{by-test, pick-ext}
use Rattle.buffer.specs.TestLaws.{not-both}
use Rattle.buffer.specs.Range.{first}
use Rattle.buffer.specs.RangeLaws.{first_ext, count_ext}
use Rattle.buffer.specs.Bytes.{byte, zeros, part}
use Rattle.buffer.specs.ByteLaws.{length_zeros}
use Rattle.group.specs.Widths.{key_bytes, keys_bytes, slot_bytes, check_bytes}
use Rattle.group.proofs.CheckRecordLaws.{listed_first}
use Rattle.group.specs.Members.{outs}
use Rattle.model.specs.Units.{unit_of}
use Rattle.model.specs.Layout.{Store, bytes, view, units_in, level_in, key_of}
use Rattle.model.specs.LayoutLaws.{Shaped, Same, view_bytes, key_first}
use Rattle.model.specs.Reads.{home_in, fill_in, rank_in, state_in, outs_in, units_out_in, listed_key, listed_fill, keys_lost_in}
use Rattle.model.proofs.ReadLaws.{fill_le, own_bytes}
use Rattle.model.proofs.SameLosses.{SameLists, key_same}

-- two slots with one key; an empty slot is the same
pub record LikeSlot (x y : List ℕ) : Type 0 where
  pub key : take key_bytes x ≡ take key_bytes y
  pub left : length x ≡ slot_bytes
  pub right : length y ≡ slot_bytes
  pub keyless : key_of x ≡ 0 → x ≡ y

-- two check records with one list of keys
pub record LikeCheck (x y : List ℕ) : Type 0 where
  pub keys : take keys_bytes x ≡ take keys_bytes y
  pub left : length x ≡ check_bytes
  pub right : length y ≡ check_bytes

pub record Alike (v w : Store) : Type 0 where
  pub front : v.front ≡ w.front
  pub whole : length v.front ≡ 8
  pub sized : byte v.front 5 ≡ v.size
  pub size : v.size ≡ w.size
  pub dstate : (u : ℕ) → u < 16 → v.dstate u ≡ w.dstate u
  pub cstate : (c : ℕ) → c < 12 → v.cstate c ≡ w.cstate c
  pub slot : (u r : ℕ) → u < 16 → r < v.size → LikeSlot (v.slot u r) (w.slot u r)
  pub check : (c r : ℕ) → c < 12 → r < v.size → LikeCheck (v.check c r) (w.check c r)
  pub idle : (c r : ℕ) → c < 12 → r < v.size → eqb (v.cstate c) 1 ≡ false → v.check c r ≡ w.check c r
  pub rest : v.rest ≡ w.rest

-- what one test picks on either side
pub pick_both : {A : Type 0} (R : A → A → Type 0) (t : Bool) (x y x' y' : A) → (t ≡ true → R x y) → (t ≡ false → R x' y') → R (pick t x x') (pick t y y')
unfolding pick
pick_both R true x y x' y' h k = h refl
pick_both R false x y x' y' h k = k refl

-- ---- one slot, and one check record

pub slot_refl : (x : List ℕ) → length x ≡ slot_bytes → LikeSlot x x
slot_refl x e = record { key = refl; left = e; right = e; keyless = λ _. refl }

pub no_slot : LikeSlot (zeros slot_bytes) (zeros slot_bytes)
no_slot = slot_refl (zeros slot_bytes) (length_zeros slot_bytes)

pub no_check : LikeCheck (zeros check_bytes) (zeros check_bytes)
no_check = record { keys = refl; left = length_zeros check_bytes; right = length_zeros check_bytes }

pub key_like : {x y : List ℕ} → LikeSlot x y → key_of x ≡ key_of y
key_like {x} {y} h = sym (key_first x) ∙ ap key_of h.key ∙ key_first y

-- the keys that check records list
pub listed_like : {x y : List ℕ} → LikeCheck x y → (p : ℕ) → p < 4 → part (key_bytes * p) key_bytes x ≡ part (key_bytes * p) key_bytes y
listed_like {x} {y} h p a = sym (listed_first p x a) ∙ ap (part (key_bytes * p) key_bytes) h.keys ∙ listed_first p y a

-- ---- a store of the right sizes is alike to itself

pub alike_refl : (v : Store) → Shaped v → Alike v v
alike_refl v h = record {
  front = refl;
  whole = h.front;
  sized = h.size;
  size = refl;
  dstate = λ u l. refl;
  cstate = λ c l. refl;
  slot = λ u r l m. slot_refl (v.slot u r) (h.slot u r l m);
  check = λ c r l m. record { keys = refl; left = h.check c r l m; right = h.check c r l m };
  idle = λ c r l m e. refl;
  rest = refl;
}

-- ---- the parts have the sizes that the layout gives them, and are read back from the bytes

module _ (v w : Store) (a : Alike v w) where
  pub left_shaped : Shaped v
  left_shaped = record { front = a.whole; size = a.sized; slot = λ u r l m. (a.slot u r l m).left; check = λ c r l m. (a.check c r l m).left }

  pub right_shaped : Shaped w
  right_shaped = record {
    front = ap length (sym a.front) ∙ a.whole;
    size = ap (λ (x : List ℕ). byte x 5) (sym a.front) ∙ a.sized ∙ a.size;
    slot = λ u r l m. (a.slot u r l (omega (arith, a.size))).right;
    check = λ c r l m. (a.check c r l (omega (arith, a.size))).right;
  }

  pub seen_alike : Alike (view (bytes v)) (view (bytes w))
  seen_alike =
      let s : Same (view (bytes v)) v = view_bytes v left_shaped in
      let t : Same (view (bytes w)) w = view_bytes w right_shaped in
      record {
        front = s.front ∙ a.front ∙ sym t.front;
        whole = ap length s.front ∙ a.whole;
        sized = ap (λ (x : List ℕ). byte x 5) s.front ∙ a.sized ∙ sym s.size;
        size = s.size ∙ a.size ∙ sym t.size;
        dstate = λ u l. s.dstate u l ∙ a.dstate u l ∙ sym (t.dstate u l);
        cstate = λ c l. s.cstate c l ∙ a.cstate c l ∙ sym (t.cstate c l);
        slot = λ u r l m.
            let n : r < v.size = omega (arith, s.size) in
            rw (s.slot u r l n, t.slot u r l (omega (arith, a.size))) (a.slot u r l n);
        check = λ c r l m.
            let n : r < v.size = omega (arith, s.size) in
            rw (s.check c r l n, t.check c r l (omega (arith, a.size))) (a.check c r l n);
        idle = λ c r l m e.
            let n : r < v.size = omega (arith, s.size) in
            s.check c r l n ∙ a.idle c r l n (ap (λ (k : ℕ). eqb k 1) (sym (s.cstate c l)) ∙ e) ∙ sym (t.check c r l (omega (arith, a.size)));
        rest = s.rest ∙ a.rest ∙ sym t.rest;
      }

  -- where a test puts a check unit in service and gives it other records: if it is not in service then, it was not before, and its records are the same
  pub idle_kept : (t : Bool) (x y : List ℕ) (c r : ℕ) → c < 12 → r < v.size → eqb (pick t 1 (v.cstate c)) 1 ≡ false
      → pick t x (v.check c r) ≡ pick t y (w.check c r)
  unfolding pick
  idle_kept true x y c r l m e = not-both refl e
  idle_kept false x y c r l m e = a.idle c r l m e

  -- ---- the header and the states

  pub units_alike : units_in v ≡ units_in w
  unfolding units_in
  units_alike = ap (λ (x : List ℕ). byte x 6) a.front

  pub level_alike : level_in v ≡ level_in w
  unfolding level_in
  level_alike = ap (λ (x : List ℕ). byte x 7) a.front

  pub home_alike : (k : ℕ) → home_in v k ≡ home_in w k
  unfolding home_in
  home_alike k = ap (λ (m : ℕ). unit_of m k) units_alike

  pub state_alike : (n : ℕ) → n < 28 → state_in v n ≡ state_in w n
  unfolding state_in
  state_alike n l =
      pick-ext (ltb n 16) (v.dstate n) (v.cstate (n - 16)) (w.dstate n) (w.cstate (n - 16))
      (λ e. a.dstate n (ltb-true n 16 e)) (λ e. a.cstate (n - 16) (omega (arith, ltb-false n 16 e)))

  pub outs_alike : (g : ℕ) → g < 4 → outs_in v g ≡ outs_in w g
  unfolding outs_in outs
  outs_alike g l = ap₂ (λ (m n : ℕ). m + n)
      (count_ext 4 _ _ (λ p m. ap (λ (n : ℕ). eqb n 2) (a.dstate (4 * g + p) (omega arith))))
      (count_ext 3 _ _ (λ j m. ap (λ (n : ℕ). eqb n 2) (a.cstate (3 * g + j) (omega arith))))

  pub units_out_alike : units_out_in v ≡ units_out_in w
  unfolding units_out_in
  units_out_alike = count_ext 28 _ _ (λ n l. ap (λ (k : ℕ). eqb k 2) (state_alike n l))

  -- ---- keys

  pub fill_alike : (u : ℕ) → u < 16 → fill_in v u ≡ fill_in w u
  unfolding fill_in
  fill_alike u l =
      first_ext v.size (λ r. eqb (key_of (v.slot u r)) 0) (λ r. eqb (key_of (w.slot u r)) 0) (λ r m. ap (λ (n : ℕ). eqb n 0) (key_like (a.slot u r l m)))
      ∙ ap (λ (n : ℕ). first n (λ r. eqb (key_of (w.slot u r)) 0)) a.size

  pub rank_alike : (u : ℕ) → u < 16 → (k : ℕ) → rank_in v u k ≡ rank_in w u k
  unfolding rank_in
  rank_alike u l k =
      first_ext (fill_in v u) (λ r. eqb (key_of (v.slot u r)) k) (λ r. eqb (key_of (w.slot u r)) k)
      (λ r m. ap (λ (n : ℕ). eqb n k) (key_like (a.slot u r l (omega (arith, fill_le v u)))))
      ∙ ap (λ (n : ℕ). first n (λ r. eqb (key_of (w.slot u r)) k)) (fill_alike u l)

  -- check records list the same keys, so the same is lost; and a unit whose keys are not lost has the same
  pub lists_alike : SameLists v w
  lists_alike = record {
    size = sym a.size;
    dstate = λ u l. sym (a.dstate u l);
    cstate = λ c l. sym (a.cstate c l);
    listed = λ c r l m p q. sym (listed_like (a.check c r l m) p q);
  }

  module _ (u : ℕ) (hu : u < 16) (kept : keys_lost_in v u ≡ false) where
    pub listed_alike : (r : ℕ) → r < v.size → listed_key v u r ≡ listed_key w u r
    listed_alike r m =
        by-test (λ _. listed_key v u r ≡ listed_key w u r) (eqb (v.dstate u) 2) (λ out. sym (key_same v w lists_alike u hu kept out r m))
        (λ on. own_bytes v u on r ∙ (a.slot u r hu m).key ∙ sym (own_bytes w u (ap (λ (n : ℕ). eqb n 2) (sym (a.dstate u hu)) ∙ on) r))

    pub listed_fill_alike : listed_fill v u ≡ listed_fill w u
    unfolding listed_fill
    listed_fill_alike =
        first_ext v.size _ _ (λ r m. ap (λ (x : List ℕ). eqb (key_of x) 0) (listed_alike r m))
        ∙ ap (λ (n : ℕ). first n (λ r. eqb (key_of (listed_key w u r)) 0)) a.size
