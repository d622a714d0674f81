-- What a granted call leaves alone, in any bytes: the store is sound, it need not come from a history, and its parity may have been wrong before.
-- Document 01: teach, correct and erase "add to the parity, at each rank they touch, the change of body times the coefficient .. So also where parity was
-- wrong before". What a repair and a raise leave alone is in `RepairKeeps` and `Level`; what grow and shrink make anew is in `MadeAnew`.
use Rattle.std.specs.Prelude.{ℕ, suc, pred, ◌+◌, ◌*◌, ◌/◌, ◌%◌, ◌<◌, ◌≡◌, ◌≢◌, List, Bool, false, ◌&&◌, ◌||◌, eqb, ltb, take, drop}
use Rattle.buffer.specs.Choice.{pick}
use Rattle.buffer.specs.Bytes.{byte, zeros, part}
use Rattle.group.specs.Widths.{key_bytes, keys_bytes, slot_bytes}
use Rattle.group.specs.Body.{add_body, scale_body}
use Rattle.group.specs.Parity.{coefficient, parity}
use Rattle.model.specs.Units.{split_pointer, touched}
use Rattle.model.specs.Layout.{Store, view, units_in, level_in, slot_of}
use Rattle.model.specs.Reads.{home_in, fill_in, rank_in, state_in}
use Rattle.model.specs.Numbers.{teach, correct, erase, unit_out, grow, shrink, number_in}
use Rattle.model.specs.MadeAnew.{left_by}
use Rattle.model.specs.history.Runs.{unit_in}

-- the field in a slot, the parity in a check record, and the key that it lists for place p of its group
abbrev pub field_at : Store → ℕ → ℕ → List ℕ
field_at v u r = drop key_bytes (v.slot u r)

abbrev pub parity_at : Store → ℕ → ℕ → List ℕ
parity_at v c r = drop keys_bytes (v.check c r)

abbrev pub listed_at : Store → ℕ → ℕ → ℕ → List ℕ
listed_at v c r p = part (key_bytes * p) key_bytes (v.check c r)

-- the error of a parity: its difference from the parity of the four fields; zeros where it is right
abbrev pub error_at : Store → ℕ → ℕ → List ℕ
error_at v c r = add_body (parity_at v c r) (parity (c % 3) (λ p. field_at v (4 * (c / 3) + p) r))

-- ---- teach, correct and erase

-- From store v to store t, slots of unit u were written at the ranks for which `at` holds. At every rank each check unit in service of u's group has its
-- old parity plus the change of the field times the coefficient, so its error is what it was. At the written ranks it lists the new key of u. Every other
-- byte is as it was.
pub record Follows (v t : Store) (u : ℕ) (at : ℕ → Bool) : Type 0 where
  pub front : t.front ≡ v.front
  pub dstate : (w : ℕ) → w < 16 → t.dstate w ≡ v.dstate w
  pub cstate : (c : ℕ) → c < 12 → t.cstate c ≡ v.cstate c
  pub rest : t.rest ≡ v.rest
  pub slots : (w r : ℕ) → w < 16 → r < v.size → (w ≡ u → at r ≡ false) → t.slot w r ≡ v.slot w r
  pub checks : (c r : ℕ) → c < 12 → r < v.size → (c / 3 ≡ u / 4 → v.cstate c ≡ 1 → at r ≡ false) → t.check c r ≡ v.check c r
  pub parity : (c r : ℕ) → c < 12 → r < v.size → c / 3 ≡ u / 4 → v.cstate c ≡ 1
      → parity_at t c r ≡ add_body (parity_at v c r) (scale_body (coefficient (u % 4) (c % 3)) (add_body (field_at v u r) (field_at t u r)))
  pub error : (c r : ℕ) → c < 12 → r < v.size → c / 3 ≡ u / 4 → v.cstate c ≡ 1 → error_at t c r ≡ error_at v c r
  pub listed : (c r p : ℕ) → c < 12 → r < v.size → p < 4 → c / 3 ≡ u / 4 → v.cstate c ≡ 1
      → listed_at t c r p ≡ pick (at r && eqb p (u % 4)) (take key_bytes (t.slot u r)) (listed_at v c r p)

-- ---- unit out

-- unit w is out and zero; every other byte is as it was
pub record Loses (v t : Store) (w : ℕ) : Type 0 where
  pub front : t.front ≡ v.front
  pub rest : t.rest ≡ v.rest
  pub states : (x : ℕ) → x < 28 → state_in t x ≡ pick (eqb x w) 2 (state_in v x)
  pub others : (x : ℕ) → x < 28 → x ≢ w → unit_in t x ≡ unit_in v x
  pub zeroed : (i : ℕ) → byte (unit_in t w) i ≡ 0

-- ---- grow and shrink

-- From store v to store t, unit m was added behind m units, or it was the last and was removed. In the header only byte 6, M, may differ. Every data unit
-- other than m keeps its state, and so does every check unit outside the group of which m is the first. Every data unit other than m and the unit that it
-- is split from keeps its bytes, and so does every check unit outside the groups of the two.
pub record Resizes (v t : Store) (m : ℕ) : Type 0 where
  pub header : (i : ℕ) → i ≢ 6 → byte t.front i ≡ byte v.front i
  pub rest : t.rest ≡ v.rest
  pub dstate : (u : ℕ) → u < 16 → u ≢ m → t.dstate u ≡ v.dstate u
  pub cstate : (c : ℕ) → c < 12 → 4 * (c / 3) ≢ m → t.cstate c ≡ v.cstate c
  pub data_units : (u : ℕ) → u < 16 → u ≢ m → u ≢ split_pointer m → unit_in t u ≡ unit_in v u
  pub check_units : (c : ℕ) → c < 12 → touched m (c / 3) ≡ false → unit_in t (16 + c) ≡ unit_in v (16 + c)

-- ---- the calls

pub record LeftAlone (s : List ℕ) : Type 0 where
  -- teach writes the next rank, correct the key's, and erase that and the last
  pub by_teach : (k : ℕ) (x : List ℕ) → number_in s (teach k x) ≡ 0
      → (let u : ℕ = home_in (view s) k in let r : ℕ = fill_in (view s) u in
      Follows (view s) (left_by s (teach k x)) u (λ q. eqb q r) × ((left_by s (teach k x)).slot u r ≡ slot_of k x))
  pub by_correct : (k : ℕ) (x : List ℕ) → number_in s (correct k x) ≡ 0
      → (let u : ℕ = home_in (view s) k in let r : ℕ = rank_in (view s) u k in
      Follows (view s) (left_by s (correct k x)) u (λ q. eqb q r) × ((left_by s (correct k x)).slot u r ≡ slot_of k x))
  pub by_erase : (k : ℕ) → number_in s (erase k) ≡ 0
      → (let u : ℕ = home_in (view s) k in let r : ℕ = rank_in (view s) u k in let last : ℕ = pred (fill_in (view s) u) in
      Follows (view s) (left_by s (erase k)) u (λ q. eqb q r || eqb q last)
      × ((left_by s (erase k)).slot u last ≡ zeros slot_bytes)
      × (r ≢ last → (left_by s (erase k)).slot u r ≡ (view s).slot u last))
  pub by_unit_out : (w : ℕ) → number_in s (unit_out w) ≡ 0 → Loses (view s) (left_by s (unit_out w)) w
  -- grow: M is one more, and the new unit is in service; a group that begins with it has K check units in service
  pub by_grow : number_in s grow ≡ 0
      → (let m : ℕ = units_in (view s) in
      Resizes (view s) (left_by s grow) m × (units_in (left_by s grow) ≡ suc m) × ((left_by s grow).dstate m ≡ 1)
      × ((c : ℕ) → c < 12 → 4 * (c / 3) ≡ m → (left_by s grow).cstate c ≡ pick (ltb (c % 3) (level_in (view s))) 1 0))
  -- shrink: M is one less, and the last unit is not in place; a group that begins with it has no check units
  pub by_shrink : number_in s shrink ≡ 0
      → (let m : ℕ = pred (units_in (view s)) in
      Resizes (view s) (left_by s shrink) m × (units_in (left_by s shrink) ≡ m) × ((left_by s shrink).dstate m ≡ 0)
      × ((c : ℕ) → c < 12 → 4 * (c / 3) ≡ m → (left_by s shrink).cstate c ≡ 0))
