-- Laws of check records, over bodies of any one length n: the keys and the parity of any record that follows the change of one slot (`patched_listed`,
-- `patched_parity`); a record made from the slots is then the record made anew (`patched_upd`).
use Rattle.std.specs.Prelude.{◌≡◌, eqb, take, drop}
use Rattle.std.proofs.Math.Path.{sym, ap, ap₂}
use Rattle.std.proofs.Common.{◌∙◌, arith, zero-add, length-append, length-drop, length-take-le}
use mathlib.Core.List.{List, ◌++◌}
use Prim.Native.Nat.{ℕ, ◌+◌, ◌*◌, ◌≤◌, ◌<◌}
use Rattle.std.proofs.Math.ListN.{length}
use Rattle.std.proofs.Math.Seq.{take_at, drop_at}
use Rattle.buffer.specs.Choice.{pick}
use Rattle.buffer.specs.ChoiceLaws.{by-pick}
use Rattle.buffer.specs.Bytes.{zeros, part, splice}
use Rattle.buffer.specs.ByteLaws.{length_zeros, zeros_append}
use Rattle.buffer.specs.SpliceLaws.{length_part, length_splice, part_part}
use Rattle.buffer.specs.Table.{tab, upd}
use Rattle.buffer.specs.TableLaws.{Wide, length_tab, tab_ext, tab_parts, tab_zeros, part_chunk, splice_chunk, upd-map}
use Rattle.group.specs.Widths.{key_bytes, keys_bytes}
use Rattle.group.specs.Body.{add_body}
use Rattle.group.specs.Parity.{parity, adjusted}
use Rattle.group.proofs.ParityLaws.{parity_ext, length_parity, parity_zeros, length_adjusted, parity_upd}
use Rattle.group.specs.CheckRecord.{check_record, patched}

-- ---- the two parts of a slot
pub length_key : (n : ℕ) (x : List ℕ) → length x ≡ key_bytes + n → length (take key_bytes x) ≡ key_bytes
length_key n x e = length-take-le key_bytes x (omega arith)

pub length_body : (n : ℕ) (x : List ℕ) → length x ≡ key_bytes + n → length (drop key_bytes x) ≡ n
length_body n x e = simp length-drop (omega arith)

abbrev keys : (ℕ → List ℕ) → ℕ → List ℕ
keys slots p = take key_bytes (slots p)

abbrev bodies : (ℕ → List ℕ) → ℕ → List ℕ
bodies slots p = drop key_bytes (slots p)

keys_wide : (n : ℕ) (slots : ℕ → List ℕ) → Wide 4 (key_bytes + n) slots → Wide 4 key_bytes (keys slots)
keys_wide n slots h p l = length_key n (slots p) (h p l)

length_keys : (n : ℕ) (slots : ℕ → List ℕ) → Wide 4 (key_bytes + n) slots → length (tab 4 (keys slots)) ≡ keys_bytes
length_keys n slots h = length_tab 4 key_bytes (keys slots) (keys_wide n slots h)

-- ---- the two parts of a check record
pub check_record_ext : (j : ℕ) (f g : ℕ → List ℕ) → ((p : ℕ) → p < 4 → f p ≡ g p) → check_record j f ≡ check_record j g
unfolding check_record
check_record_ext j f g h =
    ap₂ (λ x y. x ++ y) (tab_ext 4 _ _ (λ p l. ap (take key_bytes) (h p l))) (parity_ext j _ _ (λ p l. ap (drop key_bytes) (h p l)))

pub length_check_record : (n j : ℕ) (slots : ℕ → List ℕ) → Wide 4 (key_bytes + n) slots → length (check_record j slots) ≡ keys_bytes + n
unfolding check_record
length_check_record n j slots h =
    length-append (tab 4 (keys slots)) (parity j (bodies slots))
    ∙ ap₂ (λ x y. x + y) (length_keys n slots h) (length_parity n j (bodies slots) (λ p l. length_body n (slots p) (h p l)))

pub check_record_keys : (n j : ℕ) (slots : ℕ → List ℕ) → Wide 4 (key_bytes + n) slots
    → take keys_bytes (check_record j slots) ≡ tab 4 (λ p. take key_bytes (slots p))
unfolding check_record
check_record_keys n j slots h = take_at (tab 4 (keys slots)) (parity j (bodies slots)) keys_bytes (length_keys n slots h)

pub check_record_parity : (n j : ℕ) (slots : ℕ → List ℕ) → Wide 4 (key_bytes + n) slots
    → drop keys_bytes (check_record j slots) ≡ parity j (λ p. drop key_bytes (slots p))
unfolding check_record
check_record_parity n j slots h = drop_at (tab 4 (keys slots)) (parity j (bodies slots)) keys_bytes (length_keys n slots h)

-- a key that it lists stands in its first bytes
pub listed_first : (p : ℕ) (x : List ℕ) → p < 4 → part (key_bytes * p) key_bytes (take keys_bytes x) ≡ part (key_bytes * p) key_bytes x
unfolding part
listed_first p x a = part_part 0 keys_bytes (key_bytes * p) key_bytes x (omega arith) ∙ ap (λ (k : ℕ). part k key_bytes x) (zero-add (key_bytes * p))

-- ---- empty slots: their two parts
key_zeros : (n : ℕ) → take key_bytes (zeros (key_bytes + n)) ≡ zeros key_bytes
key_zeros n = ap (take key_bytes) (sym (zeros_append key_bytes n)) ∙ take_at (zeros key_bytes) (zeros n) key_bytes (length_zeros key_bytes)

body_zeros : (n : ℕ) → drop key_bytes (zeros (key_bytes + n)) ≡ zeros n
body_zeros n = ap (drop key_bytes) (sym (zeros_append key_bytes n)) ∙ drop_at (zeros key_bytes) (zeros n) key_bytes (length_zeros key_bytes)

-- the record of empty slots
pub check_record_zeros : (n j : ℕ) → j < 3 → check_record j (λ _. zeros (key_bytes + n)) ≡ zeros (keys_bytes + n)
unfolding check_record
check_record_zeros n j k =
    ap₂
    (λ x y. x ++ y)
    (tab_ext 4 (λ _. take key_bytes (zeros (key_bytes + n))) (λ _. zeros key_bytes) (λ p l. key_zeros n) ∙ tab_zeros 4 key_bytes)
    (parity_ext j (λ _. drop key_bytes (zeros (key_bytes + n))) (λ _. zeros n) (λ p l. body_zeros n) ∙ parity_zeros n j k)
    ∙ zeros_append keys_bytes n

-- ---- following
-- the keys of a record, one replaced, keep their length
pub length_keyed : (p : ℕ) → p < 4 → (key old : List ℕ) → length key ≡ key_bytes → keys_bytes ≤ length old
    → length (splice (key_bytes * p) key_bytes key (take keys_bytes old)) ≡ keys_bytes
length_keyed p l key old k h =
    let whole : length (take keys_bytes old) ≡ keys_bytes = length-take-le keys_bytes old h in
    length_splice (key_bytes * p) key_bytes key (take keys_bytes old) (omega arith) k ∙ whole

pub length_patched : (n j p : ℕ) (key change old : List ℕ) → p < 4 → length key ≡ key_bytes → length change ≡ n → length old ≡ keys_bytes + n
    → length (patched j p key change old) ≡ keys_bytes + n
unfolding patched
length_patched n j p key change old l k c e =
    length-append (splice (key_bytes * p) key_bytes key (take keys_bytes old)) (adjusted j p change (drop keys_bytes old))
    ∙ ap₂ (λ x y. x + y) (length_keyed p l key old k (omega arith)) (length_adjusted n j p change (drop keys_bytes old) c (simp length-drop (omega arith)))

module _ (j p : ℕ) (p4 : p < 4) (key change old : List ℕ) (k : length key ≡ key_bytes) (h : keys_bytes ≤ length old) where
  pub patched_parity : drop keys_bytes (patched j p key change old) ≡ adjusted j p change (drop keys_bytes old)
  unfolding patched
  patched_parity =
      drop_at (splice (key_bytes * p) key_bytes key (take keys_bytes old)) (adjusted j p change (drop keys_bytes old)) keys_bytes (length_keyed p p4 key old k h)

  pub patched_keys : take keys_bytes (patched j p key change old) ≡ splice (key_bytes * p) key_bytes key (take keys_bytes old)
  unfolding patched
  patched_keys =
      take_at (splice (key_bytes * p) key_bytes key (take keys_bytes old)) (adjusted j p change (drop keys_bytes old)) keys_bytes (length_keyed p p4 key old k h)

  -- the key that is listed for place q
  pub patched_listed : (q : ℕ) → q < 4 → part (key_bytes * q) key_bytes (patched j p key change old) ≡ pick (eqb q p) key (part (key_bytes * q) key_bytes old)
  unfolding upd
  patched_listed q l =
      sym (listed_first q (patched j p key change old) l)
      ∙ ap (part (key_bytes * q) key_bytes)
      (patched_keys
      ∙ ap (splice (key_bytes * p) key_bytes key) (sym (tab_parts 4 key_bytes (take keys_bytes old) (length-take-le keys_bytes old h)))
      ∙ splice_chunk 4 key_bytes listed wide p key p4)
      ∙ part_chunk 4 key_bytes (upd listed p key) (λ i m. by-pick (λ x. length x ≡ key_bytes) (eqb i p) key (listed i) (λ _. k) (λ _. wide i m)) q l
      ∙ ap (pick (eqb q p) key) (listed_first q old l)
    where
      listed : ℕ → List ℕ
      listed i = part (key_bytes * i) key_bytes (take keys_bytes old)

      wide : Wide 4 key_bytes listed
      wide i m = length_part (key_bytes * i) key_bytes (take keys_bytes old) (omega (arith, length-take-le keys_bytes old h))

module _ (n j p : ℕ) (j3 : j < 3) (p4 : p < 4) (slots : ℕ → List ℕ) (h : Wide 4 (key_bytes + n) slots) (new : List ℕ) (e : length new ≡ key_bytes + n) where
  new_bodies : (q : ℕ) → upd (bodies slots) p (drop key_bytes new) q ≡ drop key_bytes (upd slots p new q)
  new_bodies q = sym (upd-map (drop key_bytes) slots p new q)

  -- the keys of the four slots, the one of place p replaced
  new_keys : splice (key_bytes * p) key_bytes (take key_bytes new) (tab 4 (keys slots)) ≡ tab 4 (λ q. take key_bytes (upd slots p new q))
  new_keys =
      splice_chunk 4 key_bytes (keys slots) (keys_wide n slots h) p (take key_bytes new) p4
      ∙ tab_ext 4 (upd (keys slots) p (take key_bytes new)) (λ q. take key_bytes (upd slots p new q)) (λ q l. sym (upd-map (take key_bytes) slots p new q))

  sizes : (q : ℕ) → q < 4 → length (bodies slots q) ≡ n
  sizes q l = length_body n (slots q) (h q l)

  change : List ℕ
  change = add_body (drop key_bytes (slots p)) (drop key_bytes new)

  new_parity : adjusted j p change (parity j (bodies slots)) ≡ parity j (λ q. drop key_bytes (upd slots p new q))
  unfolding change
  new_parity =
      sym (parity_upd n j p j3 p4 (bodies slots) sizes (drop key_bytes new) (length_body n new e)) ∙ parity_ext j _ _ (λ q l. new_bodies q)

  -- THE LAW OF FOLLOWING
  pub patched_upd : patched j p (take key_bytes new) (add_body (drop key_bytes (slots p)) (drop key_bytes new)) (check_record j slots) ≡ check_record j
      (upd slots p new)
  unfolding patched check_record change
  patched_upd =
      ap₂
      (λ x y. splice (key_bytes * p) key_bytes (take key_bytes new) x ++ adjusted j p change y)
      (check_record_keys n j slots h)
      (check_record_parity n j slots h)
      ∙ ap₂ (λ x y. x ++ y) new_keys new_parity
