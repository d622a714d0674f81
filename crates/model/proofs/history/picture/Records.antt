-- Records and check records as bytes: what is read back from them, and a check record where one record changes.
use Prim.Native.Nat.{ℕ, ◌*◌, ◌<◌}
use mathlib.Core.Path.{◌≡◌, refl, sym, ap, ap₂, ◌∙◌}
use mathlib.Core.List.{List, ◌++◌}
use native.Mathlib.Omega.{arith}
use lib.ListN.{length, take, drop, length-append}
use lib.Seq.{take_at, drop_at}
use Rattle.buffer.specs.Bytes.{bytes32, zeros, part}
use Rattle.buffer.specs.ByteLaws.{be32_left, be32_bytes32, length_bytes32}
use Rattle.buffer.specs.SpliceLaws.{part_left}
use Rattle.buffer.specs.Table.{tab, upd}
use Rattle.buffer.specs.TableLaws.{Wide, tab_ext, length_tab, part_chunk, upd-map}
use Rattle.group.specs.Widths.{key_bytes, field_bytes, slot_bytes, keys_bytes, check_bytes}
use Rattle.group.specs.Body.{add_body}
use Rattle.group.specs.Parity.{parity}
use Rattle.group.proofs.ParityLaws.{parity_ext}
use Rattle.group.specs.CheckRecord.{check_record, patched}
use Rattle.group.proofs.CheckRecordLaws.{length_check_record, check_record_zeros, patched_upd}
use Rattle.model.specs.Layout.{key_of}
use Rattle.model.specs.history.Ledger.{Rec, empty}
use Rattle.model.specs.history.Picture.{record_bytes, check_over}
use Rattle.model.proofs.history.ledger.Valid.{Good}

-- ---- one record

pub key_bytes_lem : (n : ℕ) → n < 4294967296 → key_of (bytes32 n) ≡ n
unfolding key_of
key_bytes_lem n h = be32_bytes32 n h

pub key_record_lem : (x : Rec) → x.key < 4294967296 → key_of (record_bytes x) ≡ x.key
unfolding key_of record_bytes
key_record_lem x h = be32_left (bytes32 x.key) x.field 0 (omega (arith, length_bytes32 x.key)) ∙ be32_bytes32 x.key h

pub take_record : (x : Rec) → take key_bytes (record_bytes x) ≡ bytes32 x.key
unfolding record_bytes
take_record x = take_at (bytes32 x.key) x.field key_bytes (length_bytes32 x.key)

pub drop_record : (x : Rec) → drop key_bytes (record_bytes x) ≡ x.field
unfolding record_bytes
drop_record x = drop_at (bytes32 x.key) x.field key_bytes (length_bytes32 x.key)

pub length_record : (x : Rec) → Good x → length (record_bytes x) ≡ slot_bytes
unfolding record_bytes
length_record x g = length-append (bytes32 x.key) x.field ∙ omega (arith, length_bytes32 x.key, g.field.size)

-- a missing record counts as zeros
pub empty_bytes : record_bytes empty ≡ zeros slot_bytes
unfolding record_bytes empty bytes32 zeros
empty_bytes = refl

-- ---- the check record over the records of a group's four places

pub over_ext : (j : ℕ) (f g : ℕ → Rec) → ((p : ℕ) → p < 4 → f p ≡ g p) → check_over j f ≡ check_over j g
unfolding check_over
over_ext j f g h = ap₂ (λ (x y : List ℕ). x ++ y)
    (tab_ext 4 (λ p. bytes32 (f p).key) (λ p. bytes32 (g p).key) (λ p l. ap (λ (x : Rec). bytes32 x.key) (h p l)))
    (parity_ext j (λ p. (f p).field) (λ p. (g p).field) (λ p l. ap (λ (x : Rec). x.field) (h p l)))

pub length_keys : (f : ℕ → Rec) → length (tab 4 (λ p. bytes32 (f p).key)) ≡ keys_bytes
length_keys f = length_tab 4 key_bytes (λ p. bytes32 (f p).key) (λ p l. length_bytes32 (f p).key)

-- a key that it lists, and the parity behind the keys
pub listed_over : (j : ℕ) (f : ℕ → Rec) (p : ℕ) → p < 4 → part (key_bytes * p) key_bytes (check_over j f) ≡ bytes32 (f p).key
unfolding check_over
listed_over j f p a =
    part_left (key_bytes * p) key_bytes (tab 4 (λ q. bytes32 (f q).key)) (parity j (λ q. (f q).field)) (omega (arith, length_keys f))
    ∙ part_chunk 4 key_bytes (λ q. bytes32 (f q).key) (λ q m. length_bytes32 (f q).key) p a

pub parity_over : (j : ℕ) (f : ℕ → Rec) → drop keys_bytes (check_over j f) ≡ parity j (λ p. (f p).field)
unfolding check_over
parity_over j f = drop_at (tab 4 (λ q. bytes32 (f q).key)) (parity j (λ q. (f q).field)) keys_bytes (length_keys f)

-- the one that is made anew from slots
pub anew_over : (j : ℕ) (slots : ℕ → List ℕ) (f : ℕ → Rec) → ((p : ℕ) → p < 4 → slots p ≡ record_bytes (f p)) → check_record j slots ≡ check_over j f
unfolding check_record check_over
anew_over j slots f h = ap₂ (λ (x y : List ℕ). x ++ y)
    (tab_ext 4 (λ p. take key_bytes (slots p)) (λ p. bytes32 (f p).key) (λ p l. ap (take key_bytes) (h p l) ∙ take_record (f p)))
    (parity_ext j (λ p. drop key_bytes (slots p)) (λ p. (f p).field) (λ p l. ap (drop key_bytes) (h p l) ∙ drop_record (f p)))

-- the slots of good records
slots_wide : (f : ℕ → Rec) → ((p : ℕ) → Good (f p)) → Wide 4 slot_bytes (λ p. record_bytes (f p))
slots_wide f h p l = length_record (f p) (h p)

pub length_over : (j : ℕ) (f : ℕ → Rec) → ((p : ℕ) → Good (f p)) → length (check_over j f) ≡ check_bytes
length_over j f h =
    ap length (sym (anew_over j (λ p. record_bytes (f p)) f (λ p l. refl))) ∙ length_check_record field_bytes j (λ p. record_bytes (f p)) (slots_wide f h)

-- over no records
pub over_empty : (j : ℕ) → j < 3 → check_over j (λ p. empty) ≡ zeros check_bytes
over_empty j a = sym (anew_over j (λ p. zeros slot_bytes) (λ p. empty) (λ p l. sym empty_bytes)) ∙ check_record_zeros field_bytes j a

-- the record of place p becomes x
pub patched_over : (j p : ℕ) (f : ℕ → Rec) (x : Rec) → j < 3 → p < 4 → ((q : ℕ) → Good (f q)) → Good x
    → patched j p (take key_bytes (record_bytes x)) (add_body (drop key_bytes (record_bytes (f p))) (drop key_bytes (record_bytes x))) (check_over j f)
    ≡ check_over j (upd f p x)
patched_over j p f x a l h g =
    let slots : ℕ → List ℕ = λ q. record_bytes (f q) in
    ap (patched j p (take key_bytes (record_bytes x)) (add_body (drop key_bytes (record_bytes (f p))) (drop key_bytes (record_bytes x))))
    (sym (anew_over j slots f (λ q m. refl)))
    ∙ patched_upd field_bytes j p a l slots (slots_wide f h) (record_bytes x) (length_record x g)
    ∙ anew_over j (upd slots p (record_bytes x)) (upd f p x) (λ q m. sym (upd-map record_bytes f p x q))
