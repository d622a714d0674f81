-- `group::parities::Rows::write_first` meets its contract.
use Prim.Native.Nat.{ℕ, ◌+◌, ◌*◌, ◌≤◌, ◌<◌}
use mathlib.Core.List.{List}
use mathlib.Core.Path.{◌≡◌, sym, ap, ◌∙◌}
use borrow.Author.Rules.{rules}
use native.Mathlib.Nat.{add_assoc}
use native.Mathlib.Omega.{arith}
use lib.ListN.{length}
use Rattle.buffer.specs.Bytes.{byte, part}
use Rattle.buffer.specs.ByteLaws.{byte_part}
use Rattle.buffer.specs.ByteOrder.{le32, low_byte}
use Rattle.buffer.specs.ByteOrderLaws.{byte_le}
use Rattle.buffer.specs.Loops.{entries}
use Rattle.buffer.specs.RangeLaws.{length_entries, entries_ext}
use Rattle.buffer.specs.SpliceLaws.{length_part, put_lent}
use Rattle.buffer.specs.LoopWrites.{FillingFrom, from_start, from_turn, from_read}
use Rattle.group.specs.Widths.{field_bytes}
use Rattle.group.specs.Parity.{parity}
use Rattle.group.specs.Four.{four_bodies}
use Rattle.group.specs.FirstSums.{first_sums}
use Rattle.group.proofs.ParitySums.{parity_place, parity_entries}
use Rattle.group.proofs.parities.Rows.write_first.Goals as goal

-- the parity that is written
abbrev written : List ℕ → ℕ → ℕ → ℕ → ℕ → List ℕ
written s a b c d = parity 0 (four_bodies (part a field_bytes s) (part b field_bytes s) (part c field_bytes s) (part d field_bytes s))

four_long : (a b c d : ℕ) → length (first_sums a b c d) ≡ 4
unfolding first_sums
four_long a b c d = length_entries 4 _

-- ---- a turn: what is read lies before what is written, and is as it was
module _ {s s' : List ℕ} {to i : ℕ} (bound : (k : ℕ) → byte s k < 256) (room : to + field_bytes ≤ length s) (here : i + 4 ≤ field_bytes) where
  field_byte : {f : ℕ → ℕ} → FillingFrom f to s s' i → (x n : ℕ) → x + field_bytes ≤ to → n < 4
      → low_byte (le32 s' (x + i)) n ≡ byte (part x field_bytes s) (i + n)
  field_byte g x n h l =
      let same : (k : ℕ) → k < 4 → byte s' (x + i + k) ≡ byte s (x + i + k) = λ k m. from_read g (x + i + k) (omega arith) (omega arith) in
      byte_le s' (x + i) (λ k m. omega (arith, same k m, bound (x + i + k))) n l
      ∙ same n l
      ∙ ap (byte s) (add_assoc x i n)
      ∙ sym (byte_part x field_bytes s (i + n) (omega arith))

  sums : (a b c d : ℕ) {p q u v : ℕ} → a + field_bytes ≤ to → b + field_bytes ≤ to → c + field_bytes ≤ to → d + field_bytes ≤ to
      → FillingFrom (byte (written s a b c d)) to s s' i → p ≡ le32 s' (a + i) → q ≡ le32 s' (b + i) → u ≡ le32 s' (c + i) → v ≡ le32 s' (d + i)
      → first_sums p q u v ≡ entries 4 (λ n. byte (written s a b c d) (i + n))
  unfolding first_sums four_bodies
  sums a b c d la lb lc ld g ep eq eu ev = rw (ep, eq, eu, ev) (entries_ext 4 _ _ (λ n l.
      parity_place (part a field_bytes s) (part b field_bytes s) (part c field_bytes s) (part d field_bytes s)
      (long a la) (long b lb) (long c lc) (long d ld) (i + n) (omega arith) 0 _ (omega arith)
      (rw (field_byte g a n la l, field_byte g b n lb l, field_byte g c n lc l, field_byte g d n ld l))))
    where
      long : (x : ℕ) → x + field_bytes ≤ to → length (part x field_bytes s) ≡ field_bytes
      long x h = length_part x field_bytes s (omega arith)

pub loop-k-init : goal.loop-k-init
loop-k-init c =
    from_start

pub loop-k-preserved : goal.loop-k-preserved
loop-k-preserved c =
    let a = c.args in
    let p = c.requires in
    let next : 4 * c.loop-k.k + 4 ≡ 4 * (c.loop-k.k + 1) = omega arith in
    rw (← next) (from_turn 4 _ c.loop-k.invariant (omega arith) (c.copy_from_slice.ensures.after ∙ c.mix_words-sums.ensures
    ∙ sums (λ k. search rules) p.0 (omega arith) a.a a.b a.c a.d p.1 p.2 p.3 p.4
    c.loop-k.invariant c.low32-p.ensures c.low32-q.ensures c.low32-u.ensures c.low32-v.ensures)
    (put_lent _ _ _ _))

pub returns : goal.returns
returns c =
    let p = c.requires in
    let n : 4 * c.loop-k.k ≡ field_bytes = omega arith in
    let long : (x : ℕ) → x + field_bytes ≤ c.args.to → length (part x field_bytes c.args.s.now) ≡ field_bytes =
    λ x h. length_part x field_bytes c.args.s.now (omega (arith, p.0)) in
    c.loop-k.invariant.bytes ∙ rw (n, parity_entries _ _ _ _ (long _ p.1) (long _ p.2) (long _ p.3) (long _ p.4) 0)
