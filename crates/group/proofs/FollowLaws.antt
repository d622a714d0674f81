-- Following in two steps, as code does it: the key into its place, then the change into the parity behind the keys.
use Rattle.std.specs.Prelude.{◌≡◌, List, ◌++◌, ℕ, ◌+◌, ◌*◌, ◌<◌, take}
use Rattle.std.proofs.Common.{sym, ◌∙◌, arith, length-drop, take-append-drop}
use Rattle.std.proofs.Math.Path.{ap}
use Rattle.std.proofs.Math.ListN.{length, drop}
use Rattle.std.proofs.Math.Seq.{length-take-le}
use Rattle.buffer.specs.Bytes.{part, splice}
use Rattle.buffer.specs.SpliceLaws.{splice_left, splice_right, splice_whole, part_right, part_whole}
use Rattle.group.specs.Widths.{key_bytes, keys_bytes}
use Rattle.group.specs.Body.{add_body, scale_body}
use Rattle.group.specs.Parity.{coefficient, adjusted}
use Rattle.group.specs.CheckRecord.{patched}
use Rattle.group.proofs.CheckRecordLaws.{length_keyed}

module _ (n j p : ℕ) (p4 : p < 4) (key change old : List ℕ) (k : length key ≡ key_bytes) (e : length old ≡ keys_bytes + n) where
  keyed : List ℕ
  keyed = splice (key_bytes * p) key_bytes key (take keys_bytes old)

  keyed_long : length keyed ≡ keys_bytes
  unfolding keyed
  keyed_long = length_keyed p p4 key old k (omega arith)

  behind_long : length (drop keys_bytes old) ≡ n
  behind_long = simp length-drop (omega arith)

  first_step : splice (key_bytes * p) key_bytes key old ≡ keyed ++ drop keys_bytes old
  unfolding keyed
  first_step =
      let whole : length (take keys_bytes old) ≡ keys_bytes = length-take-le keys_bytes old (omega arith) in
      ap (splice (key_bytes * p) key_bytes key) (sym (take-append-drop keys_bytes old))
      ∙ splice_left (key_bytes * p) key_bytes key (take keys_bytes old) (drop keys_bytes old) (omega arith)

  second_step : splice keys_bytes n (add_body (part keys_bytes n (keyed ++ drop keys_bytes old)) (scale_body (coefficient p j) change)) (keyed ++ drop keys_bytes old)
      ≡ patched j p key change old
  unfolding keyed patched adjusted
  second_step =
      ap
      (λ x. splice keys_bytes n (add_body x (scale_body (coefficient p j) change)) (keyed ++ drop keys_bytes old))
      (part_right keys_bytes 0 n keyed (drop keys_bytes old) keyed_long ∙ part_whole n (drop keys_bytes old) (omega (arith, behind_long)))
      ∙ splice_right keys_bytes 0 n (adjusted j p change (drop keys_bytes old)) keyed (drop keys_bytes old) keyed_long
      ∙ ap (λ x. keyed ++ x) (splice_whole n (adjusted j p change (drop keys_bytes old)) (drop keys_bytes old) (omega (arith, behind_long)))

  -- the places, widths and parts as the code has them
  pub patched_steps : (at w m : ℕ) (x y : List ℕ) → at ≡ key_bytes * p → w ≡ key_bytes → m ≡ n → x ≡ key
      → y ≡ add_body (part keys_bytes m (splice at w x old)) (scale_body (coefficient p j) change)
      → splice keys_bytes m y (splice at w x old) ≡ patched j p key change old
  patched_steps at w m x y ea ew em ex ey = rw (ey, ea, ew, em, ex, first_step) second_step
