-- `encoding::make_record` meets its contract.
use native.Mathlib.Omega.{arith}
use mathlib.Core.Path.{◌≡◌, refl}
use Prim.Native.Nat.{ℕ, ◌+◌, ◌*◌, ◌-◌, ◌/◌, ◌%◌}
use mathlib.Core.List.{List}
use lib.ListN.{drop}
use Rattle.buffer.specs.Bytes.{splice}
use Rattle.group.specs.Widths.{key_bytes, keys_bytes}
use Rattle.group.specs.Parity.{parity}
use Rattle.model.specs.Layout.{view}
use Rattle.encoding.proofs.Records.{record_parts, record_put_back}
use Rattle.encoding.proofs.make_record.Goals as goal

pub returns : goal.returns
unfolding splice
returns c =
    let u = c.args.c in
    let wide : c.check_at-at.result + 16 - c.check_at-at.result ≡ keys_bytes = omega arith in
    let x : List ℕ = parity (u % 3) (λ p. drop key_bytes ((view c.args.s.now).slot (4 * (u / 3) + p) c.args.r)) in
    let made = record_parts (view c.args.s.now) (u / 3) c.args.r u (u % 3) _ x (omega arith) (omega arith) c.keys_of_rank-keys.ensures refl in
    rw (c.copy_from_slice.ensures.after, c.write_parity.ensures, wide)
    (record_put_back c.requires c.keys_of_rank-keys.result x _ c.check_at-at.result made refl c.check_at-at.ensures.0)
