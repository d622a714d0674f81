-- `encoding::put_serving` meets its contract.
use borrow.Author.Rules.{rules}
use Prim.Native.Nat.{◌+◌, ◌-◌}
use mathlib.Core.Path.{◌≡◌, refl, sym, ap, ◌∙◌}
use native.Mathlib.Omega.{arith}
use Rattle.buffer.specs.Bytes.{byte, splice}
use Rattle.group.specs.Widths.{keys_bytes, field_bytes, check_bytes}
use Rattle.encoding.proofs.Records.{record_put, serving_put, nothing_put}
use Rattle.encoding.proofs.put_serving.Goals as goal

pub returns-then-s-from-eq-IN_SERVICE : goal.returns-then-s-from-eq-IN_SERVICE
unfolding splice
returns-then-s-from-eq-IN_SERVICE c =
    let keys : c.check_at-at.result + 16 - c.check_at-at.result ≡ keys_bytes = omega arith in
    let rest : c.check_at-at.result + check_bytes - (c.check_at-at.result + 16) ≡ field_bytes = omega arith in
    serving_put c.requires.0 (ap (λ x. byte c.args.s.now (24 + x)) (sym c.from.ensures) ∙ c.if-s-from-eq-IN_SERVICE.true)
    (rw (c.copy_from_slice-then-s-from-eq-IN_SERVICE.ensures.after, c.copy_from_slice.ensures.after, keys, rest)
    (record_put c.requires.0 c.args.keys c.args.parity _ c.check_at-at.result c.requires.1 refl c.check_at-at.ensures.0
    (search (rules, c.well_formed.1.1.1.0))))

pub returns-else-s-from-eq-IN_SERVICE : goal.returns-else-s-from-eq-IN_SERVICE
returns-else-s-from-eq-IN_SERVICE c =
    nothing_put c.requires.0 (λ h. c.if-s-from-eq-IN_SERVICE.false (ap (λ x. byte c.args.s.now (24 + x)) c.from.ensures ∙ h))
