-- `lookup::decoders::ends_before` meets its contract.
use mathlib.Core.Path.{sym, ◌∙◌}
use borrow.Author.Tests.{lt-ltb, le-ltb}
use Rattle.buffer.specs.ChoiceLaws.{pick_true, pick-false}
use Rattle.lookup.specs.DecoderLaws.{end_where_kept, end_where_missing}
use Rattle.lookup.proofs.decoders.ends_before.Goals as goal

pub returns-then-not-missing : goal.returns-then-not-missing
returns-then-not-missing c =
    let a = c.args in
    sym (end_where_kept a.s.now a.g a.p a.r a.end (sym c.missing.ensures ∙ c.if-not-missing.true))

pub returns-then-n-end : goal.returns-then-n-end
returns-then-n-end c =
    let a = c.args in
    let p = c.requires in
    sym (end_where_missing p.2 a.p p.1 a.r a.end (sym c.missing.ensures ∙ c.if-not-missing.false) c.from.ensures ∙ pick_true (lt-ltb _ _ c.if-n-end.true) _ _)

pub returns : goal.returns
returns c =
    let a = c.args in
    let p = c.requires in
    sym (end_where_missing p.2 a.p p.1 a.r a.end (sym c.missing.ensures ∙ c.if-not-missing.false) c.from.ensures ∙ pick-false (le-ltb _ _ c.if-n-end.false) _ _)
