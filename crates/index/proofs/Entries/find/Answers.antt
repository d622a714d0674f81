-- `Entries::find` meets its contract.
use Rattle.std.proofs.Common.{◌∙◌, sym}
use Rattle.index.specs.Form.{place_for, found_at, found_in}
use Rattle.index.proofs.SearchLaws.{climbing, found_there, found_not, found_end, found_some, found_none}
use Rattle.index.proofs.Entries.find.Goals as goal
use Rattle.index.proofs.Entries.find.Goals.{else-i-self-via-then-i-self+else-key_at-key, else-i-self-via-else-i-self}

pub returns-then-key_at-key : goal.returns-then-key_at-key
unfolding place_for found_at found_in
returns-then-key_at-key c =
    let here = sym c.key_at.ensures ∙ c.if-key_at-key.true in
    found_some c.if-i-self.true (found_there c.args.key (climbing c.args.self.now.rise) c.search-i.ensures.0 c.if-i-self.true here)

pub returns-else-i-self : goal.returns-else-i-self
unfolding place_for found_at found_in
returns-else-i-self c =
    let rise = climbing c.args.self.now.rise in
    elim c.else-i-self.branch [
      | else-i-self-via-then-i-self+else-key_at-key w ↦
          found_none (found_not c.args.key rise c.search-i.ensures.0 w.if-i-self.true (λ p. w.if-key_at-key.false (w.key_at.ensures ∙ p)))
      | else-i-self-via-else-i-self w ↦ found_none (found_end c.args.key rise c.search-i.ensures.0 w.if-i-self.false)
    ]
