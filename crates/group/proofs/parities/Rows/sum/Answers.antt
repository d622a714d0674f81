-- `group::parities::Rows::sum` meets its contract.
use borrow.Author.Rules.{rules}
use Rattle.group.proofs.ParitySums.{row_byte}
use Rattle.group.proofs.parities.Rows.sum.Goals as goal

pub returns : goal.returns
returns c =
    let a = c.args in
    rw (
      c.from.ensures,
      c.from-2.ensures,
      a.self.now.times_eight,
      a.self.now.times_seven,
      row_byte 8 a.x (search rules),
      row_byte 7 a.y (search rules),
    )
