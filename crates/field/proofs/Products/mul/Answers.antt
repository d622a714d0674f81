-- `field::Products::mul` meets its contract, by the table's rule.
use Rattle.field.proofs.Read.{read}
use borrow.Author.Rules.{rules}
use Rattle.field.proofs.Products.mul.Goals as goal

pub returns : goal.returns
returns c =
    read c.args.self.now.table c.args.self.now.looked_up c.args.a
    c.args.b c.from.result c.from-2.result
    c.from.ensures c.from-2.ensures (search rules) (search rules)
