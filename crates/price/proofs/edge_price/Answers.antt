-- `edge_price` meets its contract: so few words cost less than 2^26.
use borrow.Author.Rules.{rules}
use Rattle.price.proofs.Laws.{total-few}
use Rattle.price.proofs.edge_price.Goals as goal

pub edge_of-requires : goal.edge_of-requires
edge_of-requires c =
    let s = c in
    (rw c.total.ensures (total-few s.args.p s.requires.0 s.args.list.now s.requires.1), c.if-runs-ge67108864.false)

pub returns : goal.returns
returns c = (c.if-runs-ge67108864.false, rw c.total.ensures at c.edge_of.ensures)
