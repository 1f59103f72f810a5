-- `edit_bound` meets its contract: the counts are the lengths.
use Rattle.entries.proofs.Table.{kept-count, remats-count, scratch-count}
use Rattle.entries.proofs.refusals.edit_bound.Goals as goal

pub returns : goal.returns
returns c =
    let e = c.args.e.now in
    rw (c.from-kept.ensures, c.from-remats.ensures, c.from-scratch.ensures, kept-count e, remats-count e, scratch-count e)
