-- `put_tried` meets its contract.
use borrow.Author.Rules.{rules}
use Rattle.try_settings.proofs.put_tried.Goals as goal

pub returns : goal.returns
returns c =
    let o = c.try_both in
    record { printed_both = (o.new.one, o.new.two, o.ensures.both, c.put_table.ensures); anything = (tt, tt, tt, tt, tt, tt, tt, tt, tt, tt, tt, tt, tt) }
