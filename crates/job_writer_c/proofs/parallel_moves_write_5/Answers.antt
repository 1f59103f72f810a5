-- `parallel_moves_write_5` meets its contract: `write_numbers` in two numbers.
use lib.ListN.{length}
use Rattle.job_numbers.specs.Numbers.{written}
use borrow.Author.Rules.{rules}
use Rattle.job_writer_c.proofs.parallel_moves_write_5.Goals as goal

pub returns : goal.returns
returns c =
    let a = c.args in
    let w = c.write_numbers-r in
    record { told_as = c.tell.ensures (written a.numbers.now (length a.bytes.now)) a.bytes.now w.new.out w.ensures.written_as; anything = (tt, tt, tt, tt, tt, tt) }
