-- `write_numbers` meets its contract: the numbers are put, and the job is finished.
use lib.ListN.{length}
use Rattle.job_writer.proofs.Finishing.{put-within}
use Rattle.job_writer.proofs.write_numbers.Goals as goal

pub finish-requires : goal.finish-requires
finish-requires c =
    let args = c.args in
    let put-numbers = c.put_numbers-put in
    put-within (length put-numbers.new.work) args.numbers.now args.work.now put-numbers.new.work put-numbers.result put-numbers.array_long put-numbers.ensures

pub returns : goal.returns
returns c =
    let args = c.args in
    let put-numbers = c.put_numbers-put in
    let finish = c.finish in
    record { written_as = finish.ensures.by_index args.numbers.now args.work.now put-numbers.ensures; anything = (tt, tt, tt, tt, tt, tt) }
