-- `settle` meets its contract: the reader's number comes before 18.
use Rattle.job_writer.proofs.Finishing.{reader-refuses, reader-accepts}
use Rattle.job_writer.proofs.settle.Goals as goal

pub returns-in-Refused : goal.returns-in-Refused
returns-in-Refused c =
    let args = c.args in
    let check-job = c.check_job in
    record { written_as = reader-refuses args.bytes.now args.out.now _ (rw c.in-Refused.is at check-job.ensures.result_value); anything = (tt, tt, tt, tt, tt) }

pub returns-in-Yes : goal.returns-in-Yes
returns-in-Yes c =
    let args = c.args in
    let check-job = c.check_job in
    let hand-out = c.hand_out in
    record { written_as = reader-accepts args.bytes.now args.out.now hand-out.new.out hand-out.result (rw c.in-Yes.is at check-job.ensures.result_value) hand-out.ensures; anything = (tt, tt, tt, tt, tt) }
