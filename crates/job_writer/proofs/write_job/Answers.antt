-- `write_job` meets its contract: the tables and the numbers are put, and the job is finished.
use lib.ListN.{length}
use mathlib.Core.List.{◌++◌}
use Rattle.reginfo.specs.Table.{reg_info_of}
use Rattle.function.specs.Table.{function_of}
use Rattle.job_numbers.specs.Numbers.{target_numbers, function_numbers}
use Rattle.job_writer.proofs.Finishing.{put-within}
use Rattle.job_writer.proofs.write_job.Goals as goal

pub finish-requires : goal.finish-requires
finish-requires c =
    let args = c.args in
    let put-job = c.put_job-put in
    put-within (length put-job.new.work) (target_numbers (reg_info_of args.t.now) ++ (function_numbers (function_of args.f.now) ++ args.numbers.now)) args.work.now put-job.new.work put-job.result put-job.array_long put-job.ensures

pub returns : goal.returns
returns c =
    let args = c.args in
    let put-job = c.put_job-put in
    let finish = c.finish in
    record { written_as = finish.ensures.by_index (target_numbers (reg_info_of args.t.now) ++ (function_numbers (function_of args.f.now) ++ args.numbers.now)) args.work.now put-job.ensures; anything = (tt, tt, tt, tt, tt, tt) }
