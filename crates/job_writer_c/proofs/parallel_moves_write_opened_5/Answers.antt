-- `parallel_moves_write_opened_5` meets its contract: `write_job` in two numbers.
use mathlib.Core.List.{◌++◌}
use lib.ListN.{length}
use Rattle.reginfo.specs.Table.{reg_info_of}
use Rattle.function.specs.Table.{function_of}
use Rattle.job_numbers.specs.Numbers.{target_numbers, function_numbers, written}
use borrow.Author.Rules.{rules}
use Rattle.job_writer_c.proofs.parallel_moves_write_opened_5.Goals as goal

pub write_job-r-requires : goal.write_job-r-requires
write_job-r-requires c = c.requires

pub returns : goal.returns
returns c =
    let a = c.args in
    let w = c.write_job-r in
    let x = written (target_numbers (reg_info_of a.target.now) ++ (function_numbers (function_of a.function.now) ++ a.numbers.now)) (length a.bytes.now) in
    record { told_as = c.tell.ensures x a.bytes.now w.new.out w.ensures.written_as; anything = (tt, tt, tt, tt, tt, tt) }
