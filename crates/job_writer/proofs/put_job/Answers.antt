-- `put_job` meets its contract: one part behind the other.
use mathlib.Core.List.{◌++◌}
use Rattle.reginfo.specs.Table.{reg_info_of}
use Rattle.function.specs.Table.{function_of}
use Rattle.job_numbers.specs.Numbers.{target_numbers, function_numbers, bytes_of}
use Rattle.function.proofs.Laws.{few-values}
use Rattle.job_bytes.proofs.Putting.{first-over, then-puts, bytes-append}
use Rattle.job_writer.proofs.put_job.Goals as goal

pub put_function-requires : goal.put_function-requires
put_function-requires c =
    let pre = c.requires in
    few-values _ _ pre.function

pub returns-in_err-a : goal.returns-in_err-a
returns-in_err-a c =
    let args = c.args in
    let put-target = c.put_target in
    rw c.from_residual.ensures (first-over (bytes_of (function_numbers (function_of args.f.now) ++ args.numbers.now))
    (bytes-append (target_numbers (reg_info_of args.t.now)) (function_numbers (function_of args.f.now) ++ args.numbers.now)) put-target.ensures c.in_err-a.was)

pub returns-in_err-next : goal.returns-in_err-next
returns-in_err-next c =
    let args = c.args in
    let put-target = c.put_target in
    let put_function = c.put_function in
    rw c.from_residual-in_err-next.ensures (then-puts (bytes_of (function_numbers (function_of args.f.now) ++ args.numbers.now))
    (bytes-append (target_numbers (reg_info_of args.t.now)) (function_numbers (function_of args.f.now) ++ args.numbers.now)) put-target.ensures c.in_ok-a.was
    (first-over (bytes_of args.numbers.now) (bytes-append (function_numbers (function_of args.f.now)) args.numbers.now) put_function.ensures c.in_err-next.was))

pub returns : goal.returns
returns c =
    let args = c.args in
    let put-target = c.put_target in
    let put_function = c.put_function in
    let put-numbers = c.put_numbers in
    then-puts (bytes_of (function_numbers (function_of args.f.now) ++ args.numbers.now))
    (bytes-append (target_numbers (reg_info_of args.t.now)) (function_numbers (function_of args.f.now) ++ args.numbers.now)) put-target.ensures c.in_ok-a.was
    (then-puts (bytes_of args.numbers.now) (bytes-append (function_numbers (function_of args.f.now)) args.numbers.now) put_function.ensures c.in_ok-next.was put-numbers.ensures)
