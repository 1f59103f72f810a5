-- `put_function` meets its contract: the counts, then the values.
use mathlib.Core.Path.{refl}
use mathlib.Core.List.{◌++◌}
use native.Mathlib.Omega.{arith}
use lib.ListN.{get_or}
use Rattle.number.specs.Number.{encoded}
use Rattle.job_numbers.specs.Numbers.{value_numbers, bytes_of}
use Rattle.function.specs.Table.{value_at}
use Rattle.job_bytes.proofs.Putting.{first-over, then-puts}
use Rattle.job_bytes.proofs.Parts.{rows, function-bytes, few-values}
use borrow.Author.Rules.{rules}
use Rattle.job_bytes.proofs.put_function.Goals as goal

pub put_rows-requires : goal.put_rows-requires
put_rows-requires c w q i h = let few = few-values c.args.f.now c.requires in omega (arith, few, h)

pub returns-in_err-a : goal.returns-in_err-a
returns-in_err-a c =
    let args = c.args in
    let put_two = c.put_two in
    rw c.from_residual.ensures (first-over (encoded (get_or args.f.now 16386 0) ++ rows value_numbers (value_at args.f.now) (get_or args.f.now 16384 0)) (function-bytes args.f.now) put_two.ensures c.in_err-a.was)

pub returns-in_err-next : goal.returns-in_err-next
returns-in_err-next c =
    let args = c.args in
    let put_two = c.put_two in
    let put-cell = c.put_cell in
    rw c.from_residual-in_err-next.ensures (then-puts (encoded (get_or args.f.now 16386 0) ++ rows value_numbers (value_at args.f.now) (get_or args.f.now 16384 0)) (function-bytes args.f.now) put_two.ensures c.in_ok-a.was
    (first-over (rows value_numbers (value_at args.f.now) (get_or args.f.now 16384 0)) refl put-cell.ensures c.in_err-next.was))

pub returns : goal.returns
returns c =
    let args = c.args in
    let put_two = c.put_two in
    let put-cell = c.put_cell in
    then-puts (encoded (get_or args.f.now 16386 0) ++ rows value_numbers (value_at args.f.now) (get_or args.f.now 16384 0)) (function-bytes args.f.now) put_two.ensures c.in_ok-a.was
    (then-puts (rows value_numbers (value_at args.f.now) (get_or args.f.now 16384 0)) refl put-cell.ensures c.in_ok-next.was (c.put_rows.ensures (λ i. bytes_of (value_numbers (value_at args.f.now i))) (λ w q i r w′ h p. search rules)))
