-- `put_target` meets its contract: the units, then banks, registers and classes.
use mathlib.Core.Path.{refl}
use mathlib.Core.List.{◌++◌}
use Rattle.job_bytes.proofs.Putting.{first-over, then-puts}
use Rattle.job_bytes.proofs.Parts.{banks_bytes, regs_bytes, classes_bytes, target-bytes, few-banks, few-regs, few-classes}
use Rattle.job_bytes.proofs.put_target.Goals as goal

pub put_banks-requires : goal.put_banks-requires
put_banks-requires c =
    let args = c.args in
    let pre = c.requires in
    few-banks args.t.now (pre)

pub put_regs-requires : goal.put_regs-requires
put_regs-requires c =
    let args = c.args in
    let pre = c.requires in
    few-regs args.t.now (pre)

pub put_classes-requires : goal.put_classes-requires
put_classes-requires c =
    let args = c.args in
    let pre = c.requires in
    few-classes args.t.now (pre)

pub returns-in_err-a : goal.returns-in_err-a
returns-in_err-a c =
    let args = c.args in
    let put-cell = c.put_cell in
    rw c.from_residual.ensures (first-over (banks_bytes args.t.now ++ (regs_bytes args.t.now ++ classes_bytes args.t.now)) (target-bytes args.t.now) put-cell.ensures c.in_err-a.was)

pub returns-in_err-b : goal.returns-in_err-b
returns-in_err-b c =
    let args = c.args in
    let put-cell = c.put_cell in
    let put-banks = c.put_banks in
    rw c.from_residual-in_err-b.ensures (then-puts (banks_bytes args.t.now ++ (regs_bytes args.t.now ++ classes_bytes args.t.now)) (target-bytes args.t.now) put-cell.ensures c.in_ok-a.was
    (first-over (regs_bytes args.t.now ++ classes_bytes args.t.now) refl put-banks.ensures c.in_err-b.was))

pub returns-in_err-next : goal.returns-in_err-next
returns-in_err-next c =
    let args = c.args in
    let put-cell = c.put_cell in
    let put-banks = c.put_banks in
    let put-regs = c.put_regs in
    rw c.from_residual-in_err-next.ensures (then-puts (banks_bytes args.t.now ++ (regs_bytes args.t.now ++ classes_bytes args.t.now)) (target-bytes args.t.now) put-cell.ensures c.in_ok-a.was
    (then-puts (regs_bytes args.t.now ++ classes_bytes args.t.now) refl put-banks.ensures c.in_ok-b.was
    (first-over (classes_bytes args.t.now) refl put-regs.ensures c.in_err-next.was)))

pub returns : goal.returns
returns c =
    let args = c.args in
    let put-cell = c.put_cell in
    let put-banks = c.put_banks in
    let put-regs = c.put_regs in
    let put-classes = c.put_classes in
    then-puts (banks_bytes args.t.now ++ (regs_bytes args.t.now ++ classes_bytes args.t.now)) (target-bytes args.t.now) put-cell.ensures c.in_ok-a.was
    (then-puts (regs_bytes args.t.now ++ classes_bytes args.t.now) refl put-banks.ensures c.in_ok-b.was
    (then-puts (classes_bytes args.t.now) refl put-regs.ensures c.in_ok-next.was put-classes.ensures))
