-- `check_job` meets its contract: the opening, then the patches.
use Rattle.job_check.proofs.Passing.{unopened, all-checked}
use Rattle.job_check.proofs.check_job.Goals as goal

pub returns-in-Refused : goal.returns-in-Refused
returns-in-Refused c =
    let args = c.args in
    let read-opening = c.read_opening in
    record { result_value = unopened args.s.now read-opening.new.t read-opening.new.f _ (rw c.in-Refused.is at read-opening.ensures); anything = (tt, tt, tt, tt, tt) }

pub returns-in-Is : goal.returns-in-Is
returns-in-Is c =
    let args = c.args in
    let read-opening = c.read_opening in
    let check-patches = c.check_patches in
    record { result_value = all-checked args.s.now read-opening.new.t read-opening.new.f _ _ _ (rw c.in-Is.is at read-opening.ensures) check-patches.ensures.result_value; anything = (tt, tt, tt, tt, tt) }
