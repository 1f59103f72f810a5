-- `examine_job` meets its contract: the opening, then the patch.
use mathlib.Core.Path.{sym, ap, ◌∙◌}
use native.Mathlib.Omega.{arith}
use Rattle.function.proofs.Laws.{low-limit}
use Rattle.job_rules.specs.Job.{opening}
use Rattle.job_examine.specs.Job.{examine_opened, examine_job}
use Rattle.job_examine.proofs.Laws.{opening-refused, opening-got}
use Rattle.job_examine.proofs.examine_job.Goals as goal

pub examine_numbered-requires : goal.examine_numbered-requires
examine_numbered-requires c = let s = c in let o = opening-got s.args.s.now _ _ (opening 1 s.args.s.now) _ _ _ c.read_opening.ensures c.in-Is.is in (o.checked, omega (arith, c.slot_limit-most.ensures, low-limit _ _ o.checked.function))

pub returns-in-Refused : goal.returns-in-Refused
unfolding examine_job
returns-in-Refused c = let s = c in record { result_value = sym (ap (examine_opened (λ f. f.limit) s.args.n s.args.list.now) (opening-refused s.args.s.now _ _ (opening 1 s.args.s.now) _ _ c.read_opening.ensures c.in-Refused.is)); anything = (tt, tt, tt, tt, tt, tt, tt, tt, tt, tt) }

pub returns-in-Is : goal.returns-in-Is
unfolding examine_job
returns-in-Is c = let s = c in let o = opening-got s.args.s.now _ _ (opening 1 s.args.s.now) _ _ _ c.read_opening.ensures c.in-Is.is in record { result_value = c.examine_numbered.ensures.result_value ∙ (rw c.slot_limit-most.ensures (o.says (λ f. f.limit) s.args.n s.args.list.now)); anything = (tt, tt, tt, tt, tt, tt, tt, tt, tt, tt) }
