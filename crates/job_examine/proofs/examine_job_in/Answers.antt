-- `examine_job_in` meets its contract: the limit, the opening, then the patch.
use mathlib.Core.Path.{refl, sym, ap, ◌∙◌}
use borrow.Author.Tests.{lt-ltb, le-ltb}
use Rattle.job_rules.specs.Job.{opening}
use Rattle.job_examine.specs.Job.{examine_opened, examine_job_in}
use Rattle.job_examine.proofs.Laws.{opening-refused, opening-got}
use Rattle.job_examine.proofs.examine_job_in.Goals as goal

pub returns-then-limit-gt2048 : goal.returns-then-limit-gt2048
unfolding examine_job_in
returns-then-limit-gt2048 c = let s = c in record { result_value = rw (lt-ltb 2048 s.args.limit c.if-limit-gt2048.true) refl; anything = (tt, tt, tt, tt, tt, tt, tt, tt, tt, tt) }

pub returns-in-Refused : goal.returns-in-Refused
unfolding examine_job_in
returns-in-Refused c = let s = c in record { result_value = rw (le-ltb 2048 s.args.limit c.if-limit-gt2048.false) (sym (ap (examine_opened (λ f. s.args.limit) s.args.n s.args.list.now) (opening-refused s.args.s.now _ _ (opening 1 s.args.s.now) _ _ c.read_opening.ensures c.in-Refused.is))); anything = (tt, tt, tt, tt, tt, tt, tt, tt, tt, tt) }

pub returns-in-Is : goal.returns-in-Is
unfolding examine_job_in
returns-in-Is c = let s = c in let o = opening-got s.args.s.now _ _ (opening 1 s.args.s.now) _ _ _ c.read_opening.ensures c.in-Is.is in record { result_value = rw (le-ltb 2048 s.args.limit c.if-limit-gt2048.false) (c.examine_numbered.ensures.result_value ∙ o.says (λ f. s.args.limit) s.args.n s.args.list.now); anything = (tt, tt, tt, tt, tt, tt, tt, tt, tt, tt) }
