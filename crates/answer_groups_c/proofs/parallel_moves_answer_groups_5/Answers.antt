-- `parallel_moves_answer_groups_5` meets its contract.
use lib.ListN.{length}
use Rattle.answer_groups.specs.Job.{job_by_groups_in}
use Rattle.answer.proofs.Answering.{answered, refused}
use borrow.Author.Rules.{rules}
use Rattle.answer_groups_c.proofs.parallel_moves_answer_groups_5.Goals as goal

pub returns-in-Answered : goal.returns-in-Answered
returns-in-Answered c = let p = c.answer_job in let a = c.args in record { answered_as = answered a.words.now (job_by_groups_in (length a.words.now) a.kept_evictions a.bytes.now) p.new.words _ (rw c.in-Answered.is at p.ensures.wholly); anything = (tt, tt, tt, tt, tt, tt, tt, tt, tt, tt, tt, tt, tt); anything_2 = (tt, tt, tt, tt, tt, tt, tt) }

pub returns-in-Refused : goal.returns-in-Refused
returns-in-Refused c = let p = c.answer_job in let a = c.args in record { answered_as = refused a.words.now (job_by_groups_in (length a.words.now) a.kept_evictions a.bytes.now) p.new.words _ _ (rw c.in-Refused.is at p.ensures.wholly); anything = (tt, tt, tt, tt, tt, tt, tt, tt, tt, tt, tt, tt, tt); anything_2 = (tt, tt, tt, tt, tt, tt, tt) }
