-- `tell` meets its contract.
use Rattle.job_writer_c.proofs.Telling.{length-told, refusal-told}
use borrow.Author.Rules.{rules}
use Rattle.job_writer_c.proofs.tell.Goals as goal

pub returns-in-Bytes : goal.returns-in-Bytes
returns-in-Bytes c x b b' h = length-told x b b' _ (rw c.in-Bytes.is at h)

pub returns-in-Refused : goal.returns-in-Refused
returns-in-Refused c x b b' h = refusal-told x b b' _ (rw c.in-Refused.is at h)
