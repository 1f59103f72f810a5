-- What is written lies within the buffer.
use mathlib.Core.Path.{sym}
use lib.Seq.{length-take-le}
use borrow.Author.Rules.{rules}
use Rattle.answer_text.proofs.Lines.{within}
use Rattle.price_job.proofs.main.Goals as goal

pub put_job-m-requires : goal.put_job-m-requires
put_job-m-requires c = (search rules, search rules)

pub slice_bounds-out-end : goal.slice_bounds-out-end
slice_bounds-out-end c = within c.put_job-m.ensures.put

pub slice_bounds-write_all-end : goal.slice_bounds-write_all-end
slice_bounds-write_all-end c = sym (length-take-le _ _ (within c.put_job-m.ensures.put))
