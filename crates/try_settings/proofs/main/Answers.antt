-- `main` meets its contract: what is printed has room.
use mathlib.Core.Path.{sym}
use borrow.Author.Rules.{rules}
use lib.Seq.{length-take-le}
use Rattle.try_settings.proofs.main.Goals as goal

pub slice_bounds-out-end : goal.slice_bounds-out-end
slice_bounds-out-end c = c.put_job-m.ensures.printed.1

pub slice_bounds-write_all-end : goal.slice_bounds-write_all-end
slice_bounds-write_all-end c = let o = c.put_job-m in sym (length-take-le o.result o.new.out o.ensures.printed.1)
