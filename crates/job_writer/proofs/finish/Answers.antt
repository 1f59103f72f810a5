-- `finish` meets its contract: the bytes that were put are settled, unless they are too many.
use mathlib.Core.Path.{sym}
use lib.ListN.{length}
use lib.Seq.{length-take-le}
use Rattle.job_writer.proofs.Finishing.{over-is-2, all_settled, within-at}
use Rattle.job_writer.proofs.finish.Goals as goal

pub slice_bounds-settle-end : goal.slice_bounds-settle-end
slice_bounds-settle-end c =
    let args = c.args in
    let pre = c.requires in
    sym (length-take-le _ args.work.now (within-at (length args.work.now) args.put _ (pre) c.in-Some.is))

pub returns-in-None : goal.returns-in-None
returns-in-None c =
    let args = c.args in
    record { by_index = λ ns work₀ h. over-is-2 ns work₀ args.work.now args.out.now args.put h c.in-None.is; anything = (tt, tt, tt, tt, tt) }

pub returns-in-Some : goal.returns-in-Some
returns-in-Some c =
    let args = c.args in
    let settle = c.settle in
    record { by_index = λ ns work₀ h. all_settled ns work₀ args.work.now args.out.now args.put _ settle.new.out settle.result h c.in-Some.is settle.ensures.written_as; anything = (tt, tt, tt, tt, tt) }
