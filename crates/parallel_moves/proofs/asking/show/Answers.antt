-- `show` meets its contract.
use Rattle.parallel_moves.proofs.Resolving.{too-many-asked, shown}
use native.Mathlib.Omega.{arith}
use Rattle.parallel_moves.proofs.asking.show.Goals as goal

pub returns-then-limit-count : goal.returns-then-limit-count
returns-then-limit-count c =
    let args = c.args in
    too-many-asked args.limit args.cache.now args.list.now args.k args.edits.now args.slots.now (omega (arith, c.made-count.ensures, c.if-limit-count.true))

pub hand_out-length-requires : goal.hand_out-length-requires
hand_out-length-requires c =
    let pre = c.requires in
    (pre.few, pre.room)

pub returns : goal.returns
returns c =
    let args = c.args in
    let made = c.made-count in
    let if1 = c.if-limit-count in
    rw made.ensures (shown args.limit args.cache.now args.list.now args.k args.edits.now args.slots.now _ _ _ _ (omega (arith, made.ensures, if1.false)) c.hand_out-length.ensures c.met-position.ensures c.stamp-stamp.ensures.0)
