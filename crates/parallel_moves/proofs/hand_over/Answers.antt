use Rattle.parallel_moves.proofs.Resolving.{too_many, handed}
use native.Mathlib.Omega.{arith}
use Rattle.parallel_moves.proofs.hand_over.Goals as goal

pub returns-then-limit-made : goal.returns-then-limit-made
returns-then-limit-made c =
    let args = c.args in
    too_many args.limit args.cache.now args.list.now args.k args.edits.now args.slots.now (omega (arith, c.made-made.ensures, c.if-limit-made.true))

pub hand_out-n-requires : goal.hand_out-n-requires
hand_out-n-requires c =
    let pre = c.requires in
    (pre.few, pre.room)

pub commit-requires : goal.commit-requires
commit-requires c =
    let pre = c.requires in
    (pre.put, pre.deep (omega (arith, c.made-made.ensures, c.if-limit-made.false)), pre.untouched)

pub returns : goal.returns
returns c =
    let args = c.args in
    let made = c.made-made in
    let if1 = c.if-limit-made in
    handed args.limit args.cache.now args.list.now args.k args.edits.now args.slots.now _ _ _ _ (omega (arith, made.ensures, if1.false)) c.hand_out-n.ensures (rw made.ensures at c.commit.ensures) c.met.ensures
