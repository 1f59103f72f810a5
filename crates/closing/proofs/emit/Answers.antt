use Rattle.function.proofs.Laws.{known-value}
use Rattle.closing.proofs.Known.{value_there}
use Rattle.closing.proofs.Emitted.{movable, emitted}
use Rattle.closing.proofs.emit.Goals as goal

pub value_bank-b-requires : goal.value_bank-b-requires
value_bank-b-requires c = let pre = c.requires in known-value _ _ pre.0.moves.checked.function _ (rw c.kept_value-v.ensures (value_there _ _ _ pre.0.moves _ pre.0.low))

pub do_move-requires : goal.do_move-requires
do_move-requires c = let pre = c.requires in (movable _ _ _ _ _ _ _ _ pre.0 c.kept_value-v.ensures c.value_bank-b.ensures c.kept_dest-to.ensures, pre.1)

pub returns : goal.returns
returns c = let a = c.args in emitted a.t.now a.f.now a.cache.now a.e.now _ _ _ _ _ _ _ _ _ c.kept_value-v.ensures c.value_bank-b.ensures c.kept_dest-to.ensures c.do_move.ensures
