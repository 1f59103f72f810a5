-- `keep` meets its contract: the move is stored and counted.
use native.Mathlib.Omega.{arith}
use lib.ListN.{length-set}
use Rattle.entries.proofs.Table.{move-count}
use Rattle.entries.proofs.writing.keep.Goals as goal

pub count_entry-requires : goal.count_entry-requires
count_entry-requires c =
    let s = c in
    rw (c.store_move.ensures, move-count s.args.e.now s.args.source.0 s.args.dest.0 s.args.v.0 (omega arith)) s.requires.1

pub returns : goal.returns
returns c =
    (rw (← c.store_move.ensures) c.count_entry.ensures.0, rw c.count_entry.ensures.0 (simp length-set c.count_entry.ensures.1))
