-- `put_remat` meets its contract: the rebuild is stored in its list and counted.
use native.Mathlib.Omega.{arith}
use Rattle.entries.proofs.Table.{remat-count, remat-done-index, remat-done, scratch-done}
use Rattle.entries.proofs.writing.put_remat.Goals as goal

pub count_entry-requires : goal.count_entry-requires
count_entry-requires c =
    let s = c in
    rw (c.store_remat.ensures, remat-count s.args.e.now 768 1026 s.args.dest.0 s.args.v.0 (omega arith) (omega arith) (omega arith)) s.requires.1

pub returns-then-scratch : goal.returns-then-scratch
returns-then-scratch c =
    let s = c in (
      rw c.if-scratch.true (scratch-done s.args.e.now s.requires.0 _ _ c.count_entry.ensures.1 c.count_entry.ensures.0 s.args.dest.0 s.args.v.0 c.store_remat.ensures),
      remat-done-index s.args.e.now _ _ 768 1026 s.args.dest.0 s.args.v.0 (omega arith) (omega arith) (omega arith) c.store_remat.ensures c.count_entry.ensures.0,
    )

pub count_entry-requires-2 : goal.count_entry-requires-2
count_entry-requires-2 c =
    let s = c in
    rw (c.store_remat-2.ensures, remat-count s.args.e.now 512 1025 s.args.dest.0 s.args.v.0 (omega arith) (omega arith) (omega arith)) s.requires.1

pub returns : goal.returns
returns c =
    let s = c in (
      rw c.if-scratch.false (remat-done s.args.e.now s.requires.0 _ _ c.count_entry-2.ensures.1 c.count_entry-2.ensures.0 s.args.dest.0 s.args.v.0 c.store_remat-2.ensures),
      remat-done-index s.args.e.now _ _ 512 1025 s.args.dest.0 s.args.v.0 (omega arith) (omega arith) (omega arith) c.store_remat-2.ensures c.count_entry-2.ensures.0,
    )
