use mathlib.Core.List.{[]}
use native.Mathlib.Omega.{arith}
use Rattle.scratch.proofs.Bounds.{fewer}
use Rattle.scratch.proofs.Outcomes.{found-evicted}
use Rattle.scratch.proofs.ScratchAllocator.evict.Goals as goal

pub make_room-k-requires : goal.make_room-k-requires
make_room-k-requires c = let pre = c.requires in (pre.0, fewer (omega arith) (omega arith) (omega arith) pre.1)

pub evict_last-requires : goal.evict_last-requires
evict_last-requires c =
    let pre = c.requires in
    let got = c.make_room-k.ensures in
    (pre.0, got.result_bound, (got.brought []).fits 0 1 2 pre.1)

pub returns : goal.returns
returns c =
    λ available. found-evicted _ _ _ _ _ _ _ _ _ _ _ _ (c.make_room-k.ensures.brought available) (c.evict_last.ensures available)
