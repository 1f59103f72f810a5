-- `has_memory` meets its contract: the source, then the destination.
use Rattle.visits.proofs.has_memory.Goals as goal

pub is_memory-requires : goal.is_memory-requires
is_memory-requires c = rw c.kept_source.ensures (c.requires.0.sources _ c.requires.1).known

pub returns-then-is_memory : goal.returns-then-is_memory
returns-then-is_memory c = rw (← c.kept_source.ensures, ← c.is_memory.ensures, c.if-is_memory.true)

pub is_memory-requires-2 : goal.is_memory-requires-2
is_memory-requires-2 c =
    let s = c in
    rw c.kept_dest.ensures (s.requires.0.dests _ s.requires.1).known

pub returns : goal.returns
returns c =
    rw (← c.kept_source.ensures, ← c.is_memory.ensures, c.if-is_memory.false, ← c.kept_dest.ensures) c.is_memory-2.ensures
