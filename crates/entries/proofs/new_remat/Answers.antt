-- `rebuild` meets its contract: what is written already is refused.
use Rattle.entries.proofs.Adding.{new-remat-refused, new-remat-taken}
use Rattle.entries.proofs.new_remat.Goals as goal

pub note_writes-requires : goal.note_writes-requires
note_writes-requires c = let s = c in (s.requires.0.linked, s.requires.1, s.requires.0.keys)

pub returns-then-note_writes : goal.returns-then-note_writes
returns-then-note_writes c = new-remat-taken _ _ _ _ _ _ _ _ c.note_writes.ensures c.if-note_writes.true c.put_remat.ensures

pub returns : goal.returns
returns c = new-remat-refused _ _ _ _ _ _ _ c.note_writes.ensures c.if-note_writes.false
