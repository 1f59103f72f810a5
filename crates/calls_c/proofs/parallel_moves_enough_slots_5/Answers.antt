use borrow.Author.Rules.{rules}
use Rattle.calls.specs.Opening as calls
use Rattle.calls_c.proofs.Calling.{tables-known, planned, not-planned}
use Rattle.calls_c.proofs.parallel_moves_enough_slots_5.Goals as goal

pub enough_slots-requires : goal.enough_slots-requires
enough_slots-requires c = let a = c.args in tables-known _ _ (calls.opened a.kept_evictions a.bytes.now) (rw c.in-Yes.is at c.open_tables.ensures)

pub returns-in-Yes : goal.returns-in-Yes
returns-in-Yes c = let a = c.args in record { planned_by = planned _ _ (calls.opened a.kept_evictions a.bytes.now) _ (rw c.in-Yes.is at c.open_tables.ensures) c.enough_slots.ensures.0; anything = (tt, tt) }

pub returns-in-Refused : goal.returns-in-Refused
returns-in-Refused c = let a = c.args in record { planned_by = not-planned _ _ (calls.opened a.kept_evictions a.bytes.now) _ (rw c.in-Refused.is at c.open_tables.ensures); anything = (tt, tt) }
