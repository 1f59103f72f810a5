-- `is_free` meets its contract: a slot is not free.
use mathlib.Core.Path.{sym, ap, ◌∙◌}
use borrow.Author.Tests.{lt-ltb}
use Rattle.entity.specs.Place.{unit_of}
use Rattle.entries.proofs.Free.{reg-number, slot-number}
use Rattle.entries.proofs.refusals.is_free.Goals as goal

pub contains-requires : goal.contains-requires
contains-requires c = let q = reg-number c.args.u.0 _ (sym (ap unit_of c.in-Reg.is) ∙ c.kind.ensures) in rw q.0 q.1

pub returns-in-Reg : goal.returns-in-Reg
returns-in-Reg c =
    let q = reg-number c.args.u.0 _ (sym (ap unit_of c.in-Reg.is) ∙ c.kind.ensures) in
    rw (lt-ltb _ 512 q.1, ← q.0) c.contains.ensures

pub returns-in-SpillSlot : goal.returns-in-SpillSlot
returns-in-SpillSlot c = rw (slot-number c.args.u.0 _ (sym (ap unit_of c.in-SpillSlot.is) ∙ c.kind.ensures))
