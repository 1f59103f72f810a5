-- `put_place` meets its contract: its kind decides.
use Rattle.reginfo.proofs.Laws.{by_kind}
use Rattle.print.specs.Text.{place_text}
use Rattle.print.proofs.put_place.Goals as goal

pub put_register-requires : goal.put_register-requires
put_register-requires c = rw (by_kind place_text c.kind.ensures c.in-PhysReg.is) c.requires

pub put_slot-requires : goal.put_slot-requires
put_slot-requires c = rw (by_kind place_text c.kind.ensures c.in-SpillSlot.is) c.requires

pub returns-in-PhysReg : goal.returns-in-PhysReg
returns-in-PhysReg c = rw (← by_kind place_text c.kind.ensures c.in-PhysReg.is) c.put_register.ensures

pub returns-in-SpillSlot : goal.returns-in-SpillSlot
returns-in-SpillSlot c = rw (← by_kind place_text c.kind.ensures c.in-SpillSlot.is) c.put_slot.ensures
