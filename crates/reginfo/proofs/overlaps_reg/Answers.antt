-- `overlaps_reg` meets its contract: no register overlaps a slot.
use mathlib.Core.Path.{sym, ◌∙◌}
use Rattle.entity.specs.Place.{Place, reg, slot, place_at}
use Rattle.reginfo.specs.RegInfo.{overlap}
use Rattle.reginfo.specs.Table.{reg_info_of}
use Rattle.reginfo.proofs.Laws.{by_kind, overlap-comm, overlap-slot, either}
use Rattle.reginfo.proofs.overlaps_reg.Goals as goal

pub returns-in-SpillSlot : goal.returns-in-SpillSlot
returns-in-SpillSlot c = either (reg_info_of c.args.t.now) (place_at c.args.p.0) (reg c.args.r.0) (sym (overlap-comm (reg_info_of c.args.t.now) (slot _) (reg c.args.r.0) ∙ overlap-slot (reg_info_of c.args.t.now) (reg c.args.r.0) _ c.requires.1) ∙ by_kind (λ (q : Place). overlap (reg_info_of c.args.t.now) q (reg c.args.r.0)) c.kind.ensures c.in-SpillSlot.is)
