-- `overlap` meets its contract: by the second place's kind.
use mathlib.Core.Path.{sym, ◌∙◌}
use Rattle.entity.specs.Place.{place_at}
use Rattle.reginfo.specs.RegInfo.{overlap}
use Rattle.reginfo.specs.Table.{reg_info_of}
use Rattle.reginfo.proofs.Laws.{by_kind, overlap-slot, either}
use Rattle.reginfo.proofs.overlap.Goals as goal

pub returns-in-SpillSlot : goal.returns-in-SpillSlot
returns-in-SpillSlot c = either (reg_info_of c.args.t.now) (place_at c.args.p.0) (place_at c.args.q.0) (c.is_slot.ensures ∙ sym (overlap-slot (reg_info_of c.args.t.now) (place_at c.args.p.0) c.in-SpillSlot.s.0 c.requires.0) ∙ by_kind (overlap (reg_info_of c.args.t.now) (place_at c.args.p.0)) c.kind.ensures c.in-SpillSlot.is)
