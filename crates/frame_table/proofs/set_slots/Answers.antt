use Rattle.frame_table.proofs.Laws.{slots_set}
use Rattle.frame_table.proofs.set_slots.Goals as goal

pub returns : goal.returns
returns c = slots_set _ _ c.told-frame
