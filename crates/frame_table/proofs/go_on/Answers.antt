use Rattle.frame_table.proofs.Laws.{went_on}
use Rattle.frame_table.proofs.go_on.Goals as goal

pub returns : goal.returns
returns c = went_on _ _ _ c.told-frame c.requires.0
