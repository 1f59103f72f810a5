use Rattle.frame_table.proofs.Laws.{one-opened}
use Rattle.frame_table.proofs.note_open.Goals as goal

pub returns : goal.returns
returns c =
    let start = c in
    one-opened start.args.frame.now start.args.i c.told-frame
