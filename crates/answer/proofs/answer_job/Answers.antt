use Rattle.parallel_moves.proofs.Resolving.{fresh}
use Rattle.rules.specs.Patch.{resolve}
use Rattle.answer.proofs.Opening.{turned-away, known, all-answered}
use Rattle.answer.proofs.answer_job.Goals as goal

pub answer_patches-requires : goal.answer_patches-requires
answer_patches-requires c =
    let read = c.read_opening in
    (known resolve _ c.args.s.now read.new.t read.new.f _ _ (rw c.in-Is.is at read.ensures), fresh read.new.f _ c.clear.ensures)

pub returns-in-Refused : goal.returns-in-Refused
returns-in-Refused c =
    let read = c.read_opening in
    record { wholly = turned-away resolve _ c.args.s.now read.new.t read.new.f c.args.words.now _ (rw c.in-Refused.is at read.ensures); anything = (tt, tt, tt, tt, tt, tt, tt, tt, tt, tt, tt, tt, tt) }

pub returns-in-Is : goal.returns-in-Is
returns-in-Is c =
    let s = c in
    let read = c.read_opening in
    let p = c.answer_patches in
    record { wholly = all-answered resolve _ s.args.s.now read.new.t read.new.f _ _ s.args.words.now _ p.new.words p.result (rw c.in-Is.is at read.ensures) c.clear.ensures p.ensures.wholly; anything = (tt, tt, tt, tt, tt, tt, tt, tt, tt, tt, tt, tt, tt) }
