-- The text is that of the rules' answer, with the formula's own count of slots.
use Rattle.frame_calls.specs.Answers.{answer_of}
use Rattle.schedule.proofs.Answering.{edits-text}
use Rattle.schedule.proofs.put_resolved.Goals as goal

pub returns-in-Edits : goal.returns-in-Edits
returns-in-Edits c =
    let a = c.args in
    let r = c.resolve in
    let p = c.put_patch in
    edits-text a.frame.now r.new.frame a.i a.f.now (answer_of a.frame.now a.i a.t.now a.f.now a.free.now a.numbers.now 1024 a.cache.now) r.result _ r.new.list a.cache.now r.new.cache r.ensures.0 a.out.now p.new.out p.result _ _ c.in-Edits.is _ c.made.ensures p.ensures
