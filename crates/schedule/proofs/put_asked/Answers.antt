-- The text is that of the rules' answer, and what is left is what the asking handed back.
use Rattle.frame_calls.specs.Answers.{answer_of}
use Rattle.schedule.proofs.Answering.{asking-ready}
use Rattle.schedule.proofs.put_asked.Goals as goal

pub returns-in-Ready : goal.returns-in-Ready
returns-in-Ready c =
    let a = c.args in
    let r = c.ask in
    let p = c.put_patch in
    asking-ready a.frame.now a.i a.f.now (answer_of a.frame.now a.i a.t.now a.f.now a.free.now a.numbers.now 1024 a.cache.now) r.result _ r.new.list a.cache.now r.new.slots r.ensures.0 a.out.now p.new.out p.result _ _ c.in-Ready.is p.ensures
