use Prim.Native.Nat.{ℕ}
use lib.ListN.{replicate, length-replicate}
use mathlib.Core.Path.{sym}
use lib.Seq.{length-take-le}
use Rattle.records.proofs.Telling.{answered, refused, within, told}
use Rattle.records.proofs.put_text.Goals as goal

pub slice_bounds-words-end : goal.slice_bounds-words-end
slice_bounds-words-end c =
    let a = c.args in
    let p = c.answer_job in
    let q = answered a.kept_evictions a.job.now (replicate 132096 0) p.new.words (length-replicate {A = ℕ} 132096 0) c.in-Answered.n (rw c.in-Answered.is at p.ensures.wholly) in
    within a.kept_evictions a.job.now (replicate 132096 0) p.new.words (length-replicate {A = ℕ} 132096 0) c.in-Answered.n 0 q

pub slice_bounds-put_answer-end : goal.slice_bounds-put_answer-end
slice_bounds-put_answer-end c =
    let a = c.args in
    let p = c.answer_job in
    let q = answered a.kept_evictions a.job.now (replicate 132096 0) p.new.words (length-replicate {A = ℕ} 132096 0) c.in-Answered.n (rw c.in-Answered.is at p.ensures.wholly) in
    sym (length-take-le _ p.new.words (within a.kept_evictions a.job.now (replicate 132096 0) p.new.words (length-replicate {A = ℕ} 132096 0) c.in-Answered.n 0 q))

pub slice_bounds-words-end-in-Refused : goal.slice_bounds-words-end-in-Refused
slice_bounds-words-end-in-Refused c =
    let a = c.args in
    let p = c.answer_job in
    let q = refused a.kept_evictions a.job.now (replicate 132096 0) p.new.words (length-replicate {A = ℕ} 132096 0) c.in-Refused.k c.in-Refused.n (rw c.in-Refused.is at p.ensures.wholly) in
    within a.kept_evictions a.job.now (replicate 132096 0) p.new.words (length-replicate {A = ℕ} 132096 0) c.in-Refused.n c.in-Refused.k q

pub slice_bounds-put_answer-end-in-Refused : goal.slice_bounds-put_answer-end-in-Refused
slice_bounds-put_answer-end-in-Refused c =
    let a = c.args in
    let p = c.answer_job in
    let q = refused a.kept_evictions a.job.now (replicate 132096 0) p.new.words (length-replicate {A = ℕ} 132096 0) c.in-Refused.k c.in-Refused.n (rw c.in-Refused.is at p.ensures.wholly) in
    sym (length-take-le _ p.new.words (within a.kept_evictions a.job.now (replicate 132096 0) p.new.words (length-replicate {A = ℕ} 132096 0) c.in-Refused.n c.in-Refused.k q))

pub returns-in-Answered : goal.returns-in-Answered
returns-in-Answered c =
    let a = c.args in
    let p = c.answer_job in
    let q = answered a.kept_evictions a.job.now (replicate 132096 0) p.new.words (length-replicate {A = ℕ} 132096 0) c.in-Answered.n (rw c.in-Answered.is at p.ensures.wholly) in
    let t = c.put_answer in
    told a.kept_evictions a.job.now (replicate 132096 0) p.new.words (length-replicate {A = ℕ} 132096 0) c.in-Answered.n 0 q a.out.now t.new.out t.result t.ensures

pub returns-in-Refused : goal.returns-in-Refused
returns-in-Refused c =
    let a = c.args in
    let p = c.answer_job in
    let q = refused a.kept_evictions a.job.now (replicate 132096 0) p.new.words (length-replicate {A = ℕ} 132096 0) c.in-Refused.k c.in-Refused.n (rw c.in-Refused.is at p.ensures.wholly) in
    let t = c.put_answer-in-Refused in
    told a.kept_evictions a.job.now (replicate 132096 0) p.new.words (length-replicate {A = ℕ} 132096 0) c.in-Refused.n c.in-Refused.k q a.out.now t.new.out t.result t.ensures
