-- `put_refusal` meets its contract: the line of a refusal, whole or not at all.
use mathlib.Core.Path.{sym}
use lib.Seq.{length-take-le}
use borrow.Author.Rules.{rules}
use Rattle.answer_text.proofs.Lines.{refusal-line, refusal-room, no-refusal, refusal-put, refusal-short, front, within}
use Rattle.answer_text.proofs.put_refusal.Goals as goal

pub returns-then-refusal-eq0 : goal.returns-then-refusal-eq0
returns-then-refusal-eq0 c = rw c.if-refusal-eq0.true (no-refusal c.requires)

pub put_refused-m-requires : goal.put_refused-m-requires
put_refused-m-requires c = refusal-room c.args.refusal (search rules) (search rules)

pub slice_bounds-put_fitting-end : goal.slice_bounds-put_fitting-end
slice_bounds-put_fitting-end c = let p = c.put_refused-m in sym (length-take-le p.result p.new.out (within p.ensures))

pub returns-in-Some : goal.returns-in-Some
returns-in-Some c =
    let f = c in
    let r = f in
    let i = r in
    rw (refusal-line i.args.refusal i.if-refusal-eq0.false, ← front r.put_refused-m.ensures)
    (refusal-put f.put_fitting.ensures c.in-Some.is)

pub returns-in-None : goal.returns-in-None
returns-in-None c =
    let f = c in
    let r = f in
    let i = r in
    rw (refusal-line i.args.refusal i.if-refusal-eq0.false, ← front r.put_refused-m.ensures)
    (refusal-short f.put_fitting.ensures c.in-None.is)
