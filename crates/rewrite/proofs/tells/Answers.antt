-- `tells` meets its contract: the last bytes of the text are held against the line.
use mathlib.Core.Path.{sym}
use lib.Seq.{length-take-le}
use Rattle.answer_text.proofs.Lines.{refusal-room, at_front, front, within}
use Rattle.rewrite.proofs.Rewriting.{not-told, last_line}
use borrow.Author.Rules.{rules}
use Rattle.rewrite.proofs.tells.Goals as goal

pub put_refused-m-requires : goal.put_refused-m-requires
put_refused-m-requires c =
    let args = c.args in
    refusal-room args.k (search rules) (search rules)

pub returns-then-text-m : goal.returns-then-text-m
returns-then-text-m c =
    let args = c.args in
    let Put-refused = c.put_refused-m in
    let if1 = c.if-text-m in
    not-told args.text.now args.k _ (at_front Put-refused.ensures).0 if1.true

pub slice_bounds-same-end-2 : goal.slice_bounds-same-end-2
slice_bounds-same-end-2 c =
    let Put-refused = c.put_refused-m in
    sym (length-take-le Put-refused.result Put-refused.new.out (within Put-refused.ensures))

pub returns : goal.returns
returns c =
    let args = c.args in
    let Put-refused = c.put_refused-m in
    let if1 = c.if-text-m in
    let same = c.same in
    last_line args.text.now args.k _ _ (at_front Put-refused.ensures).0 if1.false (rw (front Put-refused.ensures) at same.ensures)
