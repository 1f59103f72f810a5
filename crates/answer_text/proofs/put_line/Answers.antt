-- `put_line` meets its contract: whether the word is a head decides.
use Rattle.answer_text.proofs.Lines.{head-line, edit-line}
use Rattle.answer_text.proofs.put_line.Goals as goal

pub put_patch_line-requires : goal.put_patch_line-requires
put_patch_line-requires c =
    let i = c in
    let s = i in
    rw (← head-line s.args.k s.args.word i.is_head.ensures i.if-is_head.true c.count_in.ensures c.made_in.ensures)
    s.requires

pub returns-then-is_head : goal.returns-then-is_head
returns-then-is_head c =
    let p = c in
    let m = p in
    let i = m in
    let s = i in
    rw (head-line s.args.k s.args.word i.is_head.ensures i.if-is_head.true m.count_in.ensures m.made_in.ensures)
    p.put_patch_line.ensures

pub put_edit-requires : goal.put_edit-requires
put_edit-requires c =
    let i = c in
    let s = i in
    rw (← edit-line s.args.k s.args.word i.is_head.ensures i.if-is_head.false) s.requires

pub returns : goal.returns
returns c =
    let p = c in
    let i = p in
    let s = i in
    rw (edit-line s.args.k s.args.word i.is_head.ensures i.if-is_head.false) p.put_edit.ensures
