-- `put_label` meets its contract.
use borrow.Author.Rules.{rules}
use Rattle.try_settings.proofs.Laws.{label-put}
use Rattle.try_settings.proofs.put_label.Goals as goal

pub returns : goal.returns
returns c =
    let s = c in
    let t = c.put_text-at in
    let b = c.put_blanks in
    label-put s.args.out.now t.new.out b.new.out s.args.label.now s.args.n t.result c.blanks_left-k.result b.result s.requires.0 c.blanks_left-k.ensures t.ensures b.ensures
