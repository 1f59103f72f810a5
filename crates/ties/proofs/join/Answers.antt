-- `join` meets its contract: equal labels stay.
use mathlib.Core.Path.{refl, sym, ◌∙◌}
use Rattle.ties.specs.Ties.{labels_in}
use Rattle.ties.proofs.Laws.{join-none, label_at}
use Rattle.ties.proofs.join.Goals as goal

pub returns-then-a-b : goal.returns-then-a-b
returns-then-a-b c = let s = c in let x = s.args.x.now in (join-none _ _ (labels_in x s.args.n) (label_at x s.args.n s.args.i s.requires.1 ∙ c.if-a-b.true ∙ sym (label_at x s.args.n s.args.k s.requires.2)), λ y h. refl)

pub returns : goal.returns
returns c = let s = c in let x = s.args.x.now in rw (label_at x s.args.n s.args.i s.requires.1, label_at x s.args.n s.args.k s.requires.2) c.relabel.ensures
