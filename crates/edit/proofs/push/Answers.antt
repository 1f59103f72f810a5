-- `push` meets its contract: the word stands at the first free cell.
use Rattle.edit.proofs.Laws.{pushed-words, pushed-count}
use Rattle.edit.proofs.push.Goals as goal

pub returns : goal.returns
returns c =
    let s = c in
    let len = c.told-e in
    (pushed-words s.args.e.now s.args.word len s.requires, pushed-count s.args.e.now s.args.word len s.requires)
