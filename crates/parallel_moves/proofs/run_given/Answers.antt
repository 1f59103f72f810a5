-- `run_given` meets its contract: a run from the set that was settled.
use Rattle.entries.specs.Known.{free_in}
use Rattle.parallel_moves.proofs.Running.{ran-as}
use borrow.Author.Rules.{rules}
use Rattle.parallel_moves.proofs.run_given.Goals as goal

pub returns : goal.returns
returns c =
    let args = c.args in
    let settle = c.settle in
    record { ran = ran-as args.t.now args.f.now args.cache.now args.e.now args.g.made settle.new.available (free_in args.given args.available.now) c.run.result _ settle.ensures c.run.ensures.ran; anything = search rules }
