-- `scratch_trials::start` meets its contract.
use Rattle.scratch_trials.proofs.Laws.{started}
use native.Mathlib.Omega.{arith}
use Rattle.scratch_trials.proofs.start.Goals as goal

pub new-requires : goal.new-requires
new-requires c = omega arith

pub returns : goal.returns
returns c =
    let clear = c.clear-2.ensures in
    started _ _ _ _ _ c.new.ensures c.clear.ensures.0 clear.1 clear.2 clear.3 c.clear-3.ensures c.begin.ensures
