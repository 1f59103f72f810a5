-- `main` asks for nothing and promises nothing.
use Rattle.scratch_trials.proofs.main.Goals as goal

pub three-requires : goal.three-requires
three-requires c = tt

pub trials-requires : goal.trials-requires
trials-requires c = tt

pub returns : goal.returns
returns c = tt
