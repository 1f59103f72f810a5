use Rattle.job_patch.proofs.read_value.Goals as goal

pub returns : goal.returns
returns c = rw (← c.num_values.ensures) c.below.ensures
