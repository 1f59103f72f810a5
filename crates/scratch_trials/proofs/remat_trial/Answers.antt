-- `scratch_trials::rebuild_trial` meets its contract.
use Rattle.scratch_trials.proofs.remat_trial.Goals as goal

pub report_remat-requires : goal.report_remat-requires
report_remat-requires c = let pre = c.requires in let ok = c.ready.ensures c.if-ready.true in (record { target = pre.0; indexed = pre.1; function = ok.0 }, ok.1)
