-- `set_kept` meets its contract.
use Rattle.trying.proofs.Setting.{kept_set}
use Rattle.trying.proofs.set_kept.Goals as goal

pub returns : goal.returns
returns c = let s = c in kept_set s.args.f.now s.args.kept c.told-f s.requires
