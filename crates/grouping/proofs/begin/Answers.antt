-- `begin` meets its contract.
use mathlib.Core.Path.{◌∙◌}
use Rattle.grouping.proofs.begin.Goals as goal

pub copy_stacks-requires : goal.copy_stacks-requires
copy_stacks-requires c = c.requires

pub returns : goal.returns
returns c = let k = c.copy_stacks.ensures in let r = c.raise.ensures in (r.is ∙ rw k.stacks, r.fits k.fits)
