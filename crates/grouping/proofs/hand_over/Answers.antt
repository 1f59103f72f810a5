-- `hand_over` meets its contract.
use mathlib.Core.Path.{◌∙◌}
use Rattle.grouping.proofs.hand_over.Goals as goal

pub write-requires : goal.write-requires
write-requires c =
    let pre = c.requires in
    (pre.0, pre.1)

pub copy_stacks-requires : goal.copy_stacks-requires
copy_stacks-requires c =
    let pre = c.requires in
    pre.2

pub returns : goal.returns
returns c =
    let write = c.write in
    let k = c.copy_stacks.ensures in let r = c.raise.ensures in record { words = write.ensures; is = r.is ∙ rw (k.stacks, c.made.ensures); fits = r.fits k.fits; stamp = r.stamp ∙ rw k.stamp }
