-- `meet` meets its contract.
use mathlib.Core.Path.{◌∙◌}
use Rattle.entity.proofs.Laws.{greatest}
use Rattle.slots.specs.Stacks.{met_of}
use Rattle.slots.proofs.Laws.{meets}
use Rattle.slots.proofs.meet.Goals as goal

pub returns : goal.returns
returns c =
    let a = c.args in
    meets a.slots.now a.n c.max.result c.told-slots (c.max.ensures ∙ greatest (met_of a.slots.now) a.n)
