-- From no size marked.
use mathlib.Core.Path.{◌∙◌}
use Rattle.reginfo.specs.Table.{reg_info_of}
use Rattle.function.specs.Table.{function_of}
use Rattle.enough_slots.proofs.Laws.{all-counted}
use Rattle.enough_slots.proofs.num_sizes.Goals as goal

pub returns : goal.returns
returns c =
    let s = c in
    c.num_marked.ensures ∙ all-counted (reg_info_of s.args.t.now) (function_of s.args.f.now) 32 _ c.mark_sizes.ensures
