-- `lay` meets its contract.
use Rattle.reginfo.specs.Table.{reg_info_of}
use Rattle.grouping.proofs.Laying.{labels-low}
use borrow.Author.Rules.{rules}
use Rattle.grouping.proofs.lay.Goals as goal

pub label-requires : goal.label-requires
label-requires c = c.requires

pub link-requires : goal.link-requires
link-requires c =
    let pre = c.requires in
    let args = c.args in
    (pre.few, labels-low (reg_info_of args.t.now) args.numbers.now _ (pre) c.label.ensures.0)

pub common_free-requires : goal.common_free-requires
common_free-requires c =
    let pre = c.requires in
    pre

pub returns : goal.returns
returns c =
    let label = c.label in
    (record { labelled = label.ensures.0; linked = rw label.ensures.0 at c.link.ensures; shared = c.common_free.ensures }, search rules)
