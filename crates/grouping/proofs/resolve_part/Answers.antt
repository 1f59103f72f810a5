-- `resolve_part` meets its contract: an entry is refused, or the group is resolved.
use Rattle.grouping.proofs.Adding.{part-refused, part-resolved}
use Rattle.grouping.proofs.resolve_part.Goals as goal

pub add_part-requires : goal.add_part-requires
add_part-requires c =
    let pre = c.requires in
    (pre.0, pre.1, pre.2)

pub returns-in-Refused : goal.returns-in-Refused
returns-in-Refused c =
    let args = c.args in
    record { part_gives = part-refused args.t.now args.f.now args.numbers.now args.first _ _ args.limit args.free.now args.list.now args.work.now _ (rw c.in-Refused.is at c.add_part.ensures); anything = (tt, tt, tt, tt, tt, tt, tt, tt, tt) }

pub part_given-requires : goal.part_given-requires
part_given-requires c =
    let pre = c.requires in
    (pre.1, pre.3, pre.2, pre.4)

pub resolve_granted-requires : goal.resolve_granted-requires
resolve_granted-requires c =
    let pre = c.requires in
    let add-part = c.add_part in
    let made = c.made in
    (pre.0, add-part.ensures.ok, rw made.ensures pre.5)

pub returns : goal.returns
returns c =
    let args = c.args in
    let add-part = c.add_part in
    let part_Free = c.part_given in
    let made = c.made in
    record { part_gives = part-resolved args.t.now args.f.now args.numbers.now args.first _ _ args.limit args.free.now args.list.now args.work.now _ _ _ _ (rw c.in_default.is at add-part.ensures) part_Free.ensures (rw made.ensures at c.resolve_granted.ensures.resolves_granted); anything = (tt, tt, tt, tt, tt, tt, tt, tt, tt) }
