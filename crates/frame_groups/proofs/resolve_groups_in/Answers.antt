use Rattle.frame_table.proofs.Held.{own-low}
use Rattle.frame_calls.proofs.Laws.{granted-ok, few}
use Rattle.frame_groups.proofs.Laws.{led_on, refused-call, accepted-call}
use borrow.Author.Rules.{rules}
use Rattle.frame_groups.proofs.resolve_groups_in.Goals as goal

pub resolve_groups_granted-requires : goal.resolve_groups_granted-requires
resolve_groups_granted-requires c =
    let pre = c.requires in
    let start = c in
    let grant = c.grant-g in
    (pre.0, granted-ok start.args.frame.now pre.1 start.args.i pre.2 start.args.t.now start.args.f.now start.args.cache.now _ grant.ensures pre.3)

pub go_on-requires : goal.go_on-requires
go_on-requires c =
    let start = c in
    let pre = c.requires in
    let grant = c.grant-g in
    let resolve-groups-granted = c.resolve_groups_granted in (
      few start.args.frame.now pre.1 start.args.i pre.2 start.args.t.now start.args.f.now start.args.cache.now _ grant.ensures,
      rw c.made.ensures (led_on start.args.frame.now pre.1 start.args.i pre.2 start.args.t.now start.args.f.now start.args.cache.now _ grant.ensures start.args.free.now start.args.numbers.now start.args.list.now resolve-groups-granted.new.list resolve-groups-granted.new.cache resolve-groups-granted.result resolve-groups-granted.ensures.gives_granted _ _ c.in-Edits.is),
      own-low start.args.frame.now pre.1 _ pre.2,
    )

pub returns-in-Refused : goal.returns-in-Refused
returns-in-Refused c =
    let start = c in
    let pre = c.requires in
    let grant = c.grant-g in
    let resolve-groups-granted = c.resolve_groups_granted in
    record { gives_in = refused-call start.args.frame.now pre.1 start.args.i pre.2 start.args.t.now start.args.f.now start.args.cache.now _ grant.ensures start.args.free.now start.args.numbers.now start.args.list.now resolve-groups-granted.new.list resolve-groups-granted.new.cache resolve-groups-granted.result resolve-groups-granted.ensures.gives_granted _ c.in-Refused.is; anything = (tt, tt, tt, tt, tt, tt, tt, tt, tt, tt); anything_2 = (tt, tt, tt, tt, tt, tt) }

pub returns-in-Edits : goal.returns-in-Edits
returns-in-Edits c =
    let start = c in
    let pre = c.requires in
    let grant = c.grant-g in
    let resolve-groups-granted = c.resolve_groups_granted in
    record { gives_in = accepted-call start.args.frame.now pre.1 start.args.i pre.2 start.args.t.now start.args.f.now start.args.cache.now _ grant.ensures start.args.free.now start.args.numbers.now start.args.list.now resolve-groups-granted.new.list resolve-groups-granted.new.cache resolve-groups-granted.result resolve-groups-granted.ensures.gives_granted _ _ c.in-Edits.is _ (rw c.made.ensures at c.go_on.ensures); anything = (tt, tt, tt, tt, tt, tt, tt, tt, tt, tt); anything_2 = (tt, tt, tt, tt, tt, tt) }
