use Rattle.frame_table.proofs.Held.{own-low}
use Rattle.frame_calls.proofs.Laws.{granted-ok, few, led_on, refused-call, accepted-call}
use Rattle.frame_calls.proofs.resolve_in.Goals as goal

pub resolve_granted-requires : goal.resolve_granted-requires
resolve_granted-requires c =
    let pre = c.requires in
    let start = c in
    let grant = c.grant-g in
    (pre.0, granted-ok start.args.frame.now pre.1 start.args.i pre.2 start.args.t.now start.args.f.now start.args.cache.now _ grant.ensures pre.3)

pub go_on-requires : goal.go_on-requires
go_on-requires c =
    let start = c in
    let pre = c.requires in
    let grant = c.grant-g in
    let resolve-granted = c.resolve_granted in (
      few start.args.frame.now pre.1 start.args.i pre.2 start.args.t.now start.args.f.now start.args.cache.now _ grant.ensures,
      rw c.made.ensures (led_on start.args.frame.now pre.1 start.args.i pre.2 start.args.t.now start.args.f.now start.args.cache.now _ grant.ensures start.args.free.now start.args.numbers.now start.args.list.now resolve-granted.new.list resolve-granted.new.cache resolve-granted.result resolve-granted.ensures.gives_granted _ _ c.in-Edits.is),
      own-low start.args.frame.now pre.1 _ pre.2,
    )

pub returns-in-Refused : goal.returns-in-Refused
returns-in-Refused c =
    let start = c in
    let pre = c.requires in
    let grant = c.grant-g in
    let resolve-granted = c.resolve_granted in
    record { gives_in = refused-call start.args.frame.now pre.1 start.args.i pre.2 start.args.t.now start.args.f.now start.args.cache.now _ grant.ensures start.args.free.now start.args.numbers.now start.args.list.now resolve-granted.new.list resolve-granted.new.cache resolve-granted.result resolve-granted.ensures.gives_granted _ c.in-Refused.is; anything = resolve-granted.ensures.anything }

pub returns-in-Edits : goal.returns-in-Edits
returns-in-Edits c =
    let start = c in
    let pre = c.requires in
    let grant = c.grant-g in
    let resolve-granted = c.resolve_granted in
    record { gives_in = accepted-call start.args.frame.now pre.1 start.args.i pre.2 start.args.t.now start.args.f.now start.args.cache.now _ grant.ensures start.args.free.now start.args.numbers.now start.args.list.now resolve-granted.new.list resolve-granted.new.cache resolve-granted.result resolve-granted.ensures.gives_granted _ _ c.in-Edits.is _ (rw c.made.ensures at c.go_on.ensures); anything = resolve-granted.ensures.anything }
