use Rattle.frame_table.proofs.Held.{own-low}
use Rattle.frame_calls.proofs.Laws.{granted-ok, few, asked-on, refused-asking, accepted-asking}
use Rattle.frame_calls.proofs.ask_in.Goals as goal

pub ask_granted-requires : goal.ask_granted-requires
ask_granted-requires c =
    let pre = c.requires in
    let start = c in
    let grant = c.grant-g in
    (pre.0, granted-ok start.args.frame.now pre.1 start.args.i pre.2 start.args.t.now start.args.f.now start.args.cache.now _ grant.ensures pre.3)

pub shown-requires : goal.shown-requires
shown-requires c =
    let start = c in
    let pre = c.requires in
    let grant = c.grant-g in
    let ask-granted = c.ask_granted in
    (few start.args.frame.now pre.1 start.args.i pre.2 start.args.t.now start.args.f.now start.args.cache.now _ grant.ensures, asked-on start.args.frame.now pre.1 start.args.i pre.2 start.args.t.now start.args.f.now start.args.cache.now _ grant.ensures start.args.free.now start.args.numbers.now start.args.list.now ask-granted.new.list ask-granted.new.slots ask-granted.result ask-granted.ensures.asks _ _ c.in-Ready.is, own-low start.args.frame.now pre.1 _ pre.2)

pub returns-in-Refused : goal.returns-in-Refused
returns-in-Refused c =
    let start = c in
    let pre = c.requires in
    let grant = c.grant-g in
    let ask-granted = c.ask_granted in
    record { asks_in = refused-asking start.args.frame.now pre.1 start.args.i pre.2 start.args.t.now start.args.f.now start.args.cache.now _ grant.ensures start.args.free.now start.args.numbers.now start.args.list.now ask-granted.new.list ask-granted.new.slots ask-granted.result ask-granted.ensures.asks _ c.in-Refused.is; anything = ask-granted.ensures.anything }

pub returns-in-Ready : goal.returns-in-Ready
returns-in-Ready c =
    let start = c in
    let pre = c.requires in
    let grant = c.grant-g in
    let ask-granted = c.ask_granted in
    record { asks_in = accepted-asking start.args.frame.now pre.1 start.args.i pre.2 start.args.t.now start.args.f.now start.args.cache.now _ grant.ensures start.args.free.now start.args.numbers.now start.args.list.now ask-granted.new.list ask-granted.new.slots ask-granted.result ask-granted.ensures.asks _ _ c.in-Ready.is _ c.shown.ensures; anything = ask-granted.ensures.anything }
