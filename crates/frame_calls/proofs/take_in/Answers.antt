use mathlib.Core.Path.{◌∙◌}
use native.Mathlib.Omega.{arith}
use Rattle.frame_table.proofs.Held.{own-low}
use Rattle.frame_calls.proofs.Laws.{counter-other, same-counter, stamp-other, stamp-same, taken}
use Rattle.frame_calls.proofs.take_in.Goals as goal

pub returns-then-counter-a : goal.returns-then-counter-a
returns-then-counter-a c =
    let start = c in
    counter-other start.args.frame.now start.args.i start.args.a start.args.slots.now start.args.cache.now (λ e. c.if-counter-a.true (c.counter.ensures ∙ e))

pub take-requires : goal.take-requires
take-requires c =
    let start = c in
    λ e. (c.requires.2 e (same-counter start.args.frame.now start.args.a _ c.counter.ensures c.if-counter-a.false)).can

pub go_on-requires : goal.go_on-requires
go_on-requires c =
    let pre = c.requires in
    let start = c in
    let take = c.take in
    let counter = c.counter in
    let can = pre.2 (stamp-same start.args.frame.now start.args.i start.args.a start.args.slots.now start.args.cache.now take.new.cache take.result take.ensures c.in-Yes.is) (same-counter start.args.frame.now start.args.a _ counter.ensures c.if-counter-a.false) in (omega (arith, pre.1, pre.0.number), can.on, own-low start.args.frame.now pre.0 _ pre.1)

pub returns-in-Refused : goal.returns-in-Refused
returns-in-Refused c =
    let start = c in
    let take = c.take in
    stamp-other start.args.frame.now start.args.i start.args.a start.args.slots.now start.args.cache.now take.new.cache take.result take.ensures _ c.in-Refused.is

pub returns-in-Yes : goal.returns-in-Yes
returns-in-Yes c =
    let start = c in
    let counter = c.counter in
    let if1 = c.if-counter-a in
    let take = c.take in
    let pre = c.requires in
    let same = same-counter start.args.frame.now start.args.a _ counter.ensures if1.false in taken start.args.frame.now start.args.i start.args.a start.args.slots.now start.args.cache.now take.new.cache take.result take.ensures c.in-Yes.is pre.0 pre.1 same (pre.2 (stamp-same start.args.frame.now start.args.i start.args.a start.args.slots.now start.args.cache.now take.new.cache take.result take.ensures c.in-Yes.is) same) _ c.go_on.ensures
