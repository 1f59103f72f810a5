use mathlib.Core.Path.{◌≡◌}
use native.Mathlib.Omega.{arith}
use Rattle.slots.proofs.Laws.{settle-start, settle-more, settled}
use Rattle.slots.proofs.settle.Goals as goal

pub loop-i-init : goal.loop-i-init
loop-i-init c =
    let s = c in
    settle-start s.args.slots.now s.args.cache.now s.args.z c.from-left.result

pub loop-i-preserved : goal.loop-i-preserved
loop-i-preserved c =
    let s = c in
    let l = c.loop-i in
    let left = c.from-left in
    let own = c.from-own in
    settle-more s.args.slots.now s.args.cache.now s.args.z left.result l.cache l.i (omega arith) s.requires.0 l.invariant c.told-cache

pub returns : goal.returns
returns c =
    let s = c in
    let l = c.loop-i in
    let left = c.from-left in
    let own = c.from-own in
    let e : l.i ≡ own.result = omega arith in
    settled s.args.slots.now s.args.cache.now s.args.z left.result l.cache own.result c.told-cache s.requires.0 left.ensures own.ensures (omega arith) (rw e at l.invariant)
