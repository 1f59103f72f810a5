-- `acquire` meets its contract: the top is the last that the patch put back, else the last that is left of the cache's.
use mathlib.Core.Path.{◌≡◌}
use native.Mathlib.Omega.{arith}
use Rattle.slots.specs.Stacks.{own_of}
use Rattle.slots.proofs.Laws.{took-own, took-left, took-none}
use Rattle.slots.proofs.acquire.Goals as goal

pub returns-then-own-gt0 : goal.returns-then-own-gt0
returns-then-own-gt0 c =
    let s = c in
    let w = c.from-own in
    took-own s.args.slots.now s.args.cache.now c.told-slots s.args.z s.requires.0 w.result w.ensures (omega arith)

pub returns-then-left-gt0 : goal.returns-then-left-gt0
returns-then-left-gt0 c =
    let s = c in
    let w = c.from-left in
    let own : own_of s.args.slots.now s.args.z ≡ 0 = omega (arith, c.from-own.ensures) in
    took-left s.args.slots.now s.args.cache.now c.told-slots s.args.z s.requires.0 own w.result w.ensures _ (omega arith) s.requires.1 c.touch.ensures

pub returns : goal.returns
returns c =
    let s = c in
    let w = c.from-left in
    let own : own_of s.args.slots.now s.args.z ≡ 0 = omega (arith, c.from-own.ensures) in
    took-none s.args.slots.now s.args.cache.now c.told-slots s.args.z s.requires.0 own w.result w.ensures (omega arith)
