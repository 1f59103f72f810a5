use Prim.Native.Nat.{◌<◌}
use native.Mathlib.Omega.{arith}
use Rattle.slots.proofs.Laws.{length-stacks, commit-start, commit-more, committed}
use Rattle.slots.proofs.commit.Goals as goal

pub loop-z-init : goal.loop-z-init
loop-z-init c =
    let s = c in
    rw c.from-start.ensures (commit-start s.args.slots.now s.args.cache.now s.requires.0 s.requires.2)

pub settle-requires : goal.settle-requires
settle-requires c =
    let s = c in
    let l = c.loop-z in
    let low : l.z < 32 = omega (arith, c.from-end.ensures, s.requires.2.high) in
    (low, s.requires.0.own l.z low, omega (arith, s.requires.1 l.z low, length-stacks s.args.slots.now s.args.cache.now l.z low))

pub loop-z-preserved : goal.loop-z-preserved
loop-z-preserved c =
    let s = c in
    let l = c.loop-z in
    let low : l.z < 32 = omega (arith, c.from-end.ensures, s.requires.2.high) in
    commit-more s.args.slots.now s.args.cache.now s.requires.0 l.cache c.settle.new.cache l.z low l.invariant c.settle.ensures

pub returns : goal.returns
returns c =
    let s = c in
    let l = c.loop-z in
    committed s.args.slots.now s.args.cache.now s.requires.0 l.cache _ s.args.made l.z s.requires.2 (omega (arith, c.from-end.ensures)) l.invariant c.raise.ensures
