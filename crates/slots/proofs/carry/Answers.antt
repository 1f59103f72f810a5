-- `carry` meets its contract: where each cell in turn is below its end, and where none is.
use Prim.Native.Nat.{◌<◌}
use mathlib.Core.Path.{refl}
use Rattle.slots.specs.Stacks.{stamp_of}
use native.Mathlib.Omega.{arith}
use Rattle.slots.proofs.Raising.{second-raised, third-raised, fourth-raised, all-round}
use Rattle.slots.proofs.carry.Goals as goal

pub returns-then-second-lt65535 : goal.returns-then-second-lt65535
unfolding stamp_of
returns-then-second-lt65535 c =
    let below : stamp_of c.args.cache.now < 18446744073709551616 = omega arith in
    second-raised c.args.cache.now (stamp_of c.args.cache.now) c.told-cache refl below c.requires c.from-second.result c.from-second.ensures c.if-second-lt65535.true

pub returns-then-third-lt65535 : goal.returns-then-third-lt65535
unfolding stamp_of
returns-then-third-lt65535 c =
    let below : stamp_of c.args.cache.now < 18446744073709551616 = omega arith in
    third-raised c.args.cache.now (stamp_of c.args.cache.now) c.told-cache refl below c.requires c.from-second.result c.from-second.ensures c.if-second-lt65535.false (omega arith) c.from-third.result c.from-third.ensures c.if-third-lt65535.true

pub returns-then-fourth-lt65535 : goal.returns-then-fourth-lt65535
unfolding stamp_of
returns-then-fourth-lt65535 c =
    let below : stamp_of c.args.cache.now < 18446744073709551616 = omega arith in
    fourth-raised c.args.cache.now (stamp_of c.args.cache.now) c.told-cache refl below c.requires c.from-second.result c.from-second.ensures c.if-second-lt65535.false (omega arith) c.from-third.result c.from-third.ensures c.if-third-lt65535.false (omega arith) c.from-fourth.result c.from-fourth.ensures c.if-fourth-lt65535.true

pub returns : goal.returns
unfolding stamp_of
returns c =
    let below : stamp_of c.args.cache.now < 18446744073709551616 = omega arith in
    all-round c.args.cache.now (stamp_of c.args.cache.now) c.told-cache refl below c.requires c.from-second.result c.from-second.ensures c.if-second-lt65535.false (omega arith) c.from-third.result c.from-third.ensures c.if-third-lt65535.false (omega arith) c.from-fourth.result c.from-fourth.ensures c.if-fourth-lt65535.false (omega arith)
