-- `raise` meets its contract: in the stamp's lowest cell, or by the carry.
use Prim.Native.Nat.{◌<◌}
use mathlib.Core.Path.{refl}
use native.Mathlib.Omega.{arith}
use Rattle.slots.specs.Stacks.{stamp_of}
use Rattle.slots.proofs.Raising.{first-raised, carried}
use Rattle.slots.proofs.raise.Goals as goal

pub returns-then-first-lt65535 : goal.returns-then-first-lt65535
unfolding stamp_of
returns-then-first-lt65535 c =
    let below : stamp_of c.args.cache.now < 18446744073709551616 = omega arith in
    first-raised c.args.cache.now (stamp_of c.args.cache.now) c.told-cache refl below c.args.made c.from-first.result c.from-first.ensures c.if-first-lt65535.true

pub returns : goal.returns
returns c =
    carried c.args.cache.now c.args.made c.told-cache _ c.carry.ensures
