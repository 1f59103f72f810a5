use mathlib.Core.Path.{◌≡◌, ◌∙◌}
use native.Mathlib.Omega.{arith}
use Rattle.slots.proofs.Laws.{began}
use Rattle.slots.proofs.begin.Goals as goal

pub returns : goal.returns
returns c =
    let s = c in
    let l = c.loop-z-2 in
    let e : l.z ≡ 64 = omega arith in
    began l.slots s.args.cache.now (l.invariant.0 ∙ c.loop-z.invariant.0 ∙ c.told-slots) s.requires (rw e at l.invariant.1)
