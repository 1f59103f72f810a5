-- Neither sum nor product is too large: `plan` of crate machine.
use mathlib.Core.Path.{refl}
use native.Mathlib.Omega.{arith}
use Rattle.enough_slots.proofs.Laws.{few-slots, few-kept}
use Rattle.enough_slots.proofs.enough_slots.Goals as goal

pub overflow_add-each : goal.overflow_add-each
overflow_add-each c =
    let s = c in
    omega (arith, c.kept_evictions-each.ensures, few-kept s.args.t.now s.args.f.now s.requires)

pub overflow_mul-result : goal.overflow_mul-result
overflow_mul-result c =
    let s = c in
    rw (c.kept_evictions-each.ensures, c.num_sizes-sizes.ensures) (omega (arith, few-slots s.args.t.now s.args.f.now s.requires))

pub overflow_cast-result : goal.overflow_cast-result
overflow_cast-result c =
    let s = c in
    rw (c.kept_evictions-each.ensures, c.num_sizes-sizes.ensures) (omega (arith, few-slots s.args.t.now s.args.f.now s.requires))

pub returns : goal.returns
returns c =
    let s = c in
    rw (c.kept_evictions-each.ensures, c.num_sizes-sizes.ensures) (refl, few-slots s.args.t.now s.args.f.now s.requires)
