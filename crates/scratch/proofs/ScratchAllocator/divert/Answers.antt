use native.Mathlib.Omega.{arith}
use mathlib.Core.Path.{◌≡◌, ◌∙◌}
use Prim.Native.Nat.{◌+◌}
use Rattle.function.proofs.Laws.{few-values}
use Rattle.scratch.proofs.Diversions.{diverts-live}
use Rattle.scratch.specs.Diversions.{count_at, alloc_at, scratch_at, Noted}
use Rattle.scratch.proofs.ScratchAllocator.divert.Goals as goal

pub ref_count-n-requires : goal.ref_count-n-requires
ref_count-n-requires c = let pre = c.requires in omega (arith, pre.1, few-values _ _ pre.0.function)

pub first_of-first-requires : goal.first_of-first-requires
first_of-first-requires c = let pre = c.requires in omega (arith, pre.1, few-values _ _ pre.0.function)

pub scratch_of-p-requires : goal.scratch_of-p-requires
scratch_of-p-requires c = let pre = c.requires in omega (arith, pre.1, few-values _ _ pre.0.function)

pub note-requires : goal.note-requires
note-requires c = let pre = c.requires in omega (arith, pre.1, few-values _ _ pre.0.function)

pub returns-then-n-ne0 : goal.returns-then-n-ne0
returns-then-n-ne0 c =
    let a = c.args in
    let pre = c.requires in
    let d = a.d.now in
    let n = c.ref_count-n.ensures in
    let live : count_at d a.v.0 ≡ 0 → ⊥ = λ z. c.if-n-ne0.true (n ∙ z) in
    let first : c.first_of-first.result.0 ≡ alloc_at d a.v.0 = c.first_of-first.ensures in
    let kept : c.scratch_of-p.result.0 ≡ scratch_at d a.v.0 = c.scratch_of-p.ensures in
    let sum : c.ref_count-n.result + c.from.result ≡ count_at d a.v.0 + a.added = omega (arith, c.from.ensures, n) in
    let noted : Noted a.v.0 (count_at d a.v.0 + a.added) (alloc_at d a.v.0) (scratch_at d a.v.0) d c.note.new.d = rw (← sum, ← first, ← kept) c.note.ensures in
    diverts-live _ _ _ _ _ d _ _ _ _ _ _ _ live noted kept (pre.3 (omega (arith, live)))
