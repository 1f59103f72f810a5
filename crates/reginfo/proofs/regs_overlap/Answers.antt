use Prim.Native.Nat.{ℕ}
use mathlib.Core.Path.{◌≡◌, sym, ap, ◌∙◌}
use mathlib.Core.Bool.{Bool, true, false}
use mathlib.Core.List.{List}
use native.Mathlib.Omega.{arith}
use lib.ListN.{get_or, drop_of_length-le}
use Rattle.entity.specs.Logic.{has, meets}
use Rattle.entity.proofs.Laws.{meets-step, meets-comm}
use Rattle.reginfo.specs.RegInfo.{reg_units}
use Rattle.reginfo.specs.Table.{reg_info_of}
use Rattle.reginfo.proofs.regs_overlap.Goals as goal

-- what is shared is shared either way round
either : {o : Bool} (l m : List ℕ) → o ≡ meets l m → (o ≡ meets m l) × (o ≡ meets l m)
either l m e = (e ∙ meets-comm l m, e)

pub returns-then-has_unit : goal.returns-then-has_unit
returns-then-has_unit c =
    let l = c.loop-k in
    let s = c in
    let us = reg_units (reg_info_of s.args.t.now) s.args.b.0 in
    let vs = reg_units (reg_info_of s.args.t.now) s.args.a.0 in
    let e : has (get_or us l.k 0) vs ≡ true = cc in
    either us vs (sym (l.invariant.0 ∙ meets-step us vs l.k (omega arith) ∙ rw e))

pub loop-k-preserved : goal.loop-k-preserved
loop-k-preserved c =
    let l = c.loop-k in
    let s = c in
    let us = reg_units (reg_info_of s.args.t.now) s.args.b.0 in
    let vs = reg_units (reg_info_of s.args.t.now) s.args.a.0 in
    let e : has (get_or us l.k 0) vs ≡ false = cc in
    (l.invariant.0 ∙ meets-step us vs l.k (omega arith) ∙ rw e, omega arith)

pub returns : goal.returns
unfolding meets
returns c =
    let l = c.loop-k in
    let s = c in
    let us = reg_units (reg_info_of s.args.t.now) s.args.b.0 in
    let vs = reg_units (reg_info_of s.args.t.now) s.args.a.0 in
    either us vs (sym (l.invariant.0 ∙ ap (λ (l : List ℕ). meets l vs) (drop_of_length-le us {i = l.k} (omega arith))))
