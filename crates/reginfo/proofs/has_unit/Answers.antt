use mathlib.Core.Path.{sym, ap, ◌∙◌}
use native.Mathlib.Omega.{arith}
use lib.ListN.{drop_of_length-le}
use Rattle.entity.specs.Logic.{has}
use Rattle.entity.proofs.Laws.{has-step}
use Rattle.reginfo.specs.RegInfo.{reg_units}
use Rattle.reginfo.specs.Table.{reg_info_of}
use Rattle.reginfo.proofs.has_unit.Goals as goal

pub returns-then-eq : goal.returns-then-eq
returns-then-eq c =
    let l = c.loop-j in
    let us = reg_units (reg_info_of c.args.t.now) c.args.r.0 in
    sym (l.invariant.0 ∙ has-step c.args.u.0 us l.j (omega arith) ∙ rw (← c.reg_unit-v.ensures, ← c.if-eq.ensures))

pub loop-j-preserved : goal.loop-j-preserved
loop-j-preserved c =
    let l = c.loop-j in
    let us = reg_units (reg_info_of c.args.t.now) c.args.r.0 in
    (l.invariant.0 ∙ has-step c.args.u.0 us l.j (omega arith) ∙ rw (← c.reg_unit-v.ensures, ← c.if-eq.ensures), omega arith)

pub returns : goal.returns
unfolding has
returns c =
    let l = c.loop-j in
    sym (l.invariant.0 ∙ ap (has c.args.u.0) (drop_of_length-le (reg_units (reg_info_of c.args.t.now) c.args.r.0) {i = l.j} (omega arith)))
