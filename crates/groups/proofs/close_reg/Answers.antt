use mathlib.Core.Path.{refl}
use native.Mathlib.Omega.{arith}
use Rattle.entity.proofs.Laws.{has_get_d}
use Rattle.reginfo.specs.RegInfo.{reg_units}
use Rattle.reginfo.specs.Table.{reg_info_of}
use Rattle.groups.proofs.Free.{closing-more, closing_end}
use Rattle.groups.proofs.close_reg.Goals as goal

pub num_reg_units-n-requires : goal.num_reg_units-n-requires
num_reg_units-n-requires c = c.requires.known

pub loop-j-init : goal.loop-j-init
loop-j-init c = (omega arith, c.num_reg_units-n.ensures, λ u. refl)

pub reg_unit-requires : goal.reg_unit-requires
reg_unit-requires c = let l = c.loop-j in let p = c.requires in (p.known, omega (arith, l.invariant.1, c.loop-j-test.true), omega (arith, l.invariant.1, c.loop-j-test.true, p.few))

pub remove-requires : goal.remove-requires
remove-requires c = let l = c.loop-j in let p = c.requires in rw c.reg_unit.ensures (p.low _ (has_get_d (reg_units (reg_info_of c.args.t.now) c.args.r.0) l.j (omega (arith, l.invariant.1, c.loop-j-test.true))))

pub loop-j-preserved : goal.loop-j-preserved
loop-j-preserved c = let l = c.loop-j in (omega (arith, c.loop-j-test.true), l.invariant.1, closing-more (reg_units (reg_info_of c.args.t.now) c.args.r.0) l.j _ l.out _ (omega (arith, l.invariant.1, c.loop-j-test.true)) (rw (← c.reg_unit.ensures) c.remove.ensures.0) l.invariant.2)

pub returns : goal.returns
returns c = let l = c.loop-j in closing_end (reg_units (reg_info_of c.args.t.now) c.args.r.0) l.j _ l.out (omega (arith, l.invariant.1, c.loop-j-test.false)) l.invariant.2
