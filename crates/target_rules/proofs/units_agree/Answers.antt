use mathlib.Core.Path.{◌≡◌, ◌∙◌}
use mathlib.Core.Bool.{true≢false, false≢true}
use native.Mathlib.Omega.{arith}
use borrow.Author.Tests.{not-true, not-false}
use Rattle.entity.proofs.Laws.{has_get_d}
use Rattle.reginfo.specs.RegInfo.{reg_units}
use Rattle.reginfo.specs.Table.{reg_info_of}
use Rattle.target_limits.proofs.Limits.{reg_known, width_few}
use Rattle.target_rules.proofs.UnitKinds.{finish, one_more, other-kind, unit-low}
use Rattle.target_rules.proofs.units_agree.Goals as goal

pub num_reg_units-n-requires : goal.num_reg_units-n-requires
num_reg_units-n-requires c =
    let start = c in
    reg_known (reg_info_of start.args.t.now) start.requires.0 start.args.r.0 start.requires.1

pub reg_unit-u-requires : goal.reg_unit-u-requires
reg_unit-u-requires c =
    let start = c in
    let l = rw c.num_reg_units-n.ensures at c.loop-j-test.true in (
      reg_known (reg_info_of start.args.t.now) start.requires.0 start.args.r.0 start.requires.1,
      l,
      omega (arith, l, width_few (reg_info_of start.args.t.now) start.requires.0 start.args.r.0 start.requires.1),
    )

pub unit_agrees-requires : goal.unit_agrees-requires
unit_agrees-requires c =
    let start = c in
    let l = rw c.num_reg_units-n.ensures at c.loop-j-test.true in
    rw c.reg_unit-u.ensures (unit-low (reg_info_of start.args.t.now) start.requires.0 start.args.r.0 c.loop-j.j start.requires.1 l)

pub returns-then-not-unit_agrees : goal.returns-then-not-unit_agrees
returns-then-not-unit_agrees c =
    let start = c in
    let turn = c.loop-j in
    let l = rw c.num_reg_units-n.ensures at c.loop-j-test.true in
    let d = rw (c.reg_unit-u.ensures, c.kind_of-kind.ensures) at (c.unit_agrees.ensures.1 (not-true _ c.if-not-unit_agrees.true-raw)) in (
      (λ e. absurd (false≢true e)),
      λ e. other-kind (reg_info_of start.args.t.now) start.args.r.0 start.args.r.0 _ turn.kinds start.requires.1 (has_get_d (reg_units (reg_info_of start.args.t.now) start.args.r.0) turn.j l) turn.invariant.1.noted d,
    )

pub loop-j-preserved : goal.loop-j-preserved
loop-j-preserved c =
    let start = c in
    let turn = c.loop-j in
    let l = rw c.num_reg_units-n.ensures at c.loop-j-test.true in
    let s = rw (c.reg_unit-u.ensures, c.kind_of-kind.ensures) at (c.unit_agrees.ensures.0 (not-false _ c.if-not-unit_agrees.false-raw)) in
    (omega arith, one_more (reg_info_of start.args.t.now) start.args.r.0 turn.j turn.kinds c.unit_agrees.new.kinds start.requires.1 l turn.invariant.1 s)

pub returns : goal.returns
returns c =
    let start = c in
    let turn = c.loop-j in
    let z : turn.j ≡ c.num_reg_units-n.result = omega arith in
    ((λ e. finish (reg_info_of start.args.t.now) start.args.r.0 turn.kinds (rw (z ∙ c.num_reg_units-n.ensures) at turn.invariant.1)), λ e. absurd (true≢false e))
