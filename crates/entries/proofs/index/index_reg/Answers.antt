use Prim.Native.Nat.{◌*◌, ◌+◌}
use mathlib.Core.Path.{sym, ◌∙◌}
use native.Mathlib.Omega.{arith}
use Rattle.reginfo.specs.Table.{reg_info_of}
use Rattle.entries.proofs.Sources.{unit-low, looked-at, indexing-clash, indexing-next, indexing-done}
use Rattle.entries.proofs.index.index_reg.Goals as goal

pub unit_clashes-requires : goal.unit_clashes-requires
unit_clashes-requires c =
    let s = c in
    rw c.reg_unit-u.ensures (looked-at (reg_info_of s.args.t.now) s.args.e.now s.args.r.0 (c.stamp.result * 128 + c.from.result) s.requires.0 s.requires.1 s.requires.2 c.loop-j.e c.loop-j.j c.loop-j.invariant (omega arith), unit-low (reg_info_of s.args.t.now) s.args.e.now s.args.r.0 (c.stamp.result * 128 + c.from.result) s.requires.0 s.requires.1 s.requires.2 c.loop-j.e c.loop-j.j c.loop-j.invariant (omega arith))

pub returns-then-unit_clashes : goal.returns-then-unit_clashes
returns-then-unit_clashes c =
    let s = c in
    indexing-clash (reg_info_of s.args.t.now) s.args.e.now s.args.r.0 (c.stamp.result * 128 + c.from.result) s.requires.0 s.requires.1 s.requires.2 c.loop-j.e c.loop-j.j c.loop-j.invariant (omega arith) (sym (rw (← c.reg_unit-u.ensures) (sym c.unit_clashes.ensures ∙ c.if-unit_clashes.true)))

pub bounds-e-from : goal.bounds-e-from
bounds-e-from c = let s = c in omega (arith, unit-low (reg_info_of s.args.t.now) s.args.e.now s.args.r.0 (c.stamp.result * 128 + c.from.result) s.requires.0 s.requires.1 s.requires.2 c.loop-j.e c.loop-j.j c.loop-j.invariant (omega arith), c.reg_unit-u.ensures)

pub loop-j-preserved : goal.loop-j-preserved
loop-j-preserved c =
    let s = c in
    rw (c.from-in-loop-j.ensures, c.reg_unit-u.ensures) (indexing-next (reg_info_of s.args.t.now) s.args.e.now s.args.r.0 (c.stamp.result * 128 + c.from.result) s.requires.0 s.requires.1 s.requires.2 c.loop-j.e c.loop-j.j c.loop-j.invariant (omega arith) (sym (rw (← c.reg_unit-u.ensures) (sym c.unit_clashes.ensures ∙ c.if-unit_clashes.false))))

pub returns : goal.returns
returns c =
    let s = c in
    indexing-done (reg_info_of s.args.t.now) s.args.e.now s.args.r.0 (c.stamp.result * 128 + c.from.result) s.requires.0 s.requires.1 s.requires.2 c.loop-j.e c.loop-j.j c.loop-j.invariant (omega arith) (rw (c.stamp.ensures, c.from.ensures))
