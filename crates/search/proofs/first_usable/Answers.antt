use mathlib.Core.Path.{sym, ◌∙◌}
use native.Mathlib.Omega.{arith}
use Rattle.reginfo.specs.RegInfo.{allocation_order}
use Rattle.reginfo.specs.Table.{reg_info_of}
use Rattle.reginfo.proofs.Accepted.{known-class, known-units, order-fits, ordered-fits-at}
use Rattle.search.specs.Search.{usable_in}
use Rattle.search.proofs.Laws.{found_here, searching-on, found_nowhere}
use Rattle.search.proofs.first_usable.Goals as goal

pub order_len-n-requires : goal.order_len-n-requires
order_len-n-requires c = known-class (reg_info_of c.args.t.now) c.requires.0 c.args.c.0 c.requires.1

pub order_at-r-requires : goal.order_at-r-requires
order_at-r-requires c =
    let s = c in
    let t = reg_info_of s.args.t.now in
    let few = order-fits t s.requires.0 s.args.c.0 s.requires.1 in
    (known-class t s.requires.0 s.args.c.0 s.requires.1, omega arith, omega arith)

pub usable-requires : goal.usable-requires
usable-requires c =
    let l = c.loop-i in
    let s = c in
    let t = reg_info_of s.args.t.now in
    known-units t s.requires.0 c.order_at-r.result.0 (rw c.order_at-r.ensures (ordered-fits-at t s.requires.0 s.args.c.0 s.requires.1 l.i (omega arith)))

pub overflow_cast-result : goal.overflow_cast-result
overflow_cast-result c =
    let s = c in
    let few = order-fits (reg_info_of s.args.t.now) s.requires.0 s.args.c.0 s.requires.1 in
    omega arith

pub returns-then-usable : goal.returns-then-usable
returns-then-usable c =
    let l = c.loop-i in
    let a = c.args in
    let t = reg_info_of a.t.now in
    let r = c.order_at-r in
    let found = found_here (usable_in t a.available.now a.sources.now a.cycle) (allocation_order t a.c.0) l.i l.invariant r.result.0 (omega arith) r.ensures (sym c.if-usable.true ∙ c.usable.ensures) in
    record { is = sym found.0; position = sym found.1 }

pub loop-i-preserved : goal.loop-i-preserved
loop-i-preserved c =
    let l = c.loop-i in
    let a = c.args in
    let t = reg_info_of a.t.now in
    let r = c.order_at-r in
    searching-on (usable_in t a.available.now a.sources.now a.cycle) (allocation_order t a.c.0) l.i l.invariant r.result.0 (omega arith) r.ensures (sym c.if-usable.false ∙ c.usable.ensures)

pub returns : goal.returns
returns c =
    let l = c.loop-i in
    let a = c.args in
    let t = reg_info_of a.t.now in
    let none = found_nowhere (usable_in t a.available.now a.sources.now a.cycle) (allocation_order t a.c.0) l.i l.invariant (omega arith) in
    record { is = sym none.0; position = sym none.1 }
