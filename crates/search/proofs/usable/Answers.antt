use mathlib.Core.Path.{refl, sym, ap, ◌∙◌}
use mathlib.Core.Bool.{true, false, not-not}
use native.Mathlib.Omega.{arith}
use lib.ListN.{drop_of_length-le}
use Rattle.entity.specs.Logic.{and, no, all_in}
use Rattle.entity.proofs.Laws.{no_false}
use Rattle.reginfo.specs.RegInfo.{reg_units}
use Rattle.reginfo.specs.Table.{reg_info_of}
use Rattle.small_set.specs.Set.{set_of}
use Rattle.search.specs.Search.{barred_by}
use Rattle.search.proofs.Laws.{usable-step, unit-below}
use Rattle.search.proofs.usable.Goals as goal

pub contains-requires : goal.contains-requires
contains-requires c =
    let l = c.loop-j in
    let s = c in
    unit-below (reg_info_of s.args.t.now) s.args.r.0 l.j c.reg_unit-u.result.0 s.requires (omega arith) c.reg_unit-u.ensures

pub returns-then-not-contains : goal.returns-then-not-contains
returns-then-not-contains c =
    let l = c.loop-j in
    let a = c.args in
    let u = c.reg_unit-u in
    sym (l.invariant.0 ∙ usable-step (reg_info_of a.t.now) a.available.now a.sources.now a.cycle a.r.0 l.j u.result.0 false _ (omega arith) u.ensures (sym (ap no c.if-not-contains.true-raw) ∙ not-not c.contains.result ∙ c.contains.ensures) refl)

pub barred-requires : goal.barred-requires
barred-requires c =
    let l = c.loop-j in
    let s = c in
    let u = c.reg_unit-u in
    unit-below (reg_info_of s.args.t.now) s.args.r.0 l.j u.result.0 s.requires (omega arith) u.ensures

pub returns-then-barred : goal.returns-then-barred
returns-then-barred c =
    let l = c.loop-j in
    let a = c.args in
    let u = c.reg_unit-u in
    sym (l.invariant.0 ∙ usable-step (reg_info_of a.t.now) a.available.now a.sources.now a.cycle a.r.0 l.j u.result.0 true true (omega arith) u.ensures (sym (no_false _ c.if-not-contains.false-raw) ∙ c.contains.ensures) (sym c.if-barred.true ∙ c.barred.ensures))

pub loop-j-preserved : goal.loop-j-preserved
loop-j-preserved c =
    let l = c.loop-j in
    let a = c.args in
    let u = c.reg_unit-u in
    (l.invariant.0 ∙ usable-step (reg_info_of a.t.now) a.available.now a.sources.now a.cycle a.r.0 l.j u.result.0 true false (omega arith) u.ensures (sym (no_false _ c.if-not-contains.false-raw) ∙ c.contains.ensures) (sym c.if-barred.false ∙ c.barred.ensures), omega arith)

pub returns : goal.returns
unfolding all_in
returns c =
    let l = c.loop-j in
    let a = c.args in
    sym (l.invariant.0 ∙ ap (all_in (λ u. and (set_of a.available.now u) (no (barred_by a.cycle a.sources.now u)))) (drop_of_length-le (reg_units (reg_info_of a.t.now) a.r.0) {i = l.j} (omega arith)))
