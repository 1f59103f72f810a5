use mathlib.Core.Path.{sym, ◌∙◌, fun_ext}
use native.Mathlib.Omega.{arith}
use Rattle.reginfo.specs.Table.{reg_info_of}
use Rattle.small_set.specs.Set.{set_of, empty_set}
use Rattle.entries.proofs.Lists.{or-none}
use Rattle.visits.specs.Marks.{moves_of}
use Rattle.visits.proofs.Writers.{source-step, sources-end, cycle-sources}
use Rattle.visits.proofs.note_sources.Goals as goal

pub loop-m-init : goal.loop-m-init
unfolding empty_set
loop-m-init c = (λ u. rw c.clear.ensures.0 (sym (or-none _)), omega arith)

pub loop-m-preserved : goal.loop-m-preserved
loop-m-preserved c =
    let a = c.args in
    let l = c.loop-m in
    (λ u. l.invariant.0 u ∙ source-step (reg_info_of a.t.now) (moves_of a.e.now) l.m u _ (set_of l.sources) (set_of c.insert_units.new.s) (omega arith) c.kept_source.ensures c.insert_units.ensures, omega arith)

pub returns : goal.returns
returns c =
    let a = c.args in
    let l = c.loop-m in
    let ms = moves_of a.e.now in
    λ f. fun_ext (λ u. sym (l.invariant.0 u ∙ sources-end (reg_info_of a.t.now) ms l.m u (set_of l.sources) (omega arith)) ∙ cycle-sources (reg_info_of a.t.now) f ms u)
