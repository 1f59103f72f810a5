-- `do_remat` meets its contract: the content is put.
use mathlib.Core.Path.{sym, ◌∙◌}
use borrow.Author.Tests.{not-true, not-false}
use Rattle.entity.specs.Place.{place_at}
use Rattle.entity.proofs.Laws.{and-true}
use Rattle.reginfo.specs.RegInfo.{in_class}
use Rattle.reginfo.specs.Table.{reg_info_of}
use Rattle.function.specs.Function.{can_rematerialize, remat_class}
use Rattle.function.specs.Table.{function_of}
use Rattle.entries.specs.Table.{sorted_of}
use Rattle.examine_rules.specs.Examine.{generic_content}
use Rattle.cells.specs.Cells.{memory_of}
use Rattle.examine_run.proofs.Laws.{remat-no, remat-yes, takes-class}
use Rattle.examine_run.proofs.do_remat.Goals as goal

pub returns-then-not-can_remat : goal.returns-then-not-can_remat
returns-then-not-can_remat c = let s = c in let t = reg_info_of s.args.t.now in let f = function_of s.args.f.now in (remat-no t f (generic_content t f (sorted_of s.args.e.now).moves) (memory_of s.args.c.now) (place_at s.args.to.0) s.args.v.0 (sym c.can_remat.ensures ∙ not-true c.can_remat.result c.if-not-can_remat.true-raw), s.requires.2, tt)

pub write-requires : goal.write-requires
write-requires c = let s = c in let f = function_of s.args.f.now in let k = c.content.ensures in let a = and-true (can_rematerialize f s.args.v.0) (in_class (reg_info_of s.args.t.now) (remat_class f s.args.v.0) (place_at s.args.to.0)) (sym c.can_remat.ensures ∙ not-false c.can_remat.result c.if-not-can_remat.false-raw) in (s.requires.2, s.requires.3, k.2, λ z. k.1 ∙ takes-class s.args.t.now s.args.f.now s.requires.0 s.args.v.0 s.requires.4 (place_at s.args.to.0) a.0 a.1 z)

pub returns : goal.returns
returns c = let s = c in let t = reg_info_of s.args.t.now in let f = function_of s.args.f.now in (remat-yes t f (generic_content t f (sorted_of s.args.e.now).moves) (memory_of s.args.c.now) (place_at s.args.to.0) s.args.v.0 _ _ (sym c.can_remat.ensures ∙ not-false c.can_remat.result c.if-not-can_remat.false-raw) c.content.ensures.0 (c.write.ensures.0 f), c.write.ensures.1, tt)
