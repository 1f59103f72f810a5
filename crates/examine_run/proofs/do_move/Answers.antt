-- `do_move` meets its contract: what is read is put.
use mathlib.Core.Path.{sym, ◌∙◌}
use Rattle.entity.specs.Place.{place_at}
use Rattle.reginfo.specs.Table.{reg_info_of}
use Rattle.cells.specs.Cells.{memory_of}
use Rattle.examine_run.proofs.Laws.{move-no, move-yes}
use Rattle.examine_run.proofs.do_move.Goals as goal

pub returns-then-both_memory : goal.returns-then-both_memory
returns-then-both_memory c = let s = c in (λ f g v. move-no (reg_info_of s.args.t.now) f g (memory_of s.args.c.now) (place_at s.args.to.0) (place_at s.args.from.0) v (sym c.both_memory.ensures ∙ c.if-both_memory.true), s.requires.0, tt)

pub returns : goal.returns
returns c = let s = c in (λ f g v. move-yes (reg_info_of s.args.t.now) f g (memory_of s.args.c.now) (place_at s.args.to.0) (place_at s.args.from.0) v _ c.put_if.result _ (sym c.both_memory.ensures ∙ c.if-both_memory.false) (c.read.ensures.0 f) (c.put_if.ensures.0 f), c.put_if.ensures.1, tt)
