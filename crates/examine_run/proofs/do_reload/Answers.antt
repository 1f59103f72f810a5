-- `do_reload` meets its contract: the slot's list is put.
use mathlib.Core.Path.{ap, ◌∙◌}
use Rattle.entity.specs.Place.{reg, slot, place_at}
use Rattle.entity.proofs.Laws.{place-there}
use Rattle.reginfo.specs.Table.{reg_info_of}
use Rattle.machine.specs.Machine.{read}
use Rattle.cells.specs.Cells.{memory_of}
use Rattle.examine_run.proofs.Laws.{reload-is}
use Rattle.examine_run.proofs.do_reload.Goals as goal

pub read-requires : goal.read-requires
read-requires c = let s = c in (s.requires.0, rw (c.spillslot.ensures, place-there (slot s.args.s.0)) s.requires.1)

pub put_if-requires : goal.put_if-requires
put_if-requires c = let s = c in (s.requires.0, rw (c.reg.ensures, place-there (reg s.args.r.0)) s.requires.2, c.read.ensures.1)

pub returns : goal.returns
returns c = let s = c in let t = reg_info_of s.args.t.now in let m = memory_of s.args.c.now in (λ f g. reload-is t f g m s.args.r.0 s.args.s.0 _ c.put_if.result _ (c.read.ensures.0 f ∙ ap (read t f m) (ap place_at c.spillslot.ensures ∙ place-there (slot s.args.s.0))) (rw (ap place_at c.reg.ensures ∙ place-there (reg s.args.r.0)) at (c.put_if.ensures.0 f)), c.put_if.ensures.1, tt)
