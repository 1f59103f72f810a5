-- `do_spill` meets its contract: the register's words are put.
use mathlib.Core.Path.{sym, ap, ◌∙◌}
use mathlib.Core.Bool.{false≢true}
use Rattle.entity.specs.Place.{reg, slot, place_at}
use Rattle.entity.proofs.Laws.{place-there}
use Rattle.reginfo.specs.Table.{reg_info_of}
use Rattle.machine.specs.Machine.{read}
use Rattle.cells.specs.Cells.{memory_of}
use Rattle.examine_run.proofs.Laws.{spill-is}
use Rattle.examine_run.proofs.do_spill.Goals as goal

pub read-requires : goal.read-requires
read-requires c = let s = c in (s.requires.0, rw (c.reg.ensures, place-there (reg s.args.r.0)) s.requires.2)

pub write-requires : goal.write-requires
write-requires c = let s = c in (s.requires.0, rw (c.spillslot.ensures, place-there (slot s.args.s.0)) s.requires.1, c.read.ensures.1, rw (c.spillslot.ensures, place-there (slot s.args.s.0)) (λ z. absurd (false≢true (sym z))))

pub returns : goal.returns
returns c = let s = c in let t = reg_info_of s.args.t.now in let m = memory_of s.args.c.now in (λ f g. spill-is t f g m s.args.s.0 s.args.r.0 _ _ (c.read.ensures.0 f ∙ ap (read t f m) (ap place_at c.reg.ensures ∙ place-there (reg s.args.r.0))) (rw (ap place_at c.spillslot.ensures ∙ place-there (slot s.args.s.0)) at (c.write.ensures.0 f)), c.write.ensures.1, tt)
