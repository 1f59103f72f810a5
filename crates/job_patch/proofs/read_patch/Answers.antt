use Rattle.job_patch.proofs.Patched.{patch-refused, patch-read}
use Rattle.job_patch.proofs.read_patch.Goals as goal

pub read_free_units-requires : goal.read_free_units-requires
read_free_units-requires c = c.requires.target

pub returns-in-Refused : goal.returns-in-Refused
returns-in-Refused c = let a = c.args in patch-refused a.t.now a.f.now a.s.now a.at _ c.read_free_units.new.free a.e.now a.w.now (rw c.in-Refused.is at c.read_free_units.ensures)

pub returns-in-At : goal.returns-in-At
returns-in-At c = let a = c.args in patch-read a.t.now a.f.now a.s.now a.at _ c.read_rest.result c.read_free_units.new.free c.read_rest.new.e c.read_rest.new.w (rw c.in-At.is at c.read_free_units.ensures) c.read_rest.ensures
