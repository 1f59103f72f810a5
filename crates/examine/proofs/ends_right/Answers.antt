-- `ends_right` meets its contract: destinations, units, slots.
use native.Mathlib.Omega.{arith}
use Rattle.reginfo.specs.Table.{reg_info_of}
use Rattle.function.specs.Table.{function_of}
use Rattle.function.proofs.Laws.{few-slots}
use Rattle.examine.proofs.ends_right.Goals as goal

pub slots_stay-requires : goal.slots_stay-requires
slots_stay-requires c = let s = c in (s.requires.1.linked, s.requires.3, s.requires.4, omega (arith, c.num_slots.ensures, few-slots (reg_info_of s.args.t.now) (function_of s.args.f.now) s.requires.0.function))
