-- `insert_units` meets its contract: the set with all units from the start equals the set with those from here.
use Rattle.reginfo.specs.Table.{reg_info_of}
use Rattle.small_set.specs.Set.{set_of, inserted_all}
use Rattle.search.proofs.Laws.{Walk}
use Rattle.search.proofs.insert_units.Given as goal

abbrev pub invariant-loop-j : goal.invariant-loop-j
invariant-loop-j l = Walk inserted_all (reg_info_of l.t) l.r.0 (set_of l.initial.s) (set_of l.s) l.j
