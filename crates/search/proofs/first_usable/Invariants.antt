-- `first_usable` meets its contract: the first usable register of the order, and its position, are the first from here.
use Rattle.reginfo.specs.RegInfo.{allocation_order}
use Rattle.reginfo.specs.Table.{reg_info_of}
use Rattle.search.specs.Search.{usable_in}
use Rattle.search.proofs.Laws.{Searching}
use Rattle.search.proofs.first_usable.Given as goal

abbrev pub invariant-loop-i : goal.invariant-loop-i
invariant-loop-i l = Searching (usable_in (reg_info_of l.t) l.available l.sources l.cycle) (allocation_order (reg_info_of l.t) l.c.0) l.i
