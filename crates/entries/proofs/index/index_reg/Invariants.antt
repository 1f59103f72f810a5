-- `index_reg` meets its contract: `Indexing` holds before each unit.
use Rattle.reginfo.specs.Table.{reg_info_of}
use Rattle.entries.proofs.Sources.{Indexing}
use Rattle.entries.proofs.index.index_reg.Given as goal

abbrev pub invariant-loop-j : goal.invariant-loop-j
invariant-loop-j l = Indexing (reg_info_of l.t) l.initial.e l.r.0 l.x l.e l.j
