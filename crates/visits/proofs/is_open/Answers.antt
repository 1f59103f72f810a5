-- `is_open` meets its contract: the state of the writer, if there is one.
use mathlib.Core.Path.{ap, ◌∙◌}
use Rattle.sparse.specs.Map.{map_of}
use Rattle.visits.specs.Marks.{states_of}
use Rattle.visits.specs.Writers.{is_open}
use Rattle.visits.proofs.Writers.{writer-found, kept_low}
use Rattle.visits.proofs.is_open.Goals as goal

pub is_pending-requires : goal.is_pending-requires
is_pending-requires c =
    let a = c.args in
    kept_low (map_of a.w.now a.u.0) _ (writer-found c.writer_of.ensures c.in-Some.is)

pub returns-in-Some : goal.returns-in-Some
returns-in-Some c = c.is_pending.ensures ∙ ap (is_open (states_of c.args.marks.now)) (writer-found c.writer_of.ensures c.in-Some.is)

pub returns-in-None : goal.returns-in-None
returns-in-None c = ap (is_open (states_of c.args.marks.now)) (writer-found c.writer_of.ensures c.in-None.is)
