-- `has_writer` meets its contract: what the look-up finds.
use Rattle.sparse.specs.Map.{known}
use Rattle.entries.proofs.Writers.{by-found}
use Rattle.entries.proofs.writing.has_writer.Goals as goal

pub returns-in-Some : goal.returns-in-Some
returns-in-Some c = by-found known c.get.ensures c.in-Some.is

pub returns-in-None : goal.returns-in-None
returns-in-None c = by-found known c.get.ensures c.in-None.is
