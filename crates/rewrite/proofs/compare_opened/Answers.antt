-- `compare_opened` meets its contract: the opening in tables, and the numbers behind it.
use mathlib.Core.Path.{◌∙◌}
use Rattle.rewrite.proofs.Rewriting.{decoded, from-tables, rest_all}
use Rattle.rewrite.proofs.compare_opened.Goals as goal

pub returns-in-Some : goal.returns-in-Some
returns-in-Some c = from-tables c.args.s.now _ _ c.args.recorded _ _ c.compare_tables.result (rw c.in-At.is at c.read_beginning.ensures) ((decoded _ c.decode.new.numbers c.decode.result _ c.decode.ensures c.in-Some.is).2 ∙ rest_all c.args.s.now c.in-At.next) c.compare_tables.ensures
