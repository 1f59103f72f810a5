use mathlib.Core.Path.{◌∙◌}
use borrow.Author.Rules.{rules}
use Rattle.resolve.proofs.answer.Goals as goal

pub write_text-requires : goal.write_text-requires
write_text-requires g c = let p = c.start-p in (p.ensures.0, p.auto.out ∙ c.requires)

pub returns : goal.returns
returns g c = record { all_written = c.write_text.ensures.all_written; written = rw c.start-p.ensures.1 at c.write_text.ensures.written; anything = (tt, tt, tt, tt, tt, tt, tt, tt, tt, tt, tt, tt, tt, tt, tt) }
