use borrow.Author.Rules.{rules}
use Rattle.parallel_moves.proofs.resolve.Goals as goal

pub resolve_available-requires : goal.resolve_available-requires
resolve_available-requires c = (search rules, search rules, search rules)

pub returns : goal.returns
returns c = record { resolves = rw (← c.copy_from.ensures) c.resolve_available.ensures.resolves; anything = search rules }
