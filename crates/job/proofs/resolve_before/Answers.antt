use lib.ListN.{length}
use Rattle.reginfo.specs.Table.{reg_info_of}
use Rattle.function.specs.Table.{function_of}
use Rattle.rules.specs.Patch.{resolve_sorted}
use Rattle.slots.specs.Stacks.{cache_of}
use Rattle.entries.specs.Table.{sorted_of}
use Rattle.job.proofs.Stepping.{call-refused, call-edits}
use borrow.Author.Rules.{rules}
use Rattle.job.proofs.resolve_before.Goals as goal

pub returns-in-Refused : goal.returns-in-Refused
returns-in-Refused c = let a = c.args in record { by_index = λ p q. call-refused a.f.now a.next a.list.now _ a.cache.now _ (resolve_sorted (reg_info_of a.t.now) (function_of a.f.now) p (length a.list.now) (cache_of a.cache.now) (sorted_of a.e.now)) _ (rw c.in-Refused.is at (c.resolve.ensures.resolves p q)); anything = search rules }

pub returns-in-Edits : goal.returns-in-Edits
returns-in-Edits c = let a = c.args in record { by_index = λ p q. call-edits a.f.now a.next a.list.now _ a.cache.now _ (resolve_sorted (reg_info_of a.t.now) (function_of a.f.now) p (length a.list.now) (cache_of a.cache.now) (sorted_of a.e.now)) _ _ (rw c.in-Edits.is at (c.resolve.ensures.resolves p q)); anything = search rules }
