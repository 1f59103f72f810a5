-- `answer_patches` meets its contract, by the laws of crate answer.
use Prim.Native.Nat.{◌-◌}
use native.Mathlib.Omega.{arith}
use lib.ListN.{length}
use borrow.Author.Rules.{rules}
use mathlib.Core.Path.{ap, sym, ◌∙◌}
use Rattle.print.proofs.Putting.{same_length as put-length}
use Rattle.group_rules.specs.Groups.{resolve_by_groups}
use Rattle.answer.specs.Whole.{rest_in}
use Rattle.answer.proofs.Going.{Going, begun, room, refused-here, goes_on, left_over_lem, all_read}
use Rattle.answer_groups.proofs.answer_patches.Given as goal

abbrev pub invariant-loop-done : goal.invariant-loop-done
invariant-loop-done l = Going resolve_by_groups l.t l.f l.s (rest_in resolve_by_groups l.t l.f l.s l.from l.initial.cache l.count (length l.initial.words)) l.initial.words l.cache l.words l.at l.n (l.count - l._done)
