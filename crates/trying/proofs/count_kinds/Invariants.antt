-- `count_kinds` meets its contract: word by word.
use Rattle.trying.proofs.Tally.{KindsTo}
use Rattle.trying.proofs.count_kinds.Given as goal

abbrev pub invariant-loop-word : goal.invariant-loop-word
invariant-loop-word l = KindsTo l.list l.initial.tally l.tally l.word-index
