-- `names_both` meets its contract: the two tests.
use native.Mathlib.Omega.{arith}
use Rattle.examine_words.proofs.Laws.{slots-fit}
use Rattle.examine_words.proofs.names_both.Goals as goal

pub overflow_add-num_slots : goal.overflow_add-num_slots
overflow_add-num_slots c = let s = c in omega (arith, c.num_slots.ensures, slots-fit s.args.t.now s.args.f.now s.requires.0 s.args.most s.requires.1)
