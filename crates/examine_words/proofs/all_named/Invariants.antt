-- `all_named` meets its contract: whether all are from the start equals whether all are from here.
use Prim.Native.Nat.{◌≤◌}
use mathlib.Core.Path.{◌≡◌}
use lib.ListN.{length, drop}
use Rattle.entity.specs.Logic.{all_in}
use Rattle.reginfo.specs.Table.{reg_info_of}
use Rattle.function.specs.Table.{function_of}
use Rattle.examine_words.specs.Named.{named_in}
use Rattle.examine_words.proofs.all_named.Given as goal

abbrev pub invariant-loop-word : goal.invariant-loop-word
invariant-loop-word l = (all_in (named_in (reg_info_of l.t) (function_of l.f) l.most) l.list ≡ all_in (named_in (reg_info_of l.t) (function_of l.f) l.most) (drop l.word-index l.list)) × (l.word-index ≤ length l.list)
