-- `try_patch` meets its contract: at most nine drawings.
use Prim.Native.Nat.{◌-◌}
use Rattle.reginfo.specs.Table.{reg_info_of}
use Rattle.function.specs.Table.{function_of}
use Rattle.slots.specs.Stacks.{cache_of}
use Rattle.trying.specs.Tried.{tries}
use Rattle.trying.specs.Steps.{Ready}
use Rattle.trying.proofs.Trying.{Toward}
use Rattle.trying.proofs.try_patch.Given as goal

abbrev pub invariant-loop-done : goal.invariant-loop-done
invariant-loop-done l =
    Toward l.p (tries (reg_info_of l.t) (function_of l.f) 9 l.initial.s (cache_of l.initial.cache)) 9 l.initial.tally (tries (reg_info_of l.t) (function_of l.f) (9 - l._done) l.s (cache_of l.cache)) (9 - l._done) l.tally × Ready l.t l.f l.p l.cache l.numbers l.list
