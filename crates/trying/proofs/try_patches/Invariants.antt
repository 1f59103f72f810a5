-- `try_patches` meets its contract: patch by patch.
use Prim.Native.Nat.{◌-◌, ◌*◌}
use Rattle.reginfo.specs.Table.{reg_info_of}
use Rattle.function.specs.Table.{function_of}
use Rattle.slots.specs.Stacks.{cache_of}
use Rattle.trying.specs.Tried.{drawings}
use Rattle.trying.specs.Steps.{Ready}
use Rattle.trying.proofs.Trying.{Toward}
use Rattle.trying.proofs.try_patches.Given as goal

abbrev pub invariant-loop-done : goal.invariant-loop-done
invariant-loop-done l =
    Toward l.p (drawings (reg_info_of l.t) (function_of l.f) l.count l.initial.s (cache_of l.initial.cache)) (l.count * 9) l.initial.tally (drawings (reg_info_of l.t) (function_of l.f) (l.count - l._done) l.s (cache_of l.cache)) ((l.count - l._done) * 9) l.tally × Ready l.t l.f l.p l.cache l.numbers l.list
