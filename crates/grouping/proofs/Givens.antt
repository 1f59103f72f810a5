-- A patch that is given as free units and numbers.
use Prim.Native.Nat.{ℕ}
use mathlib.Core.Path.{refl}
use mathlib.Core.Bool.{Bool}
use mathlib.Core.List.{List}
use Rattle.rules.specs.Patch.{Patch}
use Rattle.parallel_moves.specs.Given.{free_of, entries_of, Numbered}
use Rattle.parallel_moves.proofs.Running.{free-is}

abbrev pub given : List Bool → List ℕ → Patch
given free numbers = record { free = free_of free; entries = entries_of numbers }

pub is-given : (free : List Bool) (numbers : List ℕ) → Numbered free numbers (given free numbers)
is-given free numbers = record { free-is = free-is free; are = refl }
