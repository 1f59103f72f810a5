-- A limit on slots that is never met changes nothing else of a function; and what is made and owed is counted alike by the rules and the tables.
use Prim.Native.Nat.{ℕ, ◌+◌}
use mathlib.Core.Path.{◌≡◌, refl}
use mathlib.Core.List.{List}
use native.Mathlib.Omega.{arith}
use lib.ListN.{length}
use Rattle.reginfo.specs.RegInfo.{RegInfo}
use Rattle.function.specs.Function.{value_bank, remat_class, remat_cost}
use Rattle.function.specs.Known.{Checked}
use Rattle.function.specs.Table.{function_of}
use Rattle.machine.proofs.Bound.{Placed, placed}
use Rattle.machine.specs.Paid as machine
use Rattle.edit.specs.Buffer.{count_of}
use Rattle.edit.proofs.Laws.{length-edits}
use Rattle.scratch.specs.declared.Evicted.{Evicted}
use Rattle.scratch.specs.declared.Evicted.TheVariants.{Nothing, One, Two}
use Rattle.scratch.specs.declared.ScratchAllocator.{ScratchAllocator}
use Rattle.scratch.specs.State.{T, F, evicted_in, evicted_of, owed}
use Rattle.scratch.specs.Promises.{Tables, state_of}

pub same-bank : (f : List ℕ) (v : ℕ) → value_bank (F f) v ≡ value_bank (function_of f) v
unfolding value_bank
same-bank f v = refl

pub same_class : (f : List ℕ) (v : ℕ) → remat_class (F f) v ≡ remat_class (function_of f) v
unfolding remat_class
same_class f v = refl

pub all_placed : (t f : List ℕ) → Checked t f → Placed (T t) (F f)
unfolding value_bank remat_class remat_cost
all_placed t f known = let p = placed (T t) (function_of f) known.function in record { bank = p.bank; class = p.class }

pub length-evicted : (t : RegInfo) (v : Evicted) → length (evicted_of t v) ≡ owed v
length-evicted t Nothing = refl
length-evicted t (One e) = refl
length-evicted t (Two e o) = refl

pub owed-is : (t f cache : List ℕ) (k : ScratchAllocator) (w : Tables) → machine.owed (state_of t f cache k w) ≡ count_of w.edits + owed (evicted_in k)
owed-is t f cache k w = omega (arith, length-edits w.edits, length-evicted (T t) (evicted_in k))
