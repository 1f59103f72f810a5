-- Stamps that rise from any start: each patch takes one step, and while fewer than 2^64 were taken no two of them are alike.
use Prim.Native.Nat.{ℕ, ◌+◌, ◌%◌, ◌<◌, ◌≤◌}
use mathlib.Core.Path.{◌≡◌}
use mathlib.Core.List.{List}
use native.Mathlib.Omega.{arith}
use Rattle.slots.specs.Stacks.{raised, stamp_after}
use Rattle.slots.specs.Steps.{Cleared, Fresh}

pub fresh-cleared : {before : List ℕ} (cache : List ℕ) → Cleared before cache → Fresh cache
unfolding raised
fresh-cleared cache c = record { empty = c.empty; fits = c.fits; stamp = omega (arith, c.stamp) }

pub stamp-first : (start : ℕ) → start < 18446744073709551616 → start ≡ stamp_after start 0
unfolding stamp_after
stamp-first start h = omega arith

pub stamp-next : (start count : ℕ) → raised (stamp_after start count) ≡ stamp_after start (count + 1)
unfolding raised stamp_after
stamp-next start count = let x = (start + count) % 18446744073709551616 in omega arith

pub stamp-told : (start m n : ℕ) → m ≤ n → n < 18446744073709551616 → stamp_after start m ≡ stamp_after start n → m ≡ n
unfolding stamp_after
stamp-told start m n low few e = omega arith
