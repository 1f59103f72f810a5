use Prim.Native.Nat.{◌+◌, ◌*◌, ◌-◌, ◌≤◌}
use native.Mathlib.Omega.{arith}
use mathlib.Core.Path.{◌≡◌, refl}
use borrow.Author.Rules.{rules}
use lib.ListN.{length, drop, get_or}
use Rattle.price.specs.Price.{total_of}
use Rattle.price.proofs.Laws.{price-small, one_more, none_left}
use Rattle.price.proofs.total.Given as goal

abbrev pub invariant-loop-i : goal.invariant-loop-i
invariant-loop-i l = (l.sum + total_of l.p (drop l.i l.list) ≡ l.initial.sum + total_of l.p (drop l.initial.i l.list)) × (l.sum ≤ 65535 * l.i) × (l.i ≤ length l.list)
