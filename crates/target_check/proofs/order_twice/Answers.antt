use Prim.Native.Nat.{ℕ, ◌<◌, ◌≤◌}
use mathlib.Core.Path.{◌≡◌, sym, ◌∙◌}
use mathlib.Core.Bool.{false}
use native.Mathlib.Omega.{arith}
use lib.ListN.{length}
use Rattle.reginfo.specs.RegInfo.{RegInfo, num_classes, allocation_order}
use Rattle.reginfo.specs.Table.{reg_info_of}
use Rattle.reginfo.specs.Refused.{outside_limits}
use Rattle.target_limits.proofs.Limits.{list-few, class-known, order-listed}
use Rattle.target_check.proofs.Order.{marked_start, marked-again, marked_all, marked_more, order-low}
use Rattle.target_check.proofs.order_twice.Goals as goal

few : (t : RegInfo) → outside_limits t ≡ false → (c : ℕ) → c < num_classes t → length (allocation_order t c) ≤ 512
few t h c k = list-few t (allocation_order t c) (order-listed t h c k)

pub order_len-n-requires : goal.order_len-n-requires
order_len-n-requires c = class-known (reg_info_of c.args.t.now) c.requires.0 c.args.c.0 c.requires.1

pub loop-p-init : goal.loop-p-init
loop-p-init c = marked_start (allocation_order (reg_info_of c.args.t.now) c.args.c.0)

pub order_at-requires : goal.order_at-requires
order_at-requires c = (
  class-known (reg_info_of c.args.t.now) c.requires.0 c.args.c.0 c.requires.1,
  omega arith,
  omega (arith, few (reg_info_of c.args.t.now) c.requires.0 c.args.c.0 c.requires.1),
)

pub bounds-seen-r : goal.bounds-seen-r
bounds-seen-r c = omega (arith, order-low (reg_info_of c.args.t.now) c.requires.0 c.args.c.0 c.requires.1 c.loop-p.p (omega arith))

pub returns-then-seen-r : goal.returns-then-seen-r
returns-then-seen-r c = sym (marked-again c.loop-p.invariant (omega arith) (rw (c.from-r.ensures ∙ c.order_at.ensures) at c.if-seen-r.true))

pub bounds-seen-r-in-loop-p : goal.bounds-seen-r-in-loop-p
bounds-seen-r-in-loop-p c = omega (arith, order-low (reg_info_of c.args.t.now) c.requires.0 c.args.c.0 c.requires.1 c.loop-p.p (omega arith))

pub loop-p-preserved : goal.loop-p-preserved
loop-p-preserved c = marked_more c.loop-p.invariant c.from-r.result (c.from-r.ensures ∙ c.order_at.ensures) (omega (arith, order-low (reg_info_of c.args.t.now) c.requires.0 c.args.c.0 c.requires.1 c.loop-p.p (omega arith))) c.if-seen-r.false

pub returns : goal.returns
returns c = sym (marked_all c.loop-p.invariant (omega arith))
