use Prim.Native.Nat.{ℕ, ◌+◌, ◌*◌}
use mathlib.Core.Path.{◌≡◌, sym, ◌∙◌}
use mathlib.Core.Bool.{false}
use mathlib.Core.List.{List}
use native.Mathlib.Omega.{arith}
use Rattle.reginfo.specs.Table.{reg_info_of}
use Rattle.reginfo.specs.Refused.{outside_limits}
use Rattle.target_check.specs.Checked.{SameBelow}
use Rattle.target_check.proofs.Same.{same_target}
use Rattle.target_check.proofs.class_twice.Goals as goal

-- the index of a class's members stands above the target
still : (t u : List ℕ) → outside_limits (reg_info_of t) ≡ false → (c : ℕ) → SameBelow (74752 + c * 512) t u → reg_info_of u ≡ reg_info_of t
still t u h c s = same_target t u h (λ i l. s i (omega arith))

pub order_twice-requires : goal.order_twice-requires
order_twice-requires c = rw (still c.args.t.now c.index_members.new.t c.requires.0 c.args.c.0 c.index_members.ensures.1) c.requires

pub returns : goal.returns
returns c = (rw (sym c.index_members.ensures.0 ∙ c.if-index_members.false) (rw (still c.args.t.now c.index_members.new.t c.requires.0 c.args.c.0 c.index_members.ensures.1) at c.order_twice.ensures), c.index_members.ensures.1, λ e. c.index_members.ensures.2 c.if-index_members.false)
