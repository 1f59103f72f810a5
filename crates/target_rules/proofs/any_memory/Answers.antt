use mathlib.Core.Path.{sym}
use native.Mathlib.Omega.{arith}
use Rattle.reginfo.specs.RegInfo.{is_memory_reg}
use Rattle.reginfo.specs.Table.{reg_info_of}
use Rattle.target_limits.proofs.Limits.{reg_known}
use Rattle.target_limits.proofs.Walks.{any-cell, no-cell, cell-below}
use Rattle.target_rules.proofs.any_memory.Goals as goal

pub is_memory_reg-requires : goal.is_memory_reg-requires
is_memory_reg-requires c = reg_known (reg_info_of c.args.t.now) c.requires.0 _ (cell-below _ _ _ _ c.loop-i.i c.requires.2 (omega arith))

pub returns-then-is_memory_reg : goal.returns-then-is_memory_reg
returns-then-is_memory_reg c = sym (any-cell (λ r. is_memory_reg (reg_info_of c.args.t.now) r) c.args.t.now c.args.at c.args.n c.loop-i.i (omega arith) (cc))

pub returns : goal.returns
returns c = sym (no-cell (λ r. is_memory_reg (reg_info_of c.args.t.now) r) c.args.t.now c.args.at c.args.n (λ k h. c.loop-i.invariant k (omega arith)))
