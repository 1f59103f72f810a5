use mathlib.Core.Path.{sym}
use native.Mathlib.Omega.{arith}
use borrow.Author.Rules.{rules}
use Rattle.reginfo.specs.Table.{reg_info_of}
use Rattle.target_limits.proofs.Limits.{reg_known}
use Rattle.target_limits.proofs.Walks.{any-cell, no-cell, cell-below}
use Rattle.target_rules.specs.Rules.{foreign_to}
use Rattle.target_rules.proofs.regs_foreign.Goals as goal

pub bank_for_reg-o-requires : goal.bank_for_reg-o-requires
bank_for_reg-o-requires c = reg_known (reg_info_of c.args.t.now) c.requires.0 _ (cell-below _ _ _ _ c.loop-i.i c.requires.2 (omega arith))

pub returns-then-ne : goal.returns-then-ne
returns-then-ne c = sym (any-cell (foreign_to (reg_info_of c.args.t.now) c.args.b.0) c.args.t.now c.args.at c.args.n c.loop-i.i (omega arith) (search rules))

pub returns : goal.returns
returns c = sym (no-cell (foreign_to (reg_info_of c.args.t.now) c.args.b.0) c.args.t.now c.args.at c.args.n (λ k h. c.loop-i.invariant k (omega arith)))
