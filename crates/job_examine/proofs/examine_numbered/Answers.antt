-- `examine_numbered` meets its contract: read, then examined.
use mathlib.Core.Path.{◌∙◌}
use lib.ListN.{drop}
use Rattle.reginfo.specs.Table.{reg_info_of}
use Rattle.function.specs.Table.{function_of}
use Rattle.job_examine.specs.Job.{patch_at}
use Rattle.job_examine.proofs.Laws.{read-refused, read-got, taken_at, at_none, at_some}
use Rattle.job_examine.proofs.examine_numbered.Goals as goal

pub returns-then-count-n : goal.returns-then-count-n
returns-then-count-n c = let s = c in record { result_value = at_none (reg_info_of s.args.t.now) (function_of s.args.f.now) s.args.count s.args.n s.args.most s.args.list.now (drop s.args.at s.args.s.now) c.if-count-n.true; anything = (tt, tt, tt, tt, tt, tt, tt, tt) }

pub returns-in-Refused : goal.returns-in-Refused
returns-in-Refused c = let s = c in record { result_value = at_some (reg_info_of s.args.t.now) (function_of s.args.f.now) s.args.count s.args.n s.args.most s.args.list.now (drop s.args.at s.args.s.now) _ c.if-count-n.false (read-refused s.args.t.now s.args.f.now s.args.s.now _ _ _ (patch_at (reg_info_of s.args.t.now) (function_of s.args.f.now) s.args.n (drop s.args.at s.args.s.now)) _ _ c.read_numbered.ensures c.in-Refused.is); anything = (tt, tt, tt, tt, tt, tt, tt, tt) }

pub returns-in-At : goal.returns-in-At
returns-in-At c = let s = c in let g = read-got s.args.t.now s.args.f.now s.args.s.now _ _ _ (patch_at (reg_info_of s.args.t.now) (function_of s.args.f.now) s.args.n (drop s.args.at s.args.s.now)) _ _ c.read_numbered.ensures c.in-At.is in record { result_value = c.examine_patch.ensures.0 g.p g.holds.free-is g.holds.is (taken_at (reg_info_of s.args.t.now) (function_of s.args.f.now) s.args.n (drop s.args.at s.args.s.now) g.rest g.p g.is) ∙ at_some (reg_info_of s.args.t.now) (function_of s.args.f.now) s.args.count s.args.n s.args.most s.args.list.now (drop s.args.at s.args.s.now) _ c.if-count-n.false g.is; anything = (tt, tt, tt, tt, tt, tt, tt, tt) }
