use Rattle.std.proofs.Common.{rules, tests}
use Rattle.std.proofs.iter.Serving.{serving}
use Rattle.entity.specs.Logic.{twice}
use Rattle.reginfo.specs.RegInfo.{reg_units}
use Rattle.reginfo.specs.Table.{reg_info_of}
use Rattle.target_limits.proofs.Limits.{counts_of, regs-few}
use Rattle.target_limits.proofs.Walks.{below-from_any}
use Rattle.target_check.proofs.regs_twice.Goals as goal

pub any-requires-clause-callable : goal.any-requires-clause-callable
any-requires-clause-callable c = grind (serving, regs-few (reg_info_of c.args.t.now) (counts_of (reg_info_of c.args.t.now) c.requires))

pub returns : goal.returns
returns c = below-from_any (λ r. twice (reg_units (reg_info_of c.args.t.now) r)) _ c.any.ensures.ran _ (cc) (λ x b q k. search (rules, tests))
