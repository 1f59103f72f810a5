use Rattle.std.proofs.Common.{rules, tests}
use Rattle.entity.specs.Logic.{no}
use Rattle.reginfo.specs.Table.{reg_info_of}
use Rattle.reginfo.specs.Refused.{reg_fits}
use Rattle.target_limits.proofs.Walks.{below-from_any}
use Rattle.target_limits.proofs.regs_unfit.Goals as goal

pub returns : goal.returns
returns c = below-from_any (λ r. no (reg_fits (reg_info_of c.args.t.now) r)) _ c.any.ensures.ran _ (cc) (λ x b q k. search (rules, tests))
