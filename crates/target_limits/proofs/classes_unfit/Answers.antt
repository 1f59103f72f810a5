use Rattle.std.proofs.Common.{rules, tests}
use Rattle.entity.specs.Logic.{no}
use Rattle.reginfo.specs.Table.{reg_info_of}
use Rattle.reginfo.specs.Refused.{class_fits}
use Rattle.target_limits.proofs.Walks.{below-from_any}
use Rattle.target_limits.proofs.classes_unfit.Goals as goal

pub returns : goal.returns
returns c = below-from_any (λ k. no (class_fits (reg_info_of c.args.t.now) k)) _ c.any.ensures.ran _ (cc) (λ x b q k. search (rules, tests))
