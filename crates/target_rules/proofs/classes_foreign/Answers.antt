use Rattle.std.proofs.Common.{rules, tests}
use Rattle.std.proofs.iter.Serving.{serving}
use Rattle.reginfo.specs.Table.{reg_info_of}
use Rattle.target_limits.proofs.Limits.{classes-few, counts_of}
use Rattle.target_limits.proofs.Walks.{below-from_any}
use Rattle.target_rules.specs.Rules.{foreign_class}
use Rattle.target_rules.proofs.classes_foreign.Goals as goal

pub any-requires-clause-callable : goal.any-requires-clause-callable
any-requires-clause-callable c = grind (serving, classes-few (reg_info_of c.args.t.now) (counts_of (reg_info_of c.args.t.now) c.requires.0))

pub returns : goal.returns
returns c = below-from_any (foreign_class (reg_info_of c.args.t.now)) _ c.any.ensures.ran _ (cc) (λ x b q k. search (rules, tests))
