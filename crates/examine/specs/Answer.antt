-- What the enum of the code stands for.
use Rattle.examine_rules.specs.Examine as rule
use Rattle.examine_rules.specs.Examine.{Verdict}
use Rattle.examine.specs.declared.Examined.{Examined}
use Rattle.examine.specs.declared.Examined.TheVariants.{Yes, No, Refused}

abbrev pub verdict_of : Examined → Verdict
verdict_of Yes = rule.Yes
verdict_of No = rule.No
verdict_of (Refused n) = rule.Refused n
