-- What the answer and the number written beside it say.
use Rattle.std.specs.Prelude.{ℕ, ◌≡◌}
use Rattle.examine_rules.specs.Examine.{Verdict, Yes, No, Refused}

abbrev pub ToldAs : Verdict → (answer number : ℕ) → Type 0
ToldAs Yes n k = (n ≡ 1) × (k ≡ 0)
ToldAs No n k = (n ≡ 0) × (k ≡ 0)
ToldAs (Refused j) n k = (n ≡ 2) × (k ≡ j)
