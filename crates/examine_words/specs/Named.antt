-- 02 m: a word that is an edit and names what there is.
use Rattle.std.specs.Prelude.{ℕ, Bool, false}
use Rattle.std.proofs.Math.Option.{Option, none, some}
use Rattle.reginfo.specs.RegInfo.{RegInfo}
use Rattle.function.specs.Function.{Function}
use Rattle.rules.specs.Edit.{Edit}
use Rattle.examine_rules.specs.Examine.{named}
use Rattle.examine_rules.specs.Words.{edit_in}

module _ (t : RegInfo) (f : Function) where
  abbrev pub named_if : ℕ → Option Edit → Bool
  named_if most none = false
  named_if most (some e) = named t f most e

  -- not 24
  unfoldable pub named_in : ℕ → ℕ → Bool
  named_in most w = named_if most (edit_in w)
