-- `patches_from` meets its contract: too many words ask for no patch.
use mathlib.Core.Path.{refl}
use native.Mathlib.Omega.{arith}
use borrow.Author.Rules.{rules}
use Rattle.try_settings.proofs.patches_from.Goals as goal

pub returns-then-words-gt7 : goal.returns-then-words-gt7
returns-then-words-gt7 g c h = refl

pub returns : goal.returns
returns g c h = absurd (omega (arith, h, c.if-words-gt7.false))
