-- `scratch_trials::ready` meets its contract.
use native.Mathlib.Omega.{arith}
use mathlib.Core.Path.{◌≡◌, refl, sym, ◌∙◌}
use mathlib.Core.Bool.{true}
use mathlib.Core.Option.{none}
use Rattle.std.specs.Prelude.{Result, Ok, Err, ⊤, is_ok}
use Rattle.function.specs.declared.FunctionError.{FunctionError}
use Rattle.reginfo.proofs.Accepted.{classes-fit}
use Rattle.function.specs.Answers.{number_of}
use Rattle.scratch_trials.proofs.Laws.{never}
use Rattle.scratch_trials.proofs.ready.Goals as goal

pub returns-then-num_values-lt2 : goal.returns-then-num_values-lt2
returns-then-num_values-lt2 c = never

pub check-requires : goal.check-requires
check-requires c = (classes-fit _ c.requires).1

accepted : (r : Result ⊤ FunctionError) → is_ok r ≡ true → number_of r ≡ none
accepted (Ok x) e = refl
accepted (Err x) e = cc

pub returns : goal.returns
returns c = λ e. (sym c.check.ensures ∙ accepted _ (sym c.is_ok.ensures.value ∙ e), omega (arith, c.num_values.ensures, c.if-num_values-lt2.false))
