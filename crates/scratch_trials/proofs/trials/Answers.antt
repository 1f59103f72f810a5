-- `scratch_trials::trials` meets its contract.
use Prim.Native.Nat.{ℕ}
use mathlib.Core.Path.{sym, ap, ◌∙◌}
use mathlib.Core.Option.{Option}
use Rattle.reginfo.specs.Refused.{target_refusal}
use Rattle.scratch_trials.specs.Cells.{with_cells, remat_value, after_trials}
use Rattle.scratch_trials.proofs.Laws.{refused-stays, not-refused}
use Rattle.scratch_trials.proofs.trials.Goals as goal

pub returns-then-is_err : goal.returns-then-is_err
returns-then-is_err c =
    let said = c.check.ensures in
    (said.target, refused-stays c.check.result _ (sym c.is_err.ensures.value ∙ c.if-is_err.true) ∙ ap (λ (o : Option ℕ). after_trials o c.args.f.now) said.number)

pub move_trials-requires : goal.move_trials-requires
move_trials-requires c =
    let said = c.check.ensures in
    let told = not-refused c.check.result (sym c.is_err.ensures.value ∙ c.if-is_err.false) said.index in
    (ap target_refusal said.target ∙ sym said.number ∙ sym told.0, told.1)

pub remat_trial-requires : goal.remat_trial-requires
remat_trial-requires c =
    let said = c.check.ensures in
    let told = not-refused c.check.result (sym c.is_err.ensures.value ∙ c.if-is_err.false) said.index in
    (ap target_refusal said.target ∙ sym said.number ∙ sym told.0, told.1)

pub returns : goal.returns
returns c =
    let said = c.check.ensures in
    let told = not-refused c.check.result (sym c.is_err.ensures.value ∙ c.if-is_err.false) said.index in
    (said.target, c.remat_trial.ensures ∙ ap (with_cells remat_value) c.move_trials.ensures ∙ ap (λ (o : Option ℕ). after_trials o c.args.f.now) (told.0 ∙ said.number))
