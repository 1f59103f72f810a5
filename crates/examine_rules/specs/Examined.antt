-- 02 m: that the answer is the one that is asked for.
use Rattle.std.specs.Prelude.{ℕ, ◌≡◌, true, false, ◌↔◌}
use mathlib.Core.List.{List, Memᴰ}
use Rattle.std.proofs.Math.Option.{none}
use Rattle.reginfo.specs.RegInfo.{RegInfo}
use Rattle.reginfo.specs.Refused as target
use Rattle.function.specs.Function.{Function}
use Rattle.function.specs.Refused as function
use Rattle.rules.specs.Edit.{Edit}
use Rattle.rules.specs.Patch.{Patch}
use Rattle.examine_rules.specs.Examine.{Yes, No, Refused, Does, Fails, named, examine, patch_refusal}

module _ (t : RegInfo) (f : Function) where
  -- every place and value is one of the target's or the function's, or one of the slots below N + most
  abbrev pub AllNamed : ℕ → List Edit → Type 0
  AllNamed most es = (e : Edit) → Memᴰ e es → named t f most e ≡ true

  -- "say yes exactly when, from every start [..] the machine can do every edit and ends [..]. With no such start the answer is yes."; no exactly where
  -- some start fails; 24 exactly where an edit names something else, "tested before the yes or no"
  pub record AnswersOf (p : Patch) (most : ℕ) (es : List Edit) : Type 0 where
    pub yes-if : (examine t f p most es ≡ Yes) ↔ (AllNamed most es × Does t f p es)
    pub no-if : (examine t f p most es ≡ No) ↔ (AllNamed most es × Fails t f p es)
    pub refused-if : (n : ℕ) → (examine t f p most es ≡ Refused n) ↔ ((n ≡ 24) × (e : Edit) × Memᴰ e es × (named t f most e ≡ false))

-- "Given an accepted patch and an edit list"
abbrev pub Examined : Type 0
Examined =
    (t : RegInfo) (f : Function) → target.Accepted t → function.Accepted t f
    → (p : Patch) → patch_refusal t f p ≡ none → (most : ℕ) (es : List Edit) → AnswersOf t f p most es
