-- 02 m: edits as words, and the whole examination.
use Rattle.std.specs.Prelude.{ℕ, ◌≤◌, ◌≡◌, true, ◌↔◌, eqb}
use mathlib.Core.List.{List, [], ◌∷◌, map, Memᴰ}
use Rattle.std.proofs.Math.Option.{Option, none, some}
use Rattle.entity.specs.Logic.{pick}
use Rattle.reginfo.specs.RegInfo.{RegInfo}
use Rattle.reginfo.specs.Refused as target
use Rattle.function.specs.Function.{Function}
use Rattle.function.specs.Refused as function
use Rattle.rules.specs.Edit.{Edit}
use Rattle.rules.specs.Patch.{Patch}
use Rattle.edit.specs.Word.{edit_of, word_of}
use Rattle.examine_rules.specs.Examine.{Verdict, Yes, No, Refused, Does, Fails, named, examine, patch_refusal}
use Rattle.examine_rules.specs.Examined.{AllNamed}

-- 24: "an entry that is no edit of 01's forms". A word is an edit only if it is that edit's word: no bit is dropped
-- A word with bits that an edit has not is none of ours, and reading would pass over them in silence.
unfoldable pub only_if : Option Edit → ℕ → Option Edit
only_if none w = none
only_if (some e) w = pick (eqb (word_of e) w) (some e) none

abbrev pub edit_in : ℕ → Option Edit
edit_in w = only_if (edit_of w) w

abbrev pub in_front_of : Option Edit → Option (List Edit) → Option (List Edit)
in_front_of none o = none
in_front_of (some e) none = none
in_front_of (some e) (some es) = some (e ∷ es)

-- the edits that the words are, if all are edits
unfoldable pub edits_in : List ℕ → Option (List Edit)
edits_in [] = some []
edits_in (w ∷ ws) = in_front_of (edit_in w) (edits_in ws)

module _ (t : RegInfo) (f : Function) where
  abbrev pub examine_edits : Patch → ℕ → Option (List Edit) → Verdict
  examine_edits p most none = Refused 24
  examine_edits p most (some es) = examine t f p most es

  unfoldable pub examine_words : Patch → ℕ → List ℕ → Verdict
  examine_words p most ws = examine_edits p most (edits_in ws)

  abbrev pub unless_refused : Option ℕ → Verdict → Verdict
  unless_refused (some n) r = Refused n
  unless_refused none r = r

  -- a patch that is not accepted gets its number, before 24
  unfoldable pub examine_patch : Patch → ℕ → List ℕ → Verdict
  examine_patch p most ws = unless_refused (patch_refusal t f p) (examine_words p most ws)

  -- the same of words: those of edits that name what there is, which do it from every start; or do not from some; or one is no such word
  pub record AnswersOfWords (p : Patch) (most : ℕ) (ws : List ℕ) : Type 0 where
    pub yes-if : (examine_patch p most ws ≡ Yes) ↔ ((es : List Edit) × (ws ≡ map word_of es) × AllNamed t f most es × Does t f p es)
    pub no-if : (examine_patch p most ws ≡ No) ↔ ((es : List Edit) × (ws ≡ map word_of es) × AllNamed t f most es × Fails t f p es)
    pub refused-if :
        (n : ℕ) → (examine_patch p most ws ≡ Refused n)
        ↔ ((n ≡ 24) × (w : ℕ) × Memᴰ w ws × ((e : Edit) → word_of e ≡ w → named t f most e ≡ true → ⊥))

-- L and a frame's limit are at most 2,048
abbrev pub WordsExamined : Type 0
WordsExamined =
    (t : RegInfo) (f : Function) → target.Accepted t → function.Accepted t f
    → (p : Patch) → patch_refusal t f p ≡ none → (most : ℕ) → most ≤ 2048 → (ws : List ℕ) → AnswersOfWords t f p most ws
