-- 01, The job: what is printed of a job, from the words of its answer.
use Rattle.std.specs.Prelude.{ℕ, zero, suc, ◌+◌, ◌<◌, ◌≤◌, ◌≡◌, List, [], ◌∷◌, ◌++◌, eqb, length, take, drop}
use Rattle.entity.specs.Logic.{pick}
use Rattle.rules.specs.Edit.{Edit}
use Rattle.edit.specs.Word.{AllInRange}
use Rattle.print.specs.Text.{newline, patch_line, patch_text, refused_line}
use Rattle.print.specs.Words.{word_line}
use Rattle.answer_text.specs.Heads.{is_head, count_in, made_in, patch_words}

-- a head is patch k's line, any other word its edit's
abbrev pub answer_line : ℕ → ℕ → List ℕ
answer_line k w = pick (is_head w) (patch_line k (count_in w) (made_in w)) (word_line w)

-- the patches are numbered from k on
unfoldable pub answer_lines : ℕ → List ℕ → List ℕ
answer_lines k [] = []
answer_lines k (w ∷ l) = answer_line k w ++ answer_lines (pick (is_head w) (k + 1) k) l

-- 0 stands for no refusal
abbrev pub refusal_text : ℕ → List ℕ
refusal_text zero = []
refusal_text (suc n) = refused_line (suc n)

abbrev pub answer_text : List ℕ → ℕ → List ℕ
answer_text words refusal = answer_lines 1 words ++ refusal_text refusal

-- the lines of a patch's words are its text
abbrev pub PatchPrinted : Type 0
PatchPrinted =
    (k : ℕ) (es : List Edit) (made position : ℕ) (rest : List ℕ) → AllInRange es → length es < 65536 → made < 65536
    → answer_lines k (patch_words es made position ++ rest) ≡ patch_text k es made ++ answer_lines (k + 1) rest

-- a byte in front of what stays behind it: where that is nothing, only a newline stays
abbrev pub unless_cut : ℕ → List ℕ → List ℕ
unless_cut b [] = pick (eqb b 10) newline []
unless_cut b (c ∷ l) = b ∷ c ∷ l

-- the whole lines at the front: what stands behind the last newline is left out
unfoldable pub whole_lines : List ℕ → List ℕ
whole_lines [] = []
whole_lines (b ∷ l) = unless_cut b (whole_lines l)

-- the lines of a text that have room, one after the other from the first
abbrev pub lines_within : ℕ → List ℕ → List ℕ
lines_within room text = whole_lines (take room text)

-- lent bytes with a text at their front, the others as they were
abbrev pub fronted_by : List ℕ → List ℕ → List ℕ
fronted_by text out = text ++ drop (length text) out

-- a text that fits stands at the front of the lent bytes, and its length is answered; of one that does not, the lines that have room stand
-- there, and 0 is answered
pub record Printed (out out' text : List ℕ) (r : ℕ) : Type 0 where
  pub fits : length text ≤ length out → (r ≡ length text) × (out' ≡ fronted_by text out)
  pub short : length out < length text → (r ≡ 0) × (out' ≡ fronted_by (lines_within (length out) text) out)
