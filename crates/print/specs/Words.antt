-- The text of edits that are given as words.
use Rattle.std.specs.Prelude.{ℕ, ◌≡◌, List, [], ◌∷◌, ◌++◌, map, length}
use Rattle.std.proofs.Math.Option.{Option, none, some}
use Rattle.rules.specs.Edit.{Edit}
use Rattle.edit.specs.Word.{word_of, edit_of, AllInRange}
use Rattle.print.specs.Text.{edit_line, patch_line}

-- a word that is no edit prints nothing
abbrev pub line_of : Option Edit → List ℕ
line_of (some e) = edit_line e
line_of none = []

abbrev pub word_line : ℕ → List ℕ
word_line w = line_of (edit_of w)

unfoldable pub word_lines : List ℕ → List ℕ
word_lines [] = []
word_lines (w ∷ l) = word_line w ++ word_lines l

abbrev pub words_text : ℕ → List ℕ → ℕ → List ℕ
words_text k l made = patch_line k (length l) made ++ word_lines l

-- the words are those of the edits
pub record Words (l : List ℕ) (es : List Edit) : Type 0 where
  pub are : l ≡ map word_of es
  pub in-range : AllInRange es
