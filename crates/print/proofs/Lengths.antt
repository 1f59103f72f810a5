-- How long the text is.
use Prim.Native.Nat.{ℕ, ◌+◌, ◌*◌, ◌<◌, ◌≤◌}
use mathlib.Core.List.{List, [], ◌∷◌}
use mathlib.Core.Option.{Option, some, none}
use native.Mathlib.Omega.{arith}
use lib.ListN.{length, length-append}
use Rattle.entity.specs.Place.{Place, reg, slot, code_of}
use Rattle.rules.specs.Edit.{Edit, Move, Rematerialize, EmergencySpill, EmergencyReload}
use Rattle.edit.specs.Word.{edit_of, InRange}
use Rattle.edit.proofs.Laws.{Fits, in-range}
use Rattle.print.specs.Text.{decimal, place_text, newline, spaced, edit_line, edits_word, made_word, patch_line, refused_line}
use Rattle.print.specs.Words.{line_of, word_line, word_lines, words_text}
use Rattle.print.proofs.Decimal.{short}

-- 10 digits hold every number of a job
pub number_short : (x : ℕ) → x < 4294967296 → length (decimal x) ≤ 10
number_short x h = short x 9 (omega arith)

pub place_short : (p : Place) → code_of p < 16384 → length (place_text p) ≤ 5
unfolding place_text
place_short (reg r) h = omega (arith, short r 3 (omega arith))
place_short (slot s) h = omega (arith, short s 3 (omega arith))

pub edit-short : (e : Edit) → InRange e → length (edit_line e) ≤ 19
edit-short (Move to from v) s =
    rw (length-append (place_text to) (spaced (place_text from) (spaced (decimal v) newline)), length-append (place_text from) (spaced (decimal v) newline), length-append (decimal v) newline)
    (omega (arith, place_short to s.to-small, place_short from s.from-small, short v 3 (omega (arith, s.value-small))))
edit-short (Rematerialize to v) s =
    rw (length-append (place_text to) (spaced (decimal v) newline), length-append (decimal v) newline)
    (omega (arith, place_short to s.to-small, short v 3 (omega (arith, s.value-small))))
edit-short (EmergencySpill t r) s =
    rw (length-append (place_text (slot t)) (spaced (place_text (reg r)) newline), length-append (place_text (reg r)) newline)
    (omega (arith, place_short (slot t) s.to-small, place_short (reg r) s.from-small))
edit-short (EmergencyReload r t) s =
    rw (length-append (place_text (reg r)) (spaced (place_text (slot t)) newline), length-append (place_text (slot t)) newline)
    (omega (arith, place_short (reg r) s.to-small, place_short (slot t) s.from-small))

pub patch-line-short : (k count made : ℕ) → k < 4294967296 → count < 4294967296 → made < 4294967296 → length (patch_line k count made) ≤ 50
patch-line-short k count made a b c =
    let rest₂ : List ℕ = spaced made_word (spaced (decimal made) newline) in
    let rest₁ : List ℕ = spaced edits_word (spaced (decimal count) rest₂) in
    rw (length-append (decimal k) rest₁, length-append (decimal count) rest₂, length-append (decimal made) newline)
    (omega (arith, number_short k a, number_short count b, number_short made c))

pub refused-short : (number : ℕ) → number < 4294967296 → length (refused_line number) ≤ 19
refused-short number h = rw (length-append (decimal number) newline) (omega (arith, number_short number h))

-- ---- lines of any words
line-short : (o : Option Edit) → Fits o → length (line_of o) ≤ 19
line-short (some e) r = edit-short e r
line-short none r = omega arith

pub word-short : (w : ℕ) → length (word_line w) ≤ 19
word-short w = line-short (edit_of w) (in-range w)

pub word-lines-short : (l : List ℕ) → length (word_lines l) ≤ 19 * length l
unfolding word_lines
word-lines-short [] = omega arith
word-lines-short (w ∷ l) = rw (length-append (word_line w) (word_lines l)) (omega (arith, word-short w, word-lines-short l))

pub words-short : (k : ℕ) (l : List ℕ) (made : ℕ) → k < 4294967296 → length l < 4294967296 → made < 4294967296 → length (words_text k l made) ≤ 50 + 19 * length l
words-short k l made a b c = rw (length-append (patch_line k (length l) made) (word_lines l)) (omega (arith, patch-line-short k (length l) made a b c, word-lines-short l))
