-- 01, The job: the text that `resolve` prints, as bytes. One space stands between words, and a newline ends each line.
use Rattle.std.specs.Prelude.{ℕ, zero, suc, ◌+◌, ◌/◌, ◌%◌, List, [], ◌∷◌, ◌++◌, length}
use Rattle.entity.specs.Place.{Place, reg, slot}
use Rattle.rules.specs.Edit.{Edit, Move, Rematerialize, EmergencySpill, EmergencyReload}

-- the digits of x, at most `most` of them, the most significant first; 0 has none
unfoldable pub digits_of : ℕ → ℕ → List ℕ
digits_of zero x = []
digits_of (suc most) zero = []
digits_of (suc most) (suc x) = digits_of most (suc x / 10) ++ ((48 + suc x % 10) ∷ [])

-- 01: "Numbers are written in base ten."
unfoldable pub decimal : ℕ → List ℕ
decimal x = digits_of x (x / 10) ++ ((48 + x % 10) ∷ [])

-- r and the register's number, s and the slot's
unfoldable pub place_text : Place → List ℕ
place_text (reg r) = 114 ∷ decimal r
place_text (slot s) = 115 ∷ decimal s

abbrev pub newline : List ℕ
newline = 10 ∷ []

-- a space, a word and what follows
abbrev pub spaced : List ℕ → List ℕ → List ℕ
spaced word rest = 32 ∷ (word ++ rest)

-- 01: "M is to, from, value; R to, value; S slot, register; L register, slot."
abbrev pub edit_line : Edit → List ℕ
edit_line (Move to from v) = 77 ∷ spaced (place_text to) (spaced (place_text from) (spaced (decimal v) newline))
edit_line (Rematerialize to v) = 82 ∷ spaced (place_text to) (spaced (decimal v) newline)
edit_line (EmergencySpill s r) = 83 ∷ spaced (place_text (slot s)) (spaced (place_text (reg r)) newline)
edit_line (EmergencyReload r s) = 76 ∷ spaced (place_text (reg r)) (spaced (place_text (slot s)) newline)

-- the words patch, edits, made and refused
abbrev pub patch_word : List ℕ
patch_word = 112 ∷ 97 ∷ 116 ∷ 99 ∷ 104 ∷ []

abbrev pub edits_word : List ℕ
edits_word = 101 ∷ 100 ∷ 105 ∷ 116 ∷ 115 ∷ []

abbrev pub made_word : List ℕ
made_word = 109 ∷ 97 ∷ 100 ∷ 101 ∷ []

abbrev pub refused_word : List ℕ
refused_word = 114 ∷ 101 ∷ 102 ∷ 117 ∷ 115 ∷ 101 ∷ 100 ∷ []

-- which patch, how many edits, and 01: "made" counts the function's slots so far
abbrev pub patch_line : ℕ → ℕ → ℕ → List ℕ
patch_line k count made = patch_word ++ spaced (decimal k) (spaced edits_word (spaced (decimal count) (spaced made_word (spaced (decimal made) newline))))

unfoldable pub edit_lines : List Edit → List ℕ
edit_lines [] = []
edit_lines (e ∷ es) = edit_line e ++ edit_lines es

abbrev pub patch_text : ℕ → List Edit → ℕ → List ℕ
patch_text k es made = patch_line k (length es) made ++ edit_lines es

-- 01: "After a refusal the last line is `refused` and the number."
abbrev pub refused_line : ℕ → List ℕ
refused_line number = refused_word ++ spaced (decimal number) newline
