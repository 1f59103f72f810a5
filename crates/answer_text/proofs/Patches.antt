-- The lines of a patch's words are its text.
use Prim.Native.Nat.{ℕ, ◌+◌, ◌*◌, ◌/◌, ◌<◌}
use mathlib.Core.Path.{◌≡◌, refl, sym}
use mathlib.Core.Bool.{true, false}
use mathlib.Core.List.{List, [], ◌∷◌, ◌++◌, map, append_assoc}
use native.Mathlib.Omega.{arith}
use lib.ListN.{length}
use borrow.Author.Tests.{eq-eqb, ne_eqb}
use Rattle.entity.specs.Place.{reg, slot, code_of}
use Rattle.rules.specs.Edit.{Edit, Move, Rematerialize, EmergencySpill, EmergencyReload}
use Rattle.edit.specs.Word.{packed, kind_in, word_of, AllInRange}
use Rattle.print.specs.Text.{edit_lines, patch_line}
use Rattle.print.proofs.Printing.{line-there}
use Rattle.answer_text.specs.Heads.{head_word, is_head, count_in, made_in, position_in, HeadRead}
use Rattle.answer_text.specs.Lines.{answer_lines, PatchPrinted}

-- ---- a head reads back
pub is-head : (count made position : ℕ) → is_head (head_word count made position) ≡ true
is-head count made position = eq-eqb (kind_in (head_word count made position)) 0 (omega arith)

pub count-there : (count made position : ℕ) → count < 65536 → count_in (head_word count made position) ≡ count
count-there count made position h = let q : head_word count made position / 8 ≡ (position * 65536 + made) * 65536 + count = omega arith in rw q (omega arith)

pub made-there : (count made position : ℕ) → count < 65536 → made < 65536 → made_in (head_word count made position) ≡ made
made-there count made position h m = let q : head_word count made position / 524288 ≡ position * 65536 + made = omega arith in rw q (omega arith)

position-there : (count made position : ℕ) → count < 65536 → made < 65536 → position < 65536 → position_in (head_word count made position) ≡ position
position-there count made position h m p = let q : head_word count made position / 34359738368 ≡ position = omega arith in rw q (omega arith)

pub head_read : HeadRead
head_read count made position h m p = (count-there count made position h, made-there count made position h m, position-there count made position h m p)

-- ---- an edit's word is no head
other-kind : (kind to from v : ℕ) → 0 < kind → kind < 8 → is_head (packed kind to from v) ≡ false
other-kind kind to from v l h = ne_eqb (kind_in (packed kind to from v)) 0 (λ e. omega arith)

pub no-head : (e : Edit) → is_head (word_of e) ≡ false
no-head (Move to from v) = other-kind 1 (code_of to) (code_of from) v (omega arith) (omega arith)
no-head (Rematerialize to v) = other-kind 2 (code_of to) 0 v (omega arith) (omega arith)
no-head (EmergencySpill s r) = other-kind 3 (code_of (slot s)) (code_of (reg r)) 0 (omega arith) (omega arith)
no-head (EmergencyReload r s) = other-kind 4 (code_of (reg r)) (code_of (slot s)) 0 (omega arith) (omega arith)

edits-printed : (k : ℕ) (es : List Edit) (rest : List ℕ) → AllInRange es
    → answer_lines k (map word_of es ++ rest) ≡ edit_lines es ++ answer_lines k rest
unfolding answer_lines edit_lines
edits-printed k [] rest r = refl
edits-printed k (e ∷ es) rest r = rw (no-head e, line-there e r.0, edits-printed k es rest r.1, append_assoc)

pub patch-printed : PatchPrinted
unfolding answer_lines
patch-printed k es made position rest r few low =
    let n = length es in
    rw (is-head n made position, count-there n made position few, made-there n made position few low, edits-printed (k + 1) es rest r)
    (sym (append_assoc (patch_line k n made) (edit_lines es) (answer_lines (k + 1) rest)))
