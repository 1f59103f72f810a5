-- Each line of an answer ends in its only newline; so of a line that is cut nothing is whole.
use Prim.Native.Nat.{ℕ, zero, suc, ◌+◌, ◌-◌, ◌/◌, ◌%◌, ◌<◌, ◌≤◌}
use mathlib.Core.Path.{◌≡◌, refl, ap, ◌∙◌}
use mathlib.Core.Bool.{Bool, true, false, false≢true}
use mathlib.Core.List.{List, [], ◌∷◌, ◌++◌, append_assoc, append-nil}
use mathlib.Core.Option.{Option, none, some}
use native.Mathlib.Omega.{arith}
use borrow.Author.Tests.{eq-eqb, ne_eqb}
use lib.Dec.{eqb}
use lib.ListN.{length, take}
use lib.Seq.{take-append-le, take-append-add}
use Rattle.entity.specs.Logic.{pick, no, all_in}
use Rattle.entity.specs.Place.{Place, reg, slot}
use Rattle.entity.proofs.Laws.{and-true}
use Rattle.rules.specs.Edit.{Edit, Move, Rematerialize, EmergencySpill, EmergencyReload}
use Rattle.edit.specs.Word.{edit_of}
use Rattle.print.specs.Text.{digits_of, decimal, place_text, patch_word, edits_word, made_word, refused_word, edit_line, patch_line, refused_line}
use Rattle.print.specs.Words.{line_of}
use Rattle.answer_text.specs.Heads.{is_head, count_in, made_in}
use Rattle.answer_text.specs.Lines.{answer_line, refusal_text, unless_cut, whole_lines, lines_within}

-- a newline at the end and nowhere else
pub data OneLine : List ℕ → Type 0 where
  end : OneLine (10 ∷ [])
  more : {b : ℕ} {l : List ℕ} → (b ≡ 10 → ⊥) → OneLine l → OneLine (b ∷ l)

-- a line, or nothing
pub data AtMostOne : List ℕ → Type 0 where
  nothing : AtMostOne []
  line : {l : List ℕ} → OneLine l → AtMostOne l

-- ---- the lines of an answer
digits-line : {l : List ℕ} (most x : ℕ) → OneLine l → OneLine (digits_of most x ++ l)
unfolding digits_of
digits-line zero x o = o
digits-line (suc most) zero o = o
digits-line {l} (suc most) (suc x) o =
    rw (append_assoc (digits_of most (suc x / 10)) ((48 + suc x % 10) ∷ []) l) (digits-line {l = (48 + suc x % 10) ∷ l} most (suc x / 10) (more (λ e. omega arith) o))

decimal-line : {l : List ℕ} (x : ℕ) → OneLine l → OneLine (decimal x ++ l)
unfolding decimal
decimal-line {l} x o = rw (append_assoc (digits_of x (x / 10)) ((48 + x % 10) ∷ []) l) (digits-line x (x / 10) (more (λ e. omega arith) o))

abbrev no_newline : List ℕ → Bool
no_newline d = all_in (λ b. no (eqb b 10)) d

other : (b : ℕ) → no (eqb b 10) ≡ true → b ≡ 10 → ⊥
other b h e = false≢true (rw (eq-eqb b 10 e) at h)

word_line : {l : List ℕ} (d : List ℕ) → no_newline d ≡ true → OneLine l → OneLine (d ++ l)
unfolding all_in
word_line [] h o = o
word_line (b ∷ d) h o = let a = and-true (no (eqb b 10)) (no_newline d) h in more (other b a.0) (word_line d a.1 o)

space : {l : List ℕ} → OneLine l → OneLine (32 ∷ l)
unfolding all_in
space o = word_line (32 ∷ []) refl o

place-line : {l : List ℕ} (p : Place) → OneLine l → OneLine (place_text p ++ l)
unfolding all_in place_text
place-line (reg r) o = word_line (114 ∷ []) refl (decimal-line r o)
place-line (slot s) o = word_line (115 ∷ []) refl (decimal-line s o)

edit-line : (e : Edit) → OneLine (edit_line e)
unfolding all_in
edit-line (Move to from v) = word_line (77 ∷ 32 ∷ []) refl (place-line to (space (place-line from (space (decimal-line v end)))))
edit-line (Rematerialize to v) = word_line (82 ∷ 32 ∷ []) refl (place-line to (space (decimal-line v end)))
edit-line (EmergencySpill s r) = word_line (83 ∷ 32 ∷ []) refl (place-line (slot s) (space (place-line (reg r) end)))
edit-line (EmergencyReload r s) = word_line (76 ∷ 32 ∷ []) refl (place-line (reg r) (space (place-line (slot s) end)))

patch-line : (k count made : ℕ) → OneLine (patch_line k count made)
unfolding all_in
patch-line k count made =
    word_line patch_word refl (space (decimal-line k (space (word_line edits_word refl
    (space (decimal-line count (space (word_line made_word refl (space (decimal-line made end))))))))))

refused-line : (number : ℕ) → OneLine (refused_line number)
unfolding all_in
refused-line number = word_line refused_word refl (space (decimal-line number end))

edit-or-none : (o : Option Edit) → AtMostOne (line_of o)
edit-or-none none = nothing
edit-or-none (some e) = line (edit-line e)

either : (b : Bool) (x y : List ℕ) → AtMostOne x → AtMostOne y → AtMostOne (pick b x y)
either true x y p q = p
either false x y p q = q

pub answer-line : (k w : ℕ) → AtMostOne (answer_line k w)
answer-line k w = either (is_head w) _ _ (line (patch-line k (count_in w) (made_in w))) (edit-or-none (edit_of w))

pub refusal-line : (number : ℕ) → AtMostOne (refusal_text number)
refusal-line zero = nothing
refusal-line (suc n) = line (refused-line (suc n))

-- ---- what is whole
kept : {l : List ℕ} (b : ℕ) → OneLine l → (t : List ℕ) → unless_cut b (t ++ l) ≡ b ∷ (t ++ l)
kept b end [] = refl
kept b (more d o) [] = refl
kept b o (c ∷ t) = refl

whole-line : {l : List ℕ} → OneLine l → whole_lines l ≡ l
unfolding whole_lines
whole-line end = refl
whole-line (more {b} d o) = rw (whole-line o) (kept b o [])

whole-behind : {l : List ℕ} (t : List ℕ) → OneLine l → whole_lines (t ++ l) ≡ t ++ l
unfolding whole_lines
whole-behind [] o = whole-line o
whole-behind (b ∷ t) o = rw (whole-behind t o) (kept b o t)

pub still-whole : {l : List ℕ} (t : List ℕ) → whole_lines t ≡ t → AtMostOne l → whole_lines (t ++ l) ≡ t ++ l
still-whole t w nothing = rw (append-nil t) w
still-whole t w (line o) = whole-behind t o

cut_line : {l : List ℕ} → OneLine l → (n : ℕ) → n < length l → whole_lines (take n l) ≡ []
unfolding whole_lines
cut_line o zero h = refl
cut_line end (suc n) h = absurd (omega arith)
cut_line (more {b} d o) (suc n) h = rw (cut_line o n (omega arith), ne_eqb b 10 d)

cut : {l : List ℕ} → AtMostOne l → (n : ℕ) → n < length l → whole_lines (take n l) ≡ []
cut nothing n h = absurd (omega arith)
cut (line o) n h = cut_line o n h

none-behind : (t p : List ℕ) → whole_lines p ≡ [] → whole_lines (t ++ p) ≡ whole_lines t
unfolding whole_lines
none-behind [] p h = h
none-behind (b ∷ t) p h = ap (unless_cut b) (none-behind t p h)

-- lines t have room, the next has not
pub front-lines : {l : List ℕ} (t : List ℕ) (room : ℕ) → whole_lines t ≡ t → AtMostOne l → length t ≤ room → room < length t + length l
    → lines_within room (t ++ l) ≡ t
front-lines {l} t room w o h q =
    let e : room ≡ length t + (room - length t) = omega arith in
    rw (e, take-append-add t l (room - length t)) (none-behind t (take (room - length t) l) (cut o (room - length t) (omega arith)) ∙ w)

pub front-only : (a b : List ℕ) (room : ℕ) → room ≤ length a → lines_within room (a ++ b) ≡ lines_within room a
front-only a b room h = ap whole_lines (take-append-le room a b h)
