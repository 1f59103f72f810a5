-- 01's text of swap-full, and the lines of edits that are given as words.
use Prim.Native.Nat.{ℕ, suc, ◌+◌, ◌<◌, ◌≤◌}
use mathlib.Core.Path.{◌≡◌, refl, sym, ap, subst, ◌∙◌}
use mathlib.Core.List.{List, [], ◌∷◌, ◌++◌, map, append_assoc, append-nil}
use native.Mathlib.Omega.{arith}
use native.Mathlib.Numerals.{add-one}
use lib.ListN.{length, take, drop, get_or, length-append, length-map}
use lib.Seq.{take_at, take-suc, split_at, take-take, get_or-take, length-take-le}
use Rattle.rules.specs.Edit.{Edit}
use Rattle.edit.specs.Word.{word_of, InRange, AllInRange}
use Rattle.edit.proofs.Laws.{there}
use Rattle.print.specs.Text.{decimal, digits_of, place_text, edit_line, edit_lines, patch_line, patch_text}
use Rattle.print.specs.Words.{line_of, word_line, word_lines, words_text, Words}
use Rattle.print.specs.Put.{Room, Put}
use Rattle.print.specs.Trials.{Trials}
use Rattle.print.proofs.Putting.{nothing_put, front-room, next-room, then-put}

pub trials : Trials
unfolding decimal digits_of place_text edit_lines
trials = record { swap-full = refl; rebuild = refl; save = refl; reload = refl; refusal = refl; largest = refl }

-- ---- words
-- the line of an edit's word is that edit's
pub line-there : (e : Edit) → InRange e → word_line (word_of e) ≡ edit_line e
line-there e r = ap line_of (there e r)

lines-there : (es : List Edit) → AllInRange es → word_lines (map word_of es) ≡ edit_lines es
unfolding word_lines edit_lines
lines-there [] r = refl
lines-there (e ∷ es) r = rw (line-there e r.0, lines-there es r.1)

pub text-there : (k : ℕ) (l : List ℕ) (es : List Edit) (made : ℕ) → Words l es → words_text k l made ≡ patch_text k es made
text-there k l es made w = rw (w.are, lines-there es w.in-range, length-map es word_of)

-- the words at the front of a list
pub front-words : (l rest : List ℕ) (es : List Edit) → AllInRange es → l ≡ map word_of es ++ rest → Words (take (length es) l) es
front-words l rest es r e = record { are = rw e (take_at (map word_of es) rest (length es) (length-map es word_of)); in-range = r }

pub front_fits : (l rest : List ℕ) (es : List Edit) → l ≡ map word_of es ++ rest → length es ≤ length l
front_fits l rest es e = rw (e, length-append (map word_of es) rest, length-map es word_of) (omega arith)

-- ---- word by word
lines-append : (l m : List ℕ) → word_lines (l ++ m) ≡ word_lines l ++ word_lines m
unfolding word_lines
lines-append [] m = refl
lines-append (w ∷ l) m = rw (lines-append l m) (sym (append_assoc (word_line w) (word_lines l) (word_lines m)))

one_line : (w : ℕ) → word_lines (w ∷ []) ≡ word_line w
unfolding word_lines
one_line w = append-nil (word_line w)

lines-front : (w : ℕ) (l : List ℕ) → word_lines (w ∷ l) ≡ word_line w ++ word_lines l
unfolding word_lines
lines-front w l = refl

-- the lines of the first i words stand there
pub record Listing (out₀ l : List ℕ) (n count : ℕ) (out : List ℕ) (at i : ℕ) : Type 0 where
  pub put : Put out₀ out n (word_lines (take i l)) at
  pub within : i ≤ count

module _ (out₀ l : List ℕ) (n count : ℕ) (long : count ≤ length l) (h : Room out₀ n (word_lines (take count l))) where
  pub none-listed : Listing out₀ l n count out₀ n 0
  unfolding word_lines
  none-listed = record { put = nothing_put record { fits = omega (arith, h.fits) }; within = omega arith }

  module _ (out : List ℕ) (at i : ℕ) (s : Listing out₀ l n count out at i) where
    pub line-room : i < count → Room out at (word_line (get_or l i 0))
    line-room m =
        let all : List ℕ = take count l in
        let parts : all ≡ take i all ++ (get_or all i 0 ∷ drop (suc i) all) = split_at all i 0 (rw (length-take-le count l long) m) in
        let lines : word_lines all ≡ word_lines (take i l) ++ (word_line (get_or l i 0) ++ word_lines (drop (suc i) all)) =
        ap word_lines parts ∙ lines-append (take i all) (get_or all i 0 ∷ drop (suc i) all)
        ∙ rw (lines-front (get_or all i 0) (drop (suc i) all), take-take i count l s.within, get_or-take count l i 0 m) in
        front-room (word_lines (drop (suc i) all)) (next-room s.put (subst (λ (t : List ℕ). Room out₀ n t) lines h))

    pub one-listed : (out' : List ℕ) (r : ℕ) → i < count → Put out out' at (word_line (get_or l i 0)) r → Listing out₀ l n count out' r (i + 1)
    one-listed out' r m p =
        let lines : word_lines (take (i + 1) l) ≡ word_lines (take i l) ++ word_line (get_or l i 0) =
        rw (add-one i, take-suc l i 0 (omega (arith, long)), lines-append (take i l) (get_or l i 0 ∷ []), one_line (get_or l i 0)) in
        record { put = rw lines (then-put s.put p); within = omega arith }

    pub all_listed : count ≤ i → Put out₀ out n (word_lines (take count l)) at
    all_listed m = let e : i ≡ count = omega (arith, s.within) in rw e at s.put

-- ---- the patch's line, then those of its words
module _ (out l : List ℕ) (n k count made : ℕ) (long : count ≤ length l) where
  counted : words_text k (take count l) made ≡ patch_line k count made ++ word_lines (take count l)
  counted = rw (length-take-le count l long)

  both-room : Room out n (words_text k (take count l) made) → Room out n (patch_line k count made ++ word_lines (take count l))
  both-room h = subst (λ (t : List ℕ). Room out n t) counted h

  pub patch-line-room : Room out n (words_text k (take count l) made) → Room out n (patch_line k count made)
  patch-line-room h = front-room (word_lines (take count l)) (both-room h)

  module _ (m : List ℕ) (i : ℕ) (p : Put out m n (patch_line k count made) i) where
    pub lines-room : Room out n (words_text k (take count l) made) → Room m i (word_lines (take count l))
    lines-room h = next-room p (both-room h)

    pub patch-put : {out' : List ℕ} {r : ℕ} → Put m out' i (word_lines (take count l)) r
        → Put out out' n (words_text k (take count l) made) r × ((es : List Edit) → Words (take count l) es → Put out out' n (patch_text k es made) r)
    patch-put {out'} {r} q =
        let text : Put out out' n (words_text k (take count l) made) r = subst (λ (t : List ℕ). Put out out' n t r) (sym counted) (then-put p q) in
        (text, λ es w. subst (λ (t : List ℕ). Put out out' n t r) (text-there k (take count l) es made w) text)
