-- Laws of an answer's text: how long a line is, a line put whole or not at all, and the text word by word.
use Prim.Native.Nat.{ℕ, zero, suc, ◌+◌, ◌<◌, ◌≤◌}
use mathlib.Core.Path.{◌≡◌, refl, sym, ap, subst, ◌∙◌}
use mathlib.Core.Bool.{Bool, true, false}
use mathlib.Core.List.{List, [], ◌∷◌, ◌++◌, append_assoc, append-nil}
use native.Mathlib.Omega.{arith}
use native.Mathlib.Numerals.{add-one}
use lib.ListN.{length, take, drop, get_or, length-append, drop_of_length-le}
use lib.Seq.{take_at, drop-cons}
use Rattle.std.specs.Prelude.{Option, Some, None}
use Rattle.entity.specs.Logic.{pick}
use Rattle.print.specs.Text.{decimal, newline, spaced, edits_word, made_word, patch_line, refused_line}
use Rattle.print.specs.Words.{word_line}
use Rattle.print.specs.Put.{Room, Put}
use Rattle.print.proofs.Decimal.{short}
use Rattle.print.proofs.Lengths.{word-short, refused-short}
use Rattle.print.proofs.Putting.{nothing_put, same_length, then-put}
use Rattle.answer_text.specs.Heads.{is_head, count_in, made_in}
use Rattle.answer_text.specs.Lines.{answer_line, answer_lines, refusal_text, answer_text, whole_lines, lines_within, fronted_by, Printed}
use Rattle.answer_text.specs.Fitting.{Fitted, Ended}
use Rattle.answer_text.proofs.Endings.{answer-line, refusal-line as one-refusal, still-whole, front-lines, front-only}

-- ---- a word's line
pub head-line : {b : Bool} {count made : ℕ} (k w : ℕ) → b ≡ is_head w → b ≡ true → count ≡ count_in w → made ≡ made_in w
    → answer_line k w ≡ patch_line k count made
head-line k w t h c m = rw (c, m, sym t ∙ h)

pub edit-line : {b : Bool} (k w : ℕ) → b ≡ is_head w → b ≡ false → answer_line k w ≡ word_line w
edit-line k w t h = rw (sym t ∙ h)

-- ---- how long a line is
patch-line-short : (k count made : ℕ) → k < 18446744073709551616 → count < 65536 → made < 65536 → length (patch_line k count made) ≤ 64
patch-line-short k count made a b c =
    let rest₂ : List ℕ = spaced made_word (spaced (decimal made) newline) in
    let rest₁ : List ℕ = spaced edits_word (spaced (decimal count) rest₂) in
    rw (length-append (decimal k) rest₁, length-append (decimal count) rest₂, length-append (decimal made) newline)
    (omega (arith, short k 19 (omega arith), short count 4 (omega arith), short made 4 (omega arith)))

either-short : (b : Bool) (x y : List ℕ) → length x ≤ 64 → length y ≤ 64 → length (pick b x y) ≤ 64
either-short true x y p q = p
either-short false x y p q = q

pub line-short : (k w : ℕ) → k < 18446744073709551616 → length (answer_line k w) ≤ 64
line-short k w h = either-short (is_head w) _ _ (patch-line-short k (count_in w) (made_in w) h (omega arith) (omega arith)) (omega (arith, word-short w))

pub refusal-room : {out : List ℕ} (number : ℕ) → number < 256 → length out ≡ 32 → Room out 0 (refused_line number)
refusal-room number h l = record { fits = omega (arith, refused-short number (omega arith)) }

-- ---- a text put at the front
pub at_front : {out out' text : List ℕ} {r : ℕ} → Put out out' 0 text r → (r ≡ length text) × (out' ≡ text ++ drop (length text) out)
at_front {text = text} p = let z : 0 + length text ≡ length text = omega arith in (p.next ∙ z, p.stands ∙ rw z)

pub front : {out out' text : List ℕ} {r : ℕ} → Put out out' 0 text r → take r out' ≡ text
front {out} {out'} {text} {r} p = let a = at_front p in rw (a.0, a.1) (take_at text (drop (length text) out) (length text) refl)

pub within : {out out' text : List ℕ} {n r : ℕ} → Put out out' n text r → r ≤ length out'
within p = omega (arith, p.room, p.next, same_length p)

-- ---- a refusal
pub refusal-line : (number : ℕ) → (number ≡ 0 → ⊥) → refusal_text number ≡ refused_line number
refusal-line zero h = absurd (h refl)
refusal-line (suc n) h = refl

pub no-refusal : {out : List ℕ} {n : ℕ} → n ≤ length out → Ended out out n [] n
no-refusal h = record { fits = λ f. nothing_put record { fits = f }; short = λ s. absurd (omega arith) }

pub refusal-put : {out out' text : List ℕ} {n m : ℕ} {r : Option ℕ} → Fitted out out' n text r → r ≡ Some m → Ended out out' n text m
refusal-put {out} {out'} {text} {n} {m} f e =
    let p : Put out out' n text m = subst (λ (x : Option ℕ). Fitted out out' n text x) e f in
    record { fits = λ h. p; short = λ s. absurd (omega (arith, p.room)) }

pub refusal-short : {out out' text : List ℕ} {n : ℕ} {r : Option ℕ} → Fitted out out' n text r → r ≡ None → Ended out out' n text 0
refusal-short {out} {out'} {text} {n} f e =
    let s = subst (λ (x : Option ℕ). Fitted out out' n text x) e f in
    record { fits = λ h. absurd (omega (arith, s.0)); short = λ h. (refl, s.1) }

-- ---- word by word: the lines of the first i words stand there, and patch k is next
pub record Printing (out₀ words out : List ℕ) (n k i : ℕ) : Type 0 where
  pub text : List ℕ
  pub put : Put out₀ out 0 text n
  pub whole : whole_lines text ≡ text
  pub rest : answer_lines 1 words ≡ text ++ answer_lines k (drop i words)
  pub within : i ≤ length words
  pub number : k ≤ i + 1

module _ (out₀ words : List ℕ) where
  pub none-printed : Printing out₀ words out₀ 0 1 0
  unfolding whole_lines
  none-printed = record { text = []; put = nothing_put record { fits = omega arith }; whole = refl; rest = refl; within = omega arith; number = omega arith }

  module _ (out : List ℕ) (n k i : ℕ) (s : Printing out₀ words out n k i) where
    pub at_most : n ≤ length out
    at_most = omega (arith, s.put.room, s.put.next, same_length s.put)

    -- if no more lines have room, these are the front of the text
    stopped : (out' text : List ℕ) → out' ≡ out → lines_within (length out₀) text ≡ s.text → out' ≡ fronted_by (lines_within (length out₀) text) out₀
    stopped out' text e l = e ∙ (at_front s.put).1 ∙ ap (λ (t : List ℕ). fronted_by t out₀) (sym l)

    module _ (m : i < length words) where
      abbrev w : ℕ
      w = get_or words i 0

      abbrev later : List ℕ
      later = answer_lines (pick (is_head w) (k + 1) k) (drop (i + 1) words)

      step : answer_lines 1 words ≡ (s.text ++ answer_line k w) ++ later
      unfolding answer_lines
      step =
          let next : drop i words ≡ w ∷ drop (i + 1) words = rw (add-one i) (drop-cons words i 0 m) in
          s.rest ∙ rw next (sym (append_assoc s.text (answer_line k w) later))

      next-number : (b : Bool) → pick b (k + 1) k ≤ i + 1 + 1
      next-number true = omega (arith, s.number)
      next-number false = omega (arith, s.number)

      pub one-printed : (out' : List ℕ) (e k' : ℕ) (r : Option ℕ) → Fitted out out' n (answer_line k w) r → r ≡ Some e → k' ≡ pick (is_head w) (k + 1) k
          → Printing out₀ words out' e k' (i + 1)
      one-printed out' e k' r f t h =
          let p : Put out out' n (answer_line k w) e = subst (λ (x : Option ℕ). Fitted out out' n (answer_line k w) x) t f in
          record {
            text = s.text ++ answer_line k w;
            put = then-put s.put p;
            whole = still-whole s.text s.whole (answer-line k w);
            rest = rw h step;
            within = omega arith;
            number = rw h (next-number (is_head w));
          }

      pub none-fits : (out' : List ℕ) (refusal : ℕ) (r : Option ℕ) → Fitted out out' n (answer_line k w) r → r ≡ None
          → Printed out₀ out' (answer_text words refusal) 0
      none-fits out' refusal r f t =
          let x = subst (λ (y : Option ℕ). Fitted out out' n (answer_line k w) y) t f in
          let front : length (s.text ++ answer_line k w) ≡ length s.text + length (answer_line k w) = length-append s.text (answer_line k w) in
          let lines : length (answer_lines 1 words) ≡ length (s.text ++ answer_line k w) + length later =
          ap length step ∙ length-append (s.text ++ answer_line k w) later in
          let long : length out₀ < length (answer_text words refusal) =
          rw (length-append (answer_lines 1 words) (refusal_text refusal), lines, front) (omega (arith, x.0, s.put.next, same_length s.put)) in
          let room : ℕ = length out₀ in
          let below : room < length s.text + length (answer_line k w) = omega (arith, x.0, s.put.next, same_length s.put) in
          let cut : lines_within room (answer_text words refusal) ≡ s.text =
          ap (λ (t : List ℕ). lines_within room (t ++ refusal_text refusal)) step
          ∙ front-only ((s.text ++ answer_line k w) ++ later) (refusal_text refusal) room (rw (length-append (s.text ++ answer_line k w) later, front) (omega (arith, below)))
          ∙ front-only (s.text ++ answer_line k w) later room (rw front (omega (arith, below)))
          ∙ front-lines s.text room s.whole (answer-line k w) (omega (arith, s.put.room)) below in
          record { fits = λ h. absurd (omega (arith, long)); short = λ h. (refl, stopped out' (answer_text words refusal) x.1 cut) }

    pub all-printed : (out' : List ℕ) (refusal r : ℕ) → length words ≤ i → Ended out out' n (refusal_text refusal) r
        → Printed out₀ out' (answer_text words refusal) r
    unfolding answer_lines
    all-printed out' refusal r m e =
        let text : answer_lines 1 words ≡ s.text = s.rest ∙ rw (drop_of_length-le words m) (append-nil s.text) in
        let long : length (answer_text words refusal) ≡ n + length (refusal_text refusal) =
        rw (text, length-append s.text (refusal_text refusal)) (omega (arith, s.put.next)) in
        let all : length (answer_text words refusal) ≤ length out₀ → Put out₀ out' 0 (answer_text words refusal) r =
        λ h. subst (λ (t : List ℕ). Put out₀ out' 0 (t ++ refusal_text refusal) r) (sym text)
        (then-put s.put (e.fits (omega (arith, long, same_length s.put)))) in
        let cut : length out₀ < length (answer_text words refusal) → lines_within (length out₀) (answer_text words refusal) ≡ s.text =
        λ h. ap (λ (t : List ℕ). lines_within (length out₀) (t ++ refusal_text refusal)) text
        ∙ front-lines s.text (length out₀) s.whole (one-refusal refusal) (omega (arith, s.put.room)) (omega (arith, h, long, s.put.next)) in
        record {
          fits = λ h. at_front (all h);
          short =
              λ h. let z = e.short (omega (arith, h, long, same_length s.put)) in
              (z.0, stopped out' (answer_text words refusal) z.1 (cut h));
        }
