-- A job's text on its way: each step keeps `Stands`.
use Prim.Native.Nat.{ℕ, zero, suc, ◌+◌, ◌-◌, ◌<◌, ◌≤◌}
use mathlib.Core.Path.{◌≡◌, refl, sym, ap, subst, ◌∙◌}
use mathlib.Core.Bool.{true, false}
use mathlib.Core.List.{List, [], ◌∷◌, ◌++◌, append_assoc, append-nil}
use mathlib.Core.Option.{some}
use native.Mathlib.Omega.{arith}
use lib.ListN.{length, take, drop, length-append, length-drop}
use lib.Seq.{take_at, drop_at, drop-drop, length-take-le}
use Rattle.print.specs.Text.{patch_text, refused_line}
use Rattle.print.specs.Words.{words_text}
use Rattle.print.specs.Put.{Put}
use Rattle.print.proofs.Putting.{nothing_put, same_length}
use Rattle.print.proofs.Printing.{text-there}
use Rattle.answer_text.specs.Lines.{refusal_text}
use Rattle.slots.specs.Stacks.{cache_of}
use Rattle.job_rules.specs.Job.{Done, Answers, before, ends_with, left_over, patches_by, job}
use Rattle.answer.specs.Words.{number_of, done_text, job_text}
use Rattle.answer.specs.Whole.{rest}
use Rattle.answer.proofs.Nexting.{Resolved}
use Rattle.job_text.specs.declared.Progress.{Progress}
use Rattle.job_text.specs.Standing.{written_out, to_go, text_from, end_text, Ends, to_come, Stands, Piece}

-- what the buffer holds after a put
pub held-put : {out out' text : List ℕ} {n m : ℕ} → Put out out' n text m → take m out' ≡ take n out ++ text
held-put {out} {out'} {text} {n} {m} p =
    let l : length (take n out ++ text) ≡ n + length text = length-append (take n out) text ∙ ap (λ (k : ℕ). k + length text) (length-take-le n out (omega (arith, p.room))) in
    rw (p.next, p.stands, ← append_assoc (take n out) text (drop (n + length text) out)) (take_at (take n out ++ text) (drop (n + length text) out) (n + length text) l)

pub put-room : {out out' text : List ℕ} {n m : ℕ} → Put out out' n text m → m ≤ length out'
put-room p = omega (arith, p.next, p.room, same_length p)

-- ---- how a job ends
pub end-over : (l : List ℕ) → 0 < length l → refusal_text 8 ≡ end_text l
end-over [] h = absurd (omega arith)
end-over (b ∷ l) h = refl

pub none_over : {out : List ℕ} {n r : ℕ} (l : List ℕ) → length l ≡ 0 → r ≡ n → n ≤ length out → Put out out n (end_text l) r
none_over [] h e q = rw e (nothing_put record { fits = omega arith })
none_over (b ∷ l) h e q = absurd (omega arith)

pub none-refused : {out : List ℕ} {n r : ℕ} (number : ℕ) → number ≡ 0 → r ≡ n → n ≤ length out → Put out out n (refusal_text number) r
none-refused number z e q = rw (z, e) (nothing_put record { fits = omega arith })

pub one-refused : (number : ℕ) → (number ≡ 0 → ⊥) → refused_line number ≡ refusal_text number
one-refused zero h = absurd (h refl)
one-refused (suc n) h = refl

-- ---- what is to come
over : (k : ℕ) (l : List ℕ) → text_from k (left_over l) ≡ end_text l
unfolding done_text
over k [] = refl
over k (b ∷ l) = refl

one_more : (k : ℕ) (d : Done) (a : Answers) → text_from k (before d a) ≡ patch_text k d.edits d.made ++ text_from (k + 1) a
unfolding done_text
one_more k d a = append_assoc (patch_text k d.edits d.made) (done_text (k + 1) a.done) (refusal_text (number_of a.refusal))

none_more : (k n : ℕ) → text_from k (ends_with (some n)) ≡ refusal_text n
unfolding done_text
none_more k n = refl

module _ (t f s cache out : List ℕ) (p : Progress) (e : p.ended ≡ false) where
  going_on : to_come t f s cache p ≡ text_from p.k (rest t f s p.at cache p.left)
  going_on = rw e

  some_left : 0 < p.left → to_come t f s cache p ≡ text_from p.k (rest t f s p.at cache (suc (p.left - 1)))
  some_left h = let n : p.left ≡ suc (p.left - 1) = omega arith in going_on ∙ ap (λ (n : ℕ). text_from p.k (rest t f s p.at cache n)) n

  pub refused-here : (n : ℕ) → 0 < p.left → ((left : ℕ) → rest t f s p.at cache (suc left) ≡ ends_with (some n)) → to_come t f s cache p ≡ refusal_text n
  refused-here n h r = some_left h ∙ ap (text_from p.k) (r (p.left - 1)) ∙ none_more p.k n

  pub ends-here : p.left ≡ 0 → to_come t f s cache p ≡ end_text (drop p.at s)
  unfolding patches_by
  ends-here h = going_on ∙ ap (λ (n : ℕ). text_from p.k (rest t f s p.at cache n)) h ∙ over p.k (drop p.at s)

  -- nothing is to come once the rest is put
  module _ (kept : ℕ) (h : Stands kept t f s cache out p) where
    pub ended-stands : (t' f' cache' out' text : List ℕ) (r : Progress) → to_come t f s cache p ≡ text → Ends p r → Put out out' p.held text r.held → Stands kept t' f' s cache' out' r
    ended-stands t' f' cache' out' text r q x w =
        let g = h.going e in
        record {
          text = rw (x.kept, x.over, append-nil (take r.held out'), held-put w) (h.text ∙ ap (λ (l : List ℕ). take p.held out ++ l) q);
          within = rw x.kept h.within;
          room = put-room w;
          short = omega (arith, x.kept, x.short, g.few, g.short);
          going = λ g. absurd (let z : ◌≡◌ {A = ℕ} 0 1 = cc in omega arith);
        }

    pub ended-less : (r : Progress) → Ends p r → to_go r < to_go p
    ended-less r x = rw (e, x.over) (omega arith)

    -- a patch answered, and its lines put
    module _ (list : List ℕ) (len : length list ≡ 1024) (list' cache' : List ℕ) (count met next : ℕ) (some : 0 < p.left) (g : Resolved t f s p.at list len cache list' cache' count met next) where
      to-come : to_come t f s cache p ≡ patch_text p.k g.done.edits g.done.made ++ text_from (p.k + 1) (rest t f s next cache' (p.left - 1))
      to-come = some_left some ∙ ap (text_from p.k) (g.goes_on (p.left - 1)) ∙ one_more p.k g.done (rest t f s next cache' (p.left - 1))

      lines : (made : ℕ) → made ≡ (cache_of cache').made → words_text p.k (take count list') made ≡ patch_text p.k g.done.edits g.done.made
      lines made m = let q : made ≡ g.done.made = m ∙ g.made in rw q (text-there p.k (take count list') g.done.edits g.done.made (record { are = g.listed; in-range = g.ranged }))

      pub next-stands : (made held : ℕ) (out' : List ℕ) → held ≤ p.held + 20480 → made ≡ (cache_of cache').made → Put out out' p.held (words_text p.k (take count list') made) held
          → Stands kept t f s cache' out' (record { at = next; left = p.left - 1; k = p.k + 1; written = p.written; held = held; ended = false })
      next-stands made held out' b m w =
          let j = h.going e in
          record {
            text =
                h.text ∙ ap (λ (l : List ℕ). take p.held out ++ l) to-come
                ∙ sym (rw (held-put w, lines made m) (append_assoc (take p.held out) (patch_text p.k g.done.edits g.done.made) (text_from (p.k + 1) (rest t f s next cache' (p.left - 1)))));
            within = h.within;
            room = put-room w;
            short = omega (arith, j.few, j.short);
            going = λ _. record { checked = j.checked; setting = j.setting; cached = g.cached; few = omega (arith, j.few); short = omega (arith, j.short) };
          }

-- ---- while patches are left, the setting is the function's
pub same-setting : {kept kept' : ℕ} (t f s cache out : List ℕ) (p : Progress) → kept ≡ kept' → Stands kept t f s cache out p → Stands kept' t f s cache out p
same-setting t f s cache out p e h = subst (λ (n : ℕ). Stands n t f s cache out p) e h

-- ---- what the buffer holds
module _ (kept : ℕ) (t f s cache out : List ℕ) (p : Progress) (h : Stands kept t f s cache out p) where
  many : length (take p.held out) ≡ p.held
  many = length-take-le p.held out h.room

  enough : p.written + p.held ≤ length (job_text (job kept s))
  enough =
      let l : length (job_text (job kept s)) - p.written ≡ p.held + length (to_come t f s cache p) =
      sym (length-drop p.written (job_text (job kept s))) ∙ rw (h.text, length-append (take p.held out) (to_come t f s cache p), many) in
      omega (arith, h.within)

  pub piece : Piece kept s out p
  piece = record { next = rw h.text (sym (take_at (take p.held out) (to_come t f s cache p) p.held many)); room = h.room; within = enough; short = h.short }

  pub written_stands : Stands kept t f s cache out (written_out p)
  written_stands =
      record {
        text = sym (drop-drop p.held p.written (job_text (job kept s))) ∙ rw h.text (drop_at (take p.held out) (to_come t f s cache p) p.held many);
        within = enough;
        room = omega arith;
        short = omega (arith, h.short);
        going = λ e. let g = h.going e in record { checked = g.checked; setting = g.setting; cached = g.cached; few = g.few; short = omega (arith, g.short) };
      }

  pub all-written : p.ended ≡ true → p.held ≡ 0 → p.written ≡ length (job_text (job kept s))
  all-written e z =
      let l : length (job_text (job kept s)) - p.written ≡ 0 = sym (length-drop p.written (job_text (job kept s))) ∙ rw (h.text, z, e) in
      omega (arith, h.within)
