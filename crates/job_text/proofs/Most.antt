-- No job's answer is longer than the sizes that are named for it.
use Prim.Native.Nat.{ℕ, zero, suc, ◌+◌, ◌-◌, ◌*◌, ◌≤◌, ◌<◌}
use mathlib.Core.Path.{◌≡◌, refl}
use mathlib.Core.List.{List, [], ◌∷◌, map}
use mathlib.Core.Option.{Option, none, some}
use native.Mathlib.Omega.{arith}
use lib.ListN.{length, length-append, length-map}
use Rattle.reginfo.specs.RegInfo.{RegInfo}
use Rattle.function.specs.Function.{Function}
use Rattle.rules.specs.Edit.{Edit}
use Rattle.rules.specs.Scratch.{Cache, empty_cache}
use Rattle.rules.specs.Patch.{sorted, bound, resolve}
use Rattle.edit.specs.Word.{word_of, AllInRange}
use Rattle.number.specs.Read.{Read, got, refused}
use Rattle.print.specs.Text.{decimal, newline, spaced, edits_word, made_word, edit_line, edit_lines, patch_line, patch_text}
use Rattle.print.proofs.Decimal.{short}
use Rattle.print.proofs.Lengths.{edit-short, refused-short}
use Rattle.answer_text.specs.Lines.{refusal_text}
use Rattle.job_patch.specs.Patches.{patch}
use Rattle.job_rules.specs.Job.{Header, Done, opening, job}
use Rattle.job_rules.specs.Claim.{DoneAt, OneByOne, Opened}
use Rattle.job_rules.proofs.Claimed.{every-job}
use Rattle.answer.specs.Words.{words_of, number_of, done_text, AllPacked, Packed}
use Rattle.answer.proofs.Numbers.{table-bounds, numbered}
use Rattle.answer.proofs.Bytes.{leaves-got, patch-leaves}
use Rattle.answer.proofs.MostWords.{opens}
use Rattle.job_text.specs.Most.{WordsFit, TextFits}

-- ---- lines
refusal-short : (k : ℕ) → k ≤ 22 → length (refusal_text k) ≤ 36
refusal-short zero h = omega arith
refusal-short (suc k) h = omega (arith, refused-short (suc k) (omega arith))

lines-short : (es : List Edit) → AllInRange es → length (edit_lines es) ≤ 19 * length es
unfolding edit_lines
lines-short [] r = omega arith
lines-short (e ∷ es) r = rw (length-append (edit_line e) (edit_lines es)) (omega (arith, edit-short e r.0, lines-short es r.1))

line-short : (k count made : ℕ) → k < 10000 → count < 100000 → made < 100000 → length (patch_line k count made) ≤ 36
line-short k count made a b c =
    let rest₂ : List ℕ = spaced made_word (spaced (decimal made) newline) in
    let rest₁ : List ℕ = spaced edits_word (spaced (decimal count) rest₂) in
    rw (length-append (decimal k) rest₁, length-append (decimal count) rest₂, length-append (decimal made) newline)
    (omega (arith, short k 3 (omega arith), short count 4 (omega arith), short made 4 (omega arith)))

patch-short : (k : ℕ) (d : Done) → k < 10000 → Packed d → length (patch_text k d.edits d.made) ≤ 36 + 19 * length d.edits
patch-short k d h p =
    rw (length-append (patch_line k (length d.edits) d.made) (edit_lines d.edits))
    (omega (arith, line-short k (length d.edits) d.made h (omega (arith, p.few)) (omega (arith, p.small)), lines-short d.edits p.ranged))

-- ---- the patches that are done, n at most, of the bytes l
words_more : (d : Done) (ds : List Done) → length (words_of (d ∷ ds)) ≡ 1 + length d.edits + length (words_of ds)
unfolding words_of
words_more d ds = omega (arith, length-append (map word_of d.edits) (words_of ds), length-map d.edits word_of)

text-more : (k : ℕ) (d : Done) (ds : List Done) → length (done_text k (d ∷ ds)) ≡ length (patch_text k d.edits d.made) + length (done_text (k + 1) ds)
unfolding done_text
text-more k d ds = length-append (patch_text k d.edits d.made) (done_text (k + 1) ds)

module _ (t : RegInfo) (f : Function) where
  -- a patch has at most twice as many edits as it has bytes
  few-edits : (c : Cache) (l : List ℕ) (d : Done) (x : DoneAt resolve t f c l d) → length d.edits + 2 * length x.rest ≤ 2 * length l
  few-edits c l d x = omega (arith, x.accepted.few, leaves-got (λ p. bound (sorted t f p)) (2 * length l) (patch t f l) x.p x.rest (patch-leaves t f l) x.reads)

  few_words : (ds : List Done) (o : Option ℕ) (n : ℕ) (c : Cache) (l : List ℕ) → OneByOne resolve t f ds o n c l → length (words_of ds) ≤ 2 * length l + n
  unfolding words_of
  few_words [] o n c l h = omega arith
  few_words (d ∷ ds) o n c l h = let x = h.1 in omega (arith, h.0, words_more d ds, few-edits c l d x, few_words ds o (n - 1) x.after x.rest h.2)

  short-text : (ds : List Done) (o : Option ℕ) (n : ℕ) (c : Cache) (l : List ℕ) (k : ℕ) → k + n ≤ 1025 → AllPacked ds → OneByOne resolve t f ds o n c l
      → length (done_text k ds) ≤ 19 * (2 * length l) + 36 * n
  unfolding done_text
  short-text [] o n c l k e p h = omega arith
  short-text (d ∷ ds) o n c l k e p h =
      let x = h.1 in
      omega (arith, h.0, text-more k d ds, patch-short k d (omega (arith, h.0)) p.0, few-edits c l d x, short-text ds o (n - 1) x.after x.rest (k + 1) (omega (arith, h.0)) p.1 h.2)

-- ---- the whole job
refusal-fits : (kept : ℕ) (l : List ℕ) (o : Option ℕ) → (job kept l).refusal ≡ o → length (refusal_text (number_of o)) ≤ 36
refusal-fits kept l none e = omega arith
refusal-fits kept l (some k) e = refusal-short k (table-bounds k (numbered kept l k e)).1

module _ (kept : ℕ) (l : List ℕ) where
  abbrev done : List Done
  done = (job kept l).done

  all_words : (x : Read Header) → opening kept l ≡ x → Opened resolve x (job kept l) → length (words_of done) ≤ 2 * 65536 + 1024
  unfolding words_of
  all_words (refused k) e h = rw h.0 (omega arith)
  all_words (got x r) e h =
      let j = opens kept l x r e in
      omega (arith, j.few, j.short, j.fewer, few_words x.target x.function done (job kept l).refusal x.patches empty_cache r h)

  all-text : (x : Read Header) → opening kept l ≡ x → Opened resolve x (job kept l) → AllPacked done → length (done_text 1 done) ≤ 19 * (2 * 65536) + 36 * 1024
  unfolding done_text
  all-text (refused k) e h p = rw h.0 (omega arith)
  all-text (got x r) e h p =
      let j = opens kept l x r e in
      omega (arith, j.few, j.short, j.fewer, short-text x.target x.function done (job kept l).refusal x.patches empty_cache r 1 (omega (arith, j.few)) p h)

pub words-fit : WordsFit
words-fit kept l = all_words kept l (opening kept l) refl (every-job kept l)

pub text-fits : TextFits
text-fits kept l p =
    rw (length-append (done_text 1 (job kept l).done) (refusal_text (number_of (job kept l).refusal)))
    (omega (arith, all-text kept l (opening kept l) refl (every-job kept l) p, refusal-fits kept l (job kept l).refusal refl))
