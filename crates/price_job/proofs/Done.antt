-- The words of a job's answers are those of its patches, and no patch has over 1,024.
use Prim.Native.Nat.{ℕ, zero, suc, ◌+◌, ◌-◌, ◌*◌, ◌%◌, ◌<◌, ◌≤◌}
use mathlib.Core.Path.{◌≡◌, refl, sym, ap, ◌∙◌}
use mathlib.Core.Bool.{Bool, true, false}
use mathlib.Core.List.{List, [], ◌∷◌, ◌++◌, map}
use mathlib.Core.Option.{Option, none, some}
use native.Mathlib.Omega.{arith}
use lib.Dec.{eqb, leb}
use lib.ListN.{length, take, drop, length-map, length-append}
use lib.Seq.{take-append_seam, drop_at, take_at}
use borrow.Author.Tests.{le-leb, eq-eqb}
use Rattle.entity.specs.Logic.{pick, and}
use Rattle.reginfo.specs.RegInfo.{RegInfo}
use Rattle.function.specs.Function.{Function}
use Rattle.rules.specs.Scratch.{Cache, empty_cache}
use Rattle.rules.specs.Patch.{resolve}
use Rattle.edit.specs.Word.{word_of}
use Rattle.number.specs.Read.{Read, got, refused}
use Rattle.answer_text.specs.Heads.{head_word, is_head, count_in}
use Rattle.answer_text.proofs.Patches.{head_read}
use Rattle.edges.specs.Patches.{headed, patches_of, nth}
use Rattle.edges.proofs.Laws.{none-begins, one_more, numbered}
use Rattle.job_rules.specs.Job.{Header, Done, opening, job}
use Rattle.job_rules.specs.Claim.{OneByOne, Opened}
use Rattle.job_rules.proofs.Claimed.{every-job}
use Rattle.job_rules.proofs.Room.{room-for-every}
use Rattle.answer.specs.Words.{words_of, AllPacked}
use Rattle.answer.proofs.MostWords.{opens}
use Rattle.price_job.specs.Text.{words_done, EdgesOfAnswer}

-- ---- how many
abbrev pub AllFew : List (List ℕ) → Type 0
AllFew [] = Unit {0}
AllFew (l ∷ ls) = (length l ≤ 1024) × AllFew ls

module _ (t : RegInfo) (f : Function) where
  one_by_one : (ds : List Done) (k : Option ℕ) (n : ℕ) (c : Cache) (l : List ℕ) → OneByOne resolve t f ds k n c l → AllFew (words_done ds) × (length ds ≤ n)
  one_by_one [] k n c l h = (tt, omega arith)
  one_by_one (d ∷ ds) k n c l h =
      let x = h.1 in
      let on = one_by_one ds k (n - 1) x.after x.rest h.2 in
      let m : length (map word_of d.edits) ≤ 1024 = rw (length-map d.edits word_of) (omega (arith, x.accepted.few, room-for-every t f l x.p x.rest x.reads)) in
      ((m, on.0), omega (arith, h.0, on.1))

pub few-done : (kept : ℕ) (s : List ℕ) → AllFew (words_done (job kept s).done) × (length (job kept s).done ≤ 1024)
few-done kept s = go (opening kept s) refl (every-job kept s)
  where
    go : (x : Read Header) → opening kept s ≡ x → Opened resolve x (job kept s) → AllFew (words_done (job kept s).done) × (length (job kept s).done ≤ 1024)
    go (refused k) e h = rw h.0 (tt, omega arith)
    go (got x r) e h =
        let w = one_by_one x.target x.function (job kept s).done (job kept s).refusal x.patches empty_cache r h in
        (w.0, omega (arith, w.1, (opens kept s x r e).few))

-- ---- the words
head : (n made position : ℕ) (l : List ℕ) → n ≤ 1024 → made < 65536 → position < 65536 → n ≤ length l → headed (head_word n made position ∷ l) ≡ some n
unfolding headed
head n made position l a b c d =
    let r = head_read n made position (omega arith) b c in
    let z : is_head (head_word n made position) ≡ true = eq-eqb (head_word n made position % 8) 0 (omega arith) in
    rw (z, r.0, le-leb n 1024 a, le-leb n (length l) d)

first : (n made position : ℕ) (es l : List ℕ) → length es ≡ n → n ≤ 1024 → made < 65536 → position < 65536
    → patches_of (head_word n made position ∷ (es ++ l)) ≡ es ∷ patches_of l
first n made position es l e a b c =
    let h = head n made position (es ++ l) a b c (omega (arith, length-append es l)) in
    one_more (head_word n made position ∷ (es ++ l)) 0 n h ∙ rw (take_at es l n e, behind)
  where
    behind : drop (0 + (1 + n)) (head_word n made position ∷ (es ++ l)) ≡ l
    behind = let z : 0 + (1 + n) ≡ suc n = omega arith in rw z (drop_at es l n e)

pub patches-done : (ds : List Done) → AllPacked ds → AllFew (words_done ds) → patches_of (words_of ds) ≡ words_done ds
unfolding words_of headed
patches-done [] p q = none-begins [] refl
patches-done (d ∷ ds) p q =
    first (length d.edits) d.made d.position (map word_of d.edits) (words_of ds) (length-map d.edits word_of) (rw (length-map d.edits word_of) at q.0) p.0.small p.0.low
    ∙ ap (λ (x : List (List ℕ)). map word_of d.edits ∷ x) (patches-done ds p.1 q.1)

pub edges-of-answer : EdgesOfAnswer
edges-of-answer kept s p n =
    numbered n (words_of (job kept s).done) ∙ ap (λ (x : List (List ℕ)). nth n x) (patches-done (job kept s).done p (few-done kept s).0)
