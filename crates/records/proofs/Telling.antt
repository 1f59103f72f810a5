-- The words of an answered job, and what is told of them.
use Prim.Native.Nat.{ℕ, ◌≤◌}
use mathlib.Core.Path.{◌≡◌, refl, subst}
use mathlib.Core.List.{List, ◌++◌}
use native.Mathlib.Omega.{arith}
use lib.ListN.{length, take, drop, length-append}
use lib.Seq.{take_at}
use Rattle.job_rules.specs.Job.{Answers, job}
use Rattle.answer_text.specs.Lines.{answer_text, Printed}
use Rattle.answer.specs.Room.{job_in, most_words}
use Rattle.answer.specs.Words.{words_of, number_of, AllPacked}
use Rattle.answer.specs.declared.Whole.{Whole}
use Rattle.answer.specs.declared.Whole.TheVariants.{Answered, Refused}
use Rattle.answer.specs.Whole.{Wholly}
use Rattle.answer.proofs.Ending.{none-refused, one-refused}
use Rattle.answer.proofs.MostWords.{most-words}
use Rattle.answer.proofs.Printed.{job-printed}
use Rattle.records.specs.Told.{text_of}

module _ (kept : ℕ) (s words words' : List ℕ) (long : length words ≡ most_words) where
  abbrev job_words : List ℕ
  job_words = words_of (job kept s).done

  -- the words of an answer are the first n, and the number is that of its refusal
  pub record Counted (n number : ℕ) : Type 0 where
    pub count : n ≡ length job_words
    pub number_is : number ≡ number_of (job kept s).refusal
    pub words_are : words' ≡ job_words ++ drop (length job_words) words
    pub packed : AllPacked (job kept s).done

  -- there are words enough for every job
  whole : (r : Whole) → Wholly words (job_in (length words) kept s) r words' → Wholly words (job kept s) r words'
  whole r w = subst (λ (a : Answers). Wholly words a r words') (most-words (length words) (omega arith) kept s) w

  pub answered : (n : ℕ) → Wholly words (job_in (length words) kept s) (Answered n) words' → Counted n 0
  answered n h =
      let w = whole (Answered n) h in
      let e = none-refused n (length job_words) (job kept s).refusal w.is in
      record { count = e.0; number_is = e.1; words_are = w.stands; packed = w.packed }

  pub refused : (k n : ℕ) → Wholly words (job_in (length words) kept s) (Refused k n) words' → Counted n k
  refused k n h =
      let w = whole (Refused k n) h in
      let e = one-refused k n (length job_words) (job kept s).refusal w.is in
      record { count = e.0; number_is = e.1; words_are = w.stands; packed = w.packed }

  module _ (n number : ℕ) (c : Counted n number) where
    pub within : n ≤ length words'
    within = rw (c.words_are, length-append job_words (drop (length job_words) words)) (omega (arith, c.count))

    front : take n words' ≡ job_words
    front = rw (c.words_are, c.count) (take_at job_words (drop (length job_words) words) (length job_words) refl)

    pub told : (out out' : List ℕ) (r : ℕ) → Printed out out' (answer_text (take n words') number) r → Printed out out' (text_of kept s) r
    told out out' r p =
        let text : answer_text (take n words') number ≡ text_of kept s = rw (front, c.number_is) (job-printed (job kept s) c.packed) in
        subst (λ (x : List ℕ). Printed out out' x r) text p
