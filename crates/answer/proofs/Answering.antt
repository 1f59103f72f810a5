-- What `answer_job` answers, as a count and a number.
use Prim.Native.Nat.{ℕ}
use mathlib.Core.List.{List}
use Rattle.job_rules.specs.Job.{Answers}
use Rattle.answer.specs.declared.Whole.TheVariants.{Answered, Refused}
use Rattle.answer.specs.Whole.{Wholly}
use Rattle.answer.proofs.Ending.{none-refused, one-refused}
use Rattle.answer.specs.Answered.{AnsweredAs}

module _ (words : List ℕ) (a : Answers) (words' : List ℕ) where
  pub answered : (n : ℕ) → Wholly words a (Answered n) words' → AnsweredAs words a n 0 words'
  answered n w =
      let e = none-refused n _ a.refusal w.is in
      record { count = e.0; number = e.1; fits = w.fits; stands = w.stands; packed = w.packed }

  pub refused : (k n : ℕ) → Wholly words a (Refused k n) words' → AnsweredAs words a n k words'
  refused k n w =
      let e = one-refused k n _ a.refusal w.is in
      record { count = e.0; number = e.1; fits = w.fits; stands = w.stands; packed = w.packed }
