-- The words of a job's answers print as the job.
use Prim.Native.Nat.{ℕ, ◌+◌}
use mathlib.Core.Path.{◌≡◌, refl, ap, ◌∙◌}
use mathlib.Core.List.{List, [], ◌∷◌, ◌++◌}
use Rattle.print.specs.Text.{patch_text}
use Rattle.answer_text.specs.Lines.{answer_lines, refusal_text}
use Rattle.answer_text.proofs.Patches.{patch-printed}
use Rattle.job_rules.specs.Job.{Done}
use Rattle.answer.specs.Words.{words_of, number_of, done_text, AllPacked, JobPrinted}

done-printed : (k : ℕ) (l : List Done) → AllPacked l → answer_lines k (words_of l) ≡ done_text k l
unfolding answer_lines words_of done_text
done-printed k [] p = refl
done-printed k (d ∷ l) p =
    patch-printed k d.edits d.made d.position (words_of l) p.0.ranged p.0.few p.0.small ∙ ap (λ (t : List ℕ). patch_text k d.edits d.made ++ t) (done-printed (k + 1) l p.1)

pub job-printed : JobPrinted
job-printed a p = ap (λ (t : List ℕ). t ++ refusal_text (number_of a.refusal)) (done-printed 1 a.done p)
