-- Every job has a line: of the patches that were asked for the first was resolved, or there is a refusal.
use Prim.Native.Nat.{ℕ, zero, suc, ◌<◌, ◌≤◌}
use mathlib.Core.Path.{◌≡◌, refl}
use mathlib.Core.List.{List, [], ◌∷◌, ◌++◌}
use mathlib.Core.Option.{Option, none, some}
use native.Mathlib.Omega.{arith}
use lib.ListN.{length, length-append}
use Rattle.reginfo.specs.RegInfo.{RegInfo}
use Rattle.function.specs.Function.{Function}
use Rattle.rules.specs.Scratch.{Cache, empty_cache}
use Rattle.rules.specs.Patch.{Answer, resolve}
use Rattle.rules.specs.Patch as rules
use Rattle.number.specs.Read.{Read, got, refused}
use Rattle.job_patch.specs.Patches.{patch}
use Rattle.job_rules.specs.Job.{Done, Answers, after_read, after_call, opening, patches_by, patches, job_by, job}
use Rattle.answer_text.specs.Lines.{refusal_text}
use Rattle.answer.specs.Words.{number_of, done_text, OfTable, SomePrinted}
use Rattle.answer.proofs.MostWords.{opens}
use Rattle.answer.proofs.Numbers.{table-bounds, numbered}

-- without a refusal a patch was resolved
abbrev Some : Answers → Type 0
Some a = a.refusal ≡ none → 0 < length a.done

after_read_lem : {A : Type 0} (x : Read A) (next : A → List ℕ → Answers) → ((a : A) (r : List ℕ) → x ≡ got a r → Some (next a r)) → Some (after_read x next)
after_read_lem (got a r) next h e = h a r refl e
after_read_lem (refused k) next h e = absurd (let z : ◌≡◌ {A = ℕ} 0 1 = cc in omega arith)

after-call : (a : Answer) (next : Cache → Answers) → Some (after_call a next)
after-call (rules.refused k) next e = absurd (let z : ◌≡◌ {A = ℕ} 0 1 = cc in omega arith)
after-call (rules.resolved es c n) next e = omega arith

some-patch : (t : RegInfo) (f : Function) (n : ℕ) (c : Cache) (l : List ℕ) → 1 ≤ n → Some (patches t f n c l)
unfolding patches_by
some-patch t f zero c l h = absurd (omega arith)
some-patch t f (suc n) c l h = after_read_lem (patch t f l) _ (λ p r e. after-call (resolve t f p 1024 c) _)

job-some : (kept : ℕ) (l : List ℕ) → Some (job kept l)
unfolding job_by
job-some kept l = after_read_lem (opening kept l) _ (λ h r e. some-patch h.target h.function h.patches empty_cache r (opens kept l h r e).some)

done-line : (d : List Done) → 0 < length d → 0 < length (done_text 1 d)
unfolding done_text
done-line [] h = absurd (omega arith)
done-line (x ∷ d) h = omega arith

refusal-line : (n : ℕ) → 1 ≤ n → 0 < length (refusal_text n)
refusal-line zero h = absurd (omega arith)
refusal-line (suc n) h = omega arith

some-line : (d : List Done) (o : Option ℕ) → (o ≡ none → 0 < length d) → ((n : ℕ) → o ≡ some n → OfTable n) → 0 < length (done_text 1 d ++ refusal_text (number_of o))
some-line d none s h = rw (length-append (done_text 1 d) (refusal_text 0)) (omega (arith, done-line d (s refl)))
some-line d (some n) s h = rw (length-append (done_text 1 d) (refusal_text n)) (omega (arith, refusal-line n (table-bounds n (h n refl)).0))

pub some-printed : SomePrinted
some-printed kept l = some-line (job kept l).done (job kept l).refusal (job-some kept l) (numbered kept l)
