-- What cannot be read is refused with a number from 1 on: a target and a function, as a function alone and as a formula of a frame.
use Prim.Native.Nat.{ℕ, zero, suc, ◌≤◌}
use mathlib.Core.Path.{◌≡◌, refl, subst}
use mathlib.Core.Bool.{Bool, true, false}
use mathlib.Core.List.{List, [], ◌∷◌}
use mathlib.Core.Option.{Option, none, some}
use native.Mathlib.Omega.{arith}
use lib.Dec.{eqb, ltb}
use lib.ListN.{length}
use Rattle.entity.specs.Logic.{pick, no, has}
use Rattle.reginfo.specs.RegInfo.{RegInfo, num_banks, num_classes, bank_for_class}
use Rattle.reginfo.specs.Refused.{or_else, first_of, outside_limits, listed_twice, unequal_widths, foreign_member, shared_memory, unfit_class, target_refusal}
use Rattle.function.specs.Function.{is_setting}
use Rattle.number.specs.Read.{Read, got, refused, then}
use Rattle.number.specs.Number.{number}
use Rattle.number.proofs.Laws.{one-refusal}
use Rattle.reading.specs.Reading.{tested, below, between, times, distinct}
use Rattle.job_target.specs.Target.{bank, reg, class, classes, target}
use Rattle.job_function.specs.Reads.{remat_value, value, valued, function, function_within}
use Rattle.job_patch.specs.Patches.{unless_given}
use Rattle.job_rules.specs.Job as job
use Rattle.job_rules.specs.Job.{with_function, beginning}
use Rattle.job_rules.specs.Formula.{with_function_within, beginning_within}
use Rattle.calls.specs.Opening.{ended, opened}
use Rattle.frame_calls.specs.Given.{least_of, most_of, opened_in}

abbrev pub Sure : {A : Type 0} → Read A → Type 0
Sure (got x r) = Unit {0}
Sure (refused k) = 1 ≤ k

after : {A B : Type 0} (d : Read A) (next : A → List ℕ → Read B) → Sure d → ((x : A) (r : List ℕ) → Sure (next x r)) → Sure (then d next)
after (got x r) next a on = on x r
after (refused k) next a on = a

either : {A : Type 0} (b : Bool) (d e : Read A) → Sure d → Sure e → Sure (pick b d e)
either true d e p q = p
either false d e p q = q

unless : {A : Type 0} (o : Option ℕ) (d : Read A) → ((n : ℕ) → o ≡ some n → 1 ≤ n) → Sure d → Sure (unless_given o d)
unless none d h p = p
unless (some k) d h p = h k refl

-- ---- numbers and lists of them
of_number : (l : List ℕ) → Sure (number l)
of_number l = go (number l) (one-refusal l)
  where
    go : (d : Read ℕ) → ((k : ℕ) → d ≡ refused k → k ≡ 1) → Sure d
    go (got n r) h = tt
    go (refused k) h = omega (arith, h k refl)

of-tested : (ok : ℕ → Bool) (l : List ℕ) → Sure (tested ok l)
unfolding tested
of-tested ok l = after (number l) _ (of_number l) (λ n r. either (ok n) _ _ tt (omega arith))

of-times : {A : Type 0} (n : ℕ) (one : List ℕ → Read A) → ((l : List ℕ) → Sure (one l)) → (l : List ℕ) → Sure (times n one l)
unfolding times
of-times zero one h l = tt
of-times (suc n) one h l = after (one l) _ (h l) (λ x r. after (times n one r) _ (of-times n one h r) (λ xs q. tt))

of-distinct : (n limit : ℕ) (before l : List ℕ) → Sure (distinct n limit before l)
unfolding distinct
of-distinct zero limit before l = tt
of-distinct (suc n) limit before l =
    after (below limit l) _ (of-tested _ l)
    (λ x r. either (has x before) _ _ (omega arith) (after (distinct n limit (x ∷ before) r) _ (of-distinct n limit (x ∷ before) r) (λ xs q. tt)))

-- ---- the target
of-bank : (l : List ℕ) → Sure (bank l)
unfolding bank
of-bank l = after (between 0 31 l) _ (of-tested _ l) (λ size r. after (number r) _ (of_number r) (λ top q. after (number q) _ (of_number q) (λ stack p. tt)))

of-reg : (units banks : ℕ) (l : List ℕ) → Sure (reg units banks l)
unfolding reg
of-reg units banks l =
    after (below 2 l) _ (of-tested _ l)
    (λ memory r. after (below banks r) _ (of-tested _ r)
    (λ b q. after (between 1 8 q) _ (of-tested _ q)
    (λ n p. after (distinct n units [] p) _ (of-distinct n units [] p) (λ us o. tt))))

of-class : (banks regs total : ℕ) (l : List ℕ) → Sure (class banks regs total l)
unfolding class
of-class banks regs total l =
    after (below banks l) _ (of-tested _ l)
    (λ b r. after (below 2 r) _ (of-tested _ r)
    (λ slots q. after (number q) _ (of_number q)
    (λ n p. after (distinct n regs [] p) _ (of-distinct n regs [] p)
    (λ members o. after (tested _ o) _ (of-tested _ o)
    (λ m k. after (distinct m regs [] k) _ (of-distinct m regs [] k) (λ order j. tt))))))

of-classes : (n banks regs total : ℕ) (l : List ℕ) → Sure (classes n banks regs total l)
unfolding classes
of-classes zero banks regs total l = tt
of-classes (suc n) banks regs total l =
    after (class banks regs total l) _ (of-class banks regs total l)
    (λ c r. after (classes n banks regs c.total r) _ (of-classes n banks regs c.total r) (λ cs q. tt))

of-target : (l : List ℕ) → Sure (target l)
unfolding target
of-target l =
    after (between 1 512 l) _ (of-tested _ l)
    (λ units r. after (between 1 8 r) _ (of-tested _ r)
    (λ n q. after (times n bank q) _ (of-times n bank of-bank q)
    (λ banks p. after (between 1 512 p) _ (of-tested _ p)
    (λ m o. after (times m (reg units n) o) _ (of-times m (reg units n) (of-reg units n) o)
    (λ regs k. after (tested _ k) _ (of-tested _ k)
    (λ c j. after (classes c n m 0 j) _ (of-classes c n m 0 j) (λ cs i. tt)))))))

-- a number given by conditions from 1 on
pub from_one : (b : Bool) (k n : ℕ) (o : Option ℕ) → 1 ≤ k → (o ≡ some n → 1 ≤ n) → or_else b k o ≡ some n → 1 ≤ n
from_one true k n o h on e = let z : k ≡ n = cc in omega (arith, z, h)
from_one false k n o h on e = on e

of-rules : (t : RegInfo) (n : ℕ) → target_refusal t ≡ some n → 1 ≤ n
unfolding target_refusal first_of
of-rules t n e =
    from_one (outside_limits t) 2 n _ (omega arith)
    (from_one (listed_twice t) 3 n _ (omega arith)
    (from_one (unequal_widths t) 4 n _ (omega arith)
    (from_one (foreign_member t) 5 n _ (omega arith)
    (from_one (shared_memory t) 6 n _ (omega arith)
    (from_one (unfit_class t) 7 n _ (omega arith) (λ z. absurd (let q : ◌≡◌ {A = ℕ} 0 1 = cc in omega arith)))))))
    e

-- ---- the function
of-value : (t : RegInfo) (l : List ℕ) → Sure (value t l)
unfolding value remat_value
of-value t l =
    after (below (num_banks t) l) _ (of-tested _ l)
    (λ b r. after (below 3 r) _ (of-tested _ r)
    (λ cost q. either (eqb cost 0) _ _ tt (after (below (num_classes t) q) _ (of-tested _ q) (λ c p. either (eqb (bank_for_class t c) b) _ _ tt (omega arith)))))

of-valued : (t : RegInfo) (kept n slots limit : ℕ) (l : List ℕ) → Sure (valued t kept n slots limit l)
unfolding valued
of-valued t kept n slots limit l = after (times n (value t) l) _ (of-times n (value t) (of-value t) l) (λ vs r. tt)

of_function : (t : RegInfo) (kept : ℕ) (l : List ℕ) → Sure (function t kept l)
unfolding function
of_function t kept l =
    after (between 0 4096 l) _ (of-tested _ l)
    (λ n r. after (between 0 4096 r) _ (of-tested _ r) (λ slots q. after (between 0 2048 q) _ (of-tested _ q) (λ limit p. of-valued t kept n slots limit p)))

of-function-within : (least most : ℕ) (t : RegInfo) (kept : ℕ) (l : List ℕ) → Sure (function_within least most t kept l)
unfolding function_within
of-function-within least most t kept l =
    after (between 0 4096 l) _ (of-tested _ l)
    (λ n r. after (between least most r) _ (of-tested _ r) (λ slots q. after (between 0 2048 q) _ (of-tested _ q) (λ limit p. of-valued t kept n slots limit p)))

-- ---- both, and nothing behind them
unless-early : {A : Type 0} (kept : ℕ) (l : List ℕ) (d : Read A) → Sure d → Sure (job.unless_early kept l d)
unless-early kept l d h = either (no (is_setting kept)) _ _ (omega arith) (either (ltb 65536 (length l)) _ _ (omega arith) h)

of-beginning : (kept : ℕ) (l : List ℕ) → Sure (beginning kept l)
unfolding beginning with_function
of-beginning kept l =
    unless-early kept l _
    (after (target l) _ (of-target l) (λ t r. unless (target_refusal t) _ (of-rules t) (after (function t kept r) _ (of_function t kept r) (λ f q. tt))))

of-beginning-within : (least most kept : ℕ) (l : List ℕ) → Sure (beginning_within true least most kept l)
unfolding beginning_within with_function_within
of-beginning-within least most kept l =
    unless-early kept l _
    (after (target l) _ (of-target l)
    (λ t r. unless (target_refusal t) _ (of-rules t) (after (function_within least most t kept r) _ (of-function-within least most t kept r) (λ f q. tt))))

at-end : (x : job.Opened) (r : List ℕ) → Sure (ended x r)
at-end x [] = tt
at-end x (b ∷ r) = omega arith

never-zero : {A : Type 0} (d : Read A) → Sure d → d ≡ refused 0 → ⊥
never-zero d h e = let z : 1 ≤ 0 = subst Sure e h in omega (arith, z)

pub of-opened : (kept : ℕ) (l : List ℕ) → opened kept l ≡ refused 0 → ⊥
unfolding opened
of-opened kept l = never-zero _ (after (beginning kept l) (λ x q. ended x q) (of-beginning kept l) at-end)

pub of-opened-in : (frame : List ℕ) (i kept : ℕ) (l : List ℕ) → opened_in frame i kept l ≡ refused 0 → ⊥
unfolding opened_in
of-opened-in frame i kept l =
    never-zero _ (after (beginning_within true (least_of frame i) (most_of frame i) kept l) (λ x q. ended x q) (of-beginning-within (least_of frame i) (most_of frame i) kept l) at-end)
