-- Every condition of a job has one of 01's numbers, so its refusal has.
use Prim.Native.Nat.{ℕ, zero, suc, ◌+◌, ◌<◌, ◌≤◌}
use mathlib.Core.Path.{◌≡◌, refl, subst}
use mathlib.Core.Bool.{Bool, true, false}
use mathlib.Core.List.{List, [], ◌∷◌, ◌++◌}
use native.Mathlib.Omega.{arith}
use borrow.Author.Tests.{leb-true, eqb-true}
use lib.Dec.{eqb, leb}
use lib.ListN.{length, drop}
use Rattle.entity.specs.Logic.{pick, and, or}
use Rattle.entity.proofs.Laws.{and-true}
use Rattle.reginfo.specs.RegInfo.{RegInfo}
use Rattle.reginfo.specs.Refused.{Condition}
use Rattle.reginfo.specs.Given.{condition_at}
use Rattle.function.specs.Function.{Function}
use Rattle.rules.specs.Scratch.{Cache, empty_cache}
use Rattle.rules.specs.Patch.{Entry, move, remat, Patch, Sorted, nothing_sorted, Answer, entry_conditions, add, patch_conditions, resolve}
use Rattle.rules.specs.Patch as rules
use Rattle.number.specs.Read.{Read, got, refused}
use Rattle.number.specs.Number.{number}
use Rattle.reading.specs.Reading.{tested, times, distinct}
use Rattle.job_target.specs.Target.{bank, reg, class, target}
use Rattle.job_function.specs.Reads.{value, function}
use Rattle.job_patch.specs.Patches.{rising, place, entry, patch}
use Rattle.job_rules.specs.Job.{opening}
use Rattle.job_rules.specs.Conditions.{after_got, in_number, after_number, in_tested, after_tested, in_times, in_distinct, in_bank, in_reg, in_class, in_classes, in_target, of_target, in_remat_value, in_value, in_function, in_rising, after_resolved, in_place, in_entry, in_entries, in_patch, runs_out, of_call, in_patches_by, in_patches, in_opening, job_conditions_by, job_conditions}
use Rattle.job_rules.proofs.Conditions.{refusals}
use Rattle.answer.specs.Words.{OfTable, Numbered}

abbrev pub Numbers : List Condition → Type 0
Numbers [] = Unit {0}
Numbers (c ∷ l) = OfTable c.number × Numbers l

-- ---- one part after another
pub both : (a b : List Condition) → Numbers a → Numbers b → Numbers (a ++ b)
both [] b p q = q
both (c ∷ a) b p q = (p.0, both a b p.1 q)

after : {A : Type 0} (x : Read A) (next : A → List ℕ → List Condition) → ((a : A) (r : List ℕ) → Numbers (next a r)) → Numbers (after_got x next)
after (got a r) next h = h a r
after (refused k) next h = tt

pub part : {A : Type 0} (a : List Condition) (x : Read A) (next : A → List ℕ → List Condition) → Numbers a → ((a : A) (r : List ℕ) → Numbers (next a r)) → Numbers (a ++ after_got x next)
part a x next p h = both a (after_got x next) p (after x next h)

-- the least and the greatest of them
pub table-bounds : (n : ℕ) → OfTable n → (1 ≤ n) × (n ≤ 22)
table-bounds n h = go (and (leb 1 n) (leb n 17)) refl h
  where
    beyond : (b : Bool) → eqb n 21 ≡ b → or b (eqb n 22) ≡ true → (1 ≤ n) × (n ≤ 22)
    beyond true e q = let z : n ≡ 21 = eqb-true n 21 e in (omega arith, omega arith)
    beyond false e q = let z : n ≡ 22 = eqb-true n 22 q in (omega arith, omega arith)

    go : (b : Bool) → and (leb 1 n) (leb n 17) ≡ b → or b (or (eqb n 21) (eqb n 22)) ≡ true → (1 ≤ n) × (n ≤ 22)
    go true e q = let w = and-true (leb 1 n) (leb n 17) e in (leb-true 1 n w.0, omega (arith, leb-true n 17 w.1))
    go false e q = beyond (eqb n 21) refl q

either : (b : Bool) (x y : List Condition) → Numbers x → Numbers y → Numbers (pick b x y)
either true x y p q = p
either false x y p q = q

in-number : (l : List ℕ) → Numbers (in_number l)
unfolding in_number
in-number l = (refl, tt)

after-number : (l : List ℕ) (next : ℕ → List ℕ → List Condition) → ((n : ℕ) (r : List ℕ) → Numbers (next n r)) → Numbers (after_number l next)
after-number l next h = part (in_number l) (number l) next (in-number l) h

in-tested : (ok : ℕ → Bool) (l : List ℕ) → Numbers (in_tested ok l)
unfolding in_tested
in-tested ok l = after-number l _ (λ n r. (refl, tt))

after-tested : (ok : ℕ → Bool) (l : List ℕ) (next : ℕ → List ℕ → List Condition) → ((n : ℕ) (r : List ℕ) → Numbers (next n r)) → Numbers (after_tested ok l next)
after-tested ok l next h = part (in_tested ok l) (tested ok l) next (in-tested ok l) h

in-times : {A : Type 0} (n : ℕ) (d : List ℕ → Read A) (of : List ℕ → List Condition) → ((l : List ℕ) → Numbers (of l)) → (l : List ℕ) → Numbers (in_times n d of l)
unfolding in_times
in-times zero d of h l = tt
in-times (suc n) d of h l = part (of l) (d l) _ (h l) (λ x r. in-times n d of h r)

in-distinct : (n limit : ℕ) (before l : List ℕ) → Numbers (in_distinct n limit before l)
unfolding in_distinct
in-distinct zero limit before l = tt
in-distinct (suc n) limit before l = after-tested _ l _ (λ x r. (refl, in-distinct n limit (x ∷ before) r))

-- ---- the target
in-bank : (l : List ℕ) → Numbers (in_bank l)
unfolding in_bank
in-bank l = after-tested _ l _ (λ size r. after-number r _ (λ top q. in-number q))

in-reg : (units banks : ℕ) (l : List ℕ) → Numbers (in_reg units banks l)
unfolding in_reg
in-reg units banks l = after-tested _ l _ (λ memory r. after-tested _ r _ (λ b q. after-tested _ q _ (λ n p. in-distinct n units [] p)))

in-class : (banks regs total : ℕ) (l : List ℕ) → Numbers (in_class banks regs total l)
unfolding in_class
in-class banks regs total l =
    after-tested _ l _
    (λ b r. after-tested _ r _
    (λ slots q. after-number q _
    (λ n p. part (in_distinct n regs [] p) (distinct n regs [] p) _ (in-distinct n regs [] p)
    (λ members o. after-tested _ o _
    (λ m k. in-distinct m regs [] k)))))

in-classes : (n banks regs total : ℕ) (l : List ℕ) → Numbers (in_classes n banks regs total l)
unfolding in_classes
in-classes zero banks regs total l = tt
in-classes (suc n) banks regs total l =
    part (in_class banks regs total l) (class banks regs total l) _ (in-class banks regs total l) (λ c r. in-classes n banks regs c.total r)

in-target : (l : List ℕ) → Numbers (in_target l)
unfolding in_target
in-target l =
    after-tested _ l _
    (λ units r. after-tested _ r _
    (λ n q. part (in_times n bank in_bank q) (times n bank q) _ (in-times n bank in_bank in-bank q)
    (λ banks p. after-tested _ p _
    (λ m o. part (in_times m (reg units n) (in_reg units n) o) (times m (reg units n) o) _ (in-times m (reg units n) (in_reg units n) (in-reg units n) o)
    (λ regs k. after-tested _ k _
    (λ c j. in-classes c n m 0 j))))))

of-target : (t : RegInfo) → Numbers (of_target t)
unfolding of_target
of-target t = (refl, (refl, (refl, (refl, tt))))

-- ---- the function
in-remat-value : (t : RegInfo) (b : ℕ) (l : List ℕ) → Numbers (in_remat_value t b l)
unfolding in_remat_value
in-remat-value t b l = after-tested _ l _ (λ c r. (refl, tt))

in-value : (t : RegInfo) (l : List ℕ) → Numbers (in_value t l)
unfolding in_value
in-value t l = after-tested _ l _ (λ b r. after-tested _ r _ (λ cost q. either (eqb cost 0) [] (in_remat_value t b q) tt (in-remat-value t b q)))

in-function : (t : RegInfo) (l : List ℕ) → Numbers (in_function t l)
unfolding in_function
in-function t l =
    after-tested _ l _
    (λ n r. after-tested _ r _
    (λ slots q. after-tested _ q _
    (λ limit p. in-times n (value t) (in_value t) (in-value t) p)))

-- ---- the patches
in-rising : (n limit least : ℕ) (l : List ℕ) → Numbers (in_rising n limit least l)
unfolding in_rising
in-rising zero limit least l = tt
in-rising (suc n) limit least l = after-tested _ l _ (λ u r. (refl, in-rising n limit (u + 1) r))

pub after-resolved : (a : Answer) (next : Cache → List Condition) → ((c : Cache) → Numbers (next c)) → Numbers (after_resolved a next)
after-resolved (rules.refused k) next h = tt
after-resolved (rules.resolved es c n) next h = h c

module _ (t : RegInfo) (f : Function) where
  in_place_lem : (l : List ℕ) → Numbers (in_place t f l)
  unfolding in_place
  in_place_lem l = after-number l _ (λ c r. (refl, tt))

  after-place : (l : List ℕ) (next : _ → List ℕ → List Condition) → ((p : _) (r : List ℕ) → Numbers (next p r)) → Numbers (in_place t f l ++ after_got (place t f l) next)
  after-place l next h = part (in_place t f l) (place t f l) next (in_place_lem l) h

  in_entry_lem : (l : List ℕ) → Numbers (in_entry t f l)
  unfolding in_entry
  in_entry_lem l =
      after-tested _ l _
      (λ kind r. either (eqb kind 0) _ _
      (after-place r _ (λ s q. after-place q _ (λ d p. in-tested _ p)))
      (after-place r _ (λ d q. in-tested _ q)))

  others : (a : Sorted) (e : Entry) (l : List Condition) → Numbers l → Numbers (drop 2 (entry_conditions t f a e) ++ l)
  unfolding entry_conditions
  others a (move s d v) l p = (refl, (refl, (refl, (refl, p))))
  others a (remat d v) l p = (refl, (refl, (refl, p)))

  in-entries : (n : ℕ) (a : Sorted) (l : List ℕ) → Numbers (in_entries t f n a l)
  unfolding in_entries
  in-entries zero a l = tt
  in-entries (suc n) a l =
      (refl, part (in_entry t f l) (entry t f l) _ (in_entry_lem l) (λ e r. others a e (in_entries t f n (add t f e a) r) (in-entries n (add t f e a) r)))

  pub in-patch : (l : List ℕ) → Numbers (in_patch t f l)
  unfolding in_patch
  in-patch l =
      after-number l _
      (λ k r. part (in_rising k t.units 0 r) (rising k t.units 0 r) _ (in-rising k t.units 0 r)
      (λ free q. after-number q _
      (λ n p. in-entries n nothing_sorted p)))

  of-call : (p : Patch) (c : Cache) → Numbers (of_call runs_out t f p c)
  unfolding of_call patch_conditions
  of-call p c = (refl, (refl, (refl, (refl, tt))))

  in-patches : (n : ℕ) (c : Cache) (l : List ℕ) → Numbers (in_patches t f n c l)
  unfolding in_patches_by
  in-patches zero c l = (refl, tt)
  in-patches (suc n) c l =
      part (in_patch t f l) (patch t f l) _ (in-patch l)
      (λ p r. both (of_call runs_out t f p c) _ (of-call p c) (after-resolved (resolve t f p 1024 c) _ (λ c'. in-patches n c' r)))

-- ---- the job
pub in_opening_lem : (kept : ℕ) (l : List ℕ) → Numbers (in_opening kept l)
unfolding in_opening
in_opening_lem kept l = (
  refl,
  (
    refl,
    part (in_target l) (target l) _ (in-target l)
        (λ t r. both (of_target t) _ (of-target t)
        (part (in_function t r) (function t kept r) _ (in-function t r) (λ f q. in-tested _ q))),
  ),
)

in-job : (kept : ℕ) (l : List ℕ) → Numbers (job_conditions kept l)
unfolding job_conditions_by
in-job kept l = part (in_opening kept l) (opening kept l) _ (in_opening_lem kept l) (λ h r. in-patches h.target h.function h.patches empty_cache r)

pub at : (l : List Condition) (i : ℕ) → Numbers l → i < length l → OfTable (condition_at l i).number
at [] i p h = absurd (omega arith)
at (c ∷ l) zero p h = p.0
at (c ∷ l) (suc i) p h = at l i p.1 (omega arith)

pub numbered : Numbered
numbered kept l n e =
    let g = ((refusals kept l).given n).0 e in
    subst OfTable g.number (at (job_conditions kept l) g.at (in-job kept l) g.is)
