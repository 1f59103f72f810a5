-- 01, Refused jobs, of a job's bytes: "1, 2, 3 as read, the total of order entries with the count that raises it; 4 to 7 rising after the
-- target; each entry 15, 2, 9, 10, 11, 12 (9 for a rebuild class when the function is read); then 13, 14, 16, 17; 8 last." 02 h: 21 "tested
-- straight after 12"; 02 i: 22 "tested before the job".
-- For each part of a job, the conditions of reading it, in their order. What stands behind a part has conditions where the part was read.
use Rattle.std.specs.Prelude.{ℕ, zero, suc, ◌+◌, ◌<◌, ◌≤◌, ◌≡◌, Bool, true, false, List, [], ◌∷◌, ◌++◌, ◌↔◌, eqb, ltb, leb, length, drop}
use Rattle.std.proofs.Math.Option.{none, some}
use Rattle.entity.specs.Logic.{pick, and, no, any_in, has}
use Rattle.entity.specs.Place.{place_at}
use Rattle.reginfo.specs.RegInfo.{RegInfo, num_banks, num_classes, bank_for_class}
use Rattle.reginfo.specs.Refused.{Condition, refused_if, outside_limits, listed_twice, unequal_widths, foreign_member, shared_memory, unfit_class}
use Rattle.reginfo.specs.Given.{Given, NoneHolds}
use Rattle.function.specs.Function.{Function, num_values, is_setting}
use Rattle.rules.specs.Scratch.{Cache, empty_cache}
use Rattle.rules.specs.Patch.{Patch, Sorted, nothing_sorted, Answer, names_place, entry_conditions, add, sorted, bound, patch_conditions, run, resolve}
use Rattle.rules.specs.Patch as rules
use Rattle.rules.specs.Refusals.{ran_out}
use Rattle.number.specs.Read.{Read, got, refused}
use Rattle.number.specs.Number.{number, encoded, Bytes}
use Rattle.reading.specs.Reading.{tested, times, distinct}
use Rattle.job_target.specs.Target.{bank, reg, class, unknown_class, target}
use Rattle.job_function.specs.Reads.{value, function}
use Rattle.job_patch.specs.Patches.{rising, place, entry, patch}
use Rattle.job_rules.specs.Job.{Resolver, opening, job_by}

-- ---- one part after another
-- the conditions of what is read next, where this part was read
-- Where a part is not read, a number before it was given already: what would stand behind it has no meaning.
abbrev pub after_got : {A : Type 0} → Read A → (A → List ℕ → List Condition) → List Condition
after_got (got x r) next = next x r
after_got (refused k) next = []

abbrev pub unread : {A : Type 0} → Read A → Bool
unread (got x r) = false
unread (refused k) = true

-- 1: no number stands there
unfoldable pub in_number : List ℕ → List Condition
in_number l = refused_if 1 (unread (number l)) ∷ []

abbrev pub after_number : List ℕ → (ℕ → List ℕ → List Condition) → List Condition
after_number l next = in_number l ++ after_got (number l) next

-- 2: a number that does not pass its test
unfoldable pub in_tested : (ℕ → Bool) → List ℕ → List Condition
in_tested ok l = after_number l (λ n r. refused_if 2 (no (ok n)) ∷ [])

abbrev pub after_tested : (ℕ → Bool) → List ℕ → (ℕ → List ℕ → List Condition) → List Condition
after_tested ok l next = in_tested ok l ++ after_got (tested ok l) next

abbrev pub after_below : ℕ → List ℕ → (ℕ → List ℕ → List Condition) → List Condition
after_below n = after_tested (λ x. ltb x n)

abbrev pub after_between : ℕ → ℕ → List ℕ → (ℕ → List ℕ → List Condition) → List Condition
after_between low high = after_tested (λ x. and (leb low x) (leb x high))

-- n parts, each with the conditions `of` it
unfoldable pub in_times : {A : Type 0} → ℕ → (List ℕ → Read A) → (List ℕ → List Condition) → List ℕ → List Condition
in_times zero one of l = []
in_times (suc n) one of l = of l ++ after_got (one l) (λ x r. in_times n one of r)

-- 3: listed `before` already
unfoldable pub in_distinct : ℕ → ℕ → List ℕ → List ℕ → List Condition
in_distinct zero limit before l = []
in_distinct (suc n) limit before l = after_below limit l (λ x r. refused_if 3 (has x before) ∷ in_distinct n limit (x ∷ before) r)

-- ---- the target
unfoldable pub in_bank : List ℕ → List Condition
in_bank l = after_between 0 31 l (λ size r. after_number r (λ top q. in_number q))

unfoldable pub in_reg : ℕ → ℕ → List ℕ → List Condition
in_reg units banks l = after_below 2 l (λ memory r. after_below banks r (λ b q. after_between 1 8 q (λ n p. in_distinct n units [] p)))

-- "the total of order entries with the count that raises it"
unfoldable pub in_class : ℕ → ℕ → ℕ → List ℕ → List Condition
in_class banks regs total l =
    after_below banks l
    (λ b r. after_below 2 r
    (λ slots q. after_number q
    (λ n p. in_distinct n regs [] p ++ after_got (distinct n regs [] p)
    (λ members o. after_tested (λ m. leb (total + m) 4096) o
    (λ m k. in_distinct m regs [] k)))))

unfoldable pub in_classes : ℕ → ℕ → ℕ → ℕ → List ℕ → List Condition
in_classes zero banks regs total l = []
in_classes (suc n) banks regs total l = in_class banks regs total l ++ after_got (class banks regs total l) (λ c r. in_classes n banks regs c.total r)

-- "A bank's class numbers are tested when the class count is read (2)."
unfoldable pub in_target : List ℕ → List Condition
in_target l =
    after_between 1 512 l
    (λ units r. after_between 1 8 r
    (λ n q. in_times n bank in_bank q ++ after_got (times n bank q)
    (λ banks p. after_between 1 512 p
    (λ m o. in_times m (reg units n) (in_reg units n) o ++ after_got (times m (reg units n) o)
    (λ regs k. after_tested (λ c. and (and (leb 1 c) (leb c 64)) (no (any_in (unknown_class c) banks))) k
    (λ c j. in_classes c n m 0 j))))))

-- "4 to 7 rising after the target"
unfoldable pub of_target : RegInfo → List Condition
of_target t = refused_if 4 (unequal_widths t) ∷ refused_if 5 (foreign_member t) ∷ refused_if 6 (shared_memory t) ∷ refused_if 7 (unfit_class t) ∷ []

-- ---- the function: "9 for a rebuild class when the function is read"
unfoldable pub in_remat_value : RegInfo → ℕ → List ℕ → List Condition
in_remat_value t b l = after_below (num_classes t) l (λ c r. refused_if 9 (no (eqb (bank_for_class t c) b)) ∷ [])

unfoldable pub in_value : RegInfo → List ℕ → List Condition
in_value t l = after_below (num_banks t) l (λ b r. after_below 3 r (λ cost q. pick (eqb cost 0) [] (in_remat_value t b q)))

unfoldable pub in_function : RegInfo → List ℕ → List Condition
in_function t l =
    after_between 0 4096 l
    (λ n r. after_between 0 4096 r
    (λ slots q. after_between 0 2048 q
    (λ limit p. in_times n (value t) (in_value t) p)))

-- ---- the patches
-- 3: "free units not rising"
unfoldable pub in_rising : ℕ → ℕ → ℕ → List ℕ → List Condition
in_rising zero limit least l = []
in_rising (suc n) limit least l = after_below limit l (λ u r. refused_if 3 (ltb u least) ∷ in_rising n limit (u + 1) r)

-- the conditions of what follows a call, where it was not refused
abbrev pub after_resolved : Answer → (Cache → List Condition) → List Condition
after_resolved (rules.refused k) next = []
after_resolved (rules.resolved es c n) next = next c

module _ (t : RegInfo) (f : Function) where
  unfoldable pub in_place : List ℕ → List Condition
  in_place l = after_number l (λ c r. refused_if 2 (no (names_place t f (place_at c))) ∷ [])

  unfoldable pub in_entry : List ℕ → List Condition
  in_entry l =
      after_below 2 l
      (λ kind r. pick (eqb kind 0)
      (in_place r ++ after_got (place t f r) (λ s q. in_place q ++ after_got (place t f q) (λ d p. in_tested (λ x. ltb x (num_values f)) p)))
      (in_place r ++ after_got (place t f r) (λ d q. in_tested (λ x. ltb x (num_values f)) q)))

  -- "each entry 15, 2, 9, 10, 11, 12", and 21: 15 "before its bytes are read", 1 and 2 as they are, then the others of its conditions
  unfoldable pub in_entries : ℕ → Sorted → List ℕ → List Condition
  in_entries zero a l = []
  in_entries (suc n) a l =
      refused_if 15 (leb 128 a.count)
      ∷ (in_entry l ++ after_got (entry t f l)
      (λ e r. drop 2 (entry_conditions t f a e) ++ in_entries n (add t f e a) r))

  unfoldable pub in_patch : List ℕ → List Condition
  in_patch l =
      after_number l
      (λ k r. in_rising k t.units 0 r ++ after_got (rising k t.units 0 r)
      (λ free q. after_number q
      (λ n p. in_entries n nothing_sorted p)))

-- whether a patch's call from a cache on is out of slots: by `resolve`, where its run is
abbrev pub Out : Type 0
Out = RegInfo → Function → Patch → Cache → Bool

abbrev pub runs_out : Out
runs_out t f p c = ran_out (run t f p (sorted t f p) c)

-- "then 13, 14, 16, 17"
unfoldable pub of_call : Out → RegInfo → Function → Patch → Cache → List Condition
of_call out t f p c = patch_conditions t f p 1024 (sorted t f p) ++ (refused_if 17 (out t f p c) ∷ [])

-- one patch after the other, "8 last"
unfoldable pub in_patches_by : Resolver → Out → RegInfo → Function → ℕ → Cache → List ℕ → List Condition
in_patches_by by out t f zero c l = refused_if 8 (ltb 0 (length l)) ∷ []
in_patches_by by out t f (suc n) c l =
    in_patch t f l ++ after_got (patch t f l) (λ p r. of_call out t f p c ++ after_resolved (by t f p 1024 c) (λ c'. in_patches_by by out t f n c' r))

abbrev pub in_patches : RegInfo → Function → ℕ → Cache → List ℕ → List Condition
in_patches t f n c l = in_patches_by resolve runs_out t f n c l

-- ---- the job
-- 22: "a setting other than 1 or 2, tested before the job"; 2: "a job over 65,536 bytes, tested first"
unfoldable pub in_opening : (kept : ℕ) → List ℕ → List Condition
in_opening kept l =
    refused_if 22 (no (is_setting kept))
    ∷ refused_if 2 (ltb 65536 (length l))
    ∷ (in_target l ++ after_got (target l)
    (λ t r. of_target t ++ (in_function t r ++ after_got (function t kept r)
    (λ f q. in_tested (λ x. and (leb 1 x) (leb x 1024)) q))))

unfoldable pub job_conditions_by : Resolver → Out → (kept : ℕ) → List ℕ → List Condition
job_conditions_by by out kept l = in_opening kept l ++ after_got (opening kept l) (λ h r. in_patches_by by out h.target h.function h.patches empty_cache r)

abbrev pub job_conditions : (kept : ℕ) → List ℕ → List Condition
job_conditions kept l = job_conditions_by resolve runs_out kept l

-- "Each is given when its condition holds and none earlier does, else not."
pub record RefusalsBy (by : Resolver) (out : Out) (kept : ℕ) (l : List ℕ) : Type 0 where
  pub given : (n : ℕ) → ((job_by by kept l).refusal ≡ some n) ↔ Given (job_conditions_by by out kept l) n
  pub taken : ((job_by by kept l).refusal ≡ none) ↔ NoneHolds (job_conditions_by by out kept l)

abbrev pub Refusals : (kept : ℕ) → List ℕ → Type 0
Refusals kept l = RefusalsBy resolve runs_out kept l

-- 1, said of the bytes alone: they do not begin with a number in its form
abbrev pub NoNumber : Type 0
NoNumber = (l : List ℕ) → Bytes l → (unread (number l) ≡ true) ↔ ((n : ℕ) (r : List ℕ) → n < 4294967296 → l ≡ encoded n ++ r → ⊥)

-- "1, 2, 3 as read": of a target that was read neither 2 nor 3 is left
abbrev pub TargetRead : Type 0
TargetRead = (l : List ℕ) (t : RegInfo) (r : List ℕ) → target l ≡ got t r → (outside_limits t ≡ false) × (listed_twice t ≡ false)

-- 16 holds of no patch that is read: the list lent to a call has room for the bound of demand 3
abbrev pub RoomForEvery : Type 0
RoomForEvery = (t : RegInfo) (f : Function) (l : List ℕ) (p : Patch) (r : List ℕ) → patch t f l ≡ got p r → bound (sorted t f p) ≤ 1024
