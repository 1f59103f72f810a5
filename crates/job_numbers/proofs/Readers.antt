-- Resolving gives 17 or what reading alone gives, and reading alone gives neither 16 nor 17.
use Prim.Native.Nat.{ℕ, zero, suc}
use mathlib.Core.Path.{◌≡◌, refl, ◌∙◌}
use mathlib.Core.Bool.{Bool, true, false}
use mathlib.Core.List.{List, [], ◌∷◌}
use mathlib.Core.Option.{Option, none, some}
use mathlib.Core.Logic.{◌⊎◌, inl, inr}
use lib.Dec.{ltb}
use lib.ListN.{length}
use Rattle.entity.specs.Logic.{pick, no}
use Rattle.reginfo.specs.RegInfo.{RegInfo}
use Rattle.reginfo.specs.Refused.{first_of, target_refusal}
use Rattle.function.specs.Function.{Function, is_setting}
use Rattle.rules.specs.Scratch.{Cache, ScratchAllocator, empty_cache}
use Rattle.rules.specs.Patch.{Patch, answer_of, unless_refused, sorted, patch_conditions, run, resolve_sorted, resolve}
use Rattle.number.specs.Read.{Read, got, refused, then}
use Rattle.reading.specs.Reading.{between, times}
use Rattle.job_target.specs.Target.{target}
use Rattle.job_function.specs.Reads.{value, valued, function}
use Rattle.job_patch.specs.Patches.{unless_given, patch}
use Rattle.job_rules.specs.Job.{Header, Answers, after_read, after_call, after_target, header, patches_by, patches, opening, job_by}
use Rattle.job_rules.proofs.WasRead.{patch-called}
use Rattle.job_numbers.specs.Numbers.{Job, read_patches, read_job, number_of}
use Rattle.job_numbers.specs.Claim.{ReadersAgree}
use Rattle.job_numbers.proofs.Kept.{with_kept, patch-same, call_same}

-- the answers' number is 17 or that of the reading
abbrev Agrees : {A : Type 0} → Option ℕ → Read A → Type 0
Agrees o x = (o ≡ some 17) ⊎ (o ≡ number_of x)

-- what is made of a part has its number
number-made : {A B : Type 0} (x : Read A) (g : A → B) → number_of x ≡ number_of (then x (λ a q. got (g a) q))
number-made (got a q) g = refl
number-made (refused k) g = refl

agrees-made : {A B : Type 0} (o : Option ℕ) (x : Read A) (g : A → B) → Agrees o x → Agrees o (then x (λ a q. got (g a) q))
agrees-made o x g (inl e) = inl e
agrees-made o x g (inr e) = inr (e ∙ number-made x g)

-- ---- the patches, with a setting k
module _ (t : RegInfo) (f : Function) (k : ℕ) where
  called : (p : Patch) (x : Read (List Patch)) (next : Cache → Answers) → ((c : Cache) → Agrees (next c).refusal x)
      → (o : Option ℕ) (m : Option ScratchAllocator)
      → Agrees (after_call (unless_refused o (answer_of m)) next).refusal (unless_given o (then x (λ ps q. got (p ∷ ps) q)))
  called p x next on (some n) m = inr refl
  called p x next on none none = inl refl
  called p x next on none (some m) = agrees-made (next m.cache).refusal x (λ ps. p ∷ ps) (on m.cache)

  patches-agree : (n : ℕ) (c : Cache) (l : List ℕ) → Agrees (patches t (with_kept f k) n c l).refusal (read_patches t f n l)
  unfolding patches_by read_patches resolve_sorted
  patches-agree zero c [] = inr refl
  patches-agree zero c (b ∷ l) = inr refl
  patches-agree (suc n) c l = rw (patch-same t f k l) (go (patch t f l) refl (λ c' r. patches-agree n c' r))
    where
      go : (x : Read Patch) → patch t f l ≡ x → ((c' : Cache) (r : List ℕ) → Agrees (patches t (with_kept f k) n c' r).refusal (read_patches t f n r))
          → Agrees (after_read x (λ p r. after_call (resolve t (with_kept f k) p 1024 c) (λ c'. patches t (with_kept f k) n c' r))).refusal
          (then x (λ p r. unless_given (first_of (patch_conditions t f p 1024 (sorted t f p))) (then (read_patches t f n r) (λ ps q. got (p ∷ ps) q))))
      go (refused j) is on = inr refl
      go (got p r) is on =
          rw (patch-called t (with_kept f k) l p r (patch-same t f k l ∙ is) 1024 c, call_same t f k p 1024)
          (called p (read_patches t f n r) (λ c'. patches t (with_kept f k) n c' r) (λ c'. on c' r)
          (first_of (patch_conditions t f p 1024 (sorted t f p))) (run t (with_kept f k) p (sorted t (with_kept f k) p) c))

-- ---- the job
-- of what two readings have in common
lift : {A B : Type 0} (P : Read B → Read B → Type 0) → ((j : ℕ) → P (refused j) (refused j)) → (d : Read A) (g h : A → List ℕ → Read B)
    → ((x : A) (r : List ℕ) → P (g x r) (h x r)) → P (then d g) (then d h)
lift P no (got x r) g h on = on x r
lift P no (refused j) g h on = no j

abbrev jobs : Read Header → Read Job
jobs x =
    then x
    (λ h r. then (read_patches h.target h.function h.patches r)
    (λ ps q. got (record { target = h.target; function = h.function; patches = ps }) q))

abbrev Both : Read Header → Read Header → Type 0
Both x y = Agrees (after_read x (λ h r. patches h.target h.function h.patches empty_cache r)).refusal (jobs y)

abbrev headed : RegInfo → Function → List ℕ → Read Header
headed t f q = then (between 1 1024 q) (λ n p. got (record { target = t; function = f; patches = n }) p)

module _ (k : ℕ) (t : RegInfo) where
  abbrev P : Read Function → Read Function → Type 0
  P x y = Both (then x (λ f q. headed t f q)) (then y (λ f q. headed t f q))

  functions : (l : List ℕ) → Both (after_target t k l) (after_target t 1 l)
  unfolding after_target function valued
  functions l =
      lift P (λ j. inr refl) (between 0 4096 l) _ _
      (λ n r. lift P (λ j. inr refl) (between 0 4096 r) _ _
      (λ slots q. lift P (λ j. inr refl) (between 0 2048 q) _ _
      (λ limit p. lift P (λ j. inr refl) (times n (value t) p) _ _
      (λ vs o. lift Both (λ j. inr refl) (between 1 1024 o) _ _
      (λ m i. agrees-made _ (read_patches t (record { values = vs; slots = slots; limit = limit; kept = 1 }) m i) _
      (patches-agree t (record { values = vs; slots = slots; limit = limit; kept = 1 }) k m empty_cache i))))))

setting : (k : ℕ) → (k ≡ 1) ⊎ (k ≡ 2) → is_setting k ≡ true
unfolding is_setting
setting k (inl e) = rw e
setting k (inr e) = rw e

pub readers-agree : ReadersAgree
unfolding job_by read_job opening header is_setting
readers-agree k l s = rw (setting k s) (early (ltb 65536 (length l)))
  where
    ruled : (t : RegInfo) (r : List ℕ) (o : Option ℕ) → Both (unless_given o (after_target t k r)) (unless_given o (after_target t 1 r))
    ruled t r (some n) = inr refl
    ruled t r none = functions k t r

    early : (b : Bool)
        → Both (pick b (refused 2) (then (target l) (λ t r. unless_given (target_refusal t) (after_target t k r))))
        (pick b (refused 2) (then (target l) (λ t r. unless_given (target_refusal t) (after_target t 1 r))))
    early true = inr refl
    early false = lift Both (λ j. inr refl) (target l) _ _ (λ t r. ruled t r (target_refusal t))
