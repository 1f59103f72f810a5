-- Demand 3 of every job.
use Prim.Native.Nat.{ℕ, zero, suc, ◌-◌}
use mathlib.Core.Path.{◌≡◌, refl}
use mathlib.Core.Bool.{Bool, true, false}
use mathlib.Core.List.{List, [], ◌∷◌}
use mathlib.Core.Option.{Option, none, some}
use native.Mathlib.Omega.{arith}
use lib.Dec.{ltb}
use lib.ListN.{length}
use Rattle.entity.specs.Logic.{pick, no}
use Rattle.reginfo.specs.RegInfo.{RegInfo}
use Rattle.reginfo.specs.Refused as target
use Rattle.reginfo.specs.Refused.{target_refusal}
use Rattle.function.specs.Function.{Function, is_setting}
use Rattle.function.specs.Refused as function
use Rattle.rules.specs.Scratch.{Cache, empty_cache}
use Rattle.rules.specs.Patch.{Patch, Answer, Call, resolve, cache_after}
use Rattle.rules.specs.Patch as rules
use Rattle.machine.specs.Claim.{Answered, Claim}
use Rattle.machine.proofs.Demand.{demand-3-of-calls}
use Rattle.number.specs.Read.{Read, got, refused, then}
use Rattle.reading.specs.Reading.{between}
use Rattle.job_target.specs.Target.{target}
use Rattle.job_function.specs.Reads.{function}
use Rattle.job_function.proofs.Accepted.{read-accepted}
use Rattle.job_patch.specs.Patches.{unless_given, patch}
use Rattle.job_rules.specs.Job.{Resolver, Header, Done, Answers, after_read, after_call, left_over, after_target, header, opening, patches_by, job_by}
use Rattle.job_rules.specs.Claim.{Ends, all_done, bytes_left, not-read, not-resolved, OneByOne, Opened, EveryJobBy, EveryJob, AllDoneBy, AllDone}

-- calls that keep what is asked of a cache: each is as demand 3 says, and leaves a cache of which the same is known
pub record Keeps (by : Resolver) (t : RegInfo) (f : Function) (Good : Cache → Type 0) : Type 0 where
  pub first : Good empty_cache
  pub one : (p : Patch) (c : Cache) → Good c → Answered t f p (by t f p 1024 c) × Good (cache_after c (by t f p 1024 c))

module _ (by : Resolver) (t : RegInfo) (f : Function) where
  abbrev Right : Answers → ℕ → Cache → List ℕ → Type 0
  Right a n c l = OneByOne by t f a.done a.refusal n c l

  ended : (c : Cache) (l : List ℕ) → Right (left_over l) 0 c l
  ended c [] = all_done refl refl refl
  ended c (b ∷ l) = bytes_left refl (omega arith) refl

  module _ (Good : Cache → Type 0) (keeps : Keeps by t f Good) where
    -- a patch that was read, and its call
    called : (n : ℕ) (c : Cache) (l : List ℕ) (p : Patch) (r : List ℕ) → patch t f l ≡ got p r → (a : Answer) → by t f p 1024 c ≡ a → Answered t f p a → Good (cache_after c a)
        → (next : Cache → Answers) → ((c' : Cache) → Good c' → Right (next c') n c' r) → Right (after_call a next) (suc n) c l
    called n c l p r e (rules.refused k) is ok more next on = not-resolved k p r (omega arith) e is refl
    called n c l p r e (rules.resolved es c' m) is ok more next on =
        let one : suc n - 1 ≡ n = omega arith in
        (omega arith, record { p = p; rest = r; after = c'; reads = e; calls = is; made = refl; accepted = ok }, rw one (on c' more))

    right : (n : ℕ) (c : Cache) → Good c → (l : List ℕ) → Right (patches_by by t f n c l) n c l
    unfolding patches_by
    right zero c good l = ended c l
    right (suc n) c good l = go (patch t f l) refl (λ c' more r. right n c' more r)
      where
        go : (x : Read Patch) → patch t f l ≡ x → ((c' : Cache) → Good c' → (r : List ℕ) → Right (patches_by by t f n c' r) n c' r)
            → Right (after_read x (λ p r. after_call (by t f p 1024 c) (λ c'. patches_by by t f n c' r))) (suc n) c l
        go (refused k) e on = not-read k (omega arith) e refl
        go (got p r) e on =
            let w = keeps.one p c good in
            called n c l p r e (by t f p 1024 c) refl w.0 w.1 (λ c'. patches_by by t f n c' r) (λ c' more. on c' more r)

  -- nothing is refused: no patch is left
  all_of : (ds : List Done) (n : ℕ) (c : Cache) (l : List ℕ) → OneByOne by t f ds none n c l → length ds ≡ n
  all_of [] n c l h = go h
    where
      go : Ends by t f n c l none → 0 ≡ n
      go (all_done z e k) = cc
      go (bytes_left z e k) = absurd (let z : ◌≡◌ {A = ℕ} 0 1 = cc in omega arith)
      go (not-read m z e k) = absurd (let z : ◌≡◌ {A = ℕ} 0 1 = cc in omega arith)
      go (not-resolved m p r z e i k) = absurd (let z : ◌≡◌ {A = ℕ} 0 1 = cc in omega arith)
  all_of (d ∷ ds) n c l h = omega (arith, h.0, all_of ds (n - 1) h.1.after h.1.rest h.2)

-- whatever answers the calls, if it keeps something of the caches of every accepted function
module _ (by : Resolver) (Good : RegInfo → Function → Cache → Type 0) (keeps : (t : RegInfo) (f : Function) → target.Accepted t → function.Accepted t f → Keeps by t f (Good t f)) where
  -- the answers, from the opening on
  abbrev answers : Read Header → Answers
  answers x = after_read x (λ h r. patches_by by h.target h.function h.patches empty_cache r)

  abbrev RightFrom : Read Header → Type 0
  RightFrom x = Opened by x (answers x)

  counted : (t : RegInfo) (f : Function) → target.Accepted t → function.Accepted t f → (x : Read ℕ) → RightFrom (then x (λ n p. got (record { target = t; function = f; patches = n }) p))
  counted t f ta fa (refused k) = (refl, refl)
  counted t f ta fa (got n p) = let w = keeps t f ta fa in right by t f (Good t f) w n empty_cache w.first p

  -- with a setting of one or two
  module _ (kept : ℕ) (set : is_setting kept ≡ true) where
    functions : (t : RegInfo) → target_refusal t ≡ none → (l : List ℕ) → RightFrom (after_target t kept l)
    unfolding after_target
    functions t ok l = go (function t kept l) refl
      where
        go : (x : Read Function) → function t kept l ≡ x → RightFrom (then x (λ f q. then (between 1 1024 q) (λ n p. got (record { target = t; function = f; patches = n }) p)))
        go (refused k) e = (refl, refl)
        go (got f q) e = counted t f ok (read-accepted t kept set l f q e).0 (between 1 1024 q)

    targets : (x : Read RegInfo) → RightFrom (then x (λ t r. unless_given (target_refusal t) (after_target t kept r)))
    targets (refused k) = (refl, refl)
    targets (got t r) = go (target_refusal t) refl
      where
        go : (o : Option ℕ) → target_refusal t ≡ o → RightFrom (unless_given o (after_target t kept r))
        go (some k) e = (refl, refl)
        go none e = functions t e r

  pub every-job-by : EveryJobBy by
  unfolding opening header job_by
  every-job-by kept l = go (is_setting kept) refl (ltb 65536 (length l))
    where
      go : (a : Bool) → is_setting kept ≡ a → (b : Bool) → RightFrom (pick (no a) (refused 22) (pick b (refused 2) (then (target l) (λ t r. unless_given (target_refusal t) (after_target t kept r)))))
      go false set b = (refl, refl)
      go true set true = (refl, refl)
      go true set false = targets kept set (target l)

  pub no-patch-left-by : AllDoneBy by
  no-patch-left-by kept l h r e k = all_of by h.target h.function (job_by by kept l).done h.patches empty_cache r (rw (e, k) at (every-job-by kept l))

-- by `resolve`: demand 3 of every list of calls from the cache on
abbrev All : RegInfo → Function → Cache → Type 0
All t f c = (calls : List Call) → Claim t f calls c

resolve-keeps : (t : RegInfo) (f : Function) → target.Accepted t → function.Accepted t f → Keeps resolve t f (All t f)
resolve-keeps t f ta fa =
    record {
      first = demand-3-of-calls t f ta fa;
      one = λ p c all. ((all (record { patch = p; room = 1024 } ∷ [])).0, λ calls. (all (record { patch = p; room = 1024 } ∷ calls)).1);
    }

pub every-job : EveryJob
every-job = every-job-by resolve All resolve-keeps

pub no-patch-left : AllDone
no-patch-left = no-patch-left-by resolve All resolve-keeps
