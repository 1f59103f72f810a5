-- Demand 3 of every whole job at every room.
use Prim.Native.Nat.{ℕ, zero, suc, ◌+◌, ◌-◌, ◌≤◌}
use mathlib.Core.Path.{◌≡◌, refl}
use mathlib.Core.Bool.{Bool, true, false}
use mathlib.Core.List.{List, [], ◌∷◌, ◌++◌}
use mathlib.Core.Option.{none}
use native.Mathlib.Omega.{arith}
use borrow.Author.Tests.{ltb-false}
use lib.Dec.{ltb}
use lib.ListN.{length}
use Rattle.reginfo.specs.RegInfo.{RegInfo}
use Rattle.reginfo.specs.Refused as target
use Rattle.reginfo.specs.Refused.{refused_if, first_of}
use Rattle.function.specs.Function.{Function}
use Rattle.function.specs.Refused as function
use Rattle.rules.specs.Edit.{Edit}
use Rattle.rules.specs.Scratch.{Cache, empty_cache}
use Rattle.rules.specs.Patch.{Patch, nothing_sorted, Answer, cache_after, sorted, bound, free_destination, last_overlaps, patch_conditions}
use Rattle.rules.specs.Patch as rules
use Rattle.rules.specs.Refusals.{entries_conditions}
use Rattle.machine.specs.Claim.{Accepted, Answered}
use Rattle.group_rules.proofs.Lists.{first-both}
use Rattle.number.specs.Read.{Read, got, refused}
use Rattle.job_patch.specs.Patches.{patch}
use Rattle.job_rules.specs.Job.{Resolver, Header, Done, Answers, after_read, after_call, left_over, opening}
use Rattle.job_rules.specs.Conditions.{Out}
use Rattle.job_rules.proofs.Calls.{ExactCalls}
use Rattle.job_rules.proofs.Enough.{opens}
use Rattle.answer.specs.Room.{headless, words_taken, call_in, patches_in, job_in_by}
use Rattle.room_claims.specs.Jobs.{EndsIn, all_done, bytes_left, not-read, not-resolved, OneByOneIn, OpenedIn, EveryJobInBy, AllDoneInBy}

-- calls that keep what is asked of a cache, whatever the room: each is as demand 3 says, and leaves a cache of which the same is known
pub record Keeps (by : Resolver) (t : RegInfo) (f : Function) (Good : Cache → Type 0) : Type 0 where
  pub first : Good empty_cache
  pub one : (p : Patch) (room : ℕ) (c : Cache) → Good c → Answered t f p (by t f p room c) × Good (cache_after c (by t f p room c))

-- a call that is resolved has room for its bound
abbrev pub Asks : Resolver → RegInfo → Function → Type 0
Asks by t f = (p : Patch) (room : ℕ) (c c' : Cache) (es : List Edit) (n : ℕ) → by t f p room c ≡ rules.resolved es c' n → bound (sorted t f p) ≤ room

no-sixteen : (b13 b14 b16 : Bool) → first_of (refused_if 13 b13 ∷ refused_if 14 b14 ∷ refused_if 16 b16 ∷ []) ≡ none → b16 ≡ false
unfolding first_of
no-sixteen true b14 b16 h = let z : ◌≡◌ {A = ℕ} 0 1 = cc in absurd (omega arith)
no-sixteen false true b16 h = let z : ◌≡◌ {A = ℕ} 0 1 = cc in absurd (omega arith)
no-sixteen false false true h = let z : ◌≡◌ {A = ℕ} 0 1 = cc in absurd (omega arith)
no-sixteen false false false h = refl

pub asks : (by : Resolver) (out : Out) (t : RegInfo) (f : Function) → ExactCalls by out t f → Asks by t f
unfolding patch_conditions
asks by out t f exact p room c c' es n e =
    let q : first_of (entries_conditions t f p.entries nothing_sorted ++ (patch_conditions t f p room (sorted t f p) ++ (refused_if 17 (out t f p c) ∷ []))) ≡ none =
    rw e at (exact p room c) in
    let w = (first-both (entries_conditions t f p.entries nothing_sorted) _ q).1 in
    let v = (first-both (patch_conditions t f p room (sorted t f p)) _ w).0 in
    ltb-false room (bound (sorted t f p)) (no-sixteen (free_destination t f p (sorted t f p)) (last_overlaps t f (sorted t f p)) (ltb room (bound (sorted t f p))) v)

module _ (by : Resolver) (t : RegInfo) (f : Function) where
  abbrev Right : Answers → (n left : ℕ) → Cache → List ℕ → Type 0
  Right a n left c l = OneByOneIn by t f a.done a.refusal n left c l

  ended : (left : ℕ) (c : Cache) (l : List ℕ) → Right (left_over l) 0 left c l
  ended left c [] = all_done refl refl refl
  ended left c (b ∷ l) = bytes_left refl (omega arith) refl

  module _ (Good : Cache → Type 0) (keeps : Keeps by t f Good) (room-asked : Asks by t f) where
    call-keeps : (p : Patch) (left : ℕ) (c : Cache) → Good c → Answered t f p (call_in by t f p left c) × Good (cache_after c (call_in by t f p left c))
    call-keeps p zero c good = go (by t f p 0 c)
      where
        go : (a : Answer) → Answered t f p (headless a) × Good (cache_after c (headless a))
        go (rules.refused k) = (tt, good)
        go (rules.resolved es c' n) = (tt, good)
    call-keeps p (suc left) c good = keeps.one p left c good

    call_fits : (p : Patch) (left : ℕ) (c c' : Cache) (es : List Edit) (n : ℕ) → call_in by t f p left c ≡ rules.resolved es c' n → Accepted t f p es → 1 + length es ≤ left
    call_fits p zero c c' es n e ok = go (by t f p 0 c) e
      where
        go : (a : Answer) → headless a ≡ rules.resolved es c' n → 1 + length es ≤ 0
        go (rules.refused k) h = let z : ◌≡◌ {A = ℕ} 0 1 = cc in absurd (omega arith)
        go (rules.resolved fs d m) h = let z : ◌≡◌ {A = ℕ} 0 1 = cc in absurd (omega arith)
    call_fits p (suc left) c c' es n e ok = omega (arith, room-asked p left c c' es n e, ok.few)

    -- a patch that was read, and its call
    called : (n left : ℕ) (c : Cache) (l : List ℕ) (p : Patch) (r : List ℕ) → patch t f l ≡ got p r → (a : Answer) → call_in by t f p left c ≡ a → Answered t f p a
        → Good (cache_after c a) → (next : Cache → Answers) → ((c' : Cache) → Good c' → Right (next c') n (left - words_taken a) c' r) → Right (after_call a next) (suc n) left c l
    called n left c l p r e (rules.refused k) is ok more next on = not-resolved k p r (omega arith) e is refl
    called n left c l p r e (rules.resolved es c' m) is ok more next on =
        let one : suc n - 1 ≡ n = omega arith in (
          omega arith,
          record { p = p; rest = r; after = c'; reads = e; calls = is; made = refl; accepted = ok; fits = call_fits p left c c' es m is ok },
          rw one (on c' more),
        )

    pub right : (n left : ℕ) (c : Cache) → Good c → (l : List ℕ) → Right (patches_in by t f n c left l) n left c l
    unfolding patches_in
    right zero left c good l = ended left c l
    right (suc n) left c good l = go (patch t f l) refl (λ c' left' more r. right n left' c' more r)
      where
        go : (x : Read Patch) → patch t f l ≡ x
            → ((c' : Cache) (left' : ℕ) → Good c' → (r : List ℕ) → Right (patches_in by t f n c' left' r) n left' c' r)
            → Right (after_read x (λ p r. after_call (call_in by t f p left c) (λ c'. patches_in by t f n c' (left - words_taken (call_in by t f p left c)) r))) (suc n) left c l
        go (refused k) e on = not-read k (omega arith) e refl
        go (got p r) e on =
            let w = call-keeps p left c good in
            called n left c l p r e (call_in by t f p left c) refl w.0 w.1
            (λ c'. patches_in by t f n c' (left - words_taken (call_in by t f p left c)) r)
            (λ c' more. on c' (left - words_taken (call_in by t f p left c)) more r)

  -- nothing is refused: no patch is left
  pub all_of : (ds : List Done) (n left : ℕ) (c : Cache) (l : List ℕ) → OneByOneIn by t f ds none n left c l → length ds ≡ n
  all_of [] n left c l h = go h
    where
      go : EndsIn by t f n left c l none → 0 ≡ n
      go (all_done z e k) = cc
      go (bytes_left z e k) = absurd (let z : ◌≡◌ {A = ℕ} 0 1 = cc in omega arith)
      go (not-read m z e k) = absurd (let z : ◌≡◌ {A = ℕ} 0 1 = cc in omega arith)
      go (not-resolved m p r z e i k) = absurd (let z : ◌≡◌ {A = ℕ} 0 1 = cc in omega arith)
  all_of (d ∷ ds) n left c l h = omega (arith, h.0, all_of ds (n - 1) (left - (1 + length d.edits)) h.1.after h.1.rest h.2)

-- whatever answers the calls, if it keeps something of the caches of every accepted function and asks for room
module _ (by : Resolver) (Good : RegInfo → Function → Cache → Type 0)
    (keeps : (t : RegInfo) (f : Function) → target.Accepted t → function.Accepted t f → Keeps by t f (Good t f))
    (room-asked : (t : RegInfo) (f : Function) → target.Accepted t → Asks by t f) where
  pub every-job-by : EveryJobInBy by
  unfolding job_in_by
  every-job-by room kept l = go (opening kept l) refl
    where
      go : (x : Read Header) → opening kept l ≡ x
          → OpenedIn by room x (after_read x (λ h r. patches_in by h.target h.function h.patches empty_cache room r))
      go (refused k) e = (refl, refl)
      go (got h r) e =
          let o = opens kept l h r e in
          let w = keeps h.target h.function o.target-taken o.function-taken in
          right by h.target h.function (Good h.target h.function) w (room-asked h.target h.function o.target-taken) h.patches room empty_cache w.first r

  pub all-done-by : AllDoneInBy by
  all-done-by room kept l h r e k =
      all_of by h.target h.function (job_in_by by room kept l).done h.patches room empty_cache r (rw (e, k) at (every-job-by room kept l))
