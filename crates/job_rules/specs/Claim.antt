-- Demand 3 of every job: its answers are those of its patches' calls, one behind the other, and the edits of each are as demanded; 02 j: with L
-- enough it is not refused with 17.
use Rattle.std.specs.Prelude.{ℕ, ◌+◌, ◌-◌, ◌*◌, ◌<◌, ◌≤◌, ◌≡◌, List, [], ◌∷◌, length}
use Rattle.std.proofs.Math.Option.{Option, none, some}
use Rattle.reginfo.specs.RegInfo.{RegInfo}
use Rattle.function.specs.Function.{Function}
use Rattle.rules.specs.Scratch.{Cache, empty_cache}
use Rattle.rules.specs.Patch.{Patch, resolve}
use Rattle.rules.specs.Patch as rules
use Rattle.machine.specs.Claim.{Accepted}
use Rattle.machine.specs.Enough.{num_sizes}
use Rattle.number.specs.Read.{Read, got, refused}
use Rattle.job_patch.specs.Patches.{patch}
use Rattle.job_rules.specs.Job.{Resolver, Header, Done, Answers, opening, job_by}

module _ (by : Resolver) (t : RegInfo) (f : Function) where
  -- the bytes l begin with a patch that is read, and d is what its call gives from the cache c: its edits, which are as demand 3 says, how
  -- many slots the function then has, and the position
  pub record DoneAt (c : Cache) (l : List ℕ) (d : Done) : Type 0 where
    pub p : Patch
    pub rest : List ℕ
    pub after : Cache
    pub reads : patch t f l ≡ got p rest
    pub calls : by t f p 1024 c ≡ rules.resolved d.edits after d.position
    pub made : d.made ≡ after.made
    pub accepted : Accepted t f p d.edits

  -- why no more is done where n patches are left: there is none, and the bytes end or are left over; the next one is not read; its call is refused
  -- Four ways and no other: no job ends without a reason of 01.
  pub data Ends (n : ℕ) (c : Cache) (l : List ℕ) (k : Option ℕ) : Type 0 where
    all_done : n ≡ 0 → l ≡ [] → k ≡ none → Ends n c l k
    bytes_left : n ≡ 0 → 0 < length l → k ≡ some 8 → Ends n c l k
    not-read : (m : ℕ) → 0 < n → patch t f l ≡ refused m → k ≡ some m → Ends n c l k
    not-resolved : (m : ℕ) (p : Patch) (rest : List ℕ) → 0 < n → patch t f l ≡ got p rest → by t f p 1024 c ≡ rules.refused m → k ≡ some m
        → Ends n c l k

  -- what is done and the refusal k, of n patches from the bytes l and the cache c on: "There is one call for each patch, and what earlier
  -- patches gave stands"; each call gets the bytes behind the last patch and the cache that its call left
  abbrev pub OneByOne : List Done → Option ℕ → ℕ → Cache → List ℕ → Type 0
  OneByOne [] k n c l = Ends n c l k
  OneByOne (d ∷ ds) k n c l = (0 < n) × (x : DoneAt c l d) × OneByOne ds k (n - 1) x.after x.rest

-- a job whose opening is refused has that number and nothing done
abbrev pub Opened : Resolver → Read Header → Answers → Type 0
Opened by (refused k) a = (a.done ≡ []) × (a.refusal ≡ some k)
Opened by (got h r) a = OneByOne by h.target h.function a.done a.refusal h.patches empty_cache r

-- whatever the setting and the bytes
abbrev pub EveryJobBy : Resolver → Type 0
EveryJobBy by = (kept : ℕ) (l : List ℕ) → Opened by (opening kept l) (job_by by kept l)

abbrev pub EveryJob : Type 0
EveryJob = EveryJobBy resolve

-- a job that is not refused has as many patches done as it says
abbrev pub AllDoneBy : Resolver → Type 0
AllDoneBy by = (kept : ℕ) (l : List ℕ) (h : Header) (r : List ℕ) → opening kept l ≡ got h r → (job_by by kept l).refusal ≡ none → length (job_by by kept l).done ≡ h.patches

abbrev pub AllDone : Type 0
AllDone = AllDoneBy resolve

-- 02 j: so many slots a size and so many more as evictions are kept
abbrev pub EnoughBy : Resolver → ℕ → Type 0
EnoughBy by n =
    (kept : ℕ) (l : List ℕ) (h : Header) (r : List ℕ) → opening kept l ≡ got h r → (n + kept) * num_sizes h.target h.function ≤ h.function.limit
    → (job_by by kept l).refusal ≡ some 17 → ⊥

-- "a function never meets 17 if L is at least 129 times the number of different slot sizes among its banks [..]. With two, 130 stands for 129."
abbrev pub Enough : Type 0
Enough = EnoughBy resolve 128

-- one fewer of each size is enough too
abbrev pub FewerEnough : Type 0
FewerEnough = EnoughBy resolve 127
