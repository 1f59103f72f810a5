-- A whole job answered into lent words: its answers are those of its patches' calls, one behind the other, each with the words that those before it
-- left; and the edits of each are as demand 3 says. `job_rules/specs/Claim` says the same of a job for which there are words enough.
use Rattle.std.specs.Prelude.{ℕ, ◌+◌, ◌-◌, ◌*◌, ◌<◌, ◌≤◌, ◌≡◌, List, [], ◌∷◌, length}
use Rattle.std.proofs.Math.Option.{Option, none, some}
use Rattle.reginfo.specs.RegInfo.{RegInfo}
use Rattle.function.specs.Function.{Function}
use Rattle.rules.specs.Scratch.{Cache, empty_cache}
use Rattle.rules.specs.Patch.{Patch}
use Rattle.rules.specs.Patch as rules
use Rattle.machine.specs.Claim.{Accepted}
use Rattle.machine.specs.Enough.{num_sizes}
use Rattle.number.specs.Read.{Read, got, refused}
use Rattle.job_patch.specs.Patches.{patch}
use Rattle.job_rules.specs.Job.{Resolver, Header, Done, Answers, opening}
use Rattle.answer.specs.Room.{call_in, job_in_by}

module _ (by : Resolver) (t : RegInfo) (f : Function) where
  -- the bytes l begin with a patch that is read, and d is what its call gives from the cache c with `left` words left: its edits, which are as
  -- demand 3 says, how many slots the function then has, and the position; its head and its edits are no more words than there are
  pub record DoneIn (left : ℕ) (c : Cache) (l : List ℕ) (d : Done) : Type 0 where
    pub p : Patch
    pub rest : List ℕ
    pub after : Cache
    pub reads : patch t f l ≡ got p rest
    pub calls : call_in by t f p left c ≡ rules.resolved d.edits after d.position
    pub made : d.made ≡ after.made
    pub accepted : Accepted t f p d.edits
    pub fits : 1 + length d.edits ≤ left

  -- why no more is done where n patches are left: there is none, and the bytes end or are left over; the next one is not read; its call is refused
  pub data EndsIn (n left : ℕ) (c : Cache) (l : List ℕ) (k : Option ℕ) : Type 0 where
    all_done : n ≡ 0 → l ≡ [] → k ≡ none → EndsIn n left c l k
    bytes_left : n ≡ 0 → 0 < length l → k ≡ some 8 → EndsIn n left c l k
    not-read : (m : ℕ) → 0 < n → patch t f l ≡ refused m → k ≡ some m → EndsIn n left c l k
    not-resolved : (m : ℕ) (p : Patch) (rest : List ℕ) → 0 < n → patch t f l ≡ got p rest → call_in by t f p left c ≡ rules.refused m → k ≡ some m
        → EndsIn n left c l k

  -- what is done and the refusal k, of n patches from the bytes l, the cache c and `left` words on: each call gets the bytes behind the last patch, the
  -- cache that its call left, and the words behind its edits
  abbrev pub OneByOneIn : List Done → Option ℕ → (n left : ℕ) → Cache → List ℕ → Type 0
  OneByOneIn [] k n left c l = EndsIn n left c l k
  OneByOneIn (d ∷ ds) k n left c l = (0 < n) × (x : DoneIn left c l d) × OneByOneIn ds k (n - 1) (left - (1 + length d.edits)) x.after x.rest

-- a job whose opening is refused has that number and nothing done, whatever the room
abbrev pub OpenedIn : Resolver → (room : ℕ) → Read Header → Answers → Type 0
OpenedIn by room (refused k) a = (a.done ≡ []) × (a.refusal ≡ some k)
OpenedIn by room (got h r) a = OneByOneIn by h.target h.function a.done a.refusal h.patches room empty_cache r

-- whatever the room, the setting and the bytes
abbrev pub EveryJobInBy : Resolver → Type 0
EveryJobInBy by = (room kept : ℕ) (l : List ℕ) → OpenedIn by room (opening kept l) (job_in_by by room kept l)

-- a job that is not refused has as many patches done as it says
abbrev pub AllDoneInBy : Resolver → Type 0
AllDoneInBy by =
    (room kept : ℕ) (l : List ℕ) (h : Header) (r : List ℕ) → opening kept l ≡ got h r → (job_in_by by room kept l).refusal ≡ none
    → length (job_in_by by room kept l).done ≡ h.patches

-- 02 j: so many slots a size and so many more as evictions are kept: 17 is given at no room
abbrev pub EnoughInBy : Resolver → ℕ → Type 0
EnoughInBy by n =
    (room kept : ℕ) (l : List ℕ) (h : Header) (r : List ℕ) → opening kept l ≡ got h r → (n + kept) * num_sizes h.target h.function ≤ h.function.limit
    → (job_in_by by room kept l).refusal ≡ some 17 → ⊥
