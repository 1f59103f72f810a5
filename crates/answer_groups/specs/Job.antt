-- 02 k: a job's answers with each patch resolved by its groups, and what is claimed of them: demand 3, which number is given when, that 16 does not
-- come where there are words enough, nor 17 where L is enough.
use Rattle.std.specs.Prelude.{ℕ, List}
use Rattle.reginfo.specs.RegInfo.{RegInfo}
use Rattle.reginfo.specs.Refused as target
use Rattle.function.specs.Function.{Function}
use Rattle.rules.specs.Scratch.{Cache}
use Rattle.rules.specs.Patch.{Patch}
use Rattle.group_rules.specs.Groups.{parts, resolve_by_groups}
use Rattle.group_rules.specs.Refusals.{some_out}
use Rattle.job_rules.specs.Job.{Answers, job_by}
use Rattle.job_rules.specs.Claim.{EveryJobBy, AllDoneBy, EnoughBy}
use Rattle.job_rules.specs.Conditions.{Out, RefusalsBy}
use Rattle.answer.specs.Room.{job_in_by, RefusalsInBy, MostWordsBy}

-- the list lent to a call has room for every patch
abbrev pub job_by_groups : (kept : ℕ) → List ℕ → Answers
job_by_groups kept l = job_by resolve_by_groups kept l

-- answered into `room` words
abbrev pub job_by_groups_in : (room kept : ℕ) → List ℕ → Answers
job_by_groups_in room kept l = job_in_by resolve_by_groups room kept l

-- whatever the setting and the bytes: its answers are those of its patches' calls by groups, one behind the other, and the edits of each are as
-- demand 3 says of the whole patch, its bound included
abbrev pub EveryJob : Type 0
EveryJob = EveryJobBy resolve_by_groups

-- a job that is not refused has as many patches done as it says
abbrev pub AllDone : Type 0
AllDone = AllDoneBy resolve_by_groups

-- "a 17 in one refuses them all": a group is out of slots, with the cache that those before it left
abbrev pub groups_out : Out
groups_out t f p c = some_out t f (parts t p) c

-- whatever the setting and the bytes: a number is given when its condition holds and none earlier does, in the order of a job that is not answered
-- by groups; 17's condition alone is another
abbrev pub Refusals : Type 0
Refusals = (kept : ℕ) (l : List ℕ) → RefusalsBy resolve_by_groups groups_out kept l

-- and so of a call with `left` words left: 16 is the whole patch's
abbrev pub RefusalsIn : Type 0
RefusalsIn = (t : RegInfo) (f : Function) → target.Accepted t → (p : Patch) (left : ℕ) (c : Cache) → RefusalsInBy resolve_by_groups groups_out t f p left c

-- 02 j: the same L is enough, and one fewer of each size too
abbrev pub Enough : Type 0
Enough = EnoughBy resolve_by_groups 128

abbrev pub FewerEnough : Type 0
FewerEnough = EnoughBy resolve_by_groups 127

-- as many words are enough for every job as for one that is not answered by groups
abbrev pub MostWords : Type 0
MostWords = MostWordsBy resolve_by_groups
