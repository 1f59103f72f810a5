-- What the exported calls `parallel_moves_answer` and `parallel_moves_answer_groups` promise is the answers of `job_in` and `job_by_groups_in` for as many
-- words as they are lent; of these, for every number of words:
use Rattle.std.specs.Prelude.{ℕ, List}
use Rattle.rules.specs.Patch.{resolve}
use Rattle.group_rules.specs.Groups.{resolve_by_groups}
use Rattle.job_rules.specs.Conditions.{runs_out}
use Rattle.answer_groups.specs.Job.{groups_out}
use Rattle.room_claims.specs.Jobs.{EveryJobInBy, AllDoneInBy, EnoughInBy}
use Rattle.room_claims.specs.Conditions.{JobRefusalsInBy, NumberedInBy}

-- demand 3 of every job
abbrev pub EveryJob : Type 0
EveryJob = EveryJobInBy resolve

abbrev pub EveryJobByGroups : Type 0
EveryJobByGroups = EveryJobInBy resolve_by_groups

abbrev pub AllDone : Type 0
AllDone = AllDoneInBy resolve

abbrev pub AllDoneByGroups : Type 0
AllDoneByGroups = AllDoneInBy resolve_by_groups

-- which number is given when
abbrev pub Refusals : Type 0
Refusals = (room kept : ℕ) (l : List ℕ) → JobRefusalsInBy resolve runs_out room kept l

abbrev pub RefusalsByGroups : Type 0
RefusalsByGroups = (room kept : ℕ) (l : List ℕ) → JobRefusalsInBy resolve_by_groups groups_out room kept l

abbrev pub Numbered : Type 0
Numbered = NumberedInBy resolve

abbrev pub NumberedByGroups : Type 0
NumberedByGroups = NumberedInBy resolve_by_groups

-- 02 j: "a function never meets 17 if L is at least 129 times the number of different slot sizes among its banks [..]. With two, 130 stands for 129.";
-- one fewer of each size is enough too
abbrev pub Enough : Type 0
Enough = EnoughInBy resolve 128

abbrev pub FewerEnough : Type 0
FewerEnough = EnoughInBy resolve 127

abbrev pub EnoughByGroups : Type 0
EnoughByGroups = EnoughInBy resolve_by_groups 128

abbrev pub FewerEnoughByGroups : Type 0
FewerEnoughByGroups = EnoughInBy resolve_by_groups 127
