-- The claims of jobs whose patches are resolved by groups (02 k).
use Prim.Native.Nat.{ℕ}
use mathlib.Core.Path.{◌≡◌, refl, ap}
use mathlib.Core.List.{List, [], ◌∷◌}
use mathlib.Core.Option.{some}
use Rattle.reginfo.specs.RegInfo.{RegInfo}
use Rattle.reginfo.specs.Refused as target
use Rattle.function.specs.Function.{Function}
use Rattle.function.specs.Refused as function
use Rattle.rules.specs.Scratch.{Cache}
use Rattle.rules.specs.Take.{Served, fresh}
use Rattle.machine.proofs.Cache.{CacheOk}
use Rattle.machine.proofs.Demand.{cache-fresh}
use Rattle.group_rules.specs.Groups.{resolve_by_groups}
use Rattle.group_rules.specs.Requests.{Request, grouping, standing, answered, after}
use Rattle.group_rules.specs.Claim.{RequestsNeverOut, EnoughWith}
use Rattle.group_rules.proofs.Joined.{grouped}
use Rattle.group_rules.proofs.Claim as claim
use Rattle.answer_groups.specs.Job.{groups_out}
use Rattle.answer_groups.proofs.Refused.{groups-exact, groups-idle}
use Rattle.room_claims.specs.Jobs.{EnoughInBy}
use Rattle.room_claims.specs.Claim.{EveryJobByGroups, AllDoneByGroups, RefusalsByGroups, NumberedByGroups, EnoughByGroups, FewerEnoughByGroups}
use Rattle.room_claims.proofs.Done.{Keeps, Asks, asks, every-job-by, all-done-by}
use Rattle.room_claims.proofs.Exactly.{refusals-by}
use Rattle.room_claims.proofs.Numbers.{numbered-by}
use Rattle.room_claims.proofs.Enough.{Spares, enough-by}

keeps : (t : RegInfo) (f : Function) → target.Accepted t → function.Accepted t f → Keeps resolve_by_groups t f (CacheOk t f)
keeps t f ta fa = record { first = cache-fresh t f ta fa; one = λ p room c ok. grouped t f ta fa p room c ok (resolve_by_groups t f p room c) refl }

room-asked : (t : RegInfo) (f : Function) → target.Accepted t → Asks resolve_by_groups t f
room-asked t f ta = asks resolve_by_groups groups_out t f (groups-exact t f ta)

pub every-job : EveryJobByGroups
every-job = every-job-by resolve_by_groups CacheOk keeps room-asked

pub all_done : AllDoneByGroups
all_done = all-done-by resolve_by_groups CacheOk keeps room-asked

pub refusals : RefusalsByGroups
refusals = refusals-by resolve_by_groups groups_out groups-exact groups-idle

pub numbered : NumberedByGroups
numbered = numbered-by resolve_by_groups groups_out refusals

-- no list of requests from where the function stands gets 17
abbrev Never : RegInfo → Function → Cache → Type 0
Never t f c = (s : Served) × (s.now.cache ≡ c) × ((requests : List Request) → RequestsNeverOut t f requests s)

spares : (t : RegInfo) (f : Function) → ((requests : List Request) → RequestsNeverOut t f requests fresh) → Spares resolve_by_groups t f (Never t f)
unfolding answered standing
spares t f all =
    record {
      first = (fresh, refl, all);
      one = λ p room c g. (
        λ e. (g.2 (grouping p room ∷ [])).0 (rw g.1 (ap some e)),
        (after t f (grouping p room) g.0, rw g.1, λ l. (g.2 (grouping p room ∷ l)).1),
      );
    }

enough-with : (n : ℕ) → EnoughWith n → EnoughInBy resolve_by_groups n
enough-with n enough = enough-by resolve_by_groups every-job n Never (λ t f ta fa h. spares t f (enough t f ta fa h))

pub enough : EnoughByGroups
enough = enough-with 128 claim.enough

pub fewer-enough : FewerEnoughByGroups
fewer-enough = enough-with 127 claim.fewer-enough
