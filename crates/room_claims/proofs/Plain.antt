-- The claims of jobs whose patches are resolved whole.
use Prim.Native.Nat.{ℕ}
use mathlib.Core.List.{List, [], ◌∷◌}
use Rattle.reginfo.specs.RegInfo.{RegInfo}
use Rattle.reginfo.specs.Refused as target
use Rattle.function.specs.Function.{Function}
use Rattle.function.specs.Refused as function
use Rattle.rules.specs.Scratch.{Cache}
use Rattle.rules.specs.Patch.{Call, sorted, resolve}
use Rattle.machine.specs.Claim as machine
use Rattle.machine.specs.Enough.{NeverOut, EnoughWith}
use Rattle.machine.proofs.Demand.{demand-3-of-calls}
use Rattle.machine.proofs.EnoughSlots as slots
use Rattle.job_rules.specs.Conditions.{runs_out}
use Rattle.job_rules.proofs.Calls.{resolve-exact}
use Rattle.answer.proofs.Room.{none-run}
use Rattle.room_claims.specs.Jobs.{EnoughInBy}
use Rattle.room_claims.specs.Claim.{EveryJob, AllDone, Refusals, Numbered, Enough, FewerEnough}
use Rattle.room_claims.proofs.Done.{Keeps, Asks, asks, every-job-by, all-done-by}
use Rattle.room_claims.proofs.Exactly.{refusals-by}
use Rattle.room_claims.proofs.Numbers.{numbered-by}
use Rattle.room_claims.proofs.Enough.{enough-by}

-- demand 3 of every list of calls from the cache on
abbrev All : RegInfo → Function → Cache → Type 0
All t f c = (calls : List Call) → machine.Claim t f calls c

keeps : (t : RegInfo) (f : Function) → target.Accepted t → function.Accepted t f → Keeps resolve t f (All t f)
keeps t f ta fa =
    record {
      first = demand-3-of-calls t f ta fa;
      one = λ p room c all. ((all (record { patch = p; room = room } ∷ [])).0, λ calls. (all (record { patch = p; room = room } ∷ calls)).1);
    }

room-asked : (t : RegInfo) (f : Function) → target.Accepted t → Asks resolve t f
room-asked t f ta = asks resolve runs_out t f (resolve-exact t f)

pub every-job : EveryJob
every-job = every-job-by resolve All keeps room-asked

pub all_done : AllDone
all_done = all-done-by resolve All keeps room-asked

pub refusals : Refusals
refusals = refusals-by resolve runs_out (λ t f _. resolve-exact t f) (λ t f _ p c _ h. none-run t f p (sorted t f p) c h)

pub numbered : Numbered
numbered = numbered-by resolve runs_out refusals

-- no list of calls from the cache on gets 17
abbrev Never : RegInfo → Function → Cache → Type 0
Never t f c = (calls : List Call) → NeverOut t f calls c

enough-with : (n : ℕ) → EnoughWith n → EnoughInBy resolve n
enough-with n enough =
    enough-by resolve every-job n Never
    (λ t f ta fa g. record {
      first = slots.enough-for-calls n enough t f ta fa g;
      one = λ p room c all. ((all (record { patch = p; room = room } ∷ [])).0, λ calls. (all (record { patch = p; room = room } ∷ calls)).1);
    })

pub enough : Enough
enough = enough-with 128 slots.enough

pub fewer-enough : FewerEnough
fewer-enough = enough-with 127 slots.fewer-enough
