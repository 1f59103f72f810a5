-- What the answers of a whole job need to know of a call by groups: its edits are no more than the bound, a list that has room for the bound is long
-- enough, and it is as demand 3 says and leaves a cache to go on with.
use Prim.Native.Nat.{ℕ, ◌+◌, ◌≤◌}
use mathlib.Core.Path.{◌≡◌, refl, sym, ap, ◌∙◌}
use mathlib.Core.Bool.{false}
use mathlib.Core.List.{List, [], ◌∷◌, map}
use mathlib.Core.Option.{Option, none, some}
use native.Mathlib.Omega.{arith}
use borrow.Author.Tests.{le-ltb}
use lib.Dec.{ltb}
use lib.ListN.{length, length-append}
use Rattle.reginfo.specs.RegInfo.{RegInfo}
use Rattle.reginfo.specs.Refused as target
use Rattle.reginfo.specs.Refused.{first_of}
use Rattle.function.specs.Function.{Function}
use Rattle.function.specs.Refused as function
use Rattle.rules.specs.Edit.{Edit}
use Rattle.rules.specs.Scratch.{Cache, empty_cache}
use Rattle.rules.specs.Patch.{Patch, nothing_sorted, resolved, unless_refused, sorted, bound, patch_conditions, resolve}
use Rattle.rules.specs.Refusals.{entries_conditions}
use Rattle.machine.proofs.Cache.{CacheOk}
use Rattle.machine.proofs.Demand.{cache-fresh}
use Rattle.group_rules.specs.Groups.{firsts, part, labels_of, parts, resolve_parts, whole_conditions, resolve_by_groups}
use Rattle.group_rules.proofs.Lists.{first-both, total}
use Rattle.group_rules.proofs.Parts.{split}
use Rattle.group_rules.proofs.Refusals.{parts-pass}
use Rattle.group_rules.proofs.Joined.{joint, passed-whole, grouped}
use Rattle.grouping.proofs.Ending.{same_parts}
use Rattle.job_rules.proofs.Claimed.{Keeps, every-job-by, no-patch-left-by}
use Rattle.answer.proofs.Called.{Bounded, resolve-bounded}
use Rattle.answer.proofs.MostWords.{Roomy, most-words-by}
use Rattle.answer_groups.specs.Job.{EveryJob, AllDone, MostWords}

-- ---- the groups' bounds add up
parts-bounded : (t : RegInfo) (f : Function) → target.Accepted t → function.Accepted t f → (piece : ℕ → Patch) (room : ℕ) (gs : List ℕ) (c c' : Cache) (es : List Edit) (n : ℕ)
    → resolve_parts t f (map piece gs) room c ≡ resolved es c' n → length es ≤ total (λ g. bound (sorted t f (piece g))) gs
unfolding resolve_parts total
parts-bounded t f ta fa piece room [] c c' es n e = let y : [] ≡ es = cc in rw (← y) (omega arith)
parts-bounded t f ta fa piece room (g ∷ gs) c c' es n e =
    let j = joint (resolve t f (piece g) room c) (λ d. resolve_parts t f (map piece gs) room d) es c' n e in
    let a = resolve-bounded t f ta fa (piece g) room c j.between j.front j.at j.first in
    let b = parts-bounded t f ta fa piece room gs j.between c' j.back j.at' j.rest in
    rw j.edits (omega (arith, length-append j.front j.back, a, b))

pub groups-bounded : Bounded resolve_by_groups
unfolding parts
groups-bounded t f ta fa p room c c' es n e =
    let w = passed-whole t f p room c c' es n e in
    let q = first-both (entries_conditions t f p.entries nothing_sorted) (patch_conditions t f p room (sorted t f p)) w.0 in
    rw (split t f ta p q.0).bounds (parts-bounded t f ta fa (part t p (labels_of t p)) room (firsts (labels_of t p)) c c' es n w.1)

-- ---- the room matters to 16 alone
same_tests : (t : RegInfo) (f : Function) (p : Patch) (room room' : ℕ) → bound (sorted t f p) ≤ room → bound (sorted t f p) ≤ room' → whole_conditions t f p room ≡ whole_conditions t f p room'
unfolding patch_conditions
same_tests t f p room room' h q = rw (le-ltb room (bound (sorted t f p)) h, le-ltb room' (bound (sorted t f p)) q)

pub groups-roomy : Roomy resolve_by_groups
unfolding resolve_by_groups
groups-roomy t f ta p room room' c h q = rw (same_tests t f p room room' h q) (go (first_of (whole_conditions t f p room')) refl)
  where
    go : (o : Option ℕ) → first_of (whole_conditions t f p room') ≡ o → unless_refused o (resolve_parts t f (parts t p) room c) ≡ unless_refused o (resolve_parts t f (parts t p) room' c)
    go (some k) e = refl
    go none e = same_parts t f (parts t p) room room' c (parts-pass t f ta p room (ap first_of (same_tests t f p room room' h q) ∙ e)) (parts-pass t f ta p room' e)

-- ---- the claims
groups-keep : (t : RegInfo) (f : Function) → target.Accepted t → function.Accepted t f → Keeps resolve_by_groups t f (CacheOk t f)
groups-keep t f ta fa = record { first = cache-fresh t f ta fa; one = λ p c ok. grouped t f ta fa p 1024 c ok (resolve_by_groups t f p 1024 c) refl }

pub every-job : EveryJob
every-job = every-job-by resolve_by_groups CacheOk groups-keep

pub all_done : AllDone
all_done = no-patch-left-by resolve_by_groups CacheOk groups-keep

pub most-words : MostWords
most-words = most-words-by resolve_by_groups groups-bounded groups-roomy
