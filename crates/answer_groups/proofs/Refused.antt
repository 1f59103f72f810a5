-- Which number a job by groups is refused with, and that 17 does not come where L is enough.
use Prim.Native.Nat.{ℕ}
use mathlib.Core.Path.{◌≡◌, refl, sym, ap, ◌∙◌}
use mathlib.Core.Bool.{false}
use mathlib.Core.List.{List, [], ◌∷◌, map, append_assoc}
use mathlib.Core.Option.{Option, none, some}
use native.Mathlib.Omega.{arith}
use Rattle.reginfo.specs.RegInfo.{RegInfo}
use Rattle.reginfo.specs.Refused as target
use Rattle.reginfo.specs.Refused.{refused_if, first_of}
use Rattle.function.specs.Function.{Function}
use Rattle.rules.specs.Scratch.{Cache, ScratchAllocator}
use Rattle.rules.specs.Patch.{Patch, nothing_sorted, sorted, bound, patch_conditions, run}
use Rattle.rules.specs.Refusals.{ran_out, entries_conditions}
use Rattle.rules.specs.Take.{Served, fresh}
use Rattle.group_rules.specs.Groups.{firsts, part, labels_of, parts, resolve_by_groups}
use Rattle.group_rules.specs.Refusals.{out_or, some_out, group_conditions}
use Rattle.group_rules.specs.Requests.{Request, grouping, standing, answered, after}
use Rattle.group_rules.specs.Claim.{RequestsNeverOut, EnoughWith}
use Rattle.group_rules.proofs.Lists.{total}
use Rattle.group_rules.proofs.Parts.{split}
use Rattle.group_rules.proofs.Refusals.{group-refusals}
use Rattle.group_rules.proofs.Claim as claim
use Rattle.job_rules.specs.Claim.{EnoughBy}
use Rattle.job_rules.proofs.Calls.{first-is, ExactCalls}
use Rattle.job_rules.proofs.Conditions.{refusals-by}
use Rattle.job_rules.proofs.Enough.{Spares, enough-by}
use Rattle.answer.proofs.Room.{Idle, none-run, refusals-in-by}
use Rattle.answer_groups.specs.Job.{groups_out, Refusals, RefusalsIn, Enough, FewerEnough}
use Rattle.answer_groups.proofs.Groups.{every-job}

module _ (t : RegInfo) (f : Function) where
  pub groups-exact : target.Accepted t → ExactCalls resolve_by_groups groups_out t f
  unfolding group_conditions
  groups-exact ta p room c =
      let r = group-refusals t f ta p room c in
      ap first_of (sym (append_assoc (entries_conditions t f p.entries nothing_sorted) (patch_conditions t f p room (sorted t f p)) (refused_if 17 (groups_out t f p c) ∷ [])))
      ∙ first-is (group_conditions t f p room c) (resolve_by_groups t f p room c) (λ n. (r.given n).0) r.taken.0

  -- the groups' bounds add up to the patch's
  none_out : (piece : ℕ → Patch) (gs : List ℕ) (c : Cache) → total (λ g. bound (sorted t f (piece g))) gs ≡ 0 → some_out t f (map piece gs) c ≡ false
  unfolding some_out total
  none_out piece [] c h = refl
  none_out piece (g ∷ gs) c h =
      go (run t f (piece g) (sorted t f (piece g)) c) (none-run t f (piece g) (sorted t f (piece g)) c (omega arith)) (λ d. none_out piece gs d (omega arith))
    where
      go : (k : Option ScratchAllocator) → ran_out k ≡ false → ((d : Cache) → some_out t f (map piece gs) d ≡ false) → out_or k (λ d. some_out t f (map piece gs) d) ≡ false
      go none e on = e
      go (some k) e on = on k.cache

  pub groups-idle : target.Accepted t → Idle groups_out t f
  unfolding parts
  groups-idle ta p c e h = none_out (part t p (labels_of t p)) (firsts (labels_of t p)) c (sym (split t f ta p e).bounds ∙ h)

  -- no list of requests from where the function stands gets 17
  abbrev Never : Cache → Type 0
  Never c = (s : Served) × (s.now.cache ≡ c) × ((requests : List Request) → RequestsNeverOut t f requests s)

  groups-spare : ((requests : List Request) → RequestsNeverOut t f requests fresh) → Spares resolve_by_groups t f Never
  unfolding answered standing
  groups-spare all =
      record {
        first = (fresh, refl, all);
        one = λ p c g. (
          λ e. (g.2 (grouping p 1024 ∷ [])).0 (rw g.1 (ap some e)),
          (after t f (grouping p 1024) g.0, rw g.1, λ l. (g.2 (grouping p 1024 ∷ l)).1),
        );
      }

pub refusals : Refusals
refusals = refusals-by resolve_by_groups groups_out groups-exact

pub refusals-in : RefusalsIn
refusals-in t f ta = refusals-in-by resolve_by_groups groups_out t f (groups-exact t f ta) (groups-idle t f ta)

enough-with : (n : ℕ) → EnoughWith n → EnoughBy resolve_by_groups n
enough-with n enough = enough-by resolve_by_groups every-job n Never (λ t f ta fa h. groups-spare t f (enough t f ta fa h))

pub enough-for-a-job : Enough
enough-for-a-job = enough-with 128 claim.enough

pub fewer-enough-for-a-job : FewerEnough
fewer-enough-for-a-job = enough-with 127 claim.fewer-enough
