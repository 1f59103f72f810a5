-- The calls whose free units are right are requests of the rules.
use Prim.Native.Nat.{ℕ, ◌+◌}
use mathlib.Core.Path.{◌≡◌, refl, ap, ◌∙◌}
use mathlib.Core.List.{List, [], ◌∷◌, map}
use mathlib.Core.Option.{Option, none}
use lib.ListN.{length}
use Rattle.reginfo.specs.RegInfo.{RegInfo}
use Rattle.function.specs.Function.{Function}
use Rattle.rules.specs.Scratch.{Cache}
use Rattle.rules.specs.Patch.{resolve}
use Rattle.rules.specs.Take as take
use Rattle.rules.specs.Take.{Served, fresh, Standing, counts_in}
use Rattle.group_rules.specs.Groups.{resolve_by_groups}
use Rattle.group_rules.specs.Requests as rules
use Rattle.calls.specs.Call.{free_refusal, patch_of, call_of}
use Rattle.group_calls.specs.Call.{call_by_groups}
use Rattle.request_claims.specs.Calls.{Made, resolving, grouping, asking, taking, standing, answered, asked_after, after, after_all, settled, request_of, FreeRight, AllFreeRight, IsRequest, Requests}

module _ (t : RegInfo) (f : Function) where
  let-in : (free numbers : List ℕ) (room : ℕ) (c : Cache) → free_refusal t.units free ≡ none → call_of t f free numbers room c ≡ resolve t f (patch_of free numbers) room c
  unfolding call_of
  let-in free numbers room c e = rw e

  let-in-groups : (free numbers : List ℕ) (room : ℕ) (c : Cache) → free_refusal t.units free ≡ none → call_by_groups t f free numbers room c ≡ resolve_by_groups t f (patch_of free numbers) room c
  unfolding call_by_groups
  let-in-groups free numbers room c e = rw e

  pub is-request : (x : Made) (v : Served) → FreeRight t x → IsRequest t f x v
  unfolding standing answered asked_after rules.standing rules.answered rules.asked_after take.standing take.answered take.asked_after
  is-request (resolving x) v e = let q = let-in x.free x.numbers (length x.list) v.now.cache e in record { stands = rw q refl; answers = rw q refl; goes = rw q refl }
  is-request (grouping x) v e = let q = let-in-groups x.free x.numbers (length x.list) v.now.cache e in record { stands = rw q refl; answers = rw q refl; goes = rw q refl }
  is-request (asking x) v e = let q = let-in x.free x.numbers (length x.list) v.now.cache e in record { stands = refl; answers = rw q refl; goes = rw q refl }
  is-request (taking x) v e = record { stands = refl; answers = refl; goes = refl }

  all-requests : (calls : List Made) (v : Served) → AllFreeRight t calls
      → (after_all t f calls v ≡ rules.after_all t f (map request_of calls) v) × (settled t f calls v ≡ rules.settled t f (map request_of calls) v)
  unfolding after_all settled rules.after_all rules.settled
  all-requests [] v h = (refl, refl)
  all-requests (x ∷ l) v h =
      let q = is-request x v h.0 in
      let on = all-requests l (after t f x v) h.1 in
      let here : ℕ = counts_in (rules.standing t f (request_of x) v) in (
        on.0 ∙ ap (rules.after_all t f (map request_of l)) q.goes,
        ap (λ (o : Option Standing). counts_in o + settled t f l (after t f x v)) q.stands ∙ ap (λ (n : ℕ). here + n) on.1 ∙ ap (λ (u : Served). here + rules.settled t f (map request_of l) u) q.goes,
      )

pub requests : Requests
requests t f calls h = all-requests t f calls fresh h
