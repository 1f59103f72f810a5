-- One call by groups in a list of calls: what is known of the cache goes on, and it answers no 17.
use Prim.Native.Nat.{ℕ, ◌+◌, ◌*◌, ◌≤◌}
use mathlib.Core.Path.{◌≡◌, refl, ap, ◌∙◌}
use mathlib.Core.List.{List, [], ◌∷◌}
use mathlib.Core.Option.{Option, none, some}
use native.Mathlib.Omega.{arith}
use Rattle.reginfo.specs.RegInfo.{RegInfo}
use Rattle.reginfo.specs.Refused as target
use Rattle.reginfo.specs.Refused.{first_of}
use Rattle.function.specs.Function.{Function}
use Rattle.function.specs.Refused as function
use Rattle.rules.specs.Edit.{Edit}
use Rattle.rules.specs.Scratch.{Cache}
use Rattle.rules.specs.Patch.{Patch, Answer, refused, resolved, unless_refused, resolve, cache_after}
use Rattle.machine.specs.Enough.{num_sizes}
use Rattle.machine.proofs.EnoughSlots.{Quiet, never-out, quiet-after}
use Rattle.group_rules.specs.Groups.{followed_by, behind, parts, resolve_parts, whole_conditions, resolve_by_groups}
use Rattle.group_rules.proofs.Refusals.{by_number}
use Rattle.group_rules.proofs.Joined.{passed-whole}
use Rattle.group_rules.proofs.Claim.{parts-each}

module _ (t : RegInfo) (f : Function) (ta : target.Accepted t) (fa : function.Accepted t f) where
  abbrev Still : Cache → Type 0
  Still c = Quiet t f ta fa c

  pub quiet-groups : (p : Patch) (room : ℕ) (c : Cache) → Still c → (r : Answer) → resolve_by_groups t f p room c ≡ r → Still (cache_after c r)
  quiet-groups p room c g (refused n) e = g
  quiet-groups p room c g (resolved es c' n) e =
      parts-each t f room (λ c es c'. Still c → Still c') (λ c g. g) (λ q c d c' es fs n e r g. r (quiet-after t f ta fa q room c g (resolved es d n) e).0) (parts t p) c c' es n
      (passed-whole t f p room c c' es n e).1 g

  behind-17 : (es : List Edit) (n : ℕ) (r : Answer) → behind es n r ≡ refused 17 → r ≡ refused 17
  behind-17 es n (refused k) e = e
  behind-17 es n (resolved fs d k) e = let z : ◌≡◌ {A = ℕ} 0 1 = cc in absurd (omega arith)

  module _ (enough : (127 + f.kept) * num_sizes t f ≤ f.limit) where
    parts_in : (l : List Patch) (room : ℕ) (c : Cache) → Still c → resolve_parts t f l room c ≡ refused 17 → ⊥
    unfolding resolve_parts
    parts_in [] room c g e = let z : ◌≡◌ {A = ℕ} 0 1 = cc in omega arith
    parts_in (q ∷ l) room c g e = go (resolve t f q room c) refl e (λ d. parts_in l room d)
      where
        go : (r : Answer) → resolve t f q room c ≡ r → followed_by r (λ d. resolve_parts t f l room d) ≡ refused 17 → ((d : Cache) → Still d → resolve_parts t f l room d ≡ refused 17 → ⊥) → ⊥
        go (refused n) h e on = never-out t f ta fa enough q room c g (h ∙ e)
        go (resolved es d n) h e on = on d (quiet-after t f ta fa q room c g (resolved es d n) h).0 (behind-17 es n (resolve_parts t f l room d) e)

    pub groups-in : (p : Patch) (room : ℕ) (c : Cache) → Still c → resolve_by_groups t f p room c ≡ refused 17 → ⊥
    unfolding resolve_by_groups
    groups-in p room c g e = go (first_of (whole_conditions t f p room)) refl e
      where
        go : (o : Option ℕ) → first_of (whole_conditions t f p room) ≡ o → unless_refused o (resolve_parts t f (parts t p) room c) ≡ refused 17 → ⊥
        go (some n) h e = let z : n ≡ 17 = cc in never-out t f ta fa enough p room c g (by_number t f p room c n h ∙ ap refused z)
        go none h e = parts_in (parts t p) room c g e
