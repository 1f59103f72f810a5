-- The joined list of a call by groups is within the whole patch's bound, which is tested before any group runs.
use Prim.Native.Nat.{ℕ, ◌+◌, ◌≤◌}
use mathlib.Core.Path.{◌≡◌, sym}
use mathlib.Core.Bool.{true, false}
use mathlib.Core.List.{List, [], ◌∷◌, ◌++◌, map}
use mathlib.Core.Option.{none}
use native.Mathlib.Omega.{arith}
use lib.Dec.{leb}
use lib.ListN.{length, length-append}
use Rattle.reginfo.specs.RegInfo.{RegInfo}
use Rattle.reginfo.specs.Refused as target
use Rattle.reginfo.specs.Refused.{first_of}
use Rattle.reginfo.proofs.First.{first-none}
use Rattle.function.specs.Function.{Function}
use Rattle.function.specs.Refused as function
use Rattle.rules.specs.Edit.{Edit}
use Rattle.rules.specs.Scratch.{Cache}
use Rattle.rules.specs.Patch.{Entry, move, remat, Patch, Sorted, nothing_sorted, bound, resolved, entry_conditions, patch_conditions, add, sorted_from, sorted, resolve}
use Rattle.rules.specs.Refusals.{entries_conditions}
use Rattle.rules.proofs.Accepted.{accepted}
use Rattle.machine.proofs.Bound.{bound-ok}
use Rattle.price.proofs.Laws.{edits-few}
use Rattle.group_rules.specs.Groups.{firsts, part, labels_of, parts, resolve_parts, whole_conditions, resolve_by_groups}
use Rattle.group_rules.proofs.Lists.{total, first-both}
use Rattle.group_rules.proofs.Parts.{split}
use Rattle.group_rules.proofs.Joined.{joint, passed-whole}
use Rattle.job_rules.proofs.Room.{Few, still-few, within, none-sorted}
use Rattle.request_claims.specs.Priced.{FewByGroups}

module _ (t : RegInfo) (f : Function) where
  -- 15 is the first of an entry's conditions
  counted : (a : Sorted) (e : Entry) → first_of (entry_conditions t f a e) ≡ none → leb 128 a.count ≡ false
  unfolding entry_conditions
  counted a (move s d v) h = first-none _ h 0 (omega arith)
  counted a (remat d v) h = first-none _ h 0 (omega arith)

  entries-few : (es : List Entry) (a : Sorted) → first_of (entries_conditions t f es a) ≡ none → Few a → Few (sorted_from t f es a)
  unfolding entries_conditions sorted_from
  entries-few [] a h k = k
  entries-few (e ∷ es) a h k =
      let s = first-both (entry_conditions t f a e) (entries_conditions t f es (add t f e a)) h in
      entries-few es (add t f e a) s.1 (still-few t f a e (counted a e s.0) k)

  module _ (ta : target.Accepted t) (fa : function.Accepted t f) (p : Patch) (room : ℕ) where
    abbrev piece : ℕ → Patch
    piece g = part t p (labels_of t p) g

    -- each group's edits are within its bound, whatever the cache
    parts-few : (gs : List ℕ) (c c' : Cache) (es : List Edit) (n : ℕ) → resolve_parts t f (map piece gs) room c ≡ resolved es c' n → length es ≤ total (λ g. bound (sorted t f (piece g))) gs
    unfolding resolve_parts total
    parts-few [] c c' es n e = let y : [] ≡ es = cc in rw (← y) (omega arith)
    parts-few (g ∷ gs) c c' es n e =
        let j = joint (resolve t f (piece g) room c) (λ d. resolve_parts t f (map piece gs) room d) es c' n e in
        let one = bound-ok t f ta fa (piece g) room c j.between j.front (accepted t f (piece g) room c j.between j.front j.at j.first) in
        rw j.edits (omega (arith, length-append j.front j.back, one, parts-few gs j.between c' j.back j.at' j.rest))

    joined-few : (c c' : Cache) (es : List Edit) (n : ℕ) → resolve_by_groups t f p room c ≡ resolved es c' n → length es ≤ 1024
    unfolding parts
    joined-few c c' es n e =
        let q = passed-whole t f p room c c' es n e in
        let h = (first-both (entries_conditions t f p.entries nothing_sorted) (patch_conditions t f p room (sorted t f p)) q.0).0 in
        let most : bound (sorted t f p) ≤ 1024 = within t f (sorted t f p) (entries-few p.entries nothing_sorted h (none-sorted t f)) in
        omega (arith, most, (split t f ta p h).bounds, parts-few (firsts (labels_of t p)) c c' es n q.1)

pub few-by-groups : FewByGroups
few-by-groups p h t f ta fa q room c c' es n e = let l = joined-few t f ta fa q room c c' es n e in (l, edits-few p h es l)
