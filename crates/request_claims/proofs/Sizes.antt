-- 02 j of every list of calls: each slot lies in the stack of its size. It is what the rules say of requests: those of the calls, and for a call
-- that is refused for its free units another that is refused too.
use Prim.Native.Nat.{ℕ}
use mathlib.Core.Path.{◌≡◌, refl, ap}
use mathlib.Core.Bool.{true}
use mathlib.Core.List.{List, [], ◌∷◌, ◌++◌, map}
use mathlib.Core.Option.{Option, none, some}
use native.Mathlib.Omega.{arith}
use lib.Dec.{ltb}
use lib.ListN.{length}
use borrow.Author.Tests.{le-ltb}
use Rattle.entity.specs.Logic.{or, no}
use Rattle.entity.specs.Place.{slot}
use Rattle.reginfo.specs.RegInfo.{RegInfo}
use Rattle.reginfo.specs.Refused.{first_of}
use Rattle.reginfo.specs.Table.{reg_info_of}
use Rattle.function.specs.Function.{Function, num_values}
use Rattle.function.specs.Table.{function_of}
use Rattle.rules.specs.Edit.{Edit}
use Rattle.rules.specs.Scratch.{Cache}
use Rattle.rules.specs.Patch.{remat, Patch, refused, names_place, entry_conditions, resolve_from, resolve}
use Rattle.rules.specs.Take as take
use Rattle.rules.specs.Take.{Served, fresh}
use Rattle.slots.specs.Stacks.{cache_of, stamp_of}
use Rattle.machine.specs.Enough.{SizedIn, edits_in}
use Rattle.group_rules.specs.Requests as rules
use Rattle.group_rules.specs.Requests.{Request}
use Rattle.group_rules.specs.Claim.{RequestsSizes}
use Rattle.group_rules.proofs.Lists.{or_right}
use Rattle.group_rules.proofs.Claim.{each-of-its-size}
use Rattle.calls.specs.Call.{free_refusal, call_of}
use Rattle.calls.specs.Opening.{opened}
use Rattle.calls.proofs.Claimed.{known}
use Rattle.group_calls.specs.Call.{call_by_groups}
use Rattle.request_claims.specs.Calls.{Made, resolving, grouping, asking, taking, Held, holding, left, standing, answered, asked_after, after, request_of, FreeRight}
use Rattle.request_claims.specs.Claim.{Claim}
use Rattle.request_claims.specs.Enough.{SizesClaim, EachOfItsSize}
use Rattle.request_claims.proofs.Claimed.{demand-3-of-all-calls}
use Rattle.request_claims.proofs.Requests.{is-request}

module _ (t : RegInfo) (f : Function) where
  -- a patch that 2 refuses: its value is none
  abbrev bad : Patch
  bad = record { free = []; entries = remat (slot 0) (num_values f) ∷ [] }

  bad-refused : (room : ℕ) (c : Cache) → resolve t f bad room c ≡ refused 2
  unfolding resolve resolve_from entry_conditions first_of
  bad-refused room c = let z = or_right (no (names_place t f (slot 0))) (no (ltb (num_values f) (num_values f))) (ap no (le-ltb (num_values f) (num_values f) (omega arith))) in rw z refl

  abbrev unless_bad : Option ℕ → Request → Request → Request
  unless_bad none x y = x
  unless_bad (some n) x y = y

  abbrev as_request : Made → Request
  as_request (resolving x) = unless_bad (free_refusal t.units x.free) (request_of (resolving x)) (rules.single (take.resolving bad 0))
  as_request (grouping x) = unless_bad (free_refusal t.units x.free) (request_of (grouping x)) (rules.single (take.resolving bad 0))
  as_request (asking x) = unless_bad (free_refusal t.units x.free) (request_of (asking x)) (rules.single (take.asking bad 0))
  as_request (taking x) = request_of (taking x)

  -- the call goes as the request does
  record Like (x : Made) (y : Request) (v : Served) : Type 0 where
    pub sized : (c : Cache) → SizedIn t f c (rules.answered t f y v) → SizedIn t f c (answered t f x v)
    pub edits : edits_in t f (standing t f x v) ≡ edits_in t f (rules.standing t f y v)
    pub goes : after t f x v ≡ rules.after t f y v

  module _ (v : Served) where
    like-request : (x : Made) → FreeRight t x → Like x (request_of x) v
    like-request x e = let q = is-request t f x v e in record { sized = λ c h. rw q.answers h; edits = ap (edits_in t f) q.stands; goes = q.goes }

    like : (x : Made) → Like x (as_request x) v
    unfolding standing answered asked_after rules.standing rules.answered rules.asked_after take.standing take.answered take.asked_after call_of call_by_groups
    like (resolving x) = go (free_refusal t.units x.free) refl
      where
        go : (o : Option ℕ) → free_refusal t.units x.free ≡ o → Like (resolving x) (unless_bad o (request_of (resolving x)) (rules.single (take.resolving bad 0))) v
        go none e = like-request (resolving x) e
        go (some n) e = let b = bad-refused 0 v.now.cache in record { sized = λ c h. rw e tt; edits = rw (e, b) refl; goes = rw (e, b) refl }
    like (grouping x) = go (free_refusal t.units x.free) refl
      where
        go : (o : Option ℕ) → free_refusal t.units x.free ≡ o → Like (grouping x) (unless_bad o (request_of (grouping x)) (rules.single (take.resolving bad 0))) v
        go none e = like-request (grouping x) e
        go (some n) e = let b = bad-refused 0 v.now.cache in record { sized = λ c h. rw e tt; edits = rw (e, b) refl; goes = rw (e, b) refl }
    like (asking x) = go (free_refusal t.units x.free) refl
      where
        go : (o : Option ℕ) → free_refusal t.units x.free ≡ o → Like (asking x) (unless_bad o (request_of (asking x)) (rules.single (take.asking bad 0))) v
        go none e = like-request (asking x) e
        go (some n) e = let b = bad-refused 0 v.now.cache in record { sized = λ c h. rw e tt; edits = refl; goes = rw (e, b) refl }
    like (taking x) = like-request (taking x) tt

module _ (t f : List ℕ) where
  first-same : (start : ℕ) (calls : List Made) (s : Held) (v : Served) → Claim t f start calls s v → cache_of s.cache ≡ v.now.cache
  first-same start [] s v h = h.cache
  first-same start (x ∷ l) s v h = h.0.cache

  sizes : (start : ℕ) (calls : List Made) (es : List Edit) (s : Held) (v : Served) → Claim t f start calls s v
      → RequestsSizes (reg_info_of t) (function_of f) (map (as_request (reg_info_of t) (function_of f)) calls) es v → SizesClaim t f calls es s v
  sizes start [] es s v h g = rw (first-same start [] s v h) g
  sizes start (x ∷ l) es s v h g =
      let same = first-same start (x ∷ l) s v h in
      let q = like (reg_info_of t) (function_of f) v x in (
        rw same g.0,
        rw same (q.sized v.now.cache g.1),
        sizes start l (es ++ edits_in (reg_info_of t) (function_of f) (standing (reg_info_of t) (function_of f) x v)) (left x s) (after (reg_info_of t) (function_of f) x v) h.3 (rw (q.goes, q.edits) g.2),
      )

pub each-of-its-size-in-all-calls : EachOfItsSize
each-of-its-size-in-all-calls kept bytes t f cache cache' o calls made below =
    let k = (known (opened kept bytes) t f cache cache' o).0 in
    sizes t f (stamp_of cache') calls [] (holding cache') fresh (demand-3-of-all-calls kept bytes t f cache cache' o calls made below)
    (each-of-its-size (reg_info_of t) (function_of f) k.target k.function (map (as_request (reg_info_of t) (function_of f)) calls))
