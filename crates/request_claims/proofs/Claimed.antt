-- The claim about every list of calls: call by call, with what is known of the cache and of every answer that is still to take.
use Prim.Native.Nat.{ℕ, ◌+◌, ◌≤◌}
use mathlib.Core.Path.{◌≡◌, refl, sym, ap, subst, ◌∙◌}
use mathlib.Core.Bool.{Bool, true, false}
use mathlib.Core.List.{List, [], ◌∷◌, ◌++◌}
use mathlib.Core.Option.{Option, none, some}
use native.Mathlib.Omega.{arith}
use lib.Dec.{eqb}
use lib.ListN.{length, get_or}
use borrow.Author.Tests.{eqb-true, eqb-false}
use Rattle.entity.specs.Logic.{or, any_in}
use Rattle.reginfo.specs.RegInfo.{RegInfo}
use Rattle.reginfo.specs.Table.{reg_info_of}
use Rattle.function.specs.Function.{Function}
use Rattle.function.specs.Known.{Checked}
use Rattle.function.specs.Table.{function_of}
use Rattle.rules.specs.Scratch.{Cache, empty_cache}
use Rattle.rules.specs.Patch.{Patch, Answer, refused, resolved, unless_refused, resolve, cache_after}
use Rattle.rules.specs.Take as take
use Rattle.rules.specs.Take.{Preview, Served, fresh, counts, stamped, take_answer, Standing, taken_of, answer_in, stamped_by, counts_in}
use Rattle.rules.proofs.Take.{taken-late, taken-now}
use Rattle.machine.specs.Claim.{Answered, Owed}
use Rattle.machine.proofs.Cache as machine
use Rattle.machine.proofs.Demand.{cache-fresh, called}
use Rattle.machine.proofs.EnoughSlots.{Quiet, quiet-fresh, quiet-after}
use Rattle.group_rules.specs.Groups.{resolve_by_groups}
use Rattle.group_rules.proofs.Joined.{grouped}
use Rattle.slots.specs.Stacks.{cache_of, stamp_of, raised, stamp_after}
use Rattle.slots.proofs.Stamps.{fresh-cleared, stamp-first, stamp-next, stamp-told}
use Rattle.parallel_moves.specs.Given.{CacheOk}
use Rattle.parallel_moves.specs.Answers.{Gives, Pending, Asks}
use Rattle.calls.specs.declared.Opened.TheVariants.{Yes}
use Rattle.calls.specs.Opening.{opened, OpenedAs}
use Rattle.calls.specs.Call.{free_refusal, patch_of, call_of}
use Rattle.calls.specs.Claim as calls
use Rattle.calls.proofs.Claimed.{known}
use Rattle.group_calls.specs.Call.{call_by_groups}
use Rattle.request_claims.specs.Calls.{MadeAsk, MadeTake, Made, resolving, grouping, asking, taking, Kept, Held, holding, kept_of, left, standing, answered, asked_after, after, settled}
use Rattle.request_claims.specs.Claim.{ruled, ruled_by_groups, TakeDid, Did, Called, TakeAnswered, Outcome, Same, Claim, Few, is_take, FewIfTaken, Demand3}
use Rattle.request_claims.proofs.Grouped.{quiet-groups}
use Rattle.request_claims.proofs.Paired.{One, Paired, paired-map, paired-more, paired_at}

-- a take at the front, or among those behind it
first-of : (a b : Bool) → a ≡ true → or a b ≡ true
first-of true b e = refl
first-of false b e = let z : ◌≡◌ {A = ℕ} 0 1 = cc in absurd (omega arith)

later_of : (a b : Bool) → b ≡ true → or a b ≡ true
later_of true b e = refl
later_of false b e = e

unless : (o : Option ℕ) (r : Answer) (P : Answer → Type 0) → ((n : ℕ) → o ≡ some n → P (refused n)) → P r → P (unless_refused o r)
unless none r P bad good = good
unless (some n) r P bad good = bad n refl

-- a call's answer: its free units, then its patch
pub by-free : (t : RegInfo) (f : Function) (free numbers : List ℕ) (room : ℕ) (c : Cache) (P : Answer → Type 0) → ((n : ℕ) → free_refusal t.units free ≡ some n → P (refused n))
    → P (resolve t f (patch_of free numbers) room c) → P (call_of t f free numbers room c)
unfolding call_of
by-free t f free numbers room c P bad good = unless (free_refusal t.units free) (resolve t f (patch_of free numbers) room c) P bad good

pub by-free-groups : (t : RegInfo) (f : Function) (free numbers : List ℕ) (room : ℕ) (c : Cache) (P : Answer → Type 0) → ((n : ℕ) → free_refusal t.units free ≡ some n → P (refused n))
    → P (resolve_by_groups t f (patch_of free numbers) room c) → P (call_by_groups t f free numbers room c)
unfolding call_by_groups
by-free-groups t f free numbers room c P bad good = unless (free_refusal t.units free) (resolve_by_groups t f (patch_of free numbers) room c) P bad good

abbrev IsResolved : Answer → Type 0
IsResolved (refused n) = ⊥
IsResolved (resolved es c n) = Unit {0}

count-after : (c : take.Counted) (o : Option Standing) → (stamped_by c o).count ≡ c.count + counts_in o
count-after c none = omega arith
count-after c (some y) = refl

module _ (t f : List ℕ) (ch : Checked t f) where
  abbrev T : RegInfo
  T = reg_info_of t

  abbrev F : Function
  F = function_of f

  -- a cache of the rules that calls go on with
  pub record Lies (c : Cache) : Type 0 where
    pub sound : machine.CacheOk T F c
    pub quiet : Quiet T F ch.target ch.function c

  resolve_right : (p : Patch) (room : ℕ) (c : Cache) → Lies c → (r : Answer) → resolve T F p room c ≡ r → Answered T F p r × Lies (cache_after c r)
  resolve_right p room c l r e =
      let a = called T F ch.target ch.function (record { patch = p; room = room }) c l.sound r e in
      (a.0, record { sound = a.1; quiet = (quiet-after T F ch.target ch.function p room c l.quiet r e).0 })

  call-right : (free numbers : List ℕ) (room : ℕ) (c : Cache) → Lies c → Answered T F (patch_of free numbers) (call_of T F free numbers room c) × Lies (cache_after c (call_of T F free numbers room c))
  call-right free numbers room c l =
      by-free T F free numbers room c (λ r. Answered T F (patch_of free numbers) r × Lies (cache_after c r)) (λ n e. (tt, l)) (resolve_right (patch_of free numbers) room c l _ refl)

  groups-right : (p : Patch) (room : ℕ) (c : Cache) → Lies c → (r : Answer) → resolve_by_groups T F p room c ≡ r → Answered T F p r × Lies (cache_after c r)
  groups-right p room c l r e =
      let a = grouped T F ch.target ch.function p room c l.sound r e in
      (a.0, record { sound = a.1; quiet = quiet-groups T F ch.target ch.function p room c l.quiet r e })

  call-groups-right : (free numbers : List ℕ) (room : ℕ) (c : Cache) → Lies c
      → Answered T F (patch_of free numbers) (call_by_groups T F free numbers room c) × Lies (cache_after c (call_by_groups T F free numbers room c))
  call-groups-right free numbers room c l =
      by-free-groups T F free numbers room c (λ r. Answered T F (patch_of free numbers) r × Lies (cache_after c r)) (λ n e. (tt, l)) (groups-right (patch_of free numbers) room c l _ refl)

  -- an accepted call is `resolve`
  is-resolve : (free numbers : List ℕ) (room : ℕ) (c : Cache) (r : Answer) → call_of T F free numbers room c ≡ r → IsResolved r → resolve T F (patch_of free numbers) room c ≡ r
  is-resolve free numbers room c r e a =
      by-free T F free numbers room c (λ q. q ≡ r → resolve T F (patch_of free numbers) room c ≡ r) (λ n x q. absurd (subst IsResolved (sym q) a)) (λ q. q) e

  -- from a stamp that the calls began with
  module _ (start : ℕ) where
    -- an answer still to take, beside a cache and its count: where the counts are the same, its table takes the cache to what the rules have
    record Fits (cache : List ℕ) (c : Cache) (count : ℕ) (k : Kept) (a : Preview) : Type 0 where
      pub stamp : k.preview.stamp ≡ stamp_after start a.count
      pub made : k.preview.made ≡ a.after.made
      pub low : a.count ≤ count
      pub pending : a.count ≡ count → Pending f F.limit cache k.slots a.after
      pub answer : a.count ≡ count → resolve T F a.patch a.room c ≡ resolved a.edits a.after a.position

    record Inv (s : Held) (v : Served) : Type 0 where
      pub same : Same t f start s v
      pub ok : CacheOk f s.cache
      pub lies : Lies v.now.cache
      pub pairs : Paired (Fits s.cache v.now.cache v.now.count) s.kept v.asked

    module _ (s : Held) (v : Served) (i : Inv s v) where
      -- the cache is as it was
      not-settled : (cache : List ℕ) → cache ≡ s.cache → Inv (record { cache = cache; kept = s.kept }) (record { now = record { cache = v.now.cache; count = v.now.count + 0 }; asked = v.asked })
      not-settled cache e = let z : v.now.count + 0 ≡ v.now.count = omega arith in rw (e, z) i

      -- a patch was settled
      settles : (cache : List ℕ) (c : Cache) → cache_of cache ≡ c → stamp_of cache ≡ raised (stamp_of s.cache) → CacheOk f cache → Lies c
          → Inv (record { cache = cache; kept = s.kept }) (record { now = record { cache = c; count = v.now.count + 1 }; asked = v.asked })
      settles cache c is up ok l =
          record {
            same = record { cache = is; stamp = up ∙ ap raised i.same.stamp ∙ stamp-next start v.now.count };
            ok = ok;
            lies = l;
            pairs =
                paired-map (Fits s.cache v.now.cache v.now.count) (Fits cache c (v.now.count + 1))
                (λ k a h. record { stamp = h.stamp; made = h.made; low = omega (arith, h.low); pending = λ e. absurd (omega (arith, h.low)); answer = λ e. absurd (omega (arith, h.low)) })
                s.kept v.asked i.pairs;
          }

      -- ---- a patch is resolved, by groups or not
      resolved-on : (x : calls.Made) (r : Answer) → Gives f r x.answer x.list x.after s.cache x.cache → Lies (cache_after v.now.cache r)
          → Inv (record { cache = x.cache; kept = s.kept }) (record { now = stamped v.now r; asked = v.asked })
      resolved-on x (refused n) g l = not-settled x.cache g.2
      resolved-on x (resolved es c n) g l = settles x.cache c g.4 g.7 g.5 l

      -- ---- it is asked for
      module _ (x : MadeAsk) where
        abbrev p : Patch
        p = patch_of x.free x.numbers

        one-asked : (r : Answer) → ruled t f x.free x.numbers (length x.list) v.now.cache ≡ r → Asks f F.limit r x.answer x.list x.after s.cache x.slots
            → One (Fits s.cache v.now.cache v.now.count) (kept_of x.answer x.slots) (take.preview_of p (length x.list) v.now.count r)
        one-asked (refused n) e g = rw g.0 tt
        one-asked (resolved es c n) e g =
            rw g.0
            (record {
              stamp = i.same.stamp;
              made = refl;
              low = omega arith;
              pending = λ q. g.3;
              answer = λ q. is-resolve x.free x.numbers (length x.list) v.now.cache (resolved es c n) e tt;
            })

        asked-on : (r : Answer) → ruled t f x.free x.numbers (length x.list) v.now.cache ≡ r → Asks f F.limit r x.answer x.list x.after s.cache x.slots
            → Inv (left (asking x) s) (record { now = v.now; asked = v.asked ++ (take.preview_of p (length x.list) v.now.count r ∷ []) })
        asked-on r e g =
            record {
              same = record { cache = i.same.cache; stamp = i.same.stamp };
              ok = i.ok;
              lies = i.lies;
              pairs = paired-more (Fits s.cache v.now.cache v.now.count) s.kept v.asked (kept_of x.answer x.slots) (take.preview_of p (length x.list) v.now.count r) i.pairs (one-asked r e g);
            }

      -- ---- an answer is taken
      module _ (x : MadeTake) where
        abbrev Taken : Option Standing → Type 0
        Taken o =
            TakeAnswered t f (answer_in o) x s.cache × Owed T F o × Inv (record { cache = x.cache; kept = s.kept }) (record { now = stamped_by v.now o; asked = v.asked })

        module _ (k : Kept) (a : Preview) (h : Fits s.cache v.now.cache v.now.count k a) (did : TakeDid t f (some k) x s.cache) where
          take-now : a.count ≡ v.now.count → Taken (some (record { patch = a.patch; answer = take_answer a v.now }))
          take-now e =
              let q = h.pending e in
              let y = (did (λ _. q.can)).same (h.stamp ∙ ap (stamp_after start) e ∙ sym i.same.stamp) in
              let is : cache_of x.cache ≡ a.after = y.1.is ∙ rw (q.stacks, h.made) in
              let ok : CacheOk f x.cache = record { fits = y.1.fits; stacks = rw is q.lie; made = rw is q.made } in
              let r = resolve_right a.patch a.room v.now.cache i.lies (resolved a.edits a.after a.position) (h.answer e) in
              rw (taken-now a v.now e) ((y.0, is, ok, y.1.stamp), r.0, settles x.cache a.after is y.1.stamp ok r.1)

          take-late : (a.count ≡ v.now.count → ⊥) → Few v.now.count → Taken (some (record { patch = a.patch; answer = take_answer a v.now }))
          take-late n few =
              let other : k.preview.stamp ≡ stamp_of s.cache → ⊥ = λ e. n (stamp-told start a.count v.now.count h.low few (sym h.stamp ∙ e ∙ i.same.stamp)) in
              let y = (did (λ e. absurd (other e))).other other in
              rw (taken-late a v.now n) (y, tt, not-settled x.cache y.1)

          taken-either : Few (v.now.count + counts (take_answer a v.now)) → Taken (some (record { patch = a.patch; answer = take_answer a v.now }))
          taken-either below = go (eqb a.count v.now.count) refl
            where
              go : (b : Bool) → eqb a.count v.now.count ≡ b → Taken (some (record { patch = a.patch; answer = take_answer a v.now }))
              go true e = take-now (eqb-true a.count v.now.count e)
              go false e = take-late (eqb-false a.count v.now.count e) (omega (arith, below))

        taken-on : (o : Option Kept) (q : Option Preview) → One (Fits s.cache v.now.cache v.now.count) o q → TakeDid t f o x s.cache
            → Few (v.now.count + counts_in (taken_of q v.now)) → Taken (taken_of q v.now)
        taken-on none none h did below = absurd did
        taken-on none (some a) h did below = absurd h
        taken-on (some k) none h did below = absurd h
        taken-on (some k) (some a) h did below = taken-either k a h did below

      -- ---- one call
      step : (x : Made) → Did t f x s → (is_take x ≡ true → Few (v.now.count + counts_in (standing T F x v)))
          → Outcome t f x s v × Owed T F (standing T F x v) × Inv (left x s) (after T F x v)
      unfolding standing asked_after answered
      step (resolving x) did below =
          let r = call-right x.free x.numbers (length x.list) v.now.cache i.lies in
          let g : Gives f (ruled t f x.free x.numbers (length x.list) v.now.cache) x.answer x.list x.after s.cache x.cache = rw i.same.cache at (did i.ok) in
          (g, r.0, resolved-on x (ruled t f x.free x.numbers (length x.list) v.now.cache) g r.1)
      step (grouping x) did below =
          let r = call-groups-right x.free x.numbers (length x.list) v.now.cache i.lies in
          let g : Gives f (ruled_by_groups t f x.free x.numbers (length x.list) v.now.cache) x.answer x.list x.after s.cache x.cache = rw i.same.cache at (did i.ok) in
          (g, r.0, resolved-on x (ruled_by_groups t f x.free x.numbers (length x.list) v.now.cache) g r.1)
      step (asking x) did below =
          let g : Asks f F.limit (ruled t f x.free x.numbers (length x.list) v.now.cache) x.answer x.list x.after s.cache x.slots = rw i.same.cache at (did i.ok) in
          (g, tt, asked-on x (ruled t f x.free x.numbers (length x.list) v.now.cache) refl g)
      step (taking x) did below =
          taken-on x (get_or s.kept x.asking none) (get_or v.asked x.asking none)
          (paired_at (Fits s.cache v.now.cache v.now.count) s.kept v.asked x.asking i.pairs) did (below refl)

  -- the caches of the rules that the calls meet
  abbrev pub AllLie : List Made → Served → Type 0
  AllLie [] v = Unit {0}
  AllLie (x ∷ l) v = Lies v.now.cache × AllLie l (after T F x v)

  claims : (start : ℕ) (calls : List Made) (s : Held) (v : Served) → Inv start s v → Called t f calls s → FewIfTaken T F calls v → Claim t f start calls s v × AllLie calls v
  unfolding settled any_in
  claims start [] s v i h below = (i.same, tt)
  claims start (x ∷ l) s v i h below =
      let y = step start s v i x h.0 (λ e. omega (arith, below (first-of (is_take x) (any_in is_take l) e))) in
      let on = claims start l (left x s) (after T F x v) y.2 h.1 (λ e. omega (arith, below (later_of (is_take x) (any_in is_take l) e), count-after v.now (standing T F x v))) in
      ((i.same, y.0, y.1, on.0), (i.lies, on.1))

-- from a function that was opened
pub claimed :
    (kept : ℕ) (bytes t f cache cache' : List ℕ) (o : OpenedAs (opened kept bytes) Yes t f cache cache') (calls : List Made) → Called t f calls (holding cache')
    → FewIfTaken (reg_info_of t) (function_of f) calls fresh
    → Claim t f (stamp_of cache') calls (holding cache') fresh × AllLie t f (known (opened kept bytes) t f cache cache' o).0 calls fresh
claimed kept bytes t f cache cache' o calls made below =
    let k = known (opened kept bytes) t f cache cache' o in
    claims t f k.0 (stamp_of cache') calls (holding cache') fresh
    (record {
      same = record { cache = k.1.empty; stamp = stamp-first (stamp_of cache') (fresh-cleared cache' k.1).stamp };
      ok = k.2;
      lies = record { sound = cache-fresh (reg_info_of t) (function_of f) k.0.target k.0.function; quiet = quiet-fresh (reg_info_of t) (function_of f) k.0.target k.0.function };
      pairs = tt;
    }) made below

pub demand-3-of-all-calls : Demand3
demand-3-of-all-calls kept bytes t f cache cache' o calls made below = (claimed kept bytes t f cache cache' o calls made below).0
