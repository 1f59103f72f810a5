-- A patch resolved: what is asked of its end, and that the answer is that of the rules.
use Prim.Native.Nat.{ℕ, ◌<◌, ◌≤◌}
use mathlib.Core.Path.{◌≡◌, refl, sym, ap, subst, ◌∙◌}
use mathlib.Core.Bool.{Bool, true, false}
use mathlib.Core.List.{List, [], ◌++◌, map}
use mathlib.Core.Option.{Option, none, some}
use mathlib.Core.Logic.{inl}
use native.Mathlib.Omega.{arith}
use lib.Dec.{ltb}
use lib.ListN.{length, drop}
use borrow.Author.Tests.{ltb-true, ltb-false}
use Rattle.entity.specs.Logic.{has}
use Rattle.reginfo.specs.Refused.{first_of}
use Rattle.reginfo.proofs.First.{first-none}
use Rattle.function.specs.Known.{Checked}
use Rattle.function.specs.Table.{function_of}
use Rattle.function.proofs.Laws.{low-limit}
use Rattle.small_set.specs.Set.{set_of}
use Rattle.rules.specs.Scratch as rules
use Rattle.rules.specs.Patch.{Patch, bound, Answer, refused, resolved, patch_conditions, resolve_sorted, resolve}
use Rattle.rules.specs.Sorted.{SortedOk}
use Rattle.function.specs.Function.{Function}
use Rattle.rules.specs.Refusals.{with_limit, ByLimit}
use Rattle.rules.proofs.Steps.{All}
use Rattle.rules.proofs.Limit.{by-limit}
use Rattle.machine.specs.Slots.{Stacked}
use Rattle.machine.proofs.Banked.{banked, banked-within}
use Rattle.machine.proofs.Bound.{run-few}
use Rattle.machine.proofs.Slots.{slots-empty, run-onward, stack-few}
use Rattle.edit.specs.Word.{word_of}
use Rattle.edit.specs.Buffer.{count_of, words_of, edits_of}
use Rattle.edit.proofs.Laws.{length-edits, all-in-range}
use Rattle.slots.specs.Stacks.{cache_of, stamp_of, met_of}
use Rattle.slots.specs.Steps.{Cleared, Fresh, Raised, Begun, Committed}
use Rattle.slots.proofs.Stamps.{fresh-cleared}
use Rattle.slots.proofs.Laws.{fits_more}
use Rattle.scratch.specs.declared.ScratchAllocator.{ScratchAllocator}
use Rattle.scratch.specs.State.{T, F, made_of, cache_in}
use Rattle.scratch.specs.Promises.{Tables, state_of}
use Rattle.scratch.proofs.Bounds.{stocked}
use Rattle.entries.specs.Table.{sorted_of}
use Rattle.entries.specs.Known.{EntriesOk}
use Rattle.scratch.proofs.Unlimited.{all_placed}
use Rattle.remats.specs.Remats.{only_remats, last_first}
use Rattle.remats.proofs.Known.{same_ok, remats-fit}
use Rattle.remats.proofs.Handing.{length_last, last-in-range, only-run}
use Rattle.closing.proofs.Known.{given}
use Rattle.parallel_moves.specs.declared.Grant.{Grant}
use Rattle.parallel_moves.specs.declared.asking.Asked as A
use Rattle.parallel_moves.specs.declared.asking.Asked.{Asked}
use Rattle.parallel_moves.specs.declared.asking.Preview.{Preview}
use Rattle.parallel_moves.specs.declared.asking.TakeAnswer as K
use Rattle.parallel_moves.specs.declared.Resolved as R
use Rattle.parallel_moves.specs.declared.Resolved.{Resolved}
use Rattle.parallel_moves.specs.Given.{free_of, with_made, own, GrantOk, CacheOk}
use Rattle.parallel_moves.specs.Answers.{Asks, Takes, Gives, GivesGranted, Resolves, ResolvesGranted, ResolvesPatch, ResolvesPatchGranted}
use Rattle.parallel_moves.specs.Steps.{Ran, CanHandOver, HandedOver, Shown}
use Rattle.parallel_moves.proofs.First.{patch-same}
use Rattle.parallel_moves.proofs.Running.{free-is}

-- the end of a run
module _ (limit : ℕ) (cache list : List ℕ) (k : ScratchAllocator) (edits slots : List ℕ) where
  pub too_many : limit < made_of k → HandedOver limit cache list k edits slots (R.TheVariants.Refused 17) list cache
  too_many h = record { over = λ _. (refl, refl, refl); within = λ q. absurd (omega arith) }

  pub handed : (n m : ℕ) (list' cache' : List ℕ) → made_of k ≤ limit → (n ≡ count_of edits) × (list' ≡ words_of edits ++ drop (count_of edits) list) → Committed slots cache cache' (made_of k) → m ≡ met_of slots → HandedOver limit cache list k edits slots (R.TheVariants.Edits n m) list' cache'
  handed n m list' cache' h out done e = record { over = λ q. absurd (omega arith); within = λ _. (refl, out.0, out.1, done, e) }

  pub too-many-asked : limit < made_of k → Shown limit cache list k edits slots (A.TheVariants.Refused 17) list
  too-many-asked h = record { over = λ _. (refl, refl); within = λ q. absurd (omega arith) }

  pub shown : (n m stamp : ℕ) (list' : List ℕ) → made_of k ≤ limit → (n ≡ count_of edits) × (list' ≡ words_of edits ++ drop (count_of edits) list) → m ≡ met_of slots → stamp ≡ stamp_of cache
      → Shown limit cache list k edits slots (A.TheVariants.Ready n (record { made = made_of k; position = m; stamp = stamp })) list'
  shown n m stamp list' h out e is = record { over = λ q. absurd (omega arith); within = λ _. (rw (out.0, e, is), out.1) }

-- what is stacked does not hang on L
restack : (f : Function) (l : ℕ) (c : rules.Cache) → Stacked f c → Stacked (record { values = f.values; slots = f.slots; limit = l; kept = f.kept }) c
restack f l c s = record { once = s.once; sole = s.sole; low = s.low; below = s.below }

same-sorted : (t f e w : List ℕ) → Checked t f → EntriesOk t f e w → SortedOk (T t) (F f) (sorted_of e)
same-sorted t f e w known ok =
    record {
      moves = (given t f e w known ok).moves.named;
      remats = λ i h. same_ok t f true _ (ok.sorted.remats i h);
      remats_with_scratch = λ i h. same_ok t f false _ (ok.sorted.remats_with_scratch i h);
      apart = ok.sorted.apart;
      sources = ok.sorted.sources;
    }

module _ (t f cache e w list : List ℕ) (known : Checked t f) (ok : EntriesOk t f e w) (g : Grant) (granted : GrantOk f g cache) (free : List Bool) where
  abbrev Same : Patch → Type 0
  Same p = (u : ℕ) → has u p.free ≡ set_of free u

  abbrev conditions : Patch → Option ℕ
  conditions p = first_of (patch_conditions (T t) (function_of f) p (length list) (sorted_of e))

  -- the function with the grant's limit, and the cache with its counter
  abbrev L : Function
  L = with_limit (T t) (function_of f) g.limit

  abbrev c₀ : rules.Cache
  c₀ = with_made g.made (cache_of cache)

  abbrev answered : Patch → Answer
  answered p = resolve_sorted (T t) L p (length list) c₀ (sorted_of e)

  tests : (p : Patch) → first_of (patch_conditions (T t) L p (length list) (sorted_of e)) ≡ conditions p
  tests p = ap first_of (patch-same (T t) (function_of f) g.limit p (length list) (sorted_of e))

  pub turned-away : (n : ℕ) → ((p : Patch) → Same p → some n ≡ conditions p) → (p : Patch) → Same p → GivesGranted f g (answered p) (R.TheVariants.Refused n) list list cache cache
  unfolding resolve_sorted
  turned-away n h p q = let is = h p q in rw (tests p, ← is) (refl, refl, refl)

  pub asked-away : (n : ℕ) (slots : List ℕ) → ((p : Patch) → Same p → some n ≡ conditions p) → (p : Patch) → Same p → Asks f g.limit (answered p) (A.TheVariants.Refused n) list list cache slots
  unfolding resolve_sorted
  asked-away n slots h p q = let is = h p q in rw (tests p, ← is) (refl, refl, tt)

  abbrev some-patch : Patch
  some-patch = record { free = free_of free; entries = [] }

  module _ (passed : (p : Patch) → Same p → none ≡ conditions p) where
    bounded : bound (sorted_of e) ≤ length list
    unfolding patch_conditions
    bounded = ltb-false (length list) (bound (sorted_of e)) (first-none _ (sym (passed some-patch (free-is free))) 2 (omega arith))

    -- there is room for the rebuilds without scratch
    pub remats-room : length (sorted_of e).remats ≤ length list
    remats-room = omega (arith, bounded)

    -- a patch that has nothing else
    pub gives-remats : only_remats (sorted_of e) ≡ true → (n : ℕ) (list' cache' : List ℕ)
        → (n ≡ length (sorted_of e).remats) × (list' ≡ map word_of (last_first (sorted_of e).remats (length (sorted_of e).remats)) ++ drop (length (sorted_of e).remats) list)
        → Raised cache cache' g.made → (p : Patch) → Same p → GivesGranted f g (answered p) (R.TheVariants.Edits n 0) list list' cache cache'
    unfolding resolve_sorted
    gives-remats only n list' cache' out up p q =
        let rs = (sorted_of e).remats in
        let len = length_last rs (length rs) in
        let is : cache_of cache' ≡ c₀ = up.is in
        rw (tests p, ← passed p q, only-run (T t) L p (sorted_of e) c₀ only)
        (refl, out.0 ∙ sym len, rw len out.1, last-in-range rs t (remats-fit t f known e w ok) (length rs) (omega arith), is, record { fits = up.fits granted.fits; stacks = rw is granted.stacks; made = granted.made; limit = granted.limit }, refl, up.stamp)

    -- only asked for: the table of slots is begun, so that a take leaves the stacks as they are
    pub asks-remats : only_remats (sorted_of e) ≡ true → (n stamp : ℕ) (list' slots : List ℕ)
        → (n ≡ length (sorted_of e).remats) × (list' ≡ map word_of (last_first (sorted_of e).remats (length (sorted_of e).remats)) ++ drop (length (sorted_of e).remats) list)
        → stamp ≡ stamp_of cache → Begun cache slots → (p : Patch) → Same p
        → Asks f g.limit (answered p) (A.TheVariants.Ready n (record { made = g.made; position = 0; stamp = stamp })) list list' cache slots
    unfolding resolve_sorted
    asks-remats only n stamp list' slots out is begun p q =
        let rs = (sorted_of e).remats in
        let len = length_last rs (length rs) in
        rw (tests p, ← passed p q, only-run (T t) L p (sorted_of e) c₀ only) (
          rw (out.0, len, is),
          rw len out.1,
          last-in-range rs t (remats-fit t f known e w ok) (length rs) (omega arith),
          record {
            can = record { fits = fits_more 0 1024 slots (omega arith) begun.fits; deep = λ z l. rw begun.stacks (omega (arith, stack-few (function_of f) c₀ granted.stacks z, granted.made, granted.limit)); untouched = begun.untouched };
            stacks = begun.stacks;
            lie = granted.stacks;
            made = granted.made;
          },
        )

  module _ (passed : (p : Patch) → Same p → none ≡ conditions p) (k : ScratchAllocator) (x : Tables) (ran : Ran t f cache e g.made free k x) where
    few-edits : count_of x.edits ≤ bound (sorted_of e)
    few-edits =
        omega (
          arith,
          subst (All (λ k. length k.edits ≤ bound (sorted_of e))) (ran.is some-patch (free-is free)) (run-few (T t) (F f) known.target (all_placed t f known) some-patch (sorted_of e) c₀ (same-sorted t f e w known ok)),
          length-edits x.edits,
        )

    limited : (p : Patch) → Same p → ByLimit (T t) L p (sorted_of e) c₀ (state_of t f cache k x)
    limited p q = by-limit (T t) L 4096 p (sorted_of e) c₀ (state_of t f cache k x) (ran.is p q)

    stacked : Stacked (function_of f) (cache_in k x.slots cache)
    stacked =
        restack (F f) (function_of f).limit (cache_in k x.slots cache)
        (run-onward (T t) (F f) known.target (banked-within (T t) (function_of f) 4096 (banked (T t) (function_of f) known.function)) some-patch (sorted_of e) c₀ (state_of t f cache k x) (same-sorted t f e w known ok) (restack (function_of f) 4096 c₀ granted.stacks) (ran.is some-patch (free-is free))).stacked

    pub can-hand-over : CanHandOver g.limit cache list k x.edits x.slots
    can-hand-over =
        record {
          few = omega (arith, ran.fits.few);
          room = omega (arith, few-edits, bounded passed);
          put = (stocked ran.fits).put;
          untouched = ran.fits.untouched;
          deep = λ h z l. omega (arith, stack-few (function_of f) (cache_in k x.slots cache) stacked z, granted.limit);
        }

    module _ (r : Resolved) (list' cache' : List ℕ) (out : HandedOver g.limit cache list k x.edits x.slots r list' cache') (p : Patch) (q : Same p) where
      run_out : g.limit < made_of k → GivesGranted f g (answered p) r list list' cache cache'
      unfolding resolve_sorted
      run_out h = rw (tests p, ← passed p q, (limited p q).out.1 (omega (arith, granted.made), h)) (out.over h)

      run_ends : made_of k ≤ g.limit → GivesGranted f g (answered p) r list list' cache cache'
      unfolding resolve_sorted
      run_ends h =
          let o = out.within h in
          let len : length (edits_of x.edits) ≡ count_of x.edits = length-edits x.edits in
          let is : cache_of cache' ≡ cache_in k x.slots cache = o.3.is in
          rw (tests p, ← passed p q, (limited p q).same (inl h))
          (o.0, o.1 ∙ sym len, rw (← ran.fits.written, len) o.2, all-in-range x.edits, is, record { fits = o.3.fits; stacks = rw is stacked; made = h; limit = granted.limit }, o.4, o.3.stamp)

      pub gives : GivesGranted f g (answered p) r list list' cache cache'
      gives = go (ltb g.limit (made_of k)) refl
        where
          go : (b : Bool) → ltb g.limit (made_of k) ≡ b → GivesGranted f g (answered p) r list list' cache cache'
          go true h = run_out (ltb-true _ _ h)
          go false h = run_ends (ltb-false _ _ h)

    -- only asked for
    module _ (r : Asked) (list' : List ℕ) (out : Shown g.limit cache list k x.edits x.slots r list') (p : Patch) (q : Same p) where
      asks-out : g.limit < made_of k → Asks f g.limit (answered p) r list list' cache x.slots
      unfolding resolve_sorted
      asks-out h = let o = out.over h in rw (tests p, ← passed p q, (limited p q).out.1 (omega (arith, granted.made), h)) (o.0, o.1, tt)

      asks-ends : made_of k ≤ g.limit → Asks f g.limit (answered p) r list list' cache x.slots
      unfolding resolve_sorted
      asks-ends h =
          let o = out.within h in
          let len : length (edits_of x.edits) ≡ count_of x.edits = length-edits x.edits in
          rw (tests p, ← passed p q, (limited p q).same (inl h)) (
            rw len o.0,
            rw (← ran.fits.written, len) o.1,
            all-in-range x.edits,
            record {
              can = record { fits = can-hand-over.put; deep = can-hand-over.deep h; untouched = can-hand-over.untouched };
              stacks = refl;
              lie = stacked;
              made = h;
            },
          )

      pub asks : Asks f g.limit (answered p) r list list' cache x.slots
      asks = go (ltb g.limit (made_of k)) refl
        where
          go : (b : Bool) → ltb g.limit (made_of k) ≡ b → Asks f g.limit (answered p) r list list' cache x.slots
          go true h = asks-out (ltb-true _ _ h)
          go false h = asks-ends (ltb-false _ _ h)

-- an answer is taken
module _ (a : Preview) (slots cache : List ℕ) (stamp : ℕ) (is : stamp ≡ stamp_of cache) where
  pub took : (cache' : List ℕ) → a.stamp ≡ stamp → Committed slots cache cache' a.made → Takes a slots cache K.TheVariants.Yes cache'
  took cache' e c = record { same = λ _. (refl, c); other = λ n. absurd (n (e ∙ is)) }

  pub not_taken : (a.stamp ≡ stamp → ⊥) → Takes a slots cache (K.TheVariants.Refused 20) cache
  not_taken n = record { same = λ e. absurd (n (e ∙ sym is)); other = λ _. (refl, refl) }

-- ---- a function alone
pub own-ok : (t f cache : List ℕ) → Checked t f → CacheOk f cache → GrantOk f (own f cache) cache
own-ok t f cache known ok = record { fits = ok.fits; stacks = ok.stacks; made = ok.made; limit = low-limit (T t) (function_of f) known.function }

own-gives : (f cache : List ℕ) (a : Answer) (r : Resolved) (list list' cache' : List ℕ) → GivesGranted f (own f cache) a r list list' cache cache' → Gives f a r list list' cache cache'
own-gives f cache (refused n) r list list' cache' h = h
own-gives f cache (resolved es c n) r list list' cache' h =
    (h.0, h.1, h.2, h.3, h.4, record { fits = h.5.fits; stacks = rw h.4 (rw h.4 at h.5.stacks); made = rw h.4 h.5.made }, h.6, h.7)

module _ (t f cache : List ℕ) (free : List Bool) (list : List ℕ) (g : Grant) (is : g ≡ own f cache) (r : Resolved) (list' cache' : List ℕ) where
  pub own-resolves : (e : List ℕ) → ResolvesGranted g t f free e r list list' cache cache' → Resolves t f free e r list list' cache cache'
  own-resolves e h p q = own-gives f cache (resolve_sorted (T t) (function_of f) p (length list) (cache_of cache) (sorted_of e)) r list list' cache' (rw is at (h p q))

  pub own-resolves-patch : (numbers : List ℕ) → ResolvesPatchGranted g t f free numbers r list list' cache cache' → ResolvesPatch t f free numbers r list list' cache cache'
  own-resolves-patch numbers h p q = own-gives f cache (resolve (T t) (function_of f) p (length list) (cache_of cache)) r list list' cache' (rw is at (h p q))

-- a cache with no slot made
pub fresh_ok : (f cache : List ℕ) → Fresh cache → CacheOk f cache
fresh_ok f cache h = record { fits = h.fits; stacks = rw h.empty (slots-empty (function_of f)).stacked; made = rw h.empty (omega arith) }

pub fresh : {before : List ℕ} (f cache : List ℕ) → Cleared before cache → CacheOk f cache
fresh f cache h = fresh_ok f cache (fresh-cleared cache h)
