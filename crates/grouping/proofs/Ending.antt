-- A call by groups: refused as a whole or by a group, or all handed over.
use Prim.Native.Nat.{ℕ, ◌≤◌}
use mathlib.Core.Path.{◌≡◌, refl, sym, ap, ◌∙◌}
use mathlib.Core.Bool.{Bool}
use mathlib.Core.List.{List, [], ◌∷◌}
use mathlib.Core.Option.{none, some}
use native.Mathlib.Omega.{arith}
use lib.ListN.{length}
use borrow.Author.Tests.{ltb-false}
use Rattle.reginfo.specs.RegInfo.{RegInfo}
use Rattle.reginfo.specs.Refused.{first_of}
use Rattle.reginfo.proofs.First.{first-none}
use Rattle.function.specs.Function.{Function}
use Rattle.function.specs.Known.{Checked}
use Rattle.function.specs.Table.{function_of}
use Rattle.rules.specs.Scratch.{Cache}
use Rattle.rules.specs.Patch.{Patch, nothing_sorted, bound, Answer, refused, resolved, sorted, patch_conditions, resolve}
use Rattle.rules.specs.Refusals.{entries_conditions}
use Rattle.machine.specs.Slots.{Stacked}
use Rattle.slots.specs.Stacks.{cache_of, CacheFits}
use Rattle.scratch.specs.State.{T}
use Rattle.frame_rules.proofs.Unread.{sorted-same}
use Rattle.group_rules.specs.Groups.{parts, followed_by, resolve_parts, whole_conditions, resolve_by_groups}
use Rattle.group_rules.proofs.Lists.{first-both}
use Rattle.group_rules.proofs.Refusals.{Passing, by-run, parts-pass}
use Rattle.group_rules.proofs.Lifted.{whole_same}
use Rattle.parallel_moves.specs.declared.Grant.{Grant}
use Rattle.parallel_moves.specs.declared.Resolved as R
use Rattle.parallel_moves.specs.declared.Resolved.{Resolved}
use Rattle.parallel_moves.specs.Given.{Numbered, with_made, own, GrantOk}
use Rattle.parallel_moves.specs.Answers.{Gives, GivesGranted}
use Rattle.grouping.specs.Answers.{within, TestedAs, rest, Passed, PartsLeave, PartsGive, HandedOver, GroupsGranted, Groups}
use Rattle.grouping.proofs.Givens.{given, is-given}
use Rattle.grouping.proofs.Testing.{other-room}

-- the room matters to 16 alone
pub same_parts : (t : RegInfo) (f : Function) (l : List Patch) (a b : ℕ) (c : Cache) → Passing t f a l → Passing t f b l → resolve_parts t f l a c ≡ resolve_parts t f l b c
unfolding resolve_parts
same_parts t f [] a b c x y = refl
same_parts t f (q ∷ l) a b c x y =
    go (resolve t f q a c) (resolve t f q b c) (by-run t f q a c x.0 ∙ sym (by-run t f q b c y.0)) (λ d. same_parts t f l a b d x.1 y.1)
  where
    go : (r s : Answer) → r ≡ s → ((d : Cache) → resolve_parts t f l a d ≡ resolve_parts t f l b d) → followed_by r (λ d. resolve_parts t f l a d) ≡ followed_by s (λ d. resolve_parts t f l b d)
    go r s e on = rw e (by s)
      where
        by : (s : Answer) → followed_by s (λ d. resolve_parts t f l a d) ≡ followed_by s (λ d. resolve_parts t f l b d)
        by (refused n) = refl
        by (resolved es d n) = rw (on d)

module _ (t f : List ℕ) (free : List Bool) (numbers : List ℕ) (g : Grant) (ok : Checked t f) (cache list : List ℕ) where
  abbrev W : Function
  W = within t f g.limit

  abbrev c₀ : Cache
  c₀ = with_made g.made (cache_of cache)

  -- the working cache at the start
  pub begun_ok : (work : List ℕ) → GrantOk f g cache → cache_of work ≡ c₀ → CacheFits work → GrantOk f (rest g.limit work) work
  begun_ok work granted e fits = record { fits = fits; stacks = rw e granted.stacks; made = rw e granted.made; limit = granted.limit }

  -- by the whole patch's tests
  pub groups-refused : (n : ℕ) → TestedAs t f free numbers (length list) (some n) → GroupsGranted g t f free numbers (R.TheVariants.Refused n) list list cache cache
  unfolding resolve_by_groups
  groups-refused n h p num = rw (whole_same (T t) (function_of f) g.limit p (length list), ← h.is p num) (refl, refl, refl)

  module _ (h : TestedAs t f free numbers (length list) none) where
    whole-none : (p : Patch) → Numbered free numbers p → first_of (whole_conditions (T t) W p (length list)) ≡ none
    whole-none p num = ap first_of (whole_same (T t) (function_of f) g.limit p (length list)) ∙ sym (h.is p num)

    few : (p : Patch) → Numbered free numbers p → bound (sorted (T t) W p) ≤ 1024
    few p num = rw (← sorted-same (T t) (function_of f) g.limit p.entries nothing_sorted) (h.few refl p num)

    pub passed : Passed g.limit t f free numbers
    passed p num = other-room (T t) W p (length list) 1024 (whole-none p num) (few p num)

    roomy : (p : Patch) → Numbered free numbers p → bound (sorted (T t) W p) ≤ length list
    unfolding patch_conditions
    roomy p num =
        ltb-false (length list) (bound (sorted (T t) W p))
        (first-none _ (first-both (entries_conditions (T t) W p.entries nothing_sorted) (patch_conditions (T t) W p (length list) (sorted (T t) W p)) (whole-none p num)).1 2 (omega arith))

    -- the answer is that of the groups, one after the other
    by_parts : (p : Patch) → Numbered free numbers p → resolve_by_groups (T t) W p (length list) c₀ ≡ resolve_parts (T t) W (parts (T t) p) 1024 c₀
    unfolding resolve_by_groups
    by_parts p num =
        rw (whole-none p num)
        (same_parts (T t) W (parts (T t) p) (length list) 1024 c₀ (parts-pass (T t) W ok.target p (length list) (whole-none p num)) (parts-pass (T t) W ok.target p 1024 (passed p num)))

    module _ (work joined work' : List ℕ) (we : cache_of work ≡ c₀) where
      pub part_out : (k : ℕ) → PartsGive g.limit t f free numbers (R.TheVariants.Refused k) joined work work' → GroupsGranted g t f free numbers (R.TheVariants.Refused k) list list cache cache
      part_out k out p num = rw (by_parts p num) (go (resolve_parts (T t) W (parts (T t) p) 1024 c₀) (rw we at (out p num)))
        where
          go : (a : Answer) → PartsLeave g.limit t f p a (R.TheVariants.Refused k) joined work' → GivesGranted f g a (R.TheVariants.Refused k) list list cache cache
          go (refused n) o = (o, refl, refl)
          go (resolved es c n) o = absurd (let w = o.0 in let z : ◌≡◌ {A = ℕ} 0 1 = cc in omega arith)

      module _ (n met : ℕ) (out : PartsGive g.limit t f free numbers (R.TheVariants.Edits n met) joined work work') where
        -- what handing over needs
        pub can-hand-over : (n ≤ 1024) × (n ≤ length list) × CacheFits work'
        can-hand-over = go (resolve_parts (T t) W (parts (T t) (given free numbers)) 1024 (cache_of work)) (out (given free numbers) (is-given free numbers))
          where
            go : (a : Answer) → PartsLeave g.limit t f (given free numbers) a (R.TheVariants.Edits n met) joined work' → (n ≤ 1024) × (n ≤ length list) × CacheFits work'
            go (refused k) o = absurd (let z : ◌≡◌ {A = ℕ} 0 1 = cc in omega arith)
            go (resolved es c k) o =
                let a = few (given free numbers) (is-given free numbers) in
                let b = roomy (given free numbers) (is-given free numbers) in
                (omega (arith, a, o.1, o.7), omega (arith, b, o.1, o.7), o.5.fits)

        pub all-given : (list' cache' : List ℕ) → HandedOver joined n work' list cache list' cache' → GroupsGranted g t f free numbers (R.TheVariants.Edits n met) list list' cache cache'
        all-given list' cache' hand p num = rw (by_parts p num) (go (resolve_parts (T t) W (parts (T t) p) 1024 c₀) (rw we at (out p num)))
          where
            go : (a : Answer) → PartsLeave g.limit t f p a (R.TheVariants.Edits n met) joined work' → GivesGranted f g a (R.TheVariants.Edits n met) list list' cache cache'
            go (refused k) o = absurd (let z : ◌≡◌ {A = ℕ} 0 1 = cc in omega arith)
            go (resolved es c k) o =
                let ne : n ≡ length es = o.1 in
                let ce : cache_of cache' ≡ c = hand.is ∙ o.4 in
                let stacked : Stacked (function_of f) c = rw o.4 at o.5.stacks in
                let low : c.made ≤ g.limit = rw o.4 at o.5.made in
                (refl, ne, hand.words ∙ rw (ne, o.2), o.3, ce, record { fits = hand.fits; stacks = rw ce stacked; made = low; limit = o.5.limit }, o.6, hand.stamp)

-- ---- a function alone
own-gives : (f cache : List ℕ) (a : Answer) (r : Resolved) (list list' cache' : List ℕ) → GivesGranted f (own f cache) a r list list' cache cache' → Gives f a r list list' cache cache'
own-gives f cache (refused n) r list list' cache' h = h
own-gives f cache (resolved es c n) r list list' cache' h =
    (h.0, h.1, h.2, h.3, h.4, record { fits = h.5.fits; stacks = rw h.4 (rw h.4 at h.5.stacks); made = rw h.4 h.5.made }, h.6, h.7)

pub own-groups : (t f cache : List ℕ) (free : List Bool) (list : List ℕ) (g : Grant) → g ≡ own f cache → (r : Resolved) (list' cache' numbers : List ℕ)
    → GroupsGranted g t f free numbers r list list' cache cache' → Groups t f free numbers r list list' cache cache'
own-groups t f cache free list g is r list' cache' numbers h p q = own-gives f cache (resolve_by_groups (T t) (function_of f) p (length list) (cache_of cache)) r list list' cache' (rw is at (h p q))
