-- The free units of a call, one after the other, and the call behind them.
use Prim.Native.Nat.{ℕ, ◌+◌, ◌<◌, ◌≤◌}
use mathlib.Core.Path.{◌≡◌, refl, sym, ◌∙◌}
use mathlib.Core.Bool.{Bool, false}
use mathlib.Core.List.{List, [], ◌∷◌}
use mathlib.Core.Option.{Option, none, some}
use native.Mathlib.Omega.{arith}
use lib.Dec.{eqb, ltb}
use lib.ListN.{length, get_or, drop, drop_of_length-le}
use borrow.Author.Tests.{lt-ltb, le-ltb, ltb-false}
use Rattle.entity.specs.Logic.{or, has}
use Rattle.entity.proofs.Laws.{drop-step}
use Rattle.reginfo.specs.Table.{reg_info_of}
use Rattle.function.specs.Table.{function_of}
use Rattle.small_set.specs.Set.{set_of, empty_set, inserted}
use Rattle.slots.specs.Stacks.{cache_of}
use Rattle.rules.specs.Refusals.{with_limit}
use Rattle.rules.specs.Patch.{Answer}
use Rattle.entries.specs.Known.{free_in}
use Rattle.parallel_moves.specs.declared.asking.Asked as A
use Rattle.parallel_moves.specs.declared.asking.Asked.{Asked}
use Rattle.parallel_moves.specs.declared.Grant.{Grant}
use Rattle.parallel_moves.specs.declared.Resolved as R
use Rattle.parallel_moves.specs.declared.Resolved.{Resolved}
use Rattle.parallel_moves.specs.Given.{with_made, own}
use Rattle.parallel_moves.specs.Answers.{Gives, GivesGranted, Asks, ResolvesPatch, ResolvesPatchGranted, AsksPatchGranted}
use Rattle.job_patch.proofs.Freeing.{or-none, shifted}
use Rattle.calls.specs.Call.{free_from, free_refusal, patch_of, call_of, FreeTaken}

module _ (units : ℕ) (us : List ℕ) where
  -- those before `at` are taken; none of the others may be below `least`
  pub record Freeing (least at : ℕ) (set : List Bool) : Type 0 where
    pub within : at ≤ length us
    pub first : free_refusal units us ≡ free_from units least (drop at us)
    pub has_all : (u : ℕ) → has u us ≡ or (set_of set u) (has u (drop at us))
    pub low : least ≤ units

  pub freeing-start : (set : List Bool) → set_of set ≡ empty_set → Freeing 0 0 set
  unfolding empty_set
  freeing-start set e = record { within = omega arith; first = refl; has_all = λ u. rw e refl; low = omega arith }

  module _ (least at : ℕ) (set : List Bool) (h : Freeing least at set) (more : at < length us) where
    abbrev unit : ℕ
    unit = get_or us at 0

    next-is : drop at us ≡ unit ∷ drop (at + 1) us
    next-is = drop-step us at 0 more

    pub no-unit : (set' : List Bool) → units ≤ unit → FreeTaken units us (some 2) set'
    unfolding free_from
    no-unit set' l = record { is = sym (h.first ∙ rw (next-is, le-ltb unit units l)); has_all = λ q. absurd (let z : ◌≡◌ {A = ℕ} 0 1 = cc in omega arith) }

    pub not-rising : (set' : List Bool) → unit < units → unit < least → FreeTaken units us (some 3) set'
    unfolding free_from
    not-rising set' l low = record { is = sym (h.first ∙ rw (next-is, lt-ltb unit units l, lt-ltb unit least low)); has_all = λ q. absurd (let z : ◌≡◌ {A = ℕ} 0 1 = cc in omega arith) }

    pub freeing_step : (set' : List Bool) → unit < units → least ≤ unit → set_of set' ≡ inserted (set_of set) unit → Freeing (unit + 1) (at + 1) set'
    unfolding free_from inserted has
    freeing_step set' l high is =
        record {
          within = omega arith;
          first = h.first ∙ rw (next-is, lt-ltb unit units l, le-ltb unit least high);
          has_all = λ u. h.has_all u ∙ rw (next-is, is) (shifted (set_of set u) (eqb u unit) (has u (drop (at + 1) us)));
          low = omega arith;
        }

  pub freeing-end : (least at : ℕ) (set : List Bool) → Freeing least at set → length us ≤ at → FreeTaken units us none set
  unfolding free_from has
  freeing-end least at set h l =
      let end = drop_of_length-le us {i = at} l in
      record { is = sym (h.first ∙ rw end); has_all = λ _ u. h.has_all u ∙ rw end (or-none (set_of set u)) }

-- where none is given, the set is left as it is
pub none-taken : (units : ℕ) (us : List ℕ) (set : List Bool) → length us ≡ 0 → FreeTaken units us none (free_in (ltb 0 (length us)) set)
unfolding free_from has set_of
none-taken units [] set q = record { is = refl; has_all = λ _ u. refl }
none-taken units (u ∷ us) set q = absurd (omega arith)

pub some-taken : (units : ℕ) (us : List ℕ) (r : Option ℕ) (set : List Bool) → (length us ≡ 0 → ⊥) → FreeTaken units us r set → FreeTaken units us r (free_in (ltb 0 (length us)) set)
some-taken units us r set q h = let l : 0 < length us = omega arith in rw (lt-ltb 0 (length us) l) h

-- where none is listed, none is in the set
pub none-given : (units : ℕ) (us : List ℕ) (set : List Bool) → FreeTaken units us none set → ltb 0 (length us) ≡ false → (u : ℕ) → set_of set u ≡ false
unfolding has
none-given units [] set h q u = sym (h.has_all refl u)
none-given units (x ∷ us) set h q u = absurd (omega (arith, ltb-false 0 (length (x ∷ us)) q))

-- the call: refused for its free units, or that of its patch
module _ (t f us numbers list cache : List ℕ) (set : List Bool) where
  pub free-refused : (n : ℕ) → FreeTaken (reg_info_of t).units us (some n) set → Gives f (call_of (reg_info_of t) (function_of f) us numbers (length list) (cache_of cache)) (R.TheVariants.Refused n) list list cache cache
  unfolding call_of
  free-refused n h = rw (← h.is) (refl, refl, refl)

  pub free-taken : (r : Resolved) (list' cache' : List ℕ) → FreeTaken (reg_info_of t).units us none set → ResolvesPatch t f set numbers r list list' cache cache'
      → Gives f (call_of (reg_info_of t) (function_of f) us numbers (length list) (cache_of cache)) r list list' cache cache'
  unfolding call_of
  free-taken r list' cache' h g = rw (← h.is) (g (patch_of us numbers) (record { free-is = h.has_all refl; are = refl }))

-- the same under a grant
module _ (g : Grant) (t f us numbers list cache : List ℕ) (set : List Bool) where
  abbrev answered : Answer
  answered = call_of (reg_info_of t) (with_limit (reg_info_of t) (function_of f) g.limit) us numbers (length list) (with_made g.made (cache_of cache))

  pub refused-granted : (n : ℕ) → FreeTaken (reg_info_of t).units us (some n) set → GivesGranted f g answered (R.TheVariants.Refused n) list list cache cache
  unfolding call_of
  refused-granted n h = rw (← h.is) (refl, refl, refl)

  pub taken-granted : (r : Resolved) (list' cache' : List ℕ) → FreeTaken (reg_info_of t).units us none set → ResolvesPatchGranted g t f set numbers r list list' cache cache'
      → GivesGranted f g answered r list list' cache cache'
  unfolding call_of
  taken-granted r list' cache' h out = rw (← h.is) (out (patch_of us numbers) (record { free-is = h.has_all refl; are = refl }))

  pub refused-asked : (n : ℕ) (slots : List ℕ) → FreeTaken (reg_info_of t).units us (some n) set → Asks f g.limit answered (A.TheVariants.Refused n) list list cache slots
  unfolding call_of
  refused-asked n slots h = rw (← h.is) (refl, refl, tt)

  pub taken-asked : (r : Asked) (list' slots : List ℕ) → FreeTaken (reg_info_of t).units us none set → AsksPatchGranted g t f set numbers r list list' cache slots
      → Asks f g.limit answered r list list' cache slots
  unfolding call_of
  taken-asked r list' slots h out = rw (← h.is) (out (patch_of us numbers) (record { free-is = h.has_all refl; are = refl }))

-- a function alone
pub asked-own : (g : Grant) (t f us numbers list cache : List ℕ) → g ≡ own f cache → (r : Asked) (list' slots : List ℕ)
    → Asks f g.limit (call_of (reg_info_of t) (with_limit (reg_info_of t) (function_of f) g.limit) us numbers (length list) (with_made g.made (cache_of cache))) r list list' cache slots
    → Asks f (function_of f).limit (call_of (reg_info_of t) (function_of f) us numbers (length list) (cache_of cache)) r list list' cache slots
asked-own g t f us numbers list cache is r list' slots h = rw is at h
