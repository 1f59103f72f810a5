-- The numbers of a call with so many words left are given by the first of its conditions that holds.
use Prim.Native.Nat.{ℕ, zero, suc, ◌+◌, ◌*◌}
use mathlib.Core.Path.{◌≡◌, refl, sym, ap, ◌∙◌}
use mathlib.Core.Bool.{Bool, true, false}
use mathlib.Core.List.{List, [], ◌∷◌}
use mathlib.Core.Option.{Option, none, some}
use mathlib.Core.Logic.{◌↔◌}
use native.Mathlib.Omega.{arith}
use borrow.Author.Tests.{ltb-true, ltb-false, lt-ltb, le-ltb}
use lib.Dec.{ltb}
use lib.ListN.{length}
use Rattle.entity.specs.Logic.{indices}
use Rattle.reginfo.specs.RegInfo.{RegInfo}
use Rattle.reginfo.specs.Refused.{Condition, refused_if, first_of}
use Rattle.reginfo.specs.Given.{Given, NoneHolds}
use Rattle.reginfo.proofs.First.{first-none, none_first, given-first, first-given}
use Rattle.function.specs.Function.{Function}
use Rattle.rules.specs.Edit.{Edit, and_then, each}
use Rattle.rules.specs.Scratch.{Cache}
use Rattle.rules.specs.Order.{KeptMove, Remat, remats, moves}
use Rattle.rules.specs.Patch.{Patch, Sorted, nothing_sorted, Answer, refused, resolved, sorted, bound, free_destination, last_overlaps, patch_conditions, run, resolve}
use Rattle.rules.specs.Refusals.{ran_out, entries_conditions}
use Rattle.parallel_moves.proofs.First.{or_then, first-append}
use Rattle.job_rules.specs.Job.{Resolver}
use Rattle.job_rules.specs.Conditions.{Out, runs_out}
use Rattle.job_rules.proofs.Calls.{number_of, ExactCalls, resolve-exact}
use Rattle.answer.specs.Room.{headless, call_in, conditions_in, RefusalsInBy, RefusalsIn}

given_by : (cs : List Condition) (a : Answer) → first_of cs ≡ number_of a → (n : ℕ) → (a ≡ refused n) ↔ Given cs n
given_by cs a e n = (λ h. first-given cs n (e ∙ ap number_of h), λ g. go a (sym e ∙ given-first cs n g))
  where
    go : (a : Answer) → number_of a ≡ some n → a ≡ refused n
    go (refused k) h = let z : k ≡ n = cc in ap refused z
    go (resolved es c m) h = absurd (let z : ◌≡◌ {A = ℕ} 0 1 = cc in omega arith)

taken-by : (cs : List Condition) (a : Answer) → first_of cs ≡ number_of a → ((es : List Edit) × (c : Cache) × (n : ℕ) × (a ≡ resolved es c n)) ↔ NoneHolds cs
taken-by cs a e = (λ w. first-none cs (e ∙ ap number_of w.3), λ h. go a (sym e ∙ none_first cs h))
  where
    go : (a : Answer) → number_of a ≡ none → (es : List Edit) × (c : Cache) × (n : ℕ) × (a ≡ resolved es c n)
    go (refused k) h = absurd (let z : ◌≡◌ {A = ℕ} 0 1 = cc in omega arith)
    go (resolved es c n) h = (es, c, n, refl)

-- no word is left: 16 unless a number comes before it
headless-number : (a : Answer) → number_of (headless a) ≡ or_then (number_of a) (some 16)
headless-number (refused k) = refl
headless-number (resolved es c n) = refl

sixteen : (o : Option ℕ) (b13 b14 b16 b17 : Bool) → (o ≡ none → b16 ≡ false → b17 ≡ false)
    → or_then o (first_of (refused_if 13 b13 ∷ refused_if 14 b14 ∷ refused_if 16 true ∷ refused_if 17 b17 ∷ []))
    ≡ or_then (or_then o (first_of (refused_if 13 b13 ∷ refused_if 14 b14 ∷ refused_if 16 b16 ∷ refused_if 17 b17 ∷ []))) (some 16)
unfolding first_of
sixteen (some k) b13 b14 b16 b17 h = refl
sixteen none true b14 b16 b17 h = refl
sixteen none false true b16 b17 h = refl
sixteen none false false true b17 h = refl
sixteen none false false false b17 h = rw (h refl refl)

same_test : (m b : ℕ) → ltb (suc m) (1 + b) ≡ ltb m b
same_test m b = go (ltb m b) refl
  where
    go : (x : Bool) → ltb m b ≡ x → ltb (suc m) (1 + b) ≡ x
    go true h = lt-ltb (suc m) (1 + b) (omega (arith, ltb-true m b h))
    go false h = le-ltb (suc m) (1 + b) (omega (arith, ltb-false m b h))

-- a patch of no edits needs no slot
abbrev pub Idle : Out → RegInfo → Function → Type 0
Idle out t f = (p : Patch) (c : Cache) → first_of (entries_conditions t f p.entries nothing_sorted) ≡ none → bound (sorted t f p) ≡ 0 → out t f p c ≡ false

-- whatever answers the calls
module _ (by : Resolver) (out : Out) (t : RegInfo) (f : Function) (exact : ExactCalls by out t f) (idle : Idle out t f) where
  headless-exactly : (p : Patch) (c : Cache) → first_of (conditions_in out t f p 0 c) ≡ number_of (headless (by t f p 0 c))
  unfolding conditions_in patch_conditions
  headless-exactly p c =
      let es : List Condition = entries_conditions t f p.entries nothing_sorted in
      let n : ℕ = bound (sorted t f p) in
      rw (headless-number (by t f p 0 c), ← exact p 0 c, first-append es _, first-append es _, lt-ltb 0 (1 + n) (omega arith))
      (sixteen (first_of es) (free_destination t f p (sorted t f p)) (last_overlaps t f (sorted t f p)) (ltb 0 n) (out t f p c)
      (λ e z. idle p c e (let q = ltb-false 0 n z in omega arith)))

  pub in-exactly : (p : Patch) (left : ℕ) (c : Cache) → first_of (conditions_in out t f p left c) ≡ number_of (call_in by t f p left c)
  unfolding conditions_in patch_conditions
  in-exactly p zero c = headless-exactly p c
  in-exactly p (suc left) c = rw (same_test left (bound (sorted t f p))) (exact p left c)

  pub refusals-in-by : (p : Patch) (left : ℕ) (c : Cache) → RefusalsInBy by out t f p left c
  refusals-in-by p left c =
      let e = in-exactly p left c in record { given = given_by (conditions_in out t f p left c) _ e; taken = taken-by (conditions_in out t f p left c) _ e }

module _ (t : RegInfo) (f : Function) where
  pub none-run : (p : Patch) (a : Sorted) (c : Cache) → bound a ≡ 0 → ran_out (run t f p a c) ≡ false
  unfolding run each and_then remats moves indices
  none-run p a c h = go a.moves a.remats a.remats_with_scratch (omega arith)
    where
      go : (ms : List KeptMove) (rs ss : List Remat) → 8 * length ms + (5 * length ss + length rs) ≡ 0
          → ran_out (run t f p (record { moves = ms; remats = rs; remats_with_scratch = ss; count = a.count }) c) ≡ false
      go [] [] [] h = refl
      go [] [] (x ∷ ss) h = absurd (omega arith)
      go [] (x ∷ rs) ss h = absurd (omega arith)
      go (x ∷ ms) rs ss h = absurd (omega arith)

  pub refusals-in : (p : Patch) (left : ℕ) (c : Cache) → RefusalsIn t f p left c
  refusals-in = refusals-in-by resolve runs_out t f (resolve-exact t f) (λ p c _ h. none-run p (sorted t f p) c h)
