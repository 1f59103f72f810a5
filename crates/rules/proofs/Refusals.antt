-- The numbers of a call are given by the first of its conditions that holds.
use Prim.Native.Nat.{ℕ, ◌≤◌}
use mathlib.Core.Path.{◌≡◌, refl, sym, ap, ◌∙◌}
use mathlib.Core.Bool.{Bool, true, false}
use mathlib.Core.List.{List, [], ◌∷◌, ◌++◌, cons≢nil}
use mathlib.Core.Option.{Option, none, some}
use mathlib.Core.Logic.{◌↔◌}
use native.Mathlib.Omega.{arith}
use borrow.Author.Tests.{ltb-false, le-ltb}
use Rattle.entity.specs.Logic.{pick}
use Rattle.reginfo.specs.RegInfo.{RegInfo}
use Rattle.reginfo.specs.Refused.{Condition, refused_if, or_else, first_of}
use Rattle.reginfo.specs.Given.{NoneHolds}
use Rattle.reginfo.proofs.First.{first-none, none_first, given-first, first-given}
use Rattle.function.specs.Function.{Function}
use Rattle.rules.specs.Edit.{Edit}
use Rattle.rules.specs.Scratch.{Cache, ScratchAllocator, Acquired, acquire_from}
use Rattle.rules.specs.Patch.{Entry, Patch, Sorted, nothing_sorted, Answer, refused, resolved, answer_of, unless_refused, cache_after, add, sorted_from, sorted, entry_conditions, patch_conditions, run, resolve_sorted, resolve_from, resolve}
use Rattle.rules.specs.Refusals.{ran_out, entries_conditions, call_conditions, Refusals, NoSlot}

-- one list of conditions, then another
first-append : (xs ys : List Condition) (r : Answer) → unless_refused (first_of (xs ++ ys)) r ≡ unless_refused (first_of xs) (unless_refused (first_of ys) r)
unfolding first_of
first-append [] ys r = refl
first-append (x ∷ xs) ys r = go x.holds (first-append xs ys r)
  where
    go : (b : Bool) → unless_refused (first_of (xs ++ ys)) r ≡ unless_refused (first_of xs) (unless_refused (first_of ys) r)
        → unless_refused (or_else b x.number (first_of (xs ++ ys))) r ≡ unless_refused (or_else b x.number (first_of xs)) (unless_refused (first_of ys) r)
    go true on = refl
    go false on = on

first-behind : (xs ys : List Condition) → first_of (xs ++ ys) ≡ none → first_of ys ≡ none
unfolding first_of
first-behind [] ys e = e
first-behind (x ∷ xs) ys e = go x.holds e (first-behind xs ys)
  where
    go : (b : Bool) → or_else b x.number (first_of (xs ++ ys)) ≡ none → (first_of (xs ++ ys) ≡ none → first_of ys ≡ none) → first_of ys ≡ none
    go true e on = let z : ◌≡◌ {A = ℕ} 0 1 = cc in absurd (omega arith)
    go false e on = on e

-- the run's own condition
run-last : (o : Option ScratchAllocator) → answer_of o ≡ unless_refused (first_of (refused_if 17 (ran_out o) ∷ [])) (answer_of o)
unfolding first_of
run-last none = refl
run-last (some k) = refl

-- an answer is a number or none
refused-some : (o : Option ℕ) (r : Option ScratchAllocator) (n : ℕ) → (o ≡ none → ran_out r ≡ false) → unless_refused o (answer_of r) ≡ refused n → o ≡ some n
refused-some (some m) r n h e = cc
refused-some none none n h e = let z : ◌≡◌ {A = Bool} true false = h refl in let z : ◌≡◌ {A = ℕ} 0 1 = cc in absurd (omega arith)
refused-some none (some k) n h e = let z : ◌≡◌ {A = ℕ} 0 1 = cc in absurd (omega arith)

resolved-none : (o : Option ℕ) (r : Answer) (es : List Edit) (c : Cache) (n : ℕ) → unless_refused o r ≡ resolved es c n → o ≡ none
resolved-none (some m) r es c n e = let z : ◌≡◌ {A = ℕ} 0 1 = cc in absurd (omega arith)
resolved-none none r es c n e = refl

none-resolved : (r : Option ScratchAllocator) → ran_out r ≡ false → (es : List Edit) × (c : Cache) × (n : ℕ) × (answer_of r ≡ resolved es c n)
none-resolved none h = let z : ◌≡◌ {A = ℕ} 0 1 = cc in absurd (omega arith)
none-resolved (some k) h = (k.edits, k.cache, k.met, refl)

not_made : (b : Bool) (x : Acquired) → pick b (some x) none ≡ none → b ≡ false
not_made true x e = let z : ◌≡◌ {A = ℕ} 0 1 = cc in absurd (omega arith)
not_made false x e = refl

module _ (t : RegInfo) (f : Function) where
  module _ (p : Patch) (room : ℕ) (c : Cache) where
    entries-first : (l : List Entry) (a : Sorted)
        → resolve_from t f p room c l a ≡ unless_refused (first_of (entries_conditions t f l a)) (resolve_sorted t f p room c (sorted_from t f l a))
    unfolding entries_conditions resolve_from sorted_from first_of
    entries-first [] a = refl
    entries-first (e ∷ l) a = ap (unless_refused (first_of (entry_conditions t f a e))) (entries-first l (add t f e a)) ∙ sym (first-append (entry_conditions t f a e) (entries_conditions t f l (add t f e a)) _)

    ran : Option ScratchAllocator
    ran = run t f p (sorted t f p) c

    ending : List Condition
    ending = refused_if 17 (ran_out ran) ∷ []

    -- the answer is that of the first condition that holds, else the run's
    by_first : resolve t f p room c ≡ unless_refused (first_of (call_conditions t f p room c)) (answer_of ran)
    unfolding resolve resolve_sorted call_conditions ran ending
    by_first =
        entries-first p.entries nothing_sorted
        ∙ ap (λ (r : Answer). unless_refused (first_of (entries_conditions t f p.entries nothing_sorted)) (unless_refused (first_of (patch_conditions t f p room (sorted t f p))) r)) (run-last ran)
        ∙ ap (unless_refused (first_of (entries_conditions t f p.entries nothing_sorted))) (sym (first-append (patch_conditions t f p room (sorted t f p)) ending (answer_of ran)))
        ∙ sym (first-append (entries_conditions t f p.entries nothing_sorted) _ (answer_of ran))

    not-out : first_of (call_conditions t f p room c) ≡ none → ran_out ran ≡ false
    unfolding call_conditions ending ran
    not-out e = first-none ending (first-behind (patch_conditions t f p room (sorted t f p)) ending (first-behind (entries_conditions t f p.entries nothing_sorted) _ e)) 0 (omega arith)

    taken-if : NoneHolds (call_conditions t f p room c) → (es : List Edit) × (c' : Cache) × (m : ℕ) × (resolve t f p room c ≡ resolved es c' m)
    taken-if h =
        let e = none_first (call_conditions t f p room c) h in
        let w = none-resolved ran (not-out e) in
        (w.0, w.1, w.2, by_first ∙ ap (λ (o : Option ℕ). unless_refused o (answer_of ran)) e ∙ w.3)

    pub refusals : Refusals t f p room c
    refusals =
        record {
          given = λ n. (
            λ e. first-given (call_conditions t f p room c) n (refused-some _ ran n not-out (sym by_first ∙ e)),
            λ g. by_first ∙ ap (λ (o : Option ℕ). unless_refused o (answer_of ran)) (given-first (call_conditions t f p room c) n g),
          );
          taken = (λ w. first-none (call_conditions t f p room c) (resolved-none _ (answer_of ran) w.0 w.1 w.2 (sym by_first ∙ w.3)), taken-if);
          cache-stays = λ n e. ap (cache_after c) e;
        }

  pub no-slot : NoSlot t f
  unfolding acquire_from
  no-slot z c = go (c.stacks z)
    where
      go : (l : List ℕ) → (acquire_from t f l z c ≡ none) ↔ ((l ≡ []) × (f.limit ≤ c.made))
      go [] = (λ e. (refl, ltb-false c.made f.limit (not_made _ _ e)), λ h. rw (le-ltb c.made f.limit h.1))
      go (s ∷ l) = (λ e. (let z : ◌≡◌ {A = ℕ} 0 1 = cc in absurd (omega arith)), λ h. absurd (cons≢nil h.0))
