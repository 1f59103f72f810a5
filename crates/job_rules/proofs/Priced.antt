-- A job whose target gives prices, and what its patches cost at most.
use Prim.Native.Nat.{ℕ, ◌≤◌}
use mathlib.Core.Path.{◌≡◌, refl, sym, ◌∙◌}
use mathlib.Core.Bool.{false}
use mathlib.Core.List.{List, [], ◌∷◌}
use mathlib.Core.Option.{Option, none, some}
use native.Mathlib.Omega.{arith}
use lib.Dec.{leb}
use lib.ListN.{length}
use Rattle.reginfo.specs.RegInfo.{RegInfo}
use Rattle.reginfo.specs.Refused.{first_of}
use Rattle.reginfo.proofs.First.{first-none}
use Rattle.function.specs.Function.{Function}
use Rattle.rules.specs.Edit.{Edit}
use Rattle.rules.specs.Scratch.{Cache}
use Rattle.rules.specs.Patch.{Entry, move, remat, Patch, Sorted, nothing_sorted, Answer, unless_refused, bound, entry_conditions, add, sorted_from, sorted, resolve_sorted, resolve}
use Rattle.rules.specs.Patch as rules
use Rattle.rules.specs.Refusals.{entries_conditions}
use Rattle.rules.proofs.Accepted.{accepted}
use Rattle.machine.proofs.Bound.{bound-ok}
use Rattle.price.proofs.Laws.{edits-few}
use Rattle.parallel_moves.proofs.First.{or_then, first-append, resolve-first}
use Rattle.job_rules.specs.Job.{job_by}
use Rattle.job_rules.specs.Priced as priced
use Rattle.job_rules.specs.Priced.{job_priced, AsUnpriced}
use Rattle.job_rules.proofs.Opening.{opening-unpriced}
use Rattle.job_rules.proofs.Room.{Few, still-few, within, none-sorted}

pub as-unpriced : AsUnpriced
unfolding job_priced job_by
as-unpriced p h kept l = (rw h (opening-unpriced kept l), rw (h, opening-unpriced kept l))

-- neither of two
both : (o q : Option ℕ) → or_then o q ≡ none → (o ≡ none) × (q ≡ none)
both none q e = (refl, e)
both (some k) q e = absurd (let z : ◌≡◌ {A = ℕ} 0 1 = cc in omega arith)

module _ (t : RegInfo) (f : Function) where
  -- 15 is the first of an entry's conditions
  counted : (a : Sorted) (e : Entry) → first_of (entry_conditions t f a e) ≡ none → leb 128 a.count ≡ false
  unfolding entry_conditions
  counted a (move s d v) h = first-none (entry_conditions t f a (move s d v)) h 0 (omega arith)
  counted a (remat d v) h = first-none (entry_conditions t f a (remat d v)) h 0 (omega arith)

  taken-few : (es : List Entry) (a : Sorted) → first_of (entries_conditions t f es a) ≡ none → Few a → Few (sorted_from t f es a)
  unfolding entries_conditions sorted_from
  taken-few [] a h k = k
  taken-few (e ∷ es) a h k =
      let s = both (first_of (entry_conditions t f a e)) _ (sym (first-append (entry_conditions t f a e) (entries_conditions t f es (add t f e a))) ∙ h) in
      taken-few es (add t f e a) s.1 (still-few t f a e (counted a e s.0) k)

  resolved-taken : (o : Option ℕ) (r : Answer) (es : List Edit) (c : Cache) (n : ℕ) → unless_refused o r ≡ rules.resolved es c n → o ≡ none
  resolved-taken none r es c n e = refl
  resolved-taken (some k) r es c n e = absurd (let z : ◌≡◌ {A = ℕ} 0 1 = cc in omega arith)

  bound-few : (q : Patch) (room : ℕ) (c c' : Cache) (es : List Edit) (n : ℕ) → resolve t f q room c ≡ rules.resolved es c' n → bound (sorted t f q) ≤ 1024
  bound-few q room c c' es n e =
      within t f (sorted t f q)
      (taken-few q.entries nothing_sorted (resolved-taken _ (resolve_sorted t f q room c (sorted t f q)) es c' n (sym (resolve-first t f q room c) ∙ e)) (none-sorted t f))

pub few : priced.Few
few p h t f at af q room c c' es n e =
    let l : length es ≤ 1024 = omega (arith, bound-ok t f at af q room c c' es (accepted t f q room c c' es n e), bound-few t f q room c c' es n e) in
    (l, edits-few p h es l)
