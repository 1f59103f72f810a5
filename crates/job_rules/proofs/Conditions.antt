-- The number of a job is given by the first of its conditions that holds.
use Prim.Native.Nat.{ℕ, zero, suc, ◌<◌}
use mathlib.Core.Path.{◌≡◌, refl, sym, ap, ◌∙◌}
use mathlib.Core.Bool.{Bool, true, false}
use mathlib.Core.List.{List, [], ◌∷◌, ◌++◌}
use mathlib.Core.Logic.{◌↔◌}
use native.Mathlib.Omega.{arith}
use lib.Dec.{eqb, ltb, leb}
use lib.ListN.{length, drop}
use borrow.Author.Tests.{lt-ltb}
use Rattle.entity.specs.Logic.{and, no}
use Rattle.entity.specs.Place.{Place, place_at}
use Rattle.reginfo.specs.RegInfo.{RegInfo, bank_for_class}
use Rattle.reginfo.specs.Refused as target
use Rattle.reginfo.specs.Refused.{Condition, refused_if, outside_limits, listed_twice, first_of, target_refusal}
use Rattle.reginfo.proofs.First.{first-none, none_first, given-first, first-given}
use Rattle.function.specs.Function.{Function, num_values, is_setting}
use Rattle.rules.specs.Scratch.{Cache, empty_cache}
use Rattle.rules.specs.Patch.{Entry, Patch, Sorted, nothing_sorted, Answer, names_place, entry_conditions, add, resolve}
use Rattle.rules.specs.Patch as rules
use Rattle.rules.specs.Refusals.{entries_conditions}
use Rattle.parallel_moves.proofs.First.{or_then, first-append}
use Rattle.price.specs.declared.Prices.{Prices}
use Rattle.price.specs.Price.{in_range}
use Rattle.number.specs.Read.{Read, got, refused, then}
use Rattle.number.specs.Number.{number, encoded}
use Rattle.number.proofs.Laws.{only-form, read_back}
use Rattle.reading.specs.Reading.{tested, below, between, times, distinct}
use Rattle.job_target.specs.Target.{bank, reg, class, classes, target}
use Rattle.job_function.specs.Reads.{remat_value, value, valued, function}
use Rattle.job_patch.specs.Patches.{unless_given, rising, place, entry, entries, patch}
use Rattle.job_rules.specs.Job.{Resolver, Header, Answers, after_read, after_call, left_over, after_target, header, opening, patches_by, job_by}
use Rattle.job_rules.specs.Conditions.{after_got, unread, in_number, in_tested, in_times, in_distinct, in_bank, in_reg, in_class, in_classes, in_target, of_target, in_remat_value, in_value, in_function, in_rising, after_resolved, in_place, in_entry, in_entries, in_patch, Out, runs_out, of_call, in_patches_by, in_opening, job_conditions_by, RefusalsBy, Refusals, NoNumber}
use Rattle.job_rules.specs.Priced.{unless_outside, opening_if, opening_priced, job_priced, in_opening_priced, conditions_priced, RefusalsPriced}
use Rattle.job_rules.proofs.Exactly.{refusal_of, Exactly, nothing, after, made, unless, within, passing, given, either, number-exactly, tested-exactly, times-exactly, distinct-exactly, rising-exactly}
use Rattle.job_rules.proofs.WasRead.{entry_named, settled, patch-taken}
use Rattle.job_rules.proofs.ReadTarget.{target-read}
use Rattle.job_rules.proofs.Calls.{number_of, ExactCalls, resolve-exact}
use Rattle.job_rules.proofs.Enough.{opens}

-- a number that passes a test, then the rest
tested-then : {B : Type 0} (ok : ℕ → Bool) (l : List ℕ) (next : ℕ → List ℕ → Read B) (ns : ℕ → List ℕ → List Condition)
    → ((x : ℕ) (r : List ℕ) → Exactly (next x r) (ns x r)) → Exactly (then (tested ok l) next) (in_tested ok l ++ after_got (tested ok l) ns)
tested-then ok l next ns on = after (tested ok l) (in_tested ok l) next ns (tested-exactly ok l) (λ x r e. on x r)

number-then : {B : Type 0} (l : List ℕ) (next : ℕ → List ℕ → Read B) (ns : ℕ → List ℕ → List Condition)
    → ((x : ℕ) (r : List ℕ) → Exactly (next x r) (ns x r)) → Exactly (then (number l) next) (in_number l ++ after_got (number l) ns)
number-then l next ns on = after (number l) (in_number l) next ns (number-exactly l) (λ x r e. on x r)

-- ---- the target
bank-exactly : (l : List ℕ) → Exactly (bank l) (in_bank l)
unfolding bank in_bank
bank-exactly l = tested-then _ l _ _ (λ size r. number-then r _ _ (λ top q. made (number q) (in_number q) _ (number-exactly q)))

reg-exactly : (units banks : ℕ) (l : List ℕ) → Exactly (reg units banks l) (in_reg units banks l)
unfolding reg in_reg
reg-exactly units banks l =
    tested-then _ l _ _
    (λ memory r. tested-then _ r _ _
    (λ b q. tested-then _ q _ _
    (λ n p. made (distinct n units [] p) (in_distinct n units [] p) _ (distinct-exactly n units [] p))))

class-exactly : (banks regs total : ℕ) (l : List ℕ) → Exactly (class banks regs total l) (in_class banks regs total l)
unfolding class in_class
class-exactly banks regs total l =
    tested-then _ l _ _
    (λ b r. tested-then _ r _ _
    (λ slots q. number-then q _ _
    (λ n p. after (distinct n regs [] p) (in_distinct n regs [] p) _ _ (distinct-exactly n regs [] p)
    (λ members o e. tested-then _ o _ _
    (λ m k. made (distinct m regs [] k) (in_distinct m regs [] k) _ (distinct-exactly m regs [] k))))))

classes-exactly : (n banks regs total : ℕ) (l : List ℕ) → Exactly (classes n banks regs total l) (in_classes n banks regs total l)
unfolding classes in_classes
classes-exactly zero banks regs total l = nothing
classes-exactly (suc n) banks regs total l =
    after (class banks regs total l) (in_class banks regs total l) _ _ (class-exactly banks regs total l)
    (λ c r e. made (classes n banks regs c.total r) (in_classes n banks regs c.total r) _ (classes-exactly n banks regs c.total r))

target-exactly : (l : List ℕ) → Exactly (target l) (in_target l)
unfolding target in_target
target-exactly l =
    tested-then _ l _ _
    (λ units r. tested-then _ r _ _
    (λ n q. after (times n bank q) (in_times n bank in_bank q) _ _ (times-exactly n bank in_bank bank-exactly q)
    (λ banks p e. tested-then _ p _ _
    (λ m o. after (times m (reg units n) o) (in_times m (reg units n) (in_reg units n) o) _ _
    (times-exactly m (reg units n) (in_reg units n) (reg-exactly units n) o)
    (λ regs k e. tested-then _ k _ _
    (λ c j. made (classes c n m 0 j) (in_classes c n m 0 j) _ (classes-exactly c n m 0 j)))))))

-- ---- the function
value-exactly : (t : RegInfo) (l : List ℕ) → Exactly (value t l) (in_value t l)
unfolding value remat_value in_value in_remat_value
value-exactly t l =
    tested-then _ l _ _
    (λ b r. tested-then _ r _ _
    (λ cost q. either (eqb cost 0) _ (remat_value t b cost q) [] (in_remat_value t b q) nothing
    (tested-then _ q _ _ (λ c p. passing (eqb (bank_for_class t c) b) 9 _ p))))

function-exactly : (t : RegInfo) (kept : ℕ) (l : List ℕ) → Exactly (function t kept l) (in_function t l)
unfolding function valued in_function
function-exactly t kept l =
    tested-then _ l _ _
    (λ n r. tested-then _ r _ _
    (λ slots q. tested-then _ q _ _
    (λ limit p. made (times n (value t) p) (in_times n (value t) (in_value t) p) _ (times-exactly n (value t) (in_value t) (value-exactly t) p))))

-- ---- a patch
module _ (t : RegInfo) (f : Function) where
  place-exactly : (l : List ℕ) → Exactly (place t f l) (in_place t f l)
  unfolding place in_place
  place-exactly l = number-then l _ _ (λ c r. passing (names_place t f (place_at c)) 2 (place_at c) r)

  place-then : {B : Type 0} (l : List ℕ) (next : Place → List ℕ → Read B) (ns : Place → List ℕ → List Condition)
      → ((x : Place) (r : List ℕ) → Exactly (next x r) (ns x r)) → Exactly (then (place t f l) next) (in_place t f l ++ after_got (place t f l) ns)
  place-then l next ns on = after (place t f l) (in_place t f l) next ns (place-exactly l) (λ x r e. on x r)

  entry-exactly : (l : List ℕ) → Exactly (entry t f l) (in_entry t f l)
  unfolding entry in_entry
  entry-exactly l =
      tested-then _ l _ _
      (λ kind r. either (eqb kind 0) _ _ _ _
      (place-then r _ _
      (λ s q. place-then q _ _
      (λ d p. made (below (num_values f) p) (in_tested (λ x. ltb x (num_values f)) p) _ (tested-exactly _ p))))
      (place-then r _ _ (λ d q. made (below (num_values f) q) (in_tested (λ x. ltb x (num_values f)) q) _ (tested-exactly _ q))))

  entries-exactly : (n : ℕ) (a : Sorted) (l : List ℕ) → Exactly (entries t f n a l) (in_entries t f n a l)
  unfolding entries in_entries
  entries-exactly zero a l = nothing
  entries-exactly (suc n) a l =
      unless (leb 128 a.count) 15 _ _
      (λ b. after (entry t f l) (in_entry t f l) _ _ (entry-exactly l)
      (λ e r is. one e r (settled t f a e b (entry_named t f l e r is)) (entries-exactly n (add t f e a) r)))
    where
      one : (e : Entry) (r : List ℕ) → first_of (entry_conditions t f a e) ≡ first_of (drop 2 (entry_conditions t f a e))
          → Exactly (entries t f n (add t f e a) r) (in_entries t f n (add t f e a) r)
          → Exactly (unless_given (first_of (entry_conditions t f a e)) (then (entries t f n (add t f e a) r) (λ es q. got (e ∷ es) q)))
          (drop 2 (entry_conditions t f a e) ++ in_entries t f n (add t f e a) r)
      one e r s on =
          rw s
          (given (drop 2 (entry_conditions t f a e)) _ (in_entries t f n (add t f e a) r)
          (made (entries t f n (add t f e a) r) (in_entries t f n (add t f e a) r) _ on))

  pub patch-exactly : (l : List ℕ) → Exactly (patch t f l) (in_patch t f l)
  unfolding patch in_patch
  patch-exactly l =
      number-then l _ _
      (λ k r. after (rising k t.units 0 r) (in_rising k t.units 0 r) _ _ (rising-exactly k t.units 0 r)
      (λ free q e. number-then q _ _
      (λ n p. made (entries t f n nothing_sorted p) (in_entries t f n nothing_sorted p) _ (entries-exactly n nothing_sorted p))))

-- ---- the answers
-- a part, then what is answered
pub answered : {A : Type 0} (d : Read A) (cs : List Condition) (next : A → List ℕ → Answers) (ns : A → List ℕ → List Condition) → Exactly d cs
    → ((x : A) (r : List ℕ) → d ≡ got x r → first_of (ns x r) ≡ (next x r).refusal) → first_of (cs ++ after_got d ns) ≡ (after_read d next).refusal
unfolding first_of
answered {A = A} d cs next ns e on = first-append cs (after_got d ns) ∙ rw e (go d on)
  where
    go : (d : Read A) → ((x : A) (r : List ℕ) → d ≡ got x r → first_of (ns x r) ≡ (next x r).refusal)
        → or_then (refusal_of d) (first_of (after_got d ns)) ≡ (after_read d next).refusal
    go (got x r) on = on x r refl
    go (refused k) on = refl

pub left-exactly : (l : List ℕ) → first_of (refused_if 8 (ltb 0 (length l)) ∷ []) ≡ (left_over l).refusal
unfolding first_of
left-exactly [] = refl
left-exactly (b ∷ l) = rw (lt-ltb 0 (length (b ∷ l)) (omega arith))

-- a call, then what is answered
pub called : (cs : List Condition) (a : Answer) (next : Cache → Answers) (ns : Cache → List Condition) → first_of cs ≡ number_of a → ((c : Cache) → first_of (ns c) ≡ (next c).refusal)
    → first_of (cs ++ after_resolved a ns) ≡ (after_call a next).refusal
called cs a next ns e on = first-append cs (after_resolved a ns) ∙ rw e (go a)
  where
    go : (a : Answer) → or_then (number_of a) (first_of (after_resolved a ns)) ≡ (after_call a next).refusal
    go (rules.refused k) = refl
    go (rules.resolved es c n) = on c

module _ (by : Resolver) (out : Out) (t : RegInfo) (f : Function) (exact : ExactCalls by out t f) where
  -- the entries of a patch that was read are refused no more
  call-exactly : (l : List ℕ) (p : Patch) (r : List ℕ) → patch t f l ≡ got p r → (c : Cache) → first_of (of_call out t f p c) ≡ number_of (by t f p 1024 c)
  unfolding of_call
  call-exactly l p r e c = rw (first-append (entries_conditions t f p.entries nothing_sorted) (of_call out t f p c), patch-taken t f l p r e) at (exact p 1024 c)

  patches-exactly : (n : ℕ) (c : Cache) (l : List ℕ) → first_of (in_patches_by by out t f n c l) ≡ (patches_by by t f n c l).refusal
  unfolding patches_by in_patches_by
  patches-exactly zero c l = left-exactly l
  patches-exactly (suc n) c l =
      answered (patch t f l) (in_patch t f l) _ _ (patch-exactly t f l)
      (λ p r e. called (of_call out t f p c) (by t f p 1024 c) _ _ (call-exactly l p r e c) (λ c'. patches-exactly n c' r))

-- 2 and 3 are settled when the target's rules are tested
target-settled : (t : RegInfo) → outside_limits t ≡ false → listed_twice t ≡ false → target_refusal t ≡ first_of (of_target t)
unfolding target_refusal of_target first_of
target-settled t p q = rw (p, q)

abbrev behind_rules : RegInfo → (kept : ℕ) → List ℕ → List Condition
behind_rules t kept r = in_function t r ++ after_got (function t kept r) (λ f q. in_tested (λ x. and (leb 1 x) (leb x 1024)) q)

behind-exactly : (t : RegInfo) (kept : ℕ) (r : List ℕ) → Exactly (after_target t kept r) (behind_rules t kept r)
unfolding after_target
behind-exactly t kept r =
    after (function t kept r) (in_function t r) _ _ (function-exactly t kept r)
    (λ f q e. made (between 1 1024 q) (in_tested (λ x. and (leb 1 x) (leb x 1024)) q) _ (tested-exactly _ q))

-- the rules of a target that was read, then what stands behind it
rules-exactly : (l : List ℕ) (t : RegInfo) (r : List ℕ) → target l ≡ got t r → (d : Read Header) (cs : List Condition) → Exactly d cs
    → Exactly (unless_given (target_refusal t) d) (of_target t ++ cs)
rules-exactly l t r e d cs on = let w = target-read l t r e in rw (target-settled t w.0 w.1) (given (of_target t) d cs on)

pub opening-exactly : (kept : ℕ) (l : List ℕ) → Exactly (opening kept l) (in_opening kept l)
unfolding opening in_opening header
opening-exactly kept l =
    unless (no (is_setting kept)) 22 _ _
    (λ _. unless (ltb 65536 (length l)) 2 _ _
    (λ _. after (target l) (in_target l) _ _ (target-exactly l)
    (λ t r e. rules-exactly l t r e (after_target t kept r) (behind_rules t kept r) (behind-exactly t kept r))))

priced-exactly : (p : Prices) (kept : ℕ) (l : List ℕ) → Exactly (opening_priced p kept l) (in_opening_priced p kept l)
unfolding opening_if in_opening_priced
priced-exactly p kept l =
    unless (no (is_setting kept)) 22 _ _
    (λ _. unless (ltb 65536 (length l)) 2 _ _
    (λ _. after (target l) (in_target l) _ _ (target-exactly l)
    (λ t r e. rules-exactly l t r e (unless_outside (in_range p) (after_target t kept r)) (refused_if 19 (no (in_range p)) ∷ behind_rules t kept r)
    (within (in_range p) 19 (after_target t kept r) (behind_rules t kept r) (behind-exactly t kept r)))))

-- whatever answers the calls, over every accepted target
module _ (by : Resolver) (out : Out) (exact : (t : RegInfo) (f : Function) → target.Accepted t → ExactCalls by out t f) where
  job-exactly : (kept : ℕ) (l : List ℕ) → first_of (job_conditions_by by out kept l) ≡ (job_by by kept l).refusal
  unfolding job_by job_conditions_by
  job-exactly kept l =
      answered (opening kept l) (in_opening kept l) _ _ (opening-exactly kept l)
      (λ h r e. patches-exactly by out h.target h.function (exact h.target h.function (opens kept l h r e).target-taken) h.patches empty_cache r)

  -- for every setting and every list of bytes
  pub refusals-by : (kept : ℕ) (l : List ℕ) → RefusalsBy by out kept l
  refusals-by kept l =
      let e = job-exactly kept l in
      let cs : List Condition = job_conditions_by by out kept l in
      record {
        given = λ n. (λ g. first-given cs n (e ∙ g), λ g. sym e ∙ given-first cs n g);
        taken = (λ g. first-none cs (e ∙ g), λ h. sym e ∙ none_first cs h);
      }

pub refusals : (kept : ℕ) (l : List ℕ) → Refusals kept l
refusals = refusals-by resolve runs_out (λ t f _. resolve-exact t f)

job-priced-exactly : (p : Prices) (kept : ℕ) (l : List ℕ) → first_of (conditions_priced p kept l) ≡ (job_priced p kept l).refusal
unfolding job_priced conditions_priced
job-priced-exactly p kept l =
    answered (opening_priced p kept l) (in_opening_priced p kept l) _ _ (priced-exactly p kept l)
    (λ h r e. patches-exactly resolve runs_out h.target h.function (resolve-exact h.target h.function) h.patches empty_cache r)

-- with prices too
pub refusals-priced : (p : Prices) (kept : ℕ) (l : List ℕ) → RefusalsPriced p kept l
refusals-priced p kept l =
    let e = job-priced-exactly p kept l in
    record {
      given = λ n. (λ g. first-given (conditions_priced p kept l) n (e ∙ g), λ g. sym e ∙ given-first (conditions_priced p kept l) n g);
      taken = (λ g. first-none (conditions_priced p kept l) (e ∙ g), λ h. sym e ∙ none_first (conditions_priced p kept l) h);
    }

pub no_number : NoNumber
no_number l h = go (number l) refl
  where
    go : (d : Read ℕ) → number l ≡ d → (unread d ≡ true) ↔ ((n : ℕ) (r : List ℕ) → n < 4294967296 → l ≡ encoded n ++ r → ⊥)
    go (got n r) e =
        (λ z. absurd (let z : ◌≡◌ {A = ℕ} 0 1 = cc in omega arith), λ z. let w = only-form l n r h e in absurd (z n r w.0 w.1))
    go (refused k) e =
        (λ z n r b is. let q : number l ≡ got n r = ap number is ∙ read_back n r b in let z : ◌≡◌ {A = ℕ} 0 1 = cc in omega arith, λ z. refl)
