-- 02 j of every job: 17 is the number of its calls alone, and with L enough no call gets it.
use Prim.Native.Nat.{ℕ, zero, suc, ◌+◌, ◌-◌, ◌*◌, ◌≤◌}
use mathlib.Core.Path.{◌≡◌, refl, ap, subst, sym, ◌∙◌}
use mathlib.Core.Bool.{Bool, true, false}
use mathlib.Core.List.{List, [], ◌∷◌}
use mathlib.Core.Option.{Option, none, some}
use native.Mathlib.Omega.{arith}
use lib.Dec.{eqb, ltb, leb}
use Rattle.entity.specs.Logic.{pick}
use Rattle.entity.specs.Place.{place_at}
use Rattle.reginfo.specs.RegInfo.{RegInfo}
use Rattle.reginfo.specs.Refused as target
use Rattle.reginfo.specs.Refused.{first_of, target_refusal}
use Rattle.function.specs.Function.{Function, num_values}
use Rattle.function.specs.Refused as function
use Rattle.rules.specs.Scratch.{Cache, empty_cache}
use Rattle.rules.specs.Patch.{Patch, Sorted, nothing_sorted, Call, resolve, cache_after, names_place, entry_conditions, add}
use Rattle.rules.specs.Patch as rules
use Rattle.rules.proofs.Tested.{entry_other}
use Rattle.machine.specs.Enough.{num_sizes, NeverOut, EnoughWith}
use Rattle.machine.proofs.EnoughSlots.{enough, fewer-enough, enough-for-calls}
use Rattle.number.specs.Read.{Read, got, refused, then}
use Rattle.number.specs.Number.{number}
use Rattle.number.proofs.Laws.{one-refusal}
use Rattle.reading.specs.Reading.{tested, below, between}
use Rattle.job_target.specs.Target.{target}
use Rattle.job_function.specs.Reads as reads
use Rattle.job_function.proofs.Accepted.{then-got, read-accepted}
use Rattle.job_patch.specs.Patches.{unless_given, rising, place, entry, entries, patch}
use Rattle.job_rules.specs.Job.{Resolver, Header, Opened, Done, with_function, beginning, opening, job_by}
use Rattle.job_rules.specs.Claim.{Ends, all_done, bytes_left, not-read, not-resolved, OneByOne, EveryJobBy, EnoughBy, Enough, FewerEnough}
use Rattle.job_rules.proofs.WasRead.{early-got, given-got}
use Rattle.job_rules.specs.Formula.{counted}
use Rattle.job_rules.proofs.Opening.{opening-is}
use Rattle.job_rules.proofs.Claimed.{every-job}

-- ---- reading a patch
-- read, or refused by another number
abbrev pub Other : {A : Type 0} → Read A → Type 0
Other (got x r) = Unit {0}
Other (refused k) = k ≡ 17 → ⊥

after : {A B : Type 0} (d : Read A) (next : A → List ℕ → Read B) → Other d → ((x : A) (r : List ℕ) → Other (next x r)) → Other (then d next)
after (got x r) next a on = on x r
after (refused k) next a on = a

either : {A : Type 0} (b : Bool) (d e : Read A) → Other d → Other e → Other (pick b d e)
either true d e p q = p
either false d e p q = q

unless : {A : Type 0} (o : Option ℕ) (d : Read A) → ((n : ℕ) → o ≡ some n → n ≡ 17 → ⊥) → Other d → Other (unless_given o d)
unless none d h p = p
unless (some k) d h p = h k refl

of_number : (l : List ℕ) → Other (number l)
of_number l = go (number l) (one-refusal l)
  where
    go : (d : Read ℕ) → ((k : ℕ) → d ≡ refused k → k ≡ 1) → Other d
    go (got n r) h = tt
    go (refused k) h = λ e. omega (arith, h k refl)

of-tested : (ok : ℕ → Bool) (l : List ℕ) → Other (tested ok l)
unfolding tested
of-tested ok l = after (number l) _ (of_number l) (λ n r. either (ok n) _ _ tt (λ e. omega arith))

of_rising : (n limit least : ℕ) (l : List ℕ) → Other (rising n limit least l)
unfolding rising
of_rising zero limit least l = tt
of_rising (suc n) limit least l =
    after (below limit l) _ (of-tested _ l) (λ u r. either (ltb u least) _ _ (λ e. omega arith) (after (rising n limit (u + 1) r) _ (of_rising n limit (u + 1) r) (λ us q. tt)))

module _ (t : RegInfo) (f : Function) where
  of-place : (l : List ℕ) → Other (place t f l)
  unfolding place
  of-place l = after (number l) _ (of_number l) (λ c r. either (names_place t f (place_at c)) _ _ tt (λ e. omega arith))

  of_entry : (l : List ℕ) → Other (entry t f l)
  unfolding entry
  of_entry l =
      after (below 2 l) _ (of-tested _ l)
      (λ kind r. either (eqb kind 0) _ _
      (after (place t f r) _ (of-place r) (λ s q. after (place t f q) _ (of-place q) (λ d p. after (below (num_values f) p) _ (of-tested _ p) (λ v o. tt))))
      (after (place t f r) _ (of-place r) (λ d q. after (below (num_values f) q) _ (of-tested _ q) (λ v p. tt))))

  of-entries : (n : ℕ) (a : Sorted) (l : List ℕ) → Other (entries t f n a l)
  unfolding entries
  of-entries zero a l = tt
  of-entries (suc n) a l =
      either (leb 128 a.count) _ _ (λ e. omega arith)
      (after (entry t f l) _ (of_entry l)
      (λ e r. unless (first_of (entry_conditions t f a e)) _ (entry_other t f a e) (after (entries t f n (add t f e a) r) _ (of-entries n (add t f e a) r) (λ es q. tt))))

  pub of-patch : (l : List ℕ) → Other (patch t f l)
  unfolding patch
  of-patch l =
      after (number l) _ (of_number l)
      (λ k r. after (rising k t.units 0 r) _ (of_rising k t.units 0 r)
      (λ free q. after (number q) _ (of_number q)
      (λ n p. after (entries t f n nothing_sorted p) _ (of-entries n nothing_sorted p) (λ es o. tt))))

-- calls that keep what is asked of a cache: none gets 17
pub record Spares (by : Resolver) (t : RegInfo) (f : Function) (Good : Cache → Type 0) : Type 0 where
  pub first : Good empty_cache
  pub one : (p : Patch) (c : Cache) → Good c → (by t f p 1024 c ≡ rules.refused 17 → ⊥) × Good (cache_after c (by t f p 1024 c))

module _ (by : Resolver) (t : RegInfo) (f : Function) (Good : Cache → Type 0) (spares : Spares by t f Good) where
  ended : (n : ℕ) (c : Cache) (l : List ℕ) → Good c → Ends by t f n c l (some 17) → ⊥
  ended n c l good (all_done z e k) = let z : ◌≡◌ {A = ℕ} 0 1 = cc in omega arith
  ended n c l good (bytes_left z e k) = let q : ◌≡◌ {A = ℕ} 17 8 = cc in omega arith
  ended n c l good (not-read m z e k) = let q : m ≡ 17 = cc in subst Other e (of-patch t f l) q
  ended n c l good (not-resolved m p r z e i k) = let q : m ≡ 17 = cc in (spares.one p c good).0 (i ∙ ap rules.refused q)

  never : (ds : List Done) (n : ℕ) (c : Cache) (l : List ℕ) → Good c → OneByOne by t f ds (some 17) n c l → ⊥
  never [] n c l good h = ended n c l good h
  never (d ∷ ds) n c l good h = let x = h.1 in never ds (n - 1) x.after x.rest (rw x.calls at (spares.one x.p c good).1) h.2

-- ---- the opening: an accepted target and function, with its setting
pub record Begun (kept : ℕ) (x : Opened) : Type 0 where
  pub target-taken : target.Accepted x.target
  pub function-taken : function.Accepted x.target x.function
  pub setting : x.function.kept ≡ kept

pub begun : (kept : ℕ) (l : List ℕ) (x : Opened) (r : List ℕ) → beginning kept l ≡ got x r → Begun kept x
unfolding beginning with_function
begun kept l x r e =
    let a = early-got kept l _ x r e in
    let b = then-got (target l) _ x r a.2 in
    let c = given-got (target_refusal b.0) (with_function b.0 kept b.1) x r b.3 in
    let d = then-got (reads.function b.0 kept b.1) _ x r c.1 in
    let v = read-accepted b.0 kept a.0 b.1 d.0 d.1 d.2 in
    let is : record { target = b.0; function = d.0 } ≡ x = cc in
    subst (Begun kept) is (record { target-taken = c.0; function-taken = v.0; setting = v.1 })

pub opens : (kept : ℕ) (l : List ℕ) (h : Header) (r : List ℕ) → opening kept l ≡ got h r → Begun kept (record { target = h.target; function = h.function })
opens kept l h r e =
    let a = then-got (beginning kept l) (λ x q. counted x q) h r (sym (opening-is kept l) ∙ e) in
    let b = then-got (between 1 1024 a.1) _ h r a.3 in
    let is : record { target = a.0.target; function = a.0.function; patches = b.0 } ≡ h = cc in
    subst (λ (y : Header). Begun kept (record { target = y.target; function = y.function })) is (begun kept l a.0 a.1 a.2)

-- whatever answers the calls and whatever number of each size is enough for them
pub enough-by : (by : Resolver) → EveryJobBy by → (n : ℕ) (Good : RegInfo → Function → Cache → Type 0)
    → ((t : RegInfo) (f : Function) → target.Accepted t → function.Accepted t f → (n + f.kept) * num_sizes t f ≤ f.limit → Spares by t f (Good t f)) → EnoughBy by n
enough-by by every n Good spares kept l h r e g q =
    let o = opens kept l h r e in
    let s = spares h.target h.function o.target-taken o.function-taken (subst (λ (k : ℕ). (n + k) * num_sizes h.target h.function ≤ h.function.limit) (sym o.setting) g) in
    never by h.target h.function (Good h.target h.function) s (job_by by kept l).done h.patches empty_cache r s.first (rw (e, q) at (every kept l))

-- by `resolve`: no list of calls from the cache on gets 17
abbrev Never : RegInfo → Function → Cache → Type 0
Never t f c = (calls : List Call) → NeverOut t f calls c

enough-with : (n : ℕ) → EnoughWith n → EnoughBy resolve n
enough-with n enough =
    enough-by resolve every-job n Never
    (λ t f ta fa g. record {
      first = enough-for-calls n enough t f ta fa g;
      one = λ p c all. ((all (record { patch = p; room = 1024 } ∷ [])).0, λ calls. (all (record { patch = p; room = 1024 } ∷ calls)).1);
    })

pub enough-for-a-job : Enough
enough-for-a-job = enough-with 128 enough

pub fewer-enough-for-a-job : FewerEnough
fewer-enough-for-a-job = enough-with 127 fewer-enough
