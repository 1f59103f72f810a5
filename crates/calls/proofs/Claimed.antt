-- Demand 3 of every list of calls: the theorem about the rules, of the calls that are not refused for their free units.
use Prim.Native.Nat.{ℕ}
use mathlib.Core.Path.{◌≡◌, refl, sym, ap, subst, ◌∙◌}
use mathlib.Core.List.{List, [], ◌∷◌}
use mathlib.Core.Option.{Option, none, some}
use native.Mathlib.Omega.{arith}
use Rattle.reginfo.specs.Table.{reg_info_of}
use Rattle.function.specs.Known.{Checked}
use Rattle.function.specs.Table.{function_of}
use Rattle.rules.specs.Scratch.{Cache, empty_cache}
use Rattle.rules.specs.Patch.{Call, refused, cache_after}
use Rattle.machine.specs.Claim as rules
use Rattle.machine.proofs.Demand.{demand-3-of-calls}
use Rattle.slots.specs.Stacks.{cache_of}
use Rattle.slots.specs.Steps.{Cleared}
use Rattle.number.specs.Read.{Read}
use Rattle.number.specs.Read as read
use Rattle.parallel_moves.specs.Given.{CacheOk}
use Rattle.parallel_moves.specs.Answers.{Gives}
use Rattle.parallel_moves.specs.Claim as patch
use Rattle.parallel_moves.proofs.Claimed.{call, outcome, next}
use Rattle.job_rules.specs.Job as job
use Rattle.calls.specs.declared.Opened.TheVariants.{Yes}
use Rattle.calls.specs.Opening.{opened, OpenedAs}
use Rattle.calls.specs.Call.{free_refusal, call_of}
use Rattle.calls.specs.Claim.{Made, patched, ruled, Called, Outcome, not_free, called, Claim, Demand3}

module _ (t f : List ℕ) where
  abbrev pub refusal_of : Made → Option ℕ
  refusal_of x = free_refusal (reg_info_of t).units x.free

  -- the calls of the rules: a call that is refused for its free units is none
  abbrev pub unless_not_free : Option ℕ → Call → List Call → List Call
  unless_not_free none x l = x ∷ l
  unless_not_free (some n) x l = l

  abbrev pub asked : List Made → List Call
  asked [] = []
  asked (x ∷ l) = unless_not_free (refusal_of x) (call (patched x)) (asked l)

  pub turned : (x : Made) (c : Cache) (n : ℕ) → refusal_of x ≡ some n → ruled t f x c ≡ refused n
  unfolding call_of
  turned x c n e = rw e

  pub let-in : (x : Made) (c : Cache) → refusal_of x ≡ none → ruled t f x c ≡ patch.ruled t f (patched x) c
  unfolding call_of
  let-in x c e = rw e

  step : (x : Made) (l : List Made) (cache : List ℕ) (c : Cache) (o : Option ℕ) → refusal_of x ≡ o → cache_of cache ≡ c → CacheOk f cache
      → Gives f (ruled t f x c) x.answer x.list x.after cache x.cache → rules.Claim (reg_info_of t) (function_of f) (unless_not_free o (call (patched x)) (asked l)) c
      → ((c' : Cache) → cache_of x.cache ≡ c' → CacheOk f x.cache → rules.Claim (reg_info_of t) (function_of f) (asked l) c' → Claim t f l x.cache c')
      → Outcome t f x cache c × Claim t f l x.cache (cache_after c (ruled t f x c))
  step x l cache c (some n) e same ok g claim on =
      let h = rw (turned x c n e) at g in
      (not_free n e h.0 h.1 h.2, rw (turned x c n e) (on c (ap cache_of h.2 ∙ same) (subst (CacheOk f) (sym h.2) ok) claim))
  step x l cache c none e same ok g claim on =
      let h = rw (let-in x c e) at g in
      let n = next t f (patched x) cache c (patch.ruled t f (patched x) c) same ok h in
      (called e (outcome t f (patched x) cache c (patch.ruled t f (patched x) c) refl h claim.0), rw (let-in x c e) (on (cache_after c (patch.ruled t f (patched x) c)) n.0 n.1 claim.1))

  claims : (calls : List Made) (cache : List ℕ) (c : Cache) → cache_of cache ≡ c → CacheOk f cache → Called t f calls cache → rules.Claim (reg_info_of t) (function_of f) (asked calls) c → Claim t f calls cache c
  claims [] cache c e ok h g = tt
  claims (x ∷ l) cache c e ok h g = step x l cache c (refusal_of x) refl e ok (rw e at (h.0 ok)) g (λ c' e' ok' g'. claims l x.cache c' e' ok' h.1 g')

-- an opened function's tables and cache
pub known : (x : Read job.Opened) (t f cache cache' : List ℕ) → OpenedAs x Yes t f cache cache' → Checked t f × Cleared cache cache' × CacheOk f cache'
known (read.refused k) t f cache cache' h = absurd (let z : ◌≡◌ {A = ℕ} 0 1 = cc in omega arith)
known (read.got x rest) t f cache cache' h = (h.3, h.4, h.5)

pub demand-3-of-the-calls : Demand3
demand-3-of-the-calls kept bytes t f cache cache' h calls made =
    let k = known (opened kept bytes) t f cache cache' h in
    claims t f calls cache' empty_cache k.1.empty k.2 made (demand-3-of-calls (reg_info_of t) (function_of f) k.0.target k.0.function (asked t f calls))
