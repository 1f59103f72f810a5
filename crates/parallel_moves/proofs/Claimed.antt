-- Demand 3 of the code: the theorem about the rules, carried to every list of calls.
use Prim.Native.Nat.{ℕ}
use mathlib.Core.Path.{◌≡◌, refl, sym, ap, subst, ◌∙◌}
use mathlib.Core.List.{List, [], ◌∷◌, map}
use lib.ListN.{length}
use Rattle.reginfo.specs.Table.{reg_info_of}
use Rattle.function.specs.Table.{function_of}
use Rattle.rules.specs.Scratch.{Cache, empty_cache}
use Rattle.rules.specs.Patch.{Answer, refused, resolved, Call, cache_after}
use Rattle.machine.specs.Claim as rules
use Rattle.machine.proofs.Demand.{demand-3-of-calls}
use Rattle.slots.specs.Stacks.{cache_of}
use Rattle.parallel_moves.specs.Given.{CacheOk}
use Rattle.parallel_moves.specs.Answers.{Gives}
use Rattle.parallel_moves.specs.Claim.{Made, ruled, Did, by-numbers, by_entries, Called, Outcome, turned, taken, Claim, Demand3}
use Rattle.parallel_moves.proofs.First.{resolve-built}
use Rattle.parallel_moves.proofs.Resolving.{fresh_ok}

abbrev pub call : Made → Call
call x = record { patch = x.patch; room = length x.list }

module _ (t f : List ℕ) where
  -- what the call of a patch gave
  abbrev pub Gave : Made → List ℕ → Answer → Type 0
  Gave x cache r = Gives f r x.answer x.list x.after cache x.cache

  -- by either contract it is what the rules answer
  as-ruled : (x : Made) (cache : List ℕ) → Did t f x cache → Gave x cache (ruled t f x (cache_of cache))
  as-ruled x cache (by-numbers free numbers is g) = g x.patch is
  as-ruled x cache (by_entries free e b g) = rw (resolve-built t f free e x.patch b (length x.list) (cache_of cache)) (g x.patch b.free-is)

  pub outcome : (x : Made) (cache : List ℕ) (c : Cache) (r : Answer) → ruled t f x c ≡ r → Gave x cache r → rules.Answered (reg_info_of t) (function_of f) x.patch r → Outcome t f x cache c
  outcome x cache c (refused n) e g a = turned n e g.0 g.1 g.2
  outcome x cache c (resolved es c' n) e g a = taken es c' n e g.0 g.1 g.2 g.3 g.4 g.5 g.6 a

  -- the cache that the next call gets
  pub next : (x : Made) (cache : List ℕ) (c : Cache) (r : Answer) → cache_of cache ≡ c → CacheOk f cache → Gave x cache r → (cache_of x.cache ≡ cache_after c r) × CacheOk f x.cache
  next x cache c (refused n) e ok g = (ap cache_of g.2 ∙ e, subst (CacheOk f) (sym g.2) ok)
  next x cache c (resolved es c' n) e ok g = (g.4, g.5)

  claims : (calls : List Made) (cache : List ℕ) (c : Cache) → cache_of cache ≡ c → CacheOk f cache → Called t f calls cache → rules.Claim (reg_info_of t) (function_of f) (map call calls) c → Claim t f calls cache c
  claims [] cache c e ok h g = tt
  claims (x ∷ l) cache c e ok h g =
      let here : Gave x cache (ruled t f x c) = rw e at (as-ruled x cache (h.0 ok)) in
      let on = next x cache c (ruled t f x c) e ok here in
      (outcome x cache c (ruled t f x c) refl here g.0, claims l x.cache (cache_after c (ruled t f x c)) on.0 on.1 h.1 g.1)

pub demand-3-of-the-code : Demand3
demand-3-of-the-code t f known calls cache cleared h =
    claims t f calls cache empty_cache cleared.empty (fresh_ok f cache cleared) h (demand-3-of-calls (reg_info_of t) (function_of f) known.target known.function (map call calls))
