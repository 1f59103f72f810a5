-- Demand 3 of the calls on a function that was opened: one claim about the whole list.
use Rattle.std.specs.Prelude.{ℕ, ◌≡◌, List, [], ◌∷◌, length}
use Rattle.std.proofs.Math.Option.{none, some}
use Rattle.reginfo.specs.Table.{reg_info_of}
use Rattle.function.specs.Table.{function_of}
use Rattle.rules.specs.Scratch.{Cache, empty_cache}
use Rattle.rules.specs.Patch.{Answer, cache_after}
use Rattle.slots.specs.Stacks.{cache_of}
use Rattle.parallel_moves.specs.declared.Resolved.{Resolved}
use Rattle.parallel_moves.specs.Given.{CacheOk}
use Rattle.parallel_moves.specs.Answers.{number_of, Gives}
use Rattle.parallel_moves.specs.Claim as patch
use Rattle.calls.specs.declared.Opened.TheVariants.{Yes}
use Rattle.calls.specs.Opening.{opened, OpenedAs}
use Rattle.calls.specs.Call.{free_refusal, patch_of, call_of}

-- a call of `resolve` that was made: the free units, numbers and list that it was given beside the cache, and what it answered and left
pub record Made : Type 0 where
  pub free : List ℕ
  pub numbers : List ℕ
  pub list : List ℕ
  pub answer : Resolved
  pub after : List ℕ
  pub cache : List ℕ

-- as a call with its patch
abbrev pub patched : Made → patch.Made
patched x = record { patch = patch_of x.free x.numbers; list = x.list; answer = x.answer; after = x.after; cache = x.cache }

module _ (t f : List ℕ) where
  -- what it is answered with
  abbrev pub ruled : Made → Cache → Answer
  ruled x c = call_of (reg_info_of t) (function_of f) x.free x.numbers (length x.list) c

  -- "the cache that the last one returned or left [..] nothing else writes the cache between calls": each call did as the contract of `resolve`
  -- says, of a cache that it takes
  abbrev pub Called : List Made → List ℕ → Type 0
  Called [] cache = Unit {0}
  Called (x ∷ l) cache = (CacheOk f cache → Gives f (ruled x (cache_of cache)) x.answer x.list x.after cache x.cache) × Called l x.cache

  -- refused for its free units, list and cache as they were; or else what demand 3 says of a call with its patch
  pub data Outcome (x : Made) (cache : List ℕ) (c : Cache) : Type 0 where
    not_free : (n : ℕ) → free_refusal (reg_info_of t).units x.free ≡ some n → number_of x.answer ≡ some n → x.after ≡ x.list → x.cache ≡ cache → Outcome x cache c
    called : free_refusal (reg_info_of t).units x.free ≡ none → patch.Outcome t f (patched x) cache c → Outcome x cache c

  -- call by call, from the cache c of the rules
  abbrev pub Claim : List Made → List ℕ → Cache → Type 0
  Claim [] cache c = Unit {0}
  Claim (x ∷ l) cache c = Outcome x cache c × Claim l x.cache (cache_after c (ruled x c))

-- "For every list of one function's `resolve` calls from a fresh slot cache, refused ones included": from `open` on, whatever setting and bytes it took
abbrev pub Demand3 : Type 0
Demand3 = (kept : ℕ) (bytes t f cache cache' : List ℕ) → OpenedAs (opened kept bytes) Yes t f cache cache' → (calls : List Made) → Called t f calls cache' → Claim t f calls cache' empty_cache
