-- Demand 3 of the code: one claim about a whole list of calls of `resolve`, `resolve_available` and `resolve_patch`.
use Rattle.std.specs.Prelude.{ℕ, ◌≡◌, Bool, List, [], ◌∷◌, ◌++◌, map, length, drop}
use Rattle.std.proofs.Math.Option.{none, some}
use Rattle.function.specs.Known.{Checked}
use Rattle.function.specs.Table.{function_of}
use Rattle.reginfo.specs.Table.{reg_info_of}
use Rattle.rules.specs.Edit.{Edit}
use Rattle.rules.specs.Scratch.{Cache, empty_cache}
use Rattle.rules.specs.Patch.{Patch, Answer, refused, resolved, resolve, cache_after}
use Rattle.machine.specs.Claim.{Accepted}
use Rattle.edit.specs.Word.{word_of, AllInRange}
use Rattle.slots.specs.Stacks.{cache_of}
use Rattle.slots.specs.Steps.{Fresh}
use Rattle.parallel_moves.specs.declared.Resolved.{Resolved}
use Rattle.parallel_moves.specs.Given.{Numbered, Built, CacheOk}
use Rattle.parallel_moves.specs.Answers.{number_of, edits_in, position_in, Resolves, ResolvesPatch}

-- a call that was made: the patch and the list that it was given beside the cache, and what it answered and left
pub record Made : Type 0 where
  pub patch : Patch
  pub list : List ℕ
  pub answer : Resolved
  pub after : List ℕ
  pub cache : List ℕ

module _ (t f : List ℕ) where
  -- what the rules answer
  abbrev pub ruled : Made → Cache → Answer
  ruled x c = resolve (reg_info_of t) (function_of f) x.patch (length x.list) c

  -- the call did as a contract says: that of `resolve_patch`, its patch given as numbers; that of `resolve` or
  -- `resolve_available`, its patch built of entries
  pub data Did (x : Made) (cache : List ℕ) : Type 0 where
    by-numbers : (free : List Bool) (numbers : List ℕ) → Numbered free numbers x.patch → ResolvesPatch t f free numbers x.answer x.list x.after cache x.cache → Did x cache
    by_entries : (free : List Bool) (e : List ℕ) → Built t f free e x.patch → Resolves t f free e x.answer x.list x.after cache x.cache → Did x cache

  -- "Each call gets a patch, a lent list and the cache that the last one returned or left [..] nothing else writes the cache between calls":
  -- each call did as a contract says, of a cache that the contract takes
  abbrev pub Called : List Made → List ℕ → Type 0
  Called [] cache = Unit {0}
  Called (x ∷ l) cache = (CacheOk f cache → Did x cache) × Called l x.cache

  -- "acceptance and edits are those of the rules, and of every accepted patch [..]": each edit has a word of its own, and the next call takes
  -- the cache
  pub data Outcome (x : Made) (cache : List ℕ) (c : Cache) : Type 0 where
    turned : (n : ℕ) → ruled x c ≡ refused n → number_of x.answer ≡ some n → x.after ≡ x.list → x.cache ≡ cache → Outcome x cache c
    taken : (es : List Edit) (c' : Cache) (n : ℕ) → ruled x c ≡ resolved es c' n → number_of x.answer ≡ none → edits_in x.answer ≡ length es → x.after ≡ map word_of es ++ drop (length es) x.list → AllInRange es
        → cache_of x.cache ≡ c' → CacheOk f x.cache → position_in x.answer ≡ n → Accepted (reg_info_of t) (function_of f) x.patch es → Outcome x cache c

  -- call by call, from the cache c of the rules
  abbrev pub Claim : List Made → List ℕ → Cache → Type 0
  Claim [] cache c = Unit {0}
  Claim (x ∷ l) cache c = Outcome x cache c × Claim l x.cache (cache_after c (ruled x c))

-- "For every list of one function's `resolve` calls from a fresh slot cache, refused ones included"
abbrev pub Demand3 : Type 0
Demand3 = (t f : List ℕ) → Checked t f → (calls : List Made) (cache : List ℕ) → Fresh cache → Called t f calls cache → Claim t f calls cache empty_cache
