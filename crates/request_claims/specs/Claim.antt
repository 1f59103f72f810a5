-- 02 g and 02 k of the code, with demand 3: one claim about every list of one function's calls, resolved, by groups or not, asked for and taken.
use Rattle.std.specs.Prelude.{ℕ, ◌+◌, ◌<◌, ◌≡◌, Bool, true, false, List, [], ◌∷◌, length, get_or}
use Rattle.std.proofs.Math.Option.{Option, none, some}
use Rattle.entity.specs.Logic.{any_in}
use Rattle.reginfo.specs.RegInfo.{RegInfo}
use Rattle.reginfo.specs.Table.{reg_info_of}
use Rattle.function.specs.Function.{Function}
use Rattle.function.specs.Table.{function_of}
use Rattle.rules.specs.Scratch.{Cache}
use Rattle.rules.specs.Patch.{Answer, refused, resolved}
use Rattle.rules.specs.Take.{Served, fresh}
use Rattle.machine.specs.Claim.{Owed}
use Rattle.slots.specs.Stacks.{cache_of, stamp_of, raised, stamp_after}
use Rattle.parallel_moves.specs.declared.asking.TakeAnswer as K
use Rattle.parallel_moves.specs.Given.{CacheOk}
use Rattle.parallel_moves.specs.Answers.{Gives, CanTake, Asks, Takes}
use Rattle.calls.specs.declared.Opened.TheVariants.{Yes}
use Rattle.calls.specs.Opening.{opened, OpenedAs}
use Rattle.calls.specs.Call.{call_of}
use Rattle.group_calls.specs.Call.{call_by_groups}
use Rattle.request_claims.specs.Calls.{MadeTake, Made, resolving, grouping, asking, taking, Kept, Held, holding, left, standing, answered, after, settled}

module _ (t f : List ℕ) where
  -- what a call with these free units, numbers and room is answered with on a cache
  abbrev pub ruled : (free numbers : List ℕ) → ℕ → Cache → Answer
  ruled free numbers room c = call_of (reg_info_of t) (function_of f) free numbers room c

  -- and one by groups
  abbrev pub ruled_by_groups : (free numbers : List ℕ) → ℕ → Cache → Answer
  ruled_by_groups free numbers room c = call_by_groups (reg_info_of t) (function_of f) free numbers room c

  -- a take did as its contract says, of what an asking left; "A refused asking leaves nothing to take": there is no such call
  abbrev pub TakeDid : Option Kept → MadeTake → List ℕ → Type 0
  TakeDid none x cache = ⊥
  TakeDid (some k) x cache = (k.preview.stamp ≡ stamp_of cache → CanTake k.slots cache) → Takes k.preview k.slots cache x.answer x.cache

  -- the call did as its contract says, of a cache that it takes
  abbrev pub Did : Made → Held → Type 0
  Did (resolving x) s = CacheOk f s.cache → Gives f (ruled x.free x.numbers (length x.list) (cache_of s.cache)) x.answer x.list x.after s.cache x.cache
  Did (grouping x) s =
      CacheOk f s.cache → Gives f (ruled_by_groups x.free x.numbers (length x.list) (cache_of s.cache)) x.answer x.list x.after s.cache x.cache
  Did (asking x) s =
      CacheOk f s.cache → Asks f (function_of f).limit (ruled x.free x.numbers (length x.list) (cache_of s.cache)) x.answer x.list x.after s.cache x.slots
  Did (taking x) s = TakeDid (get_or s.kept x.asking none) x s.cache

  -- "each take gets that cache as it was last returned or left", and so does every other call
  abbrev pub Called : List Made → Held → Type 0
  Called [] s = Unit {0}
  Called (x ∷ l) s = Did x s × Called l (left x s)

  -- a take is answered as by the rules: a number, "20", and the cache as it was; or the cache is "what resolving would have made it"
  abbrev pub TakeAnswered : Option Answer → MadeTake → List ℕ → Type 0
  TakeAnswered none x cache = ⊥
  TakeAnswered (some (refused n)) x cache = (x.answer ≡ K.TheVariants.Refused n) × (x.cache ≡ cache)
  TakeAnswered (some (resolved es c n)) x cache = (x.answer ≡ K.TheVariants.Yes) × (cache_of x.cache ≡ c) × CacheOk f x.cache × (stamp_of x.cache ≡ raised (stamp_of cache))

  -- acceptance, edits, words of the list, cache and position are those of the rules
  abbrev pub Outcome : Made → Held → Served → Type 0
  Outcome (resolving x) s v = Gives f (ruled x.free x.numbers (length x.list) v.now.cache) x.answer x.list x.after s.cache x.cache
  Outcome (grouping x) s v = Gives f (ruled_by_groups x.free x.numbers (length x.list) v.now.cache) x.answer x.list x.after s.cache x.cache
  Outcome (asking x) s v =
      Asks f (function_of f).limit (ruled x.free x.numbers (length x.list) v.now.cache) x.answer x.list x.after s.cache x.slots
  Outcome (taking x) s v = TakeAnswered (answered (reg_info_of t) (function_of f) (taking x) v) x s.cache

  -- the cache is that of the rules, and its stamp is their count from the stamp that the calls began with
  pub record Same (start : ℕ) (s : Held) (v : Served) : Type 0 where
    pub cache : cache_of s.cache ≡ v.now.cache
    pub stamp : stamp_of s.cache ≡ stamp_after start v.now.count

  -- call by call, from what the program holds and the rules' state; of what stands in the list of demand 3, `Accepted`
  abbrev pub Claim : (start : ℕ) → List Made → Held → Served → Type 0
  Claim start [] s v = Same start s v
  Claim start (x ∷ l) s v =
      Same start s v × Outcome x s v × Owed (reg_info_of t) (function_of f) (standing (reg_info_of t) (function_of f) x v)
      × Claim start l (left x s) (after (reg_info_of t) (function_of f) x v)

-- "What is said here of takes is owed while fewer than 2^64 patches have been taken or resolved on that cache"
abbrev pub Few : ℕ → Type 0
Few n = n < 18446744073709551616

-- so it is asked for where a take stands among the calls, and nowhere else
abbrev pub is_take : Made → Bool
is_take (resolving x) = false
is_take (grouping x) = false
is_take (asking x) = false
is_take (taking x) = true

abbrev pub FewIfTaken : RegInfo → Function → List Made → Served → Type 0
FewIfTaken t f calls v = any_in is_take calls ≡ true → Few (v.now.count + settled t f calls v)

-- from `open` on, whatever setting and bytes it took, and whatever was asked for or settled in that memory before
abbrev pub Demand3 : Type 0
Demand3 =
    (kept : ℕ) (bytes t f cache cache' : List ℕ) → OpenedAs (opened kept bytes) Yes t f cache cache' → (calls : List Made) → Called t f calls (holding cache')
    → FewIfTaken (reg_info_of t) (function_of f) calls fresh → Claim t f (stamp_of cache') calls (holding cache') fresh
