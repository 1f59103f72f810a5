-- 02 k: what a caller in another language is answered that resolves a patch by groups.
use Rattle.std.specs.Prelude.{ℕ, ◌≡◌, List, ◌++◌, map, length, drop}
use Rattle.rules.specs.Patch.{Answer, refused, resolved}
use Rattle.edit.specs.Word.{word_of, AllInRange}
use Rattle.slots.specs.Stacks.{cache_of, stamp_of, raised}
use Rattle.parallel_moves.specs.Given.{CacheOk}

-- `Gives` of crate parallel_moves, as a count and numbers
abbrev pub CalledAs : (f : List ℕ) → Answer → (r refusal position position' : ℕ) → (list list' cache cache' : List ℕ) → Type 0
CalledAs f (refused n) r refusal position position' list list' cache cache' = (r ≡ 0) × (refusal ≡ n) × (position' ≡ position) × (list' ≡ list) × (cache' ≡ cache)
CalledAs f (resolved es c n) r refusal position position' list list' cache cache' =
    (r ≡ length es) × (refusal ≡ 0) × (position' ≡ n) × (list' ≡ map word_of es ++ drop (length es) list) × AllInRange es × (cache_of cache' ≡ c) × CacheOk f cache'
    × (stamp_of cache' ≡ raised (stamp_of cache))
