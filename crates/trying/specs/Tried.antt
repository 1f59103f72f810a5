-- 02 n: patches drawn one after the other, each tested and drawn over where it is refused.
use Rattle.std.specs.Prelude.{ℕ, zero, suc, List, [], ◌∷◌, ◌++◌, eqb}
use Rattle.entity.specs.Logic.{pick}
use Rattle.reginfo.specs.RegInfo.{RegInfo}
use Rattle.function.specs.Function.{Function, num_values}
use Rattle.rules.specs.Scratch.{Cache, empty_cache}
use Rattle.rules.specs.Patch.{Answer, refused, resolved, resolve}
use Rattle.trying.specs.Drawing.{Drawn, draw_patch, patch_of}

-- what came of the patches drawn: the answer to each, every draw, and the seed and the cache that they left
pub record Tries : Type 0 where
  pub answers : List Answer
  pub draws : List ℕ
  pub seed : ℕ
  pub cache : Cache

abbrev pub no_tries : ℕ → Cache → Tries
no_tries s c = record { answers = []; draws = []; seed = s; cache = c }

-- first the one, then what follows from the seed and the cache that it left
abbrev pub followed : Tries → (ℕ → Cache → Tries) → Tries
followed r rest =
    record {
      answers = r.answers ++ (rest r.seed r.cache).answers;
      draws = r.draws ++ (rest r.seed r.cache).draws;
      seed = (rest r.seed r.cache).seed;
      cache = (rest r.seed r.cache).cache;
    }

-- the test of a patch "drawn whole": "a refused one is counted and drawn over, from the seed it left"
abbrev pub judged : Answer → Drawn → Cache → (ℕ → Cache → Tries) → Tries
judged (refused j) d c rest = followed (record { answers = refused j ∷ []; draws = d.draws; seed = d.seed; cache = c }) rest
judged (resolved es c' m) d c rest = record { answers = resolved es c' m ∷ []; draws = d.draws; seed = d.seed; cache = c' }

module _ (t : RegInfo) (f : Function) where
  -- at most so many drawings of one patch; 1,024 words are room for every list
  unfoldable pub tries : ℕ → ℕ → Cache → Tries
  tries zero s c = no_tries s c
  tries (suc n) s c = judged (resolve t f (patch_of (draw_patch t f s)) 1024 c) (draw_patch t f s) c (tries n)

  -- so many patches, each "drawn over [..] at most 8 times, then left out"
  unfoldable pub drawings : ℕ → ℕ → Cache → Tries
  drawings zero s c = no_tries s c
  drawings (suc m) s c = followed (tries 9 s c) (drawings m)

abbrev pub with_kept : ℕ → Function → Function
with_kept k f = record { values = f.values; slots = f.slots; limit = f.limit; kept = k }

-- "for each setting, both from the same seed and a fresh cache"; "Without values all counts are 0."
abbrev pub tried : RegInfo → Function → (kept count seed : ℕ) → Tries
tried t f kept count seed = pick (eqb (num_values f) 0) (no_tries seed empty_cache) (drawings t (with_kept kept f) count seed empty_cache)
