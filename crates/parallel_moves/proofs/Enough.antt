-- 02 j of the code: the theorems about the rules, carried to every list of calls.
use Prim.Native.Nat.{ℕ}
use mathlib.Core.Path.{◌≡◌, ap, ◌∙◌}
use mathlib.Core.List.Memᴰ
use mathlib.Core.List.{List, [], ◌∷◌, ◌++◌, map}
use mathlib.Core.Option.{some}
use native.Mathlib.Omega.{arith}
use lib.ListN.{length, length-map}
use lib.Seq.{take_at}
use Rattle.reginfo.specs.Table.{reg_info_of}
use Rattle.function.specs.Table.{function_of}
use Rattle.rules.specs.Edit.{Edit}
use Rattle.rules.specs.Scratch.{Cache, empty_cache}
use Rattle.rules.specs.Patch.{Answer, refused, cache_after}
use Rattle.machine.specs.Enough as rules
use Rattle.machine.proofs.EnoughSlots as rule
use Rattle.edit.specs.Word.{word_of}
use Rattle.slots.specs.Stacks.{cache_of}
use Rattle.parallel_moves.specs.declared.Resolved as R
use Rattle.parallel_moves.specs.declared.Resolved.{Resolved}
use Rattle.parallel_moves.specs.Answers.{number_of, edits_in}
use Rattle.parallel_moves.specs.Claim.{Made, ruled, Outcome, turned, taken, Claim}
use Rattle.parallel_moves.specs.Enough.{NeverOut, EnoughWith, Enough, FewerEnough, Handed, SizesClaim, EachOfItsSize}
use Rattle.parallel_moves.proofs.Claimed.{call, demand-3-of-the-code}

-- a refused call handed nothing out
pub none-handed : (r : Resolved) (n : ℕ) → number_of r ≡ some n → edits_in r ≡ 0
none-handed (R.TheVariants.Edits n m) k e = absurd (let z : ◌≡◌ {A = ℕ} 0 1 = cc in omega arith)
none-handed (R.TheVariants.Refused n) k e = omega arith

module _ (t f : List ℕ) where
  abbrev Answers : Cache → Answer → Type 0
  Answers c r = rules.Sized (reg_info_of t) (function_of f) c r

  abbrev pub edits : Answer → List Edit
  edits r = rules.edits_of (reg_info_of t) (function_of f) r

  pub nothing-made : (cache cache' : List ℕ) → cache' ≡ cache → rules.OfItsSize (reg_info_of t) (function_of f) (cache_of cache) [] (cache_of cache')
  nothing-made cache cache' e = rw e (record { lies = λ x m. absurd (Memᴰ.not-nil m); named = λ s lo hi. absurd (omega arith) })

  pub refused-handed : (x : Made) (cache : List ℕ) (n : ℕ) → number_of x.answer ≡ some n → x.cache ≡ cache → Handed t f x cache []
  refused-handed x cache n k e = record { words = rw (none-handed x.answer n k); ranged = tt; sized = nothing-made cache x.cache e }

  module _ (x : Made) (cache : List ℕ) (c : Cache) where
    pub not-out : Outcome t f x cache c → (ruled t f x c ≡ refused 17 → ⊥) → number_of x.answer ≡ some 17 → ⊥
    not-out (turned n e k a b) h q = let z : n ≡ 17 = cc in h (e ∙ ap refused z)
    not-out (taken es c' n e k i w r s ok p a) h q = let z : ◌≡◌ {A = ℕ} 0 1 = cc in omega arith

    -- what it handed out, and the cache that it left
    pub handed : Outcome t f x cache c → cache_of cache ≡ c → Answers c (ruled t f x c) → Handed t f x cache (edits (ruled t f x c)) × (cache_of x.cache ≡ cache_after c (ruled t f x c))
    handed (turned n e k a b) same g = rw e (refused-handed x cache n k b, ap cache_of b ∙ same)
    handed (taken es c' n e k i w r s ok p a) same g =
        let g' = rw e at g in
        rw e (record { words = rw (i, w) (take_at (map word_of es) _ (length es) (length-map es word_of)); ranged = r; sized = rw (same, s) g' }, s)

  never : (calls : List Made) (cache : List ℕ) (c : Cache) → Claim t f calls cache c → rules.NeverOut (reg_info_of t) (function_of f) (map call calls) c → NeverOut calls
  never [] cache c h g = tt
  never (x ∷ l) cache c h g = (not-out x cache c h.0 g.0, never l x.cache (cache_after c (ruled t f x c)) h.1 g.1)

  sizes : (calls : List Made) (es : List Edit) (cache : List ℕ) (c : Cache) → cache_of cache ≡ c → Claim t f calls cache c → rules.SizesClaim (reg_info_of t) (function_of f) (map call calls) es c → SizesClaim t f calls es cache
  sizes [] es cache c same h g = rw same g
  sizes (x ∷ l) es cache c same h g =
      let r = ruled t f x c in
      let d = handed x cache c h.0 same g.1 in
      (rw same g.0, edits r, d.0, sizes l (es ++ edits r) x.cache (cache_after c r) d.1 h.1 g.2)

-- whatever the number of each size that is enough by the rules
enough-with : (n : ℕ) → rules.EnoughWith n → EnoughWith n
enough-with n by t f known h calls cache cleared made =
    never t f calls cache empty_cache (demand-3-of-the-code t f known calls cache cleared made) (rule.enough-for-calls n by (reg_info_of t) (function_of f) known.target known.function h (map call calls))

pub enough-for-the-code : Enough
enough-for-the-code = enough-with 128 rule.enough

pub fewer-enough-for-the-code : FewerEnough
fewer-enough-for-the-code = enough-with 127 rule.fewer-enough

pub each-of-its-size-in-the-code : EachOfItsSize
each-of-its-size-in-the-code t f known calls cache cleared made =
    sizes t f calls [] cache empty_cache cleared.empty (demand-3-of-the-code t f known calls cache cleared made) (rule.each-of-its-size-in-calls (reg_info_of t) (function_of f) known.target known.function (map call calls))
