-- 02 j of every list of calls: the theorems about the rules, of the calls that are not refused for their free units.
use Prim.Native.Nat.{ℕ, ◌+◌, ◌*◌, ◌≤◌}
use mathlib.Core.Path.{◌≡◌, refl, sym, ap, subst, ◌∙◌}
use mathlib.Core.Bool.{Bool, true, false}
use mathlib.Core.List.{List, [], ◌∷◌, ◌++◌, map, append-nil}
use mathlib.Core.Option.{some}
use native.Mathlib.Omega.{arith}
use lib.Dec.{ltb}
use Rattle.entity.specs.Logic.{no}
use Rattle.reginfo.specs.Refused.{or_else}
use Rattle.reginfo.specs.Table.{reg_info_of}
use Rattle.function.specs.Function.{Function}
use Rattle.function.specs.Table.{function_of}
use Rattle.rules.specs.Edit.{Edit}
use Rattle.rules.specs.Scratch.{Cache, empty_cache}
use Rattle.rules.specs.Patch.{Call, cache_after}
use Rattle.machine.specs.Enough as rules
use Rattle.machine.proofs.EnoughSlots as rule
use Rattle.slots.specs.Stacks.{cache_of}
use Rattle.number.specs.Read as read
use Rattle.number.specs.Read.{Read}
use Rattle.parallel_moves.specs.Claim as patch
use Rattle.parallel_moves.specs.Enough.{NeverOut, SizesClaim}
use Rattle.parallel_moves.proofs.Enough.{edits, refused-handed, not-out, handed}
use Rattle.job_function.proofs.Accepted.{then-got}
use Rattle.job_rules.specs.Job as job
use Rattle.job_rules.specs.Job.{beginning}
use Rattle.job_rules.proofs.Enough.{begun}
use Rattle.calls.specs.declared.Opened.TheVariants.{Yes}
use Rattle.calls.specs.Opening.{ended, opened, OpenedAs}
use Rattle.calls.specs.Call.{free_from}
use Rattle.calls.specs.Claim.{Made, patched, ruled, Outcome, not_free, called, Claim}
use Rattle.calls.specs.Enough.{EnoughWith, Enough, FewerEnough, EachOfItsSize}
use Rattle.calls.proofs.Claimed.{asked, turned, let-in, known, demand-3-of-the-calls}

-- a free unit is not refused with 17
pub free_other : (units least : ℕ) (us : List ℕ) (n : ℕ) → free_from units least us ≡ some n → n ≡ 17 → ⊥
unfolding free_from
free_other units least [] n e q = let z : ◌≡◌ {A = ℕ} 0 1 = cc in omega arith
free_other units least (u ∷ us) n e q = go (no (ltb u units)) (ltb u least) e (λ h. free_other units (u + 1) us n h q)
  where
    go : (a b : Bool) → or_else a 2 (or_else b 3 (free_from units (u + 1) us)) ≡ some n → (free_from units (u + 1) us ≡ some n → ⊥) → ⊥
    go true b h on = let z : 2 ≡ n = cc in omega arith
    go false true h on = let z : 3 ≡ n = cc in omega arith
    go false false h on = on h

-- what is known before the next call
first-between : (t f : List ℕ) (calls : List Call) (es : List Edit) (c : Cache) → rules.SizesClaim (reg_info_of t) (function_of f) calls es c → rules.Between (reg_info_of t) (function_of f) es c
first-between t f [] es c g = g
first-between t f (x ∷ l) es c g = g.0

module _ (t f : List ℕ) where
  abbrev Never : List Call → Cache → Type 0
  Never calls c = rules.NeverOut (reg_info_of t) (function_of f) calls c

  abbrev Sizes : List Call → List Edit → Cache → Type 0
  Sizes calls es c = rules.SizesClaim (reg_info_of t) (function_of f) calls es c

  module _ (x : Made) (l : List Made) (cache : List ℕ) (c : Cache) where
    never-step : Outcome t f x cache c → Claim t f l x.cache (cache_after c (ruled t f x c)) → Never (asked t f (x ∷ l)) c
        → ((c' : Cache) → Claim t f l x.cache c' → Never (asked t f l) c' → NeverOut (map patched l)) → NeverOut (patched x ∷ map patched l)
    never-step (not_free n e k a b) h g on = ((λ q. let z : n ≡ 17 = cc in free_other _ 0 x.free n e z), on c (rw (turned t f x c n e) at h) (rw e at g))
    never-step (called e o) h g on =
        let g' = rw e at g in
        (not-out t f (patched x) cache c o g'.0, on (cache_after c (patch.ruled t f (patched x) c)) (rw (let-in t f x c e) at h) g'.1)

    sizes_step : Outcome t f x cache c → Claim t f l x.cache (cache_after c (ruled t f x c)) → cache_of cache ≡ c → (es : List Edit) → Sizes (asked t f (x ∷ l)) es c
        → ((c' : Cache) → Claim t f l x.cache c' → cache_of x.cache ≡ c' → (es' : List Edit) → Sizes (asked t f l) es' c' → SizesClaim t f (map patched l) es' x.cache)
        → SizesClaim t f (patched x ∷ map patched l) es cache
    sizes_step (not_free n e k a b) h same es g on =
        let g' : Sizes (asked t f l) es c = rw e at g in (
          rw same (first-between t f (asked t f l) es c g'),
          [],
          refused-handed t f (patched x) cache n k b,
          on c (rw (turned t f x c n e) at h) (ap cache_of b ∙ same) (es ++ []) (rw (append-nil es) g'),
        )
    sizes_step (called e o) h same es g on =
        let g' = rw e at g in
        let r = patch.ruled t f (patched x) c in
        let d = handed t f (patched x) cache c o same g'.1 in
        (rw same g'.0, edits t f r, d.0, on (cache_after c r) (rw (let-in t f x c e) at h) d.1 (es ++ edits t f r) g'.2)

  never : (calls : List Made) (cache : List ℕ) (c : Cache) → Claim t f calls cache c → Never (asked t f calls) c → NeverOut (map patched calls)
  never [] cache c h g = tt
  never (x ∷ l) cache c h g = never-step x l cache c h.0 h.1 g (λ c' h' g'. never l x.cache c' h' g')

  sizes : (calls : List Made) (cache : List ℕ) (c : Cache) → Claim t f calls cache c → cache_of cache ≡ c → (es : List Edit) → Sizes (asked t f calls) es c → SizesClaim t f (map patched calls) es cache
  sizes [] cache c h same es g = rw same g
  sizes (x ∷ l) cache c h same es g = sizes_step x l cache c h.0 h.1 same es g (λ c' h' same' es' g'. sizes l x.cache c' h' same' es' g')

-- the function that was opened has the setting
all_of : (x y : job.Opened) (q rest : List ℕ) → ended x q ≡ read.got y rest → x ≡ y
all_of x y [] rest e = cc
all_of x y (b ∷ q) rest e = absurd (let z : ◌≡◌ {A = ℕ} 0 1 = cc in omega arith)

pub setting : (kept : ℕ) (bytes t f cache cache' : List ℕ) → OpenedAs (opened kept bytes) Yes t f cache cache' → (function_of f).kept ≡ kept
unfolding opened
setting kept bytes t f cache cache' h = go (opened kept bytes) refl h
  where
    go : (x : Read job.Opened) → opened kept bytes ≡ x → OpenedAs x Yes t f cache cache' → (function_of f).kept ≡ kept
    go (read.refused k) e h = absurd (let z : ◌≡◌ {A = ℕ} 0 1 = cc in omega arith)
    go (read.got x rest) e h =
        let w = then-got (beginning kept bytes) (λ x q. ended x q) x rest e in
        let is : w.0 ≡ x = all_of w.0 x w.1 rest w.3 in
        ap (λ (g : Function). g.kept) h.2 ∙ rw (← is) (begun kept bytes w.0 w.1 w.2).setting

-- whatever the number of each size that is enough by the rules
enough-with : (n : ℕ) → rules.EnoughWith n → EnoughWith n
enough-with n by kept bytes t f cache cache' o h calls made =
    let k = known (opened kept bytes) t f cache cache' o in
    never t f calls cache' empty_cache (demand-3-of-the-calls kept bytes t f cache cache' o calls made)
    (rule.enough-for-calls n by (reg_info_of t) (function_of f) k.0.target k.0.function (subst (λ (k : ℕ). (n + k) * rules.num_sizes (reg_info_of t) (function_of f) ≤ (function_of f).limit) (sym (setting kept bytes t f cache cache' o)) h) (asked t f calls))

pub enough-for-the-calls : Enough
enough-for-the-calls = enough-with 128 rule.enough

pub fewer-enough-for-the-calls : FewerEnough
fewer-enough-for-the-calls = enough-with 127 rule.fewer-enough

pub each-of-its-size-in-the-calls : EachOfItsSize
each-of-its-size-in-the-calls kept bytes t f cache cache' o calls made =
    let k = known (opened kept bytes) t f cache cache' o in
    sizes t f calls cache' empty_cache (demand-3-of-the-calls kept bytes t f cache cache' o calls made) k.1.empty [] (rule.each-of-its-size-in-calls (reg_info_of t) (function_of f) k.0.target k.0.function (asked t f calls))
