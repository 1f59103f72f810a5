-- A job opens with its N within limits exactly where it opens alone and has such an N.
use Prim.Native.Nat.{ℕ, ◌≤◌}
use mathlib.Core.Path.{◌≡◌, refl, sym, ap, ◌∙◌}
use mathlib.Core.Bool.{Bool, true, false}
use mathlib.Core.List.{List}
use mathlib.Core.Option.{Option, none, some}
use native.Mathlib.Omega.{arith}
use lib.Dec.{ltb}
use lib.ListN.{length}
use Rattle.entity.specs.Logic.{pick, no}
use Rattle.reginfo.specs.RegInfo.{RegInfo}
use Rattle.reginfo.specs.Refused.{target_refusal}
use Rattle.function.specs.Function.{Function, is_setting}
use Rattle.number.specs.Read.{Read, got, refused, then}
use Rattle.reading.specs.Reading.{between}
use Rattle.job_target.specs.Target.{target}
use Rattle.job_function.specs.Reads.{function, function_within}
use Rattle.job_function.proofs.Accepted.{then-got, read-within}
use Rattle.job_patch.specs.Patches.{unless_given}
use Rattle.job_rules.specs.Job.{Opened, Header, with_function, beginning, opening}
use Rattle.job_rules.specs.Formula.{with_function_within, beginning_within, counted, opening_within, OpensWithin}
use Rattle.job_rules.proofs.Opening.{opening-is}

-- a target and what is read behind it by v, as a function
module _ (x : Opened) (r : List ℕ) where
  abbrev whole : (RegInfo → List ℕ → Read Function) → Bool → Bool → Read RegInfo → Read Opened
  whole v a b y = pick a (refused 22) (pick b (refused 2) (then y (λ t q. unless_given (target_refusal t) (then (v t q) (λ f p. got (record { target = t; function = f }) p)))))

  got-whole : (v : RegInfo → List ℕ → Read Function) (a b : Bool) (y : Read RegInfo) → whole v a b y ≡ got x r
      → (t : RegInfo) × (q : List ℕ) × (a ≡ false) × (b ≡ false) × (y ≡ got t q) × (target_refusal t ≡ none) × (v t q ≡ got x.function r) × (x.target ≡ t)
  got-whole v true b y e = absurd (let z : ◌≡◌ {A = ℕ} 0 1 = cc in omega arith)
  got-whole v false true y e = absurd (let z : ◌≡◌ {A = ℕ} 0 1 = cc in omega arith)
  got-whole v false false (refused k) e = absurd (let z : ◌≡◌ {A = ℕ} 0 1 = cc in omega arith)
  got-whole v false false (got t q) e = go (target_refusal t) refl e
    where
      go : (o : Option ℕ) → target_refusal t ≡ o → unless_given o (then (v t q) (λ f p. got (record { target = t; function = f }) p)) ≡ got x r
          → (t' : RegInfo) × (q' : List ℕ) × (false ≡ false) × (false ≡ false) × (got t q ≡ got t' q') × (target_refusal t' ≡ none) × (v t' q' ≡ got x.function r) × (x.target ≡ t')
      go (some k) o e = absurd (let z : ◌≡◌ {A = ℕ} 0 1 = cc in omega arith)
      go none o e =
          let w = then-got (v t q) (λ f p. got (record { target = t; function = f }) p) x r e in
          let g = w.3 in
          let is : record { target = t; function = w.0 } ≡ x = cc in
          let on : w.1 ≡ r = cc in
          let a : got w.0 w.1 ≡ got x.function w.1 = ap (λ (y : Opened). got y.function w.1) is in
          let b : got x.function w.1 ≡ got x.function r = ap (λ (l : List ℕ). got x.function l) on in
          (t, q, refl, refl, refl, o, w.2 ∙ (a ∙ b), sym (ap (λ (y : Opened). y.target) is))

  whole-got : (v w : RegInfo → List ℕ → Read Function) (a b : Bool) (y : Read RegInfo) → ((t : RegInfo) (q : List ℕ) → v t q ≡ got x.function r → w t q ≡ got x.function r) → whole v a b y ≡ got x r → whole w a b y ≡ got x r
  whole-got v w a b y on e =
      let p = got-whole v a b y e in
      let g = on p.0 p.1 p.6 in
      rw (p.2, p.3, p.4, p.5, g, ← p.7) refl

-- with N within limits, and with any
module _ (least most : ℕ) (few : most ≤ 4096) (kept : ℕ) (l : List ℕ) (x : Opened) (r : List ℕ) where
  abbrev Slots : Type 0
  Slots = (least ≤ x.function.slots) × (x.function.slots ≤ most)

  begins-any : beginning_within true least most kept l ≡ got x r → (beginning kept l ≡ got x r) × Slots
  unfolding beginning_within with_function_within beginning with_function
  begins-any e =
      let v : RegInfo → List ℕ → Read Function = λ t q. function_within least most t kept q in
      let w : RegInfo → List ℕ → Read Function = λ t q. function t kept q in
      let p = got-whole x r v (no (is_setting kept)) (ltb 65536 (length l)) (target l) e in
      let z = (read-within least most few p.0 kept p.1 x.function r).0 p.6 in
      (whole-got x r v w (no (is_setting kept)) (ltb 65536 (length l)) (target l) (λ t q h. ((read-within least most few t kept q x.function r).0 h).0) e, (z.1, z.2))

  any-begins : beginning kept l ≡ got x r → Slots → beginning_within true least most kept l ≡ got x r
  unfolding beginning_within with_function_within beginning with_function
  any-begins e s =
      let v : RegInfo → List ℕ → Read Function = λ t q. function_within least most t kept q in
      let w : RegInfo → List ℕ → Read Function = λ t q. function t kept q in
      whole-got x r w v (no (is_setting kept)) (ltb 65536 (length l)) (target l) (λ t q h. (read-within least most few t kept q x.function r).1 (h, s.0, s.1)) e

counted-function : (x : Opened) (q : List ℕ) (h : Header) (r : List ℕ) → counted x q ≡ got h r → h.function ≡ x.function
counted-function x q h r e =
    let p = then-got (between 1 1024 q) (λ n p. got (record { target = x.target; function = x.function; patches = n }) p) h r e in
    let g = p.3 in
    let is : record { target = x.target; function = x.function; patches = p.0 } ≡ h = cc in
    sym (ap (λ (y : Header). y.function) is)

module _ (least most : ℕ) (few : most ≤ 4096) (kept : ℕ) (l : List ℕ) (h : Header) (r : List ℕ) where
  opens-any : opening_within true least most kept l ≡ got h r → (opening kept l ≡ got h r) × (least ≤ h.function.slots) × (h.function.slots ≤ most)
  unfolding opening_within
  opens-any e =
      let p = then-got (beginning_within true least most kept l) (λ x q. counted x q) h r e in
      let a = begins-any least most few kept l p.0 p.1 p.2 in
      let is = counted-function p.0 p.1 h r p.3 in
      (opening-is kept l ∙ (rw a.0 p.3), rw is a.1.0, rw is a.1.1)

  any-opens : opening kept l ≡ got h r → least ≤ h.function.slots → h.function.slots ≤ most → opening_within true least most kept l ≡ got h r
  unfolding opening_within
  any-opens e low high =
      let p = then-got (beginning kept l) (λ x q. counted x q) h r (sym (opening-is kept l) ∙ e) in
      let is = counted-function p.0 p.1 h r p.3 in
      rw (any-begins least most few kept l p.0 p.1 p.2 (rw is at low, rw is at high)) p.3

pub opens-within : OpensWithin
opens-within least most few kept l h r = (opens-any least most few kept l h r, λ a. any-opens least most few kept l h r a.0 a.1 a.2)
