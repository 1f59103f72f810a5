-- The claims of the exported calls follow from those of Rattle's own.
use Prim.Native.Nat.{ℕ, ◌+◌, ◌*◌}
use mathlib.Core.Path.{◌≡◌, refl, sym, ap, ◌∙◌}
use mathlib.Core.Bool.{Bool, true, false}
use mathlib.Core.List.{List, [], ◌∷◌}
use mathlib.Core.Option.{some}
use native.Mathlib.Omega.{arith}
use lib.Dec.{eqb}
use borrow.Author.Tests.{eqb-true}
use Rattle.reginfo.specs.RegInfo.{RegInfo}
use Rattle.reginfo.specs.Table.{reg_info_of}
use Rattle.function.specs.Function.{Function, value_bank}
use Rattle.function.specs.Table.{function_of}
use Rattle.machine.specs.Enough.{num_sizes}
use Rattle.number.specs.Read.{Read, got, refused}
use Rattle.parallel_moves.specs.declared.asking.Asked as A
use Rattle.parallel_moves.specs.declared.asking.TakeAnswer as K
use Rattle.parallel_moves.specs.Answers.{number_of}
use Rattle.job_rules.specs.Job.{Opened}
use Rattle.calls.specs.declared.Opened.TheVariants.{Yes}
use Rattle.calls.specs.Opening.{opened, OpenedAs}
use Rattle.calls.proofs.Claimed.{known}
use Rattle.calls.proofs.Enough.{setting}
use Rattle.calls_c.specs.Called.{OpenedBy}
use Rattle.request_claims.specs.Calls as calls
use Rattle.request_claims.specs.Claim as claims
use Rattle.request_claims.specs.Enough as enough
use Rattle.request_claims.proofs.Claimed.{demand-3-of-all-calls}
use Rattle.request_claims.proofs.Enough.{enough-for-all-calls}
use Rattle.request_claims.proofs.Sizes.{each-of-its-size-in-all-calls}
use Rattle.exported_claims.specs.Calls.{MadeCall, MadeAsk, MadeTake, Made, resolving, grouping, asking, taking, holding, Called, resolved_if, asked_if, taken_if, said}
use Rattle.exported_claims.specs.Claim.{Demand3, EachOfItsSize, NeverOut, SameValues, Planned}
use Rattle.exported_claims.proofs.Read.{of-opened}
use Rattle.exported_claims.proofs.Said.{all-did}

-- 0 is answered of what is opened, and of nothing else
opened-as : (o : Read Opened) → (o ≡ refused 0 → ⊥) → (t f cache cache' : List ℕ) → OpenedBy o 0 t f cache cache' → OpenedAs o Yes t f cache cache'
opened-as (refused k) h t f cache cache' g = absurd (h (ap refused (sym g.0)))
opened-as (got x r) h t f cache cache' g = (refl, g.1, g.2, g.3, g.4, g.5)

module _ (kept : ℕ) (bytes t f cache cache' : List ℕ) (o : OpenedBy (opened kept bytes) 0 t f cache cache') where
  pub is-opened : OpenedAs (opened kept bytes) Yes t f cache cache'
  is-opened = opened-as (opened kept bytes) (of-opened kept bytes) t f cache cache' o

  pub were-called : (made : List Made) → Called t f made (holding cache') → claims.Called t f (said made) (calls.holding cache')
  were-called made h = all-did t f (known (opened kept bytes) t f cache cache' is-opened).0 made (holding cache') h

pub demand-3 : Demand3
demand-3 kept bytes t f cache cache' o made h few =
    demand-3-of-all-calls kept bytes t f cache cache' (is-opened kept bytes t f cache cache' o) (said made) (were-called kept bytes t f cache cache' o made h) few

pub each-of-its-size : EachOfItsSize
each-of-its-size kept bytes t f cache cache' o made h few =
    each-of-its-size-in-all-calls kept bytes t f cache cache' (is-opened kept bytes t f cache cache' o) (said made) (were-called kept bytes t f cache cache' o made h) few

-- ---- 02 j
call-not-out : (x : MadeCall) → (number_of (resolved_if (eqb x.refusal 0) x) ≡ some 17 → ⊥) → x.refusal ≡ 17 → ⊥
call-not-out x h q = go (eqb x.refusal 0) refl h
  where
    go : (b : Bool) → eqb x.refusal 0 ≡ b → (number_of (resolved_if b x) ≡ some 17 → ⊥) → ⊥
    go true e k = let z = eqb-true x.refusal 0 e in omega (arith, z, q)
    go false e k = k (ap some q)

ask-not-out : (x : MadeAsk) → (asked_if (eqb x.refusal 0) x ≡ A.TheVariants.Refused 17 → ⊥) → x.refusal ≡ 17 → ⊥
ask-not-out x h q = go (eqb x.refusal 0) refl h
  where
    go : (b : Bool) → eqb x.refusal 0 ≡ b → (asked_if b x ≡ A.TheVariants.Refused 17 → ⊥) → ⊥
    go true e k = let z = eqb-true x.refusal 0 e in omega (arith, z, q)
    go false e k = k (ap A.TheVariants.Refused q)

take-not-out : (x : MadeTake) → (taken_if (eqb x.answer 0) x ≡ K.TheVariants.Refused 17 → ⊥) → x.answer ≡ 17 → ⊥
take-not-out x h q = go (eqb x.answer 0) refl h
  where
    go : (b : Bool) → eqb x.answer 0 ≡ b → (taken_if b x ≡ K.TheVariants.Refused 17 → ⊥) → ⊥
    go true e k = let z = eqb-true x.answer 0 e in omega (arith, z, q)
    go false e k = k (ap K.TheVariants.Refused q)

never-out : (made : List Made) → enough.NeverOut (said made) → NeverOut made
never-out [] h = tt
never-out (resolving x ∷ l) h = (call-not-out x h.0, never-out l h.1)
never-out (grouping x ∷ l) h = (call-not-out x h.0, never-out l h.1)
never-out (asking x ∷ l) h = (ask-not-out x h.0, never-out l h.1)
never-out (taking x ∷ l) h = (take-not-out x h.0, never-out l h.1)

-- the sizes are those of the values' banks
same-sizes : (t : RegInfo) (f g : Function) → SameValues f g → num_sizes t f ≡ num_sizes t g
unfolding value_bank
same-sizes t f g e = go f.slots g.slots f.limit g.limit e.0 e.1
  where
    go : (a b c d : ℕ) → f.values ≡ g.values → f.kept ≡ g.kept
        → num_sizes t (record { values = f.values; slots = a; limit = c; kept = f.kept }) ≡ num_sizes t (record { values = g.values; slots = b; limit = d; kept = g.kept })
    go a b c d e k = rw e refl

pub planned : Planned
planned kept bytes x rest n is plan bytes' t f cache cache' o target same most made h few =
    let p = rw is at plan in
    let k : (function_of f).kept ≡ kept = setting kept bytes' t f cache cache' (is-opened kept bytes' t f cache cache' o) in
    let z : num_sizes (reg_info_of t) (function_of f) ≡ num_sizes x.target x.function =
    ap (λ (t : RegInfo). num_sizes t (function_of f)) target ∙ same-sizes x.target (function_of f) x.function same in
    let e : (128 + kept) * num_sizes (reg_info_of t) (function_of f) ≡ n = rw (z, ← k, same.1) (sym p.0) in
    never-out made
    (enough-for-all-calls kept bytes' t f cache cache' (is-opened kept bytes' t f cache cache' o) (omega (arith, e, most)) (said made) (were-called kept bytes' t f cache cache' o made h) few)
