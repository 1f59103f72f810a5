-- What the numbers set by an exported call say is what Rattle's own call promises.
use Prim.Native.Nat.{ℕ}
use mathlib.Core.Path.{◌≡◌, refl, sym, ap, subst, ◌∙◌}
use mathlib.Core.Bool.{Bool, true, false}
use mathlib.Core.List.{List, [], ◌∷◌, ◌++◌, map}
use mathlib.Core.Option.{Option, none, some}
use native.Mathlib.Omega.{arith}
use lib.Dec.{eqb}
use lib.ListN.{length, get_or, get_or-map}
use borrow.Author.Tests.{eqb-true, eqb-false}
use Rattle.reginfo.specs.Table.{reg_info_of}
use Rattle.function.specs.Known.{Checked}
use Rattle.function.specs.Table.{function_of}
use Rattle.rules.specs.Patch.{Answer, refused, resolved}
use Rattle.slots.specs.Stacks.{cache_of}
use Rattle.parallel_moves.specs.declared.asking.Asked as A
use Rattle.parallel_moves.specs.declared.asking.TakeAnswer as K
use Rattle.parallel_moves.specs.Answers.{Gives, Asks, Takes}
use Rattle.calls_c.specs.Called as whole
use Rattle.groups_c.specs.Called as groups
use Rattle.asking_c.specs.Asked.{AskedAs, TakenAs}
use Rattle.request_claims.specs.Calls as calls
use Rattle.request_claims.specs.Claim as claims
use Rattle.exported_claims.specs.Calls.{MadeCall, MadeAsk, MadeTake, Made, resolving, grouping, asking, taking, Kept, Held, kept_if, left, ruled_by_groups, TakeDid, Did, Called, resolved_if, asked_if, taken_if, said_of, said}
use Rattle.exported_claims.proofs.Numbers.{of-call, of-call-by-groups}

module _ (f : List ℕ) where
  gives : (a : Answer) → (a ≡ refused 0 → ⊥) → (x : MadeCall) (cache : List ℕ)
      → whole.CalledAs f a x.count x.refusal x.position x.position' x.list x.after cache x.cache
      → Gives f a (resolved_if (eqb x.refusal 0) x) x.list x.after cache x.cache
  gives (refused n) h x cache g = go (eqb x.refusal 0) refl
    where
      go : (b : Bool) → eqb x.refusal 0 ≡ b → Gives f (refused n) (resolved_if b x) x.list x.after cache x.cache
      go true e = absurd (h (ap refused (sym g.1 ∙ eqb-true x.refusal 0 e)))
      go false e = (ap some g.1, g.3, g.4)
  gives (resolved es c n) h x cache g = go (eqb x.refusal 0) refl
    where
      go : (b : Bool) → eqb x.refusal 0 ≡ b → Gives f (resolved es c n) (resolved_if b x) x.list x.after cache x.cache
      go true e = (refl, g.0, g.3, g.4, g.5, g.6, g.2, g.7)
      go false e = absurd (eqb-false x.refusal 0 e g.1)

  -- the same of a call by groups, whose contract says the same in its own crate
  by-groups : (a : Answer) (r refusal position position' : ℕ) (list list' cache cache' : List ℕ)
      → groups.CalledAs f a r refusal position position' list list' cache cache' → whole.CalledAs f a r refusal position position' list list' cache cache'
  by-groups (refused n) r refusal position position' list list' cache cache' g = g
  by-groups (resolved es c n) r refusal position position' list list' cache cache' g = g

  asks : (a : Answer) → (a ≡ refused 0 → ⊥) → (x : MadeAsk) (cache : List ℕ)
      → AskedAs f a x.count x.refusal x.made x.made' x.position x.position' x.stamp x.stamp' x.list x.after cache x.slots
      → Asks f (function_of f).limit a (asked_if (eqb x.refusal 0) x) x.list x.after cache x.slots
  asks (refused n) h x cache g = go (eqb x.refusal 0) refl
    where
      go : (b : Bool) → eqb x.refusal 0 ≡ b → Asks f (function_of f).limit (refused n) (asked_if b x) x.list x.after cache x.slots
      go true e = absurd (h (ap refused (sym g.1 ∙ eqb-true x.refusal 0 e)))
      go false e = (ap A.TheVariants.Refused g.1, g.5, g.6)
  asks (resolved es c n) h x cache g = go (eqb x.refusal 0) refl
    where
      go : (b : Bool) → eqb x.refusal 0 ≡ b → Asks f (function_of f).limit (resolved es c n) (asked_if b x) x.list x.after cache x.slots
      go true e = (rw (g.0, g.2, g.3, g.4) refl, g.5, g.6, g.7)
      go false e = absurd (eqb-false x.refusal 0 e g.1)

takes : (made position stamp : ℕ) (slots cache : List ℕ) (x : MadeTake) → TakenAs made stamp slots cache x.answer x.cache
    → Takes (record { made = made; position = position; stamp = stamp }) slots cache (taken_if (eqb x.answer 0) x) x.cache
takes made position stamp slots cache x g =
    record {
      same = λ e. let y = g.same e in (yes y.0 (eqb x.answer 0) refl, y.1);
      other = λ e. let y = g.other e in (late y.0 (eqb x.answer 0) refl, y.1);
    }
  where
    yes : x.answer ≡ 0 → (b : Bool) → eqb x.answer 0 ≡ b → taken_if b x ≡ K.TheVariants.Yes
    yes h true e = refl
    yes h false e = absurd (eqb-false x.answer 0 e h)

    late : x.answer ≡ 20 → (b : Bool) → eqb x.answer 0 ≡ b → taken_if b x ≡ K.TheVariants.Refused 20
    late h true e = absurd (let z = eqb-true x.answer 0 e in omega (arith, z, h))
    late h false e = ap K.TheVariants.Refused h

-- ---- what a program holds
abbrev kept_said : Option Kept → Option calls.Kept
kept_said none = none
kept_said (some k) = some (record { preview = record { made = k.made; position = k.position; stamp = k.stamp }; slots = k.slots })

abbrev pub held_said : Held → calls.Held
held_said s = record { cache = s.cache; kept = map kept_said s.kept }

map_more : (l : List (Option Kept)) (o : Option Kept) → map kept_said (l ++ (o ∷ [])) ≡ map kept_said l ++ (kept_said o ∷ [])
map_more [] o = refl
map_more (x ∷ l) o = ap (λ (m : List (Option calls.Kept)). kept_said x ∷ m) (map_more l o)

kept_same : (b : Bool) (x : MadeAsk) → kept_said (kept_if b x) ≡ calls.kept_of (asked_if b x) x.slots
kept_same true x = refl
kept_same false x = refl

pub left-same : (x : Made) (s : Held) → held_said (left x s) ≡ calls.left (said_of x) (held_said s)
left-same (resolving x) s = refl
left-same (grouping x) s = refl
left-same (asking x) s =
    ap (λ (k : List (Option calls.Kept)). record { cache = s.cache; kept = k })
    (map_more s.kept (kept_if (eqb x.refusal 0) x) ∙ ap (λ (o : Option calls.Kept). map kept_said s.kept ++ (o ∷ [])) (kept_same (eqb x.refusal 0) x))
left-same (taking x) s = refl

module _ (t f : List ℕ) (ch : Checked t f) where
  take-did : (o : Option Kept) (x : MadeTake) (cache : List ℕ) → TakeDid t f o x cache
      → claims.TakeDid t f (kept_said o) (record { asking = x.asking; answer = taken_if (eqb x.answer 0) x; cache = x.cache }) cache
  take-did none x cache h = h
  take-did (some k) x cache h = λ can. takes k.made k.position k.stamp k.slots cache x (h can)

  did : (x : Made) (s : Held) → Did t f x s → claims.Did t f (said_of x) (held_said s)
  did (resolving x) s h = λ ok. gives f _ (of-call (reg_info_of t) (function_of f) x.free x.numbers (length x.list) (cache_of s.cache)) x s.cache (h ok)
  did (grouping x) s h =
      λ ok. gives f (ruled_by_groups t f x.free x.numbers x.list (cache_of s.cache)) (of-call-by-groups (reg_info_of t) (function_of f) ch.target x.free x.numbers (length x.list) (cache_of s.cache)) x s.cache
      (by-groups f (ruled_by_groups t f x.free x.numbers x.list (cache_of s.cache)) x.count x.refusal x.position x.position' x.list x.after s.cache x.cache (h ok))
  did (asking x) s h = λ ok. asks f _ (of-call (reg_info_of t) (function_of f) x.free x.numbers (length x.list) (cache_of s.cache)) x s.cache (h ok)
  did (taking x) s h = rw (get_or-map kept_said s.kept x.asking none) (take-did (get_or s.kept x.asking none) x s.cache h)

  pub all-did : (made : List Made) (s : Held) → Called t f made s → claims.Called t f (said made) (held_said s)
  all-did [] s h = tt
  all-did (x ∷ l) s h = (did x s h.0, subst (claims.Called t f (said l)) (left-same x s) (all-did l (left x s) h.1))
