-- A part of a job whose refusal is that of the first condition which holds: alone, and before others.
use Prim.Native.Nat.{ℕ, zero, suc, ◌+◌}
use mathlib.Core.Path.{◌≡◌, refl, ◌∙◌}
use mathlib.Core.Bool.{Bool, true, false}
use mathlib.Core.List.{List, [], ◌∷◌, ◌++◌}
use mathlib.Core.Option.{Option, none, some}
use lib.Dec.{ltb}
use Rattle.entity.specs.Logic.{pick, no, has}
use Rattle.reginfo.specs.Refused.{Condition, refused_if, first_of}
use Rattle.parallel_moves.proofs.First.{or_then, first-append}
use Rattle.number.specs.Read.{Read, got, refused, then}
use Rattle.number.specs.Number.{number}
use Rattle.number.proofs.Laws.{one-refusal}
use Rattle.reading.specs.Reading.{tested, below, times, distinct}
use Rattle.job_patch.specs.Patches.{unless_given, rising}
use Rattle.job_rules.specs.Conditions.{after_got, unread, in_number, in_tested, in_times, in_distinct, in_rising}

abbrev pub refusal_of : {A : Type 0} → Read A → Option ℕ
refusal_of (got x r) = none
refusal_of (refused k) = some k

-- the part is refused by the first of the conditions that holds, and read where none does
abbrev pub Exactly : {A : Type 0} → Read A → List Condition → Type 0
Exactly d cs = first_of cs ≡ refusal_of d

-- nothing is read
pub nothing : first_of [] ≡ none
unfolding first_of
nothing = refl

-- one part after another
pub after : {A B : Type 0} (d : Read A) (cs : List Condition) (next : A → List ℕ → Read B) (ns : A → List ℕ → List Condition)
    → Exactly d cs → ((x : A) (r : List ℕ) → d ≡ got x r → Exactly (next x r) (ns x r)) → Exactly (then d next) (cs ++ after_got d ns)
unfolding first_of
after {A = A} d cs next ns e on = first-append cs (after_got d ns) ∙ rw e (go d on)
  where
    go : (d : Read A) → ((x : A) (r : List ℕ) → d ≡ got x r → Exactly (next x r) (ns x r))
        → or_then (refusal_of d) (first_of (after_got d ns)) ≡ refusal_of (then d next)
    go (got x r) on = on x r refl
    go (refused k) on = refl

-- what is made of a part
pub made : {A B : Type 0} (d : Read A) (cs : List Condition) (g : A → B) → Exactly d cs → Exactly (then d (λ x r. got (g x) r)) cs
made {A = A} d cs g e = e ∙ go d
  where
    go : (d : Read A) → refusal_of d ≡ refusal_of (then d (λ x r. got (g x) r))
    go (got x r) = refl
    go (refused k) = refl

-- a condition before a part
pub unless : {A : Type 0} (b : Bool) (k : ℕ) (d : Read A) (cs : List Condition)
    → (b ≡ false → Exactly d cs) → Exactly (pick b (refused k) d) (refused_if k b ∷ cs)
unfolding first_of
unless true k d cs e = refl
unless false k d cs e = e refl

-- a test before a part
pub within : {A : Type 0} (b : Bool) (k : ℕ) (d : Read A) (cs : List Condition) → Exactly d cs → Exactly (pick b d (refused k)) (refused_if k (no b) ∷ cs)
unfolding first_of
within true k d cs e = e
within false k d cs e = refl

-- a test of what was read
pub passing : {A : Type 0} (b : Bool) (k : ℕ) (x : A) (r : List ℕ) → Exactly (pick b (got x r) (refused k)) (refused_if k (no b) ∷ [])
unfolding first_of
passing true k x r = refl
passing false k x r = refl

-- conditions before a part
pub given : {A : Type 0} (cs : List Condition) (d : Read A) (ns : List Condition) → Exactly d ns → Exactly (unless_given (first_of cs) d) (cs ++ ns)
given cs d ns e = first-append cs ns ∙ go (first_of cs)
  where
    go : (o : Option ℕ) → or_then o (first_of ns) ≡ refusal_of (unless_given o d)
    go none = e
    go (some k) = refl

-- one of two parts
pub either : {A : Type 0} (b : Bool) (d e : Read A) (cs ds : List Condition) → Exactly d cs → Exactly e ds → Exactly (pick b d e) (pick b cs ds)
either true d e cs ds p q = p
either false d e cs ds p q = q

-- ---- numbers and lists of them
pub number-exactly : (l : List ℕ) → Exactly (number l) (in_number l)
unfolding in_number first_of
number-exactly l = go (number l) (one-refusal l)
  where
    go : (d : Read ℕ) → ((k : ℕ) → d ≡ refused k → k ≡ 1) → Exactly d (refused_if 1 (unread d) ∷ [])
    go (got n r) h = refl
    go (refused k) h = let e : k ≡ 1 = h k refl in rw e

pub tested-exactly : (ok : ℕ → Bool) (l : List ℕ) → Exactly (tested ok l) (in_tested ok l)
unfolding tested in_tested
tested-exactly ok l = after (number l) (in_number l) _ _ (number-exactly l) (λ n r e. passing (ok n) 2 n r)

pub times-exactly : {A : Type 0} (n : ℕ) (one : List ℕ → Read A) (of : List ℕ → List Condition)
    → ((l : List ℕ) → Exactly (one l) (of l)) → (l : List ℕ) → Exactly (times n one l) (in_times n one of l)
unfolding times in_times
times-exactly zero one of h l = nothing
times-exactly (suc n) one of h l =
    after (one l) (of l) _ _ (h l)
    (λ x r e. made (times n one r) (in_times n one of r) (λ xs. x ∷ xs) (times-exactly n one of h r))

pub distinct-exactly : (n limit : ℕ) (before l : List ℕ) → Exactly (distinct n limit before l) (in_distinct n limit before l)
unfolding distinct in_distinct
distinct-exactly zero limit before l = nothing
distinct-exactly (suc n) limit before l =
    after (below limit l) (in_tested (λ x. ltb x limit) l) _ _ (tested-exactly (λ x. ltb x limit) l)
    (λ x r e. unless (has x before) 3 _ (in_distinct n limit (x ∷ before) r)
    (λ _. made (distinct n limit (x ∷ before) r) (in_distinct n limit (x ∷ before) r) (λ xs. x ∷ xs) (distinct-exactly n limit (x ∷ before) r)))

pub rising-exactly : (n limit least : ℕ) (l : List ℕ) → Exactly (rising n limit least l) (in_rising n limit least l)
unfolding rising in_rising
rising-exactly zero limit least l = nothing
rising-exactly (suc n) limit least l =
    after (below limit l) (in_tested (λ x. ltb x limit) l) _ _ (tested-exactly (λ x. ltb x limit) l)
    (λ u r e. unless (ltb u least) 3 _ (in_rising n limit (u + 1) r)
    (λ _. made (rising n limit (u + 1) r) (in_rising n limit (u + 1) r) (λ us. u ∷ us) (rising-exactly n limit (u + 1) r)))
