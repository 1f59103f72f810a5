-- Reading alone gives 1 to 15 or 21: part by part. So 18 is the writer's own.
use Prim.Native.Nat.{ℕ, zero, suc, ◌+◌, ◌<◌, ◌≤◌}
use mathlib.Core.Path.{◌≡◌, refl}
use mathlib.Core.Bool.{Bool, true, false}
use mathlib.Core.List.{List, [], ◌∷◌}
use mathlib.Core.Option.{none}
use mathlib.Core.Logic.{◌⊎◌, inl, inr}
use native.Mathlib.Omega.{arith}
use lib.Dec.{eqb, ltb, leb}
use lib.ListN.{length}
use borrow.Author.Tests.{eqb-true, leb-true, lt-ltb, le-ltb, ltb-true}
use Rattle.entity.specs.Logic.{pick, and, or, all_in, has}
use Rattle.entity.specs.Place.{place_at}
use Rattle.entity.proofs.Laws.{and-true}
use Rattle.reginfo.specs.RegInfo.{RegInfo, bank_for_class}
use Rattle.reginfo.specs.Refused.{Condition, or_else, first_of, target_refusal}
use Rattle.function.specs.Function.{Function, num_values, is_setting}
use Rattle.rules.specs.Patch.{Entry, move, remat, Patch, Sorted, nothing_sorted, bound, names_place, entry_conditions, add, sorted, free_destination, last_overlaps, patch_conditions}
use Rattle.number.specs.Read.{Read, got, refused, then}
use Rattle.number.specs.Number.{number}
use Rattle.number.proofs.Laws.{one-refusal}
use Rattle.reading.specs.Reading.{tested, below, between, times, distinct}
use Rattle.job_target.specs.Target.{bank, reg, class, classes, target}
use Rattle.job_function.specs.Reads.{remat_value, value, valued, function}
use Rattle.job_patch.specs.Patches.{unless_given, rising, place, entry, entries, patch}
use Rattle.job_rules.specs.Job.{after_target, header, opening}
use Rattle.job_rules.proofs.Room.{room-for-every}
use Rattle.job_numbers.specs.Numbers.{Job, bytes_of, read_patches, read_job, number_of, wrote, not_written, unless_number, written}
use Rattle.job_numbers.specs.Claim.{OnlyReading, OverLong, Eighteen}

abbrev readings : ℕ → Bool
readings k = or (and (leb 1 k) (leb k 15)) (eqb k 21)

abbrev Only : {A : Type 0} → Read A → Type 0
Only (got x r) = Unit {0}
Only (refused k) = readings k ≡ true

-- ---- what parts are made with
after : {A B : Type 0} (d : Read A) (next : A → List ℕ → Read B) → Only d → ((x : A) (r : List ℕ) → d ≡ got x r → Only (next x r))
    → Only (then d next)
after (got x r) next h on = on x r refl
after (refused k) next h on = h

made : {A B : Type 0} (d : Read A) (g : A → B) → Only d → Only (then d (λ x r. got (g x) r))
made (got x r) g h = tt
made (refused k) g h = h

unless : {A : Type 0} (b : Bool) (k : ℕ) (d : Read A) → readings k ≡ true → Only d → Only (pick b (refused k) d)
unless true k d z h = z
unless false k d z h = h

passing : {A : Type 0} (b : Bool) (k : ℕ) (d : Read A) → readings k ≡ true → Only d → Only (pick b d (refused k))
passing true k d z h = h
passing false k d z h = z

either : {A : Type 0} (b : Bool) (d e : Read A) → Only d → Only e → Only (pick b d e)
either true d e h k = h
either false d e h k = k

given : {A : Type 0} (cs : List Condition) (d : Read A) → all_in (λ (c : Condition). readings c.number) cs ≡ true → Only d
    → Only (unless_given (first_of cs) d)
unfolding all_in first_of
given [] d z h = h
given (c ∷ cs) d z h =
    let w = and-true (readings c.number) (all_in (λ (c : Condition). readings c.number) cs) z in
    go c.holds w.0 (given cs d w.1 h)
  where
    go : (b : Bool) → readings c.number ≡ true → Only (unless_given (first_of cs) d) → Only (unless_given (or_else b c.number (first_of cs)) d)
    go true z h = z
    go false z h = h

-- ---- numbers and lists
number-only : (l : List ℕ) → Only (number l)
number-only l = go (number l) (one-refusal l)
  where
    go : (d : Read ℕ) → ((k : ℕ) → d ≡ refused k → k ≡ 1) → Only d
    go (got n r) h = tt
    go (refused k) h = let e : k ≡ 1 = h k refl in rw e

tested-only : (ok : ℕ → Bool) (l : List ℕ) → Only (tested ok l)
unfolding tested
tested-only ok l = after (number l) _ (number-only l) (λ n r e. passing (ok n) 2 _ refl tt)

number-then : {B : Type 0} (l : List ℕ) (next : ℕ → List ℕ → Read B) → ((n : ℕ) (r : List ℕ) → Only (next n r)) → Only (then (number l) next)
number-then l next on = after (number l) next (number-only l) (λ n r e. on n r)

tested-then : {B : Type 0} (ok : ℕ → Bool) (l : List ℕ) (next : ℕ → List ℕ → Read B) → ((n : ℕ) (r : List ℕ) → Only (next n r))
    → Only (then (tested ok l) next)
tested-then ok l next on = after (tested ok l) next (tested-only ok l) (λ n r e. on n r)

times-only : {A : Type 0} (one : List ℕ → Read A) → ((l : List ℕ) → Only (one l)) → (n : ℕ) (l : List ℕ) → Only (times n one l)
unfolding times
times-only one h zero l = tt
times-only one h (suc n) l = after (one l) _ (h l) (λ x r e. made (times n one r) (λ xs. x ∷ xs) (times-only one h n r))

distinct-only : (n limit : ℕ) (before l : List ℕ) → Only (distinct n limit before l)
unfolding distinct
distinct-only zero limit before l = tt
distinct-only (suc n) limit before l =
    tested-then _ l _
    (λ x r. unless (has x before) 3 _ refl (made (distinct n limit (x ∷ before) r) (λ xs. x ∷ xs) (distinct-only n limit (x ∷ before) r)))

rising-only : (n limit least : ℕ) (l : List ℕ) → Only (rising n limit least l)
unfolding rising
rising-only zero limit least l = tt
rising-only (suc n) limit least l =
    tested-then _ l _ (λ u r. unless (ltb u least) 3 _ refl (made (rising n limit (u + 1) r) (λ us. u ∷ us) (rising-only n limit (u + 1) r)))

-- ---- the target
bank-only : (l : List ℕ) → Only (bank l)
unfolding bank
bank-only l = tested-then _ l _ (λ size r. number-then r _ (λ top q. made (number q) _ (number-only q)))

reg-only : (units banks : ℕ) (l : List ℕ) → Only (reg units banks l)
unfolding reg
reg-only units banks l =
    tested-then _ l _ (λ memory r. tested-then _ r _ (λ b q. tested-then _ q _ (λ n p. made (distinct n units [] p) _ (distinct-only n units [] p))))

class-only : (banks regs total : ℕ) (l : List ℕ) → Only (class banks regs total l)
unfolding class
class-only banks regs total l =
    tested-then _ l _
    (λ b r. tested-then _ r _
    (λ slots q. number-then q _
    (λ n p. after (distinct n regs [] p) _ (distinct-only n regs [] p)
    (λ members o e. tested-then _ o _ (λ m k. made (distinct m regs [] k) _ (distinct-only m regs [] k))))))

classes-only : (n banks regs total : ℕ) (l : List ℕ) → Only (classes n banks regs total l)
unfolding classes
classes-only zero banks regs total l = tt
classes-only (suc n) banks regs total l =
    after (class banks regs total l) _ (class-only banks regs total l)
    (λ c r e. made (classes n banks regs c.total r) _ (classes-only n banks regs c.total r))

target-only : (l : List ℕ) → Only (target l)
unfolding target
target-only l =
    tested-then _ l _
    (λ units r. tested-then _ r _
    (λ n q. after (times n bank q) _ (times-only bank bank-only n q)
    (λ banks p e. tested-then _ p _
    (λ m o. after (times m (reg units n) o) _ (times-only (reg units n) (reg-only units n) m o)
    (λ regs k e. tested-then _ k _ (λ c j. made (classes c n m 0 j) _ (classes-only c n m 0 j)))))))

-- ---- the function
value-only : (t : RegInfo) (l : List ℕ) → Only (value t l)
unfolding value remat_value
value-only t l =
    tested-then _ l _
    (λ b r. tested-then _ r _
    (λ cost q. either (eqb cost 0) _ (remat_value t b cost q) tt (tested-then _ q _ (λ c p. passing (eqb (bank_for_class t c) b) 9 _ refl tt))))

function-only : (t : RegInfo) (kept : ℕ) (l : List ℕ) → Only (function t kept l)
unfolding function valued
function-only t kept l =
    tested-then _ l _
    (λ n r. tested-then _ r _
    (λ slots q. tested-then _ q _
    (λ limit p. made (times n (value t) p) _ (times-only (value t) (value-only t) n p))))

-- ---- a patch
module _ (t : RegInfo) (f : Function) where
  place-only : (l : List ℕ) → Only (place t f l)
  unfolding place
  place-only l = number-then l _ (λ c r. passing (names_place t f (place_at c)) 2 _ refl tt)

  entry-only : (l : List ℕ) → Only (entry t f l)
  unfolding entry
  entry-only l =
      tested-then _ l _
      (λ kind r. either (eqb kind 0) _ _
      (after (place t f r) _ (place-only r)
      (λ s q e. after (place t f q) _ (place-only q) (λ d p e. made (below (num_values f) p) _ (tested-only _ p))))
      (after (place t f r) _ (place-only r) (λ d q e. made (below (num_values f) q) _ (tested-only _ q))))

  entry-numbers : (a : Sorted) (e : Entry) → all_in (λ (c : Condition). readings c.number) (entry_conditions t f a e) ≡ true
  unfolding entry_conditions all_in
  entry-numbers a (move s d v) = refl
  entry-numbers a (remat d v) = refl

  entries-only : (n : ℕ) (a : Sorted) (l : List ℕ) → Only (entries t f n a l)
  unfolding entries
  entries-only zero a l = tt
  entries-only (suc n) a l =
      unless (leb 128 a.count) 15 _ refl
      (after (entry t f l) _ (entry-only l)
      (λ e r is. given (entry_conditions t f a e) _ (entry-numbers a e) (made (entries t f n (add t f e a) r) _ (entries-only n (add t f e a) r))))

  patch-only : (l : List ℕ) → Only (patch t f l)
  unfolding patch
  patch-only l =
      number-then l _
      (λ k r. after (rising k t.units 0 r) _ (rising-only k t.units 0 r)
      (λ free q e. number-then q _ (λ n p. made (entries t f n nothing_sorted p) _ (entries-only n nothing_sorted p))))

  -- 16 does not hold where there is room
  call-only : {A : Type 0} (p : Patch) (a : Sorted) (d : Read A) → ltb 1024 (bound a) ≡ false → Only d
      → Only (unless_given (first_of (patch_conditions t f p 1024 a)) d)
  unfolding patch_conditions first_of
  call-only p a d z h = rw z (go (free_destination t f p a) (last_overlaps t f a))
    where
      go : (b c : Bool) → Only (unless_given (or_else b 13 (or_else c 14 none)) d)
      go true c = refl
      go false true = refl
      go false false = h

  patches-only : (n : ℕ) (l : List ℕ) → Only (read_patches t f n l)
  unfolding read_patches
  patches-only zero [] = tt
  patches-only zero (b ∷ l) = refl
  patches-only (suc n) l =
      after (patch t f l) _ (patch-only l)
      (λ p r e. call-only p (sorted t f p) _ (le-ltb 1024 (bound (sorted t f p)) (room-for-every t f l p r e))
      (made (read_patches t f n r) _ (patches-only n r)))

-- ---- the job
target-numbers : {A : Type 0} (t : RegInfo) (d : Read A) → Only d → Only (unless_given (target_refusal t) d)
unfolding target_refusal all_in
target-numbers t d h = given _ d refl h

opening-only : (l : List ℕ) → Only (opening 1 l)
unfolding opening header after_target is_setting
opening-only l =
    unless (ltb 65536 (length l)) 2 _ refl
    (after (target l) _ (target-only l)
    (λ t r e. target-numbers t _ (after (function t 1 r) _ (function-only t 1 r) (λ f q e. made (between 1 1024 q) _ (tested-only _ q)))))

job_only : (l : List ℕ) → Only (read_job l)
unfolding read_job
job_only l =
    after (opening 1 l) _ (opening-only l)
    (λ h r e. made (read_patches h.target h.function h.patches r) _ (patches-only h.target h.function h.patches r))

pub only-reading : OnlyReading
only-reading l n e = go (read_job l) (job_only l) e
  where
    told : (a b : Bool) → and (leb 1 n) (leb n 15) ≡ a → eqb n 21 ≡ b → or a b ≡ true → ((1 ≤ n) × (n ≤ 15)) ⊎ (n ≡ 21)
    told true b p q z = let w = and-true (leb 1 n) (leb n 15) p in inl (leb-true 1 n w.0, leb-true n 15 w.1)
    told false true p q z = inr (eqb-true n 21 q)
    told false false p q z = absurd (let z : ◌≡◌ {A = ℕ} 0 1 = cc in omega arith)

    go : (x : Read Job) → Only x → x ≡ refused n → ((1 ≤ n) × (n ≤ 15)) ⊎ (n ≡ 21)
    go (got j r) h e = absurd (let z : ◌≡◌ {A = ℕ} 0 1 = cc in omega arith)
    go (refused k) h e = let is : k ≡ n = cc in told (and (leb 1 n) (leb n 15)) (eqb n 21) refl refl (rw is at h)

-- ---- of what is written
pub over-long : OverLong
unfolding written read_job opening is_setting
over-long ns room h = rw (lt-ltb 65536 (length (bytes_of ns)) h)

not-18 : (n : ℕ) → ((1 ≤ n) × (n ≤ 15)) ⊎ (n ≡ 21) → n ≡ 18 → ⊥
not-18 n (inl h) e = omega (arith, h.1)
not-18 n (inr h) e = omega arith

pub eighteen : Eighteen
unfolding written
eighteen ns room = (λ e. there (read_job (bytes_of ns)) refl (ltb room (length (bytes_of ns))) refl e, λ h. back h.0.0 h.0.1 h.0.2 h.1)
  where
    there : (x : Read Job) → read_job (bytes_of ns) ≡ x → (b : Bool) → ltb room (length (bytes_of ns)) ≡ b
        → unless_number (number_of x) (pick b (not_written 18) (wrote (bytes_of ns))) ≡ not_written 18
        → ((j : Job) × (r : List ℕ) × (read_job (bytes_of ns) ≡ got j r)) × (room < length (bytes_of ns))
    there (refused k) is b z e = absurd (not-18 k (only-reading (bytes_of ns) k is) (cc))
    there (got j r) is true z e = ((j, r, is), ltb-true room (length (bytes_of ns)) z)
    there (got j r) is false z e = absurd (let z : ◌≡◌ {A = ℕ} 0 1 = cc in omega arith)

    back : (j : Job) (r : List ℕ) → read_job (bytes_of ns) ≡ got j r → room < length (bytes_of ns)
        → unless_number (number_of (read_job (bytes_of ns))) (pick (ltb room (length (bytes_of ns))) (not_written 18) (wrote (bytes_of ns))) ≡ not_written 18
    back j r is h = rw (is, lt-ltb room (length (bytes_of ns)) h)
