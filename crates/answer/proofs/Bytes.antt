-- What a part of a job takes of its bytes: two words for each of them are enough for the bound of a patch.
use Prim.Native.Nat.{ℕ, zero, suc, ◌+◌, ◌*◌, ◌≤◌}
use mathlib.Core.Path.{◌≡◌, subst}
use mathlib.Core.Bool.{Bool, true, false}
use mathlib.Core.List.{List, [], ◌∷◌, ◌++◌}
use mathlib.Core.Option.{Option, none, some}
use native.Mathlib.Omega.{arith}
use lib.Dec.{eqb, ltb, leb}
use lib.ListN.{length, length-append}
use Rattle.entity.specs.Logic.{pick, has}
use Rattle.entity.specs.Place.{Place, place_at}
use Rattle.reginfo.specs.RegInfo.{RegInfo, bank_for_class}
use Rattle.reginfo.specs.Refused.{first_of}
use Rattle.function.specs.Function.{Function}
use Rattle.rules.specs.Patch.{Entry, move, remat, Sorted, nothing_sorted, bound, becomes_remat, needs_scratch, dropped, add_remat, add_kept, names_place, entry_conditions, add, sorted_from, sorted}
use Rattle.number.specs.Read.{Read, got, refused, then}
use Rattle.number.specs.Number.{joined, groups, number}
use Rattle.reading.specs.Reading.{tested, times, distinct}
use Rattle.job_target.specs.Target.{bank, reg, class, classes, target}
use Rattle.job_function.specs.Reads.{remat_value, value, valued, function}
use Rattle.job_patch.specs.Patches.{unless_given, rising, place, entry, entries, patch}

-- a part that was read weighs so much; that and two words for each byte behind it are at most n
abbrev pub Leaves : {A : Type 0} → (A → ℕ) → ℕ → Read A → Type 0
Leaves weight n (got a r) = weight a + 2 * length r ≤ n
Leaves weight n (refused k) = Unit {0}

abbrev none-weighed : {A : Type 0} → A → ℕ
none-weighed a = 0

-- no more is left than there was
abbrev pub Less : {A : Type 0} → List ℕ → Read A → Type 0
Less l x = Leaves none-weighed (2 * length l) x

pub leaves-got : {A : Type 0} (w : A → ℕ) (n : ℕ) (x : Read A) (a : A) (r : List ℕ) → Leaves w n x → x ≡ got a r → w a + 2 * length r ≤ n
leaves-got w n x a r h e = subst (λ (y : Read _). Leaves w n y) e h

-- ---- one part after another
after : {A B : Type 0} (x : Read A) (g : A → List ℕ → Read B) (w : A → ℕ) (v : B → ℕ) (m n : ℕ) → Leaves w m x
    → ((a : A) (r : List ℕ) → w a + 2 * length r ≤ m → Leaves v n (g a r)) → Leaves v n (then x g)
after (got a r) g w v m n h on = on a r h
after (refused k) g w v m n h on = tt

either : {A : Type 0} (b : Bool) (x y : Read A) (w : A → ℕ) (n : ℕ) → Leaves w n x → Leaves w n y → Leaves w n (pick b x y)
either true x y w n p q = p
either false x y w n p q = q

unless : {A : Type 0} (o : Option ℕ) (x : Read A) (w : A → ℕ) (n : ℕ) → Leaves w n x → Leaves w n (unless_given o x)
unless none x w n p = p
unless (some k) x w n p = tt

-- ---- a number takes a byte at least
one_byte : ℕ → ℕ
one_byte n = 2

groups-leaves : (k : ℕ) (l : List ℕ) → Leaves one_byte (2 * length l) (groups k l)
unfolding groups one_byte
groups-leaves zero l = tt
groups-leaves (suc k) [] = tt
groups-leaves (suc k) (b ∷ l) =
    either (ltb b 128) (got b l) (then (groups k l) (joined b)) one_byte _ (omega arith)
    (after (groups k l) (joined b) one_byte one_byte _ _ (groups-leaves k l) (λ n r h. either (eqb n 0) (refused 1) (got _ r) one_byte _ tt (omega arith)))

number-leaves : (l : List ℕ) → Leaves one_byte (2 * length l) (number l)
unfolding number
number-leaves l = after (groups 5 l) _ one_byte one_byte _ _ (groups-leaves 5 l) (λ n r h. either (ltb n 4294967296) (got n r) (refused 1) one_byte _ h tt)

tested-leaves : (ok : ℕ → Bool) (l : List ℕ) → Leaves one_byte (2 * length l) (tested ok l)
unfolding tested
tested-leaves ok l = after (number l) _ one_byte one_byte _ _ (number-leaves l) (λ n r h. either (ok n) (got n r) (refused 2) one_byte _ h tt)

number-then : {B : Type 0} (l : List ℕ) (g : ℕ → List ℕ → Read B) (v : B → ℕ) (n : ℕ) → ((x : ℕ) (r : List ℕ) → 2 + 2 * length r ≤ 2 * length l → Leaves v n (g x r)) → Leaves v n (then (number l) g)
unfolding one_byte
number-then l g v n on = after (number l) g one_byte v (2 * length l) n (number-leaves l) on

tested-then : {B : Type 0} (ok : ℕ → Bool) (l : List ℕ) (g : ℕ → List ℕ → Read B) (v : B → ℕ) (n : ℕ) → ((x : ℕ) (r : List ℕ) → 2 + 2 * length r ≤ 2 * length l → Leaves v n (g x r)) → Leaves v n (then (tested ok l) g)
unfolding one_byte
tested-then ok l g v n on = after (tested ok l) g one_byte v (2 * length l) n (tested-leaves ok l) on

-- ---- the opening leaves no more than there was
part_then : {A B : Type 0} (l : List ℕ) (x : Read A) (g : A → List ℕ → Read B) (v : B → ℕ) (n : ℕ) → Less l x → ((a : A) (r : List ℕ) → 2 * length r ≤ 2 * length l → Leaves v n (g a r)) → Leaves v n (then x g)
part_then l x g v n h on = after x g none-weighed v (2 * length l) n h (λ a r q. on a r (omega arith))

times-less : {A : Type 0} (n : ℕ) (one : List ℕ → Read A) → ((l : List ℕ) → Less l (one l)) → (l : List ℕ) → Less l (times n one l)
unfolding times
times-less zero one h l = omega arith
times-less (suc n) one h l = part_then l (one l) _ _ _ (h l) (λ x r p. part_then r (times n one r) _ _ _ (times-less n one h r) (λ xs q o. omega arith))

distinct-less : (n limit : ℕ) (before l : List ℕ) → Less l (distinct n limit before l)
unfolding distinct
distinct-less zero limit before l = omega arith
distinct-less (suc n) limit before l =
    tested-then _ l _ _ _ (λ x r p. either (has x before) _ _ _ _ tt (part_then r (distinct n limit (x ∷ before) r) _ _ _ (distinct-less n limit (x ∷ before) r) (λ xs q o. omega arith)))

bank-less : (l : List ℕ) → Less l (bank l)
unfolding bank
bank-less l = tested-then _ l _ _ _ (λ size r p. number-then r _ _ _ (λ top q o. number-then q _ _ _ (λ stack j k. omega arith)))

reg-less : (units banks : ℕ) (l : List ℕ) → Less l (reg units banks l)
unfolding reg
reg-less units banks l =
    tested-then _ l _ _ _
    (λ memory r p. tested-then _ r _ _ _
    (λ b q o. tested-then _ q _ _ _
    (λ n j k. part_then j (distinct n units [] j) _ _ _ (distinct-less n units [] j) (λ us i h. omega arith))))

class-less : (banks regs total : ℕ) (l : List ℕ) → Less l (class banks regs total l)
unfolding class
class-less banks regs total l =
    tested-then _ l _ _ _
    (λ b r p. tested-then _ r _ _ _
    (λ slots q o. number-then q _ _ _
    (λ n j k. part_then j (distinct n regs [] j) _ _ _ (distinct-less n regs [] j)
    (λ members i h. tested-then _ i _ _ _
    (λ m u v. part_then u (distinct m regs [] u) _ _ _ (distinct-less m regs [] u) (λ order x y. omega arith))))))

classes-less : (n banks regs total : ℕ) (l : List ℕ) → Less l (classes n banks regs total l)
unfolding classes
classes-less zero banks regs total l = omega arith
classes-less (suc n) banks regs total l =
    part_then l (class banks regs total l) _ _ _ (class-less banks regs total l)
    (λ c r p. part_then r (classes n banks regs c.total r) _ _ _ (classes-less n banks regs c.total r) (λ cs q o. omega arith))

pub target-less : (l : List ℕ) → Less l (target l)
unfolding target
target-less l =
    tested-then _ l _ _ _
    (λ units r p. tested-then _ r _ _ _
    (λ n q o. part_then q (times n bank q) _ _ _ (times-less n bank bank-less q)
    (λ banks j k. tested-then _ j _ _ _
    (λ m i h. part_then i (times m (reg units n) i) _ _ _ (times-less m (reg units n) (reg-less units n) i)
    (λ regs u v. tested-then _ u _ _ _
    (λ c x y. part_then x (classes c n m 0 x) _ _ _ (classes-less c n m 0 x) (λ cs z w. omega arith)))))))

value-less : (t : RegInfo) (l : List ℕ) → Less l (value t l)
unfolding value remat_value
value-less t l =
    tested-then _ l _ _ _
    (λ b r p. tested-then _ r _ _ _
    (λ cost q o. either (eqb cost 0) _ _ _ _ (omega arith) (tested-then _ q _ _ _ (λ c j k. either (eqb (bank_for_class t c) b) _ _ _ _ (omega arith) tt))))

pub function-less : (t : RegInfo) (kept : ℕ) (l : List ℕ) → Less l (function t kept l)
unfolding function valued
function-less t kept l =
    tested-then _ l _ _ _
    (λ n r p. tested-then _ r _ _ _
    (λ slots q o. tested-then _ q _ _ _
    (λ limit j k. part_then j (times n (value t) j) _ _ _ (times-less n (value t) (value-less t) j) (λ vs i h. omega arith))))

pub tested-less : (ok : ℕ → Bool) (l : List ℕ) (n : ℕ) (r : List ℕ) → tested ok l ≡ got n r → 2 * length r ≤ 2 * length l
unfolding one_byte
tested-less ok l n r e = let h = leaves-got one_byte (2 * length l) (tested ok l) n r (tested-leaves ok l) e in omega arith

rising-less : (n limit least : ℕ) (l : List ℕ) → Less l (rising n limit least l)
unfolding rising
rising-less zero limit least l = omega arith
rising-less (suc n) limit least l =
    tested-then _ l _ _ _ (λ u r p. either (ltb u least) _ _ _ _ tt (part_then r (rising n limit (u + 1) r) _ _ _ (rising-less n limit (u + 1) r) (λ us q o. omega arith)))

-- ---- the entries: a move takes four bytes and has 8 edits at most, a rebuild three and 5
abbrev twice_bytes : Entry → ℕ
twice_bytes (move s d v) = 8
twice_bytes (remat d v) = 6

module _ (t : RegInfo) (f : Function) where
  abbrev Adds : Sorted → ℕ → Sorted → Type 0
  Adds a n b = bound b ≤ bound a + n

  pick-adds : (a : Sorted) (n : ℕ) (b : Bool) (x y : Sorted) → Adds a n x → Adds a n y → Adds a n (pick b x y)
  pick-adds a n true x y p q = p
  pick-adds a n false x y p q = q

  longer : {A : Type 0} (l : List A) (x : A) → length (l ++ (x ∷ [])) ≡ length l + 1
  longer l x = length-append l (x ∷ [])

  remat-adds : (a : Sorted) (n : ℕ) (b : Bool) (d : Place) (v : ℕ) → 5 ≤ n → Adds a n (add_remat t f b d v a)
  remat-adds a n b d v h =
      pick-adds a n b _ _
      (omega (arith, longer a.remats_with_scratch (record { dest = d; value = v })))
      (omega (arith, longer a.remats (record { dest = d; value = v })))

  kept-adds : (a : Sorted) (b : Bool) (s d : Place) (v : ℕ) → Adds a 8 (add_kept t f b s d v a)
  kept-adds a b s d v = pick-adds a 8 b _ _ (omega arith) (omega (arith, longer a.moves (record { source = s; dest = d; value = v })))

  entry-adds : (a : Sorted) (e : Entry) → Adds a (twice_bytes e) (add t f e a)
  unfolding add
  entry-adds a (move s d v) = pick-adds a 8 (becomes_remat t f s d v) _ _ (remat-adds a 8 (needs_scratch t f d v) d v (omega arith)) (kept-adds a (dropped t f a s d v) s d v)
  entry-adds a (remat d v) = remat-adds a 6 (needs_scratch t f d v) d v (omega arith)

  place-then : {B : Type 0} (l : List ℕ) (g : Place → List ℕ → Read B) (v : B → ℕ) (n : ℕ) → ((x : Place) (r : List ℕ) → 2 + 2 * length r ≤ 2 * length l → Leaves v n (g x r)) → Leaves v n (then (place t f l) g)
  unfolding place
  place-then l g v n on =
      after (place t f l) g (λ p. 2) v (2 * length l) n (number-then l _ (λ p. 2) (2 * length l) (λ c r h. either (names_place t f (place_at c)) (got (place_at c) r) (refused 2) (λ p. 2) (2 * length l) h tt)) on

  entry-leaves : (l : List ℕ) → Leaves twice_bytes (2 * length l) (entry t f l)
  unfolding entry
  entry-leaves l =
      tested-then _ l _ _ _
      (λ kind r p. either (eqb kind 0) _ _ _ _
      (place-then r _ _ _ (λ s q o. place-then q _ _ _ (λ d j k. tested-then _ j _ _ _ (λ v i h. omega arith))))
      (place-then r _ _ _ (λ d q o. tested-then _ q _ _ _ (λ v j k. omega arith))))

  entries-leave : (n : ℕ) (a : Sorted) (l : List ℕ) → Leaves (λ es. bound (sorted_from t f es a)) (bound a + 2 * length l) (entries t f n a l)
  unfolding entries sorted_from
  entries-leave zero a l = omega arith
  entries-leave (suc n) a l =
      either (leb 128 a.count) (refused 15) _ _ _ tt
      (after (entry t f l) _ twice_bytes _ (2 * length l) _ (entry-leaves l)
      (λ e r h. unless (first_of (entry_conditions t f a e)) _ _ _
      (after (entries t f n (add t f e a) r) _ (λ es. bound (sorted_from t f es (add t f e a))) _ (bound (add t f e a) + 2 * length r) _ (entries-leave n (add t f e a) r)
      (λ es q k. omega (arith, entry-adds a e)))))

  -- the bound of a patch, and two words for each byte behind it, are at most two words for each byte that there was
  pub patch-leaves : (l : List ℕ) → Leaves (λ p. bound (sorted t f p)) (2 * length l) (patch t f l)
  unfolding patch
  patch-leaves l =
      number-then l _ _ _
      (λ k r h. part_then r (rising k t.units 0 r) _ _ _ (rising-less k t.units 0 r)
      (λ free q o. number-then q _ _ _
      (λ n p i. after (entries t f n nothing_sorted p) _ (λ es. bound (sorted_from t f es nothing_sorted)) _ (bound nothing_sorted + 2 * length p) _ (entries-leave n nothing_sorted p)
      (λ es j u. omega arith))))
