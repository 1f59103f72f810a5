-- `EachOnce`: every refusal of a patch has a number below 256.
use Prim.Native.Nat.{ℕ, zero, suc, ◌+◌, ◌<◌}
use native.Mathlib.Omega.{arith}
use mathlib.Core.Path.{◌≡◌, refl, sym, ap}
use mathlib.Core.Bool.{Bool, true, false}
use mathlib.Core.List.{List, [], ◌∷◌, ◌++◌}
use mathlib.Core.Option.{Option, none, some}
use borrow.Author.Tests.{eq-eqb, ne_eqb}
use lib.Dec.{eqb}
use lib.ListN.{length}
use Rattle.entity.specs.Logic.{pick}
use Rattle.reginfo.specs.RegInfo.{RegInfo}
use Rattle.reginfo.specs.Refused.{Condition, or_else, first_of}
use Rattle.function.specs.Function.{Function, num_values}
use Rattle.rules.specs.Edit.{filter}
use Rattle.rules.specs.Counts.{bit, sum}
use Rattle.rules.specs.Scratch.{Cache, empty_cache, ScratchAllocator}
use Rattle.rules.specs.Patch.{Entry, move, remat, Patch, Sorted, nothing_sorted, Answer, refused, resolved, unless_refused, answer_of, entry_conditions, patch_conditions, run, add, resolve_sorted, resolve_from, resolve}
use Rattle.rules.proofs.Sum.{sum-change, sum-zero}
use Rattle.machine.proofs.Sums.{sum-plus, sum_same}
use Rattle.trying.specs.Drawing.{Drawn, draw_patch, patch_of}
use Rattle.trying.specs.Tried.{Tries, no_tries, tries, drawings, judged, with_kept}
use Rattle.trying.specs.Report.{is_accepted, is_refused, accepted_in, refusals_in}
use Rattle.trying.specs.Claims.{EachOnce}
use Rattle.trying.proofs.Counting.{count-cons}

-- a number of the table
abbrev InTable : Answer → Type 0
InTable (refused n) = n < 256
InTable (resolved es c m) = Unit {0}

abbrev AllIn : List Condition → Type 0
AllIn [] = Unit {0}
AllIn (c ∷ l) = (c.number < 256) × AllIn l

unless-in : (l : List Condition) (r : Answer) → AllIn l → InTable r → InTable (unless_refused (first_of l) r)
unfolding first_of
unless-in [] r h g = g
unless-in (c ∷ l) r h g = go c.holds (unless-in l r h.1 g)
  where
    go : (b : Bool) → InTable (unless_refused (first_of l) r) → InTable (unless_refused (or_else b c.number (first_of l)) r)
    go true k = h.0
    go false k = k

module _ (t : RegInfo) (f : Function) where
  entry_in : (a : Sorted) (e : Entry) → AllIn (entry_conditions t f a e)
  unfolding entry_conditions
  entry_in a (move s d v) = (omega arith, (omega arith, (omega arith, (omega arith, (omega arith, (omega arith, tt))))))
  entry_in a (remat d v) = (omega arith, (omega arith, (omega arith, (omega arith, (omega arith, tt)))))

  patch-in : (p : Patch) (room : ℕ) (a : Sorted) → AllIn (patch_conditions t f p room a)
  unfolding patch_conditions
  patch-in p room a = (omega arith, (omega arith, (omega arith, tt)))

  run_in : (k : Option ScratchAllocator) → InTable (answer_of k)
  run_in none = omega arith
  run_in (some k) = tt

  from_in : (p : Patch) (room : ℕ) (c : Cache) (l : List Entry) (a : Sorted) → InTable (resolve_from t f p room c l a)
  unfolding resolve_from resolve_sorted
  from_in p room c [] a = unless-in (patch_conditions t f p room a) (answer_of (run t f p a c)) (patch-in p room a) (run_in (run t f p a c))
  from_in p room c (e ∷ l) a = unless-in (entry_conditions t f a e) (resolve_from t f p room c l (add t f e a)) (entry_in a e) (from_in p room c l (add t f e a))

  resolve-in : (p : Patch) (room : ℕ) (c : Cache) → InTable (resolve t f p room c)
  unfolding resolve
  resolve-in p room c = from_in p room c p.entries nothing_sorted

-- counted once
abbrev OnceIn : List Answer → Type 0
OnceIn l = accepted_in l + sum (λ j. refusals_in j l) 256 ≡ length l

-- a test of one number alone
one_of : (n : ℕ) → n < 256 → sum (λ j. bit (eqb n j)) 256 ≡ 1
unfolding bit
one_of n h =
    omega (
      arith,
      sum-change (λ j. bit (eqb n j)) (λ j. 0) 256 n h (λ k d. ap bit (ne_eqb n k (λ e. d (sym e)))),
      sum-zero (λ j. 0) 256 (λ k l. refl),
      ap bit (eq-eqb n n refl),
    )

here : (a : Answer) → InTable a → bit (is_accepted a) + sum (λ j. bit (is_refused j a)) 256 ≡ 1
unfolding bit
here (refused n) h = omega (arith, one_of n h)
here (resolved es c m) h = omega (arith, sum-zero (λ j. bit false) 256 (λ k l. refl))

once-cons : (a : Answer) (l : List Answer) → InTable a → OnceIn l → OnceIn (a ∷ l)
once-cons a l h g =
    omega (
      arith,
      count-cons is_accepted a l,
      sum_same (λ j. refusals_in j (a ∷ l)) (λ j. bit (is_refused j a) + refusals_in j l) 256 (λ j. count-cons (is_refused j) a l),
      sum-plus (λ j. bit (is_refused j a)) (λ j. refusals_in j l) 256,
      here a h,
      g,
    )

abbrev AllInTable : List Answer → Type 0
AllInTable [] = Unit {0}
AllInTable (a ∷ l) = InTable a × AllInTable l

once : (l : List Answer) → AllInTable l → OnceIn l
unfolding filter sum
once [] h = refl
once (a ∷ l) h = once-cons a l h.0 (once l h.1)

append-in : (l m : List Answer) → AllInTable l → AllInTable m → AllInTable (l ++ m)
append-in [] m h g = g
append-in (a ∷ l) m h g = (h.0, append-in l m h.1 g)

module _ (t : RegInfo) (f : Function) where
  judged-in : (a : Answer) (d : Drawn) (c : Cache) (rest : ℕ → Cache → Tries) → InTable a → ((s : ℕ) (c' : Cache) → AllInTable (rest s c').answers)
      → AllInTable (judged a d c rest).answers
  judged-in (refused n) d c rest h g = (h, g d.seed c)
  judged-in (resolved es c' m) d c rest h g = (h, tt)

  tries-in : (n s : ℕ) (c : Cache) → AllInTable (tries t f n s c).answers
  unfolding tries
  tries-in zero s c = tt
  tries-in (suc n) s c =
      let p = patch_of (draw_patch t f s) in
      judged-in (resolve t f p 1024 c) (draw_patch t f s) c (tries t f n) (resolve-in t f p 1024 c) (tries-in n)

  drawings-in : (m s : ℕ) (c : Cache) → AllInTable (drawings t f m s c).answers
  unfolding drawings
  drawings-in zero s c = tt
  drawings-in (suc m) s c = append-in (tries t f 9 s c).answers _ (tries-in 9 s c) (drawings-in m (tries t f 9 s c).seed (tries t f 9 s c).cache)

pub each-once : EachOnce
each-once t f kept count seed = go (eqb (num_values f) 0)
  where
    go : (b : Bool) → OnceIn (pick b (no_tries seed empty_cache) (drawings t (with_kept kept f) count seed empty_cache)).answers
    go true = once [] tt
    go false = once _ (drawings-in t (with_kept kept f) count seed empty_cache)
