-- Between patches every slot made lies in exactly one stack, once: so a run leaves them, and so it is from call to call.
use Prim.Native.Nat.{ℕ, ◌+◌, ◌-◌, ◌<◌, ◌≤◌}
use mathlib.Core.Path.{◌≡◌, refl, sym, subst, ◌∙◌}
use mathlib.Core.Bool.{true, false, false≢true}
use mathlib.Core.List.{List, [], ◌∷◌}
use mathlib.Core.Option.{Option, none, some}
use mathlib.Core.Logic.{◌⊎◌, inl, inr, ⊎_elim}
use native.Mathlib.Omega.{arith}
use lib.ListN.{length}
use Rattle.entity.specs.Logic.{has, twice}
use Rattle.entity.proofs.Laws.{never_true, has_get_d}
use Rattle.reginfo.specs.RegInfo.{RegInfo}
use Rattle.reginfo.specs.Refused as target
use Rattle.function.specs.Function.{Function}
use Rattle.function.specs.Refused as function
use Rattle.rules.specs.Edit.{Edit, each}
use Rattle.rules.specs.Scratch.{Cache, empty_cache, ScratchAllocator}
use Rattle.rules.specs.Order.{remats, remat_with_scratch, no_remat}
use Rattle.rules.specs.Patch.{Patch, Sorted, sorted, run, Answer, refused, resolved, resolve, cache_after}
use Rattle.rules.specs.Sorted.{RematOk, SortedOk, Ran}
use Rattle.rules.specs.Take.{Request, Served, fresh, Standing, stamped_by, standing, after}
use Rattle.rules.proofs.Accepted.{accepted}
use Rattle.rules.proofs.Take.{Previews, previews-fresh, previews-after, stands}
use Rattle.machine.specs.Slots.{Stacked, InStacks, Stays, SlotsClaim, SlotsLie}
use Rattle.rules.proofs.Steps.{All, all_then, same?, every-get_d, all-each}
use Rattle.rules.specs.Counts.{sum}
use Rattle.rules.proofs.Sum.{sum-change, sum-zero, sum_ones, sum-le}
use Rattle.machine.specs.Paid.{occurs}
use Rattle.machine.proofs.Banked.{Banked, banked}
use Rattle.machine.proofs.Diversions.{occurs-head, occurs-tail, has-occurs}
use Rattle.machine.proofs.SlotCounts.{less?, occurs-has, occurs-none, once-most, most-once, waits, stacked}
use Rattle.machine.proofs.SlotSteps.{Good, Kept, remats-good, scratch-good}
use Rattle.machine.proofs.SlotWalk.{moves-good}

-- from one cache to the next: the slots made before lie where they lay, and the new ones lie in stacks
pub record Onward (f : Function) (c c' : Cache) : Type 0 where
  pub stacked : Stacked f c'
  pub grows : c.made ≤ c'.made
  pub stays : Stays c c'
  pub old : (s z : ℕ) → s < f.slots + c.made → has s (c'.stacks z) ≡ true → has s (c.stacks z) ≡ true
  pub fresh : (s : ℕ) → f.slots + c.made ≤ s → s < f.slots + c'.made → (z : ℕ) × (has s (c'.stacks z) ≡ true)

-- of a function alone
in-stacks : (f : Function) (c c' : Cache) → InStacks f c → Onward f c c' → InStacks f c'
in-stacks f c c' ins o =
    record {
      listed = λ s lo hi. ⊎_elim (λ a. let q = ins.listed s lo a in (q.0, o.stays s q.0 q.1)) (λ a. o.fresh s a hi) (less? s (f.slots + c.made));
      stacked = o.stacked;
    }

module _ (t : RegInfo) (f : Function) (c₀ : Cache) where
  module _ (at : target.Accepted t) (af : Banked t f) where
    -- a run begins with the cache, no edit and nothing evicted
    abbrev pub begun : Patch → ScratchAllocator
    begun p = record { edits = []; available = λ u. has u p.free; evicted = []; cache = c₀; met = 0 }

    pub begin-good : Stacked f c₀ → (p : Patch) → Kept t f c₀ (λ s y. 0) (begun p)
    unfolding Kept waits
    begin-good ins p =
        record { grows = omega arith; old = λ s z h. omega arith; fresh = λ s h k. absurd (omega arith); none = λ s z h. omega (arith, occurs-none s (c₀.stacks z) (never_true (has s (c₀.stacks z)) (λ e. omega (arith, ins.below s z e)))) }

    run-good : Stacked f c₀ → (p : Patch) (a : Sorted) → SortedOk t f a → All (λ k. Good t f c₀ (stacked k.cache) k.cache.made) (run t f p a c₀)
    unfolding run Kept waits
    run-good ins p a ok =
        all_then (Kept t f c₀ (λ s y. 0)) (λ k. Good t f c₀ (stacked k.cache) k.cache.made) (each (remat_with_scratch t f) a.remats_with_scratch (remats t f a.remats (begun p))) _
        (all-each (Kept t f c₀ (λ s y. 0)) (RematOk t f false) (remat_with_scratch t f) (λ r k q g. scratch-good t f c₀ at af r q (λ s y. 0) k g) a.remats_with_scratch
        (every-get_d (RematOk t f false) no_remat a.remats_with_scratch ok.remats_with_scratch) (remats t f a.remats (begun p)) (remats-good t f c₀ a.remats (begun p) (λ s y. 0) (begin-good ins p)))
        (λ k g. moves-good t f c₀ at af a.moves ok.moves k g)

  -- what the counts say of the stacks
  module _ (ins : Stacked f c₀) (c : Cache) (g : Good t f c₀ (stacked c) c.made) where
    -- an old slot, a new one, or none
    Known : ℕ → ℕ → Type 0
    Known s z = ((s < f.slots + c₀.made) × (has s (c₀.stacks z) ≡ true)) ⊎ ((f.slots + c₀.made ≤ s) × (s < f.slots + c.made) × (stacked c s z ≡ 1) × ((y : ℕ) → (y ≡ z → ⊥) → stacked c s y ≡ 0))

    known : (s z : ℕ) → 0 < stacked c s z → Known s z
    unfolding Known
    known s z h =
        ⊎_elim (λ a. inl (a, occurs-has s (c₀.stacks z) (omega (arith, g.old s z a))))
        (λ a. ⊎_elim
        (λ b. let q = g.fresh s a b in inr (
          a,
          b,
          ⊎_elim (λ e. subst (λ (x : ℕ). stacked c s x ≡ 1) (sym e) q.1) (λ d. absurd (omega (arith, q.2 z d))) (same? z q.0),
          λ y d.
              ⊎_elim (λ e. q.2 y (λ r. d (r ∙ sym e))) (λ x. absurd (omega (arith, q.2 z x))) (same? z q.0),
        ))
        (λ b. absurd (omega (arith, g.none s z b))) (less? s (f.slots + c.made)))
        (less? s (f.slots + c₀.made))

    stacked-on : Stacked f c
    unfolding Known
    stacked-on =
        record {
          once = λ z.
              most-once (c.stacks z)
              (λ s. ⊎_elim (λ h. ⊎_elim (λ a. omega (arith, g.old s z a.0, once-most (c₀.stacks z) (ins.once z) s)) (λ a. omega (arith, a.2)) (known s z h)) (λ h. omega arith)
              (less? 0 (stacked c s z)));
          sole = λ s y z a b.
              ⊎_elim
              (λ k. ⊎_elim (λ l. ins.sole s y z k.1 l.1) (λ l. absurd (omega (arith, k.0, l.0))) (known s z (has-occurs s (c.stacks z) b)))
              (λ k. ⊎_elim (λ e. sym e) (λ d. absurd (omega (arith, k.3 z d, has-occurs s (c.stacks z) b))) (same? z y)) (known s y (has-occurs s (c.stacks y) a));
          low = λ s z a. ⊎_elim (λ k. ins.low s z k.1) (λ k. omega (arith, k.0)) (known s z (has-occurs s (c.stacks z) a));
          below = λ s z a. ⊎_elim (λ k. omega (arith, k.0, g.grows)) (λ k. k.1) (known s z (has-occurs s (c.stacks z) a));
        }

    stays : Stays c₀ c
    stays s z h = occurs-has s (c.stacks z) (omega (arith, g.old s z (ins.below s z h), has-occurs s (c₀.stacks z) h))

    onward : Onward f c₀ c
    unfolding Known
    onward =
        record {
          stacked = stacked-on;
          grows = g.grows;
          stays = stays;
          old = λ s z l h. occurs-has s (c₀.stacks z) (omega (arith, g.old s z l, has-occurs s (c.stacks z) h));
          fresh = λ s lo hi. let q = g.fresh s lo hi in (q.0, occurs-has s (c.stacks q.0) (omega (arith, q.1)));
        }

-- "A new function starts with none."
pub slots-empty : (f : Function) → InStacks f empty_cache
unfolding has twice
slots-empty f =
    record {
      listed = λ s lo hi. absurd (omega arith);
      stacked = record { once = λ z. refl; sole = λ s y z a b. absurd (false≢true a); low = λ s z a. absurd (false≢true a); below = λ s z a. absurd (false≢true a) };
    }

-- so it is after every run
pub run-onward :
    (t : RegInfo) (f : Function) → target.Accepted t → Banked t f → (p : Patch) (a : Sorted) (c : Cache) (k : ScratchAllocator) → SortedOk t f a → Stacked f c → run t f p a c ≡ some k
    → Onward f c k.cache
run-onward t f at af p a c k ok ins e = onward t f c ins k.cache (subst (All (λ k. Good t f c (stacked k.cache) k.cache.made)) e (run-good t f c at af ins p a ok))

pub run_lies :
    (t : RegInfo) (f : Function) → target.Accepted t → Banked t f → (p : Patch) (a : Sorted) (c : Cache) (k : ScratchAllocator) → SortedOk t f a → InStacks f c → run t f p a c ≡ some k
    → InStacks f k.cache
run_lies t f at af p a c k ok ins e = in-stacks f c k.cache ins (run-onward t f at af p a c k ok ins.stacked e)

pub run-stacks :
    (t : RegInfo) (f : Function) → target.Accepted t → function.Accepted t f → (p : Patch) (a : Sorted) (c : Cache) (k : ScratchAllocator) → SortedOk t f a → InStacks f c → run t f p a c ≡ some k
    → InStacks f k.cache
run-stacks t f at af p a c k ok ins e = run_lies t f at (banked t f af) p a c k ok ins e

-- no stack is deeper than slots were made
module _ (a : ℕ) where
  count-range : (l : List ℕ) (n : ℕ) → ((s : ℕ) → has s l ≡ true → (a ≤ s) × (s < a + n)) → length l ≡ sum (λ k. occurs (a + k) l) n
  unfolding occurs
  count-range [] n h = sym (sum-zero (λ k. 0) n (λ k l. refl))
  count-range (x ∷ l) n h =
      let q = h x (has_get_d (x ∷ l) 0 (omega arith)) in
      let i : ℕ = x - a in
      let at : a + i ≡ x = omega (arith, q.0) in
      omega (
        arith,
        count-range l n (λ s e. h s (later s e)),
        sum-change (λ k. occurs (a + k) (x ∷ l)) (λ k. occurs (a + k) l) n i (omega (arith, q.0, q.1)) (λ k d. occurs-tail (a + k) x l (λ e. d (omega arith))),
        occurs-head (a + i) x l at,
      )
    where
      later : (s : ℕ) → has s l ≡ true → has s (x ∷ l) ≡ true
      later s e = occurs-has s (x ∷ l) (omega (arith, has-occurs s l e, more s))
        where
          more : (s : ℕ) → occurs s l ≤ occurs s (x ∷ l)
          more s = ⊎_elim (λ e. omega (arith, occurs-head s x l e)) (λ d. omega (arith, occurs-tail s x l d)) (same? s x)

pub stack-few : (f : Function) (c : Cache) → Stacked f c → (z : ℕ) → length (c.stacks z) ≤ c.made
stack-few f c ins z =
    omega (
      arith,
      count-range f.slots (c.stacks z) c.made (λ s e. (ins.low s z e, ins.below s z e)),
      sum-le (λ k. occurs (f.slots + k) (c.stacks z)) (λ k. 1) c.made (λ k h. once-most (c.stacks z) (ins.once z) (f.slots + k)),
      sum_ones c.made,
    )

-- from call to call every slot made lies in exactly one stack, and where it lay
pub slots-ok :
    (t : RegInfo) (f : Function) → target.Accepted t → function.Accepted t f → (p : Patch) (room : ℕ) (c c' : Cache) (es : List Edit) → Ran t f p room c es c' → InStacks f c
    → InStacks f c' × Stays c c'
slots-ok t f at af p room c c' es r ins =
    let o = run-onward t f at (banked t f af) p (sorted t f p) c r.allocator r.ok ins.stacked r.ran in
    subst (λ x. InStacks f x × Stays c x) (sym r.cache) (in-stacks f c r.allocator.cache ins o, o.stays)

pub slots-lie : SlotsLie
slots-lie t f at af requests = claim requests fresh (previews-fresh t f) (slots-empty f)
  where
    called : (p : Patch) (room : ℕ) (c : Cache) (r : Answer) → resolve t f p room c ≡ r → InStacks f c → InStacks f (cache_after c r) × Stays c (cache_after c r)
    called p room c (refused n) e ins = (ins, λ s z h. h)
    called p room c (resolved es c' n) e ins = slots-ok t f at af p room c c' es (accepted t f p room c c' es n e) ins

    requested : (x : Request) (s : Served) → Previews t f s → InStacks f s.now.cache → (o : Option Standing) → standing t f x s ≡ o
        → InStacks f (stamped_by s.now o).cache × Stays s.now.cache (stamped_by s.now o).cache
    requested x s k ins none e = (ins, λ s z h. h)
    requested x s k ins (some y) e = ⊎_elim (λ h. rw h (ins, λ s z h. h)) (λ h. called y.patch h.0 s.now.cache y.answer h.1 ins) (stands t f x s k y e)

    claim : (requests : List Request) (s : Served) → Previews t f s → InStacks f s.now.cache → SlotsClaim t f requests s
    claim [] s k ins = ins
    claim (x ∷ l) s k ins = let y = requested x s k ins (standing t f x s) refl in (ins, y.1, claim l (after t f x s) (previews-after t f x s k) y.0)
