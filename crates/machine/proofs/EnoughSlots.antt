-- 02 j: with L enough no request gets 17, and between patches every slot made lies in the stack of its size.
use Prim.Native.Nat.{ℕ, zero, suc, ◌+◌, ◌-◌, ◌*◌, ◌<◌, ◌≤◌}
use mathlib.Core.Path.{◌≡◌, refl, sym, ap, subst, ◌∙◌}
use mathlib.Core.Bool.{Bool, true, false, false≢true, or-true}
use mathlib.Core.List.Memᴰ
use mathlib.Core.List.{List, [], ◌∷◌, ◌++◌, map, append-nil, Memᴰ}
use mathlib.Core.Option.{Option, none, some}
use mathlib.Core.Logic.{◌⊎◌, inl, inr, ⊎_elim}
use native.Mathlib.Omega.{arith}
use lib.Dec.{eqb}
use borrow.Author.Tests.{ne_eqb, eqb-true, le-leb}
use Rattle.entity.specs.Logic.{or, any_in, indices}
use Rattle.reginfo.specs.RegInfo.{RegInfo, num_banks, spillslot_size}
use Rattle.reginfo.specs.Refused as target
use Rattle.reginfo.proofs.Accepted.{banks-fit, size_fits}
use Rattle.function.specs.Function.{Function, num_values, value_bank, remat_cost, remat_class, is_setting}
use Rattle.function.specs.Refused as function
use Rattle.function.proofs.Laws.{one-or-two, few-values, few-slots, low-limit, values-left}
use Rattle.rules.specs.Edit.{Edit}
use Rattle.rules.specs.Scratch.{Cache, empty_cache, ScratchAllocator}
use Rattle.rules.specs.Patch.{Patch, Sorted, sorted, run, Answer, refused, resolved, answer_of, resolve, Call, cache_after}
use Rattle.rules.specs.Refusals.{with_limit}
use Rattle.rules.specs.Take.{Request, Served, fresh, Standing, stamped_by, request, standing, answered, after}
use Rattle.rules.specs.Counts.{bit, sum}
use Rattle.rules.proofs.Sum.{bit-yes, bit_le, sum-le, sum_ones, sum-part, sum-zero}
use Rattle.rules.proofs.Steps.{All, Every}
use Rattle.rules.proofs.Accepted.{accepted}
use Rattle.rules.proofs.Tested.{Tested, tested}
use Rattle.rules.proofs.Enough.{only-by-slots}
use Rattle.rules.proofs.Take.{Previews, previews-fresh, previews-after, stands, answers}
use Rattle.machine.specs.Paid.{occurs}
use Rattle.machine.specs.Slots.{InStacks, Stays}
use Rattle.machine.specs.Enough.{sizes_that, is_size, num_sizes, is_bank_size, num_bank_sizes, RequestsNeverOut, NeverOut, edit_size, names_slot, Sized, SizedIn, edits_of, edits_in, Between, RequestsSizes, SizesClaim, EachOfItsSize, EnoughWith, Enough, FewerEnough, EnoughForTarget, enough_slots, planned, Plan}
use Rattle.machine.proofs.Diversions.{has-occurs}
use Rattle.machine.proofs.Banked.{Banked, banked, banked-within}
use Rattle.machine.proofs.SlotCounts.{less?, occurs-has, stacked}
use Rattle.machine.proofs.Slots.{slots-empty, run_lies, slots-ok}
use Rattle.machine.proofs.Sums.{sum-swap, sum-once, sum-times, filtered}
use Rattle.machine.proofs.OwnSize.{any-index, Names, Fair, Ended}
use Rattle.machine.proofs.SizeWalk.{run-ended}

-- a number that passes the test
any_found : (p : ℕ → Bool) (i n : ℕ) → any_in p (indices i n) ≡ true → (k : ℕ) × (i ≤ k) × (k < i + n) × (p k ≡ true)
unfolding any_in indices
any_found p i zero h = absurd (false≢true h)
any_found p i (suc n) h = go (p i) refl h (any_found p (i + 1) n)
  where
    go : (b : Bool) → p i ≡ b → or b (any_in p (indices (i + 1) n)) ≡ true → (any_in p (indices (i + 1) n) ≡ true → (k : ℕ) × (i + 1 ≤ k) × (k < i + 1 + n) × (p k ≡ true))
        → (k : ℕ) × (i ≤ k) × (k < i + suc n) × (p k ≡ true)
    go true e h r = (i, omega arith, omega arith, e)
    go false e h r = let q = r h in (q.0, omega (arith, q.1), omega (arith, q.2), q.3)

any_some : (p : ℕ → Bool) (n : ℕ) → any_in p (indices 0 n) ≡ true → (k : ℕ) × (k < n) × (p k ≡ true)
any_some p n h = let q = any_found p 0 n h in (q.0, omega (arith, q.2), q.3)

sum-from : (g : ℕ → ℕ) (a n : ℕ) → sum (λ k. g (a + k)) n ≤ sum g (a + n)
unfolding sum
sum-from g a zero = omega (arith, sum-zero (λ k. g (a + k)) 0 (λ k l. absurd (omega arith)))
sum-from g a (suc n) = let e : a + suc n ≡ suc (a + n) = omega arith in rw e (omega (arith, sum-from g a n))

none-there : (n : ℕ) → (0 < n → ⊥) → n ≡ 0
none-there zero h = refl
none-there (suc n) h = absurd (h (omega arith))

every_in : {A : Type 0} (P : A → Type 0) (l : List A) (x : A) → Every P l → Memᴰ x l → P x
every_in {A = A} P [] x h x4 = elim x4 [ ]
every_in P (y ∷ l) x h (Memᴰ.head e) = subst P (sym e) h.0
every_in P (y ∷ l) x h (Memᴰ.tail m) = every_in P l x h.1 m

in_either : {A : Type 0} (l m : List A) (x : A) → Memᴰ x (l ++ m) → Memᴰ x l ⊎ Memᴰ x m
in_either [] m x h = inr h
in_either (y ∷ l) m x (Memᴰ.head e) = inl (Memᴰ.head e)
in_either (y ∷ l) m x (Memᴰ.tail h) = ⊎_elim (λ q. inl (Memᴰ.tail q)) (λ q. inr q) (in_either l m x h)

any_left : {A : Type 0} (p : A → Bool) (l m : List A) → any_in p l ≡ true → any_in p (l ++ m) ≡ true
unfolding any_in
any_left p [] m h = absurd (false≢true h)
any_left p (x ∷ l) m h = go (p x) h (any_left p l m)
  where
    go : (b : Bool) → or b (any_in p l) ≡ true → (any_in p l ≡ true → any_in p (l ++ m) ≡ true) → or b (any_in p (l ++ m)) ≡ true
    go true h r = refl
    go false h r = r h

any-right : {A : Type 0} (p : A → Bool) (l m : List A) → any_in p m ≡ true → any_in p (l ++ m) ≡ true
unfolding any_in
any-right p [] m h = h
any-right p (x ∷ l) m h = rw (any-right p l m h) (or-true (p x))

-- how many slots a function makes, whatever its L
module _ (t : RegInfo) (f : Function) (at : target.Accepted t) (af : Banked t f) where
  abbrev most : ℕ
  most = 127 + f.kept

  -- between calls
  pub record Steady (c : Cache) : Type 0 where
    pub ins : InStacks f c
    pub fair : Fair t f (stacked c) []

  size_low : (z : ℕ) → is_size t f z ≡ true → z < 32
  size_low z h = let q = any_some (λ v. eqb (spillslot_size t (value_bank f v)) z) (num_values f) h in omega (arith, eqb-true (spillslot_size t (value_bank f q.0)) z q.2, size_fits t at (value_bank f q.0) (af.bank q.0 q.1))

  module _ (c : Cache) (g : Steady c) where
    -- a slot made is in one of the 32 stacks
    in_one : (k : ℕ) → k < c.made → 1 ≤ sum (λ z. occurs (f.slots + k) (c.stacks z)) 32
    in_one k l =
        let s : ℕ = f.slots + k in
        let q = g.ins.listed s (omega arith) (omega arith) in
        let o : 0 < occurs s (c.stacks q.0) = has-occurs s (c.stacks q.0) q.1 in
        omega (arith, sum-part (λ z. occurs s (c.stacks z)) 32 q.0 (size_low q.0 (g.fair.sized s q.0 o)))

    of_size : (z : ℕ) → sum (λ k. occurs (f.slots + k) (c.stacks z)) c.made ≤ most * bit (is_size t f z)
    unfolding bit
    of_size z = go (is_size t f z) refl
      where
        go : (b : Bool) → is_size t f z ≡ b → sum (λ k. occurs (f.slots + k) (c.stacks z)) c.made ≤ most * bit b
        go true e = omega (arith, sum-from (λ s. occurs s (c.stacks z)) f.slots c.made, g.fair.few (f.slots + c.made) z)
        go false e =
            omega (arith, sum-zero (λ k. occurs (f.slots + k) (c.stacks z)) c.made (λ k l. none-there (occurs (f.slots + k) (c.stacks z)) (λ h. false≢true (sym e ∙ g.fair.sized (f.slots + k) z h))))

    made-few : c.made ≤ most * num_sizes t f
    unfolding sizes_that
    made-few =
        omega (
          arith,
          sum_ones c.made,
          sum-le (λ k. 1) (λ k. sum (λ z. occurs (f.slots + k) (c.stacks z)) 32) c.made in_one,
          sum-swap (λ k z. occurs (f.slots + k) (c.stacks z)) c.made 32,
          sum-le (λ z. sum (λ k. occurs (f.slots + k) (c.stacks z)) c.made) (λ z. most * bit (is_size t f z)) 32 (λ z l. of_size z),
          sum-times (λ z. bit (is_size t f z)) most 32,
          ap (λ (n : ℕ). most * n) (filtered (is_size t f) 32),
        )

  -- a run leaves it so, and each slot in the stack of its size
  ran-ended : (p : Patch) (a : Sorted) (c : Cache) (k : ScratchAllocator) → Tested t f a → Steady c → run t f p a c ≡ some k → Steady k.cache × Ended t f c k
  ran-ended p a c k ok g e =
      let d : All (Ended t f c) (some k) = subst (All (Ended t f c)) e (run-ended t f c at af g.ins.stacked g.fair p a ok.ok (omega (arith, ok.kept, ok.most))) in
      (record { ins = run_lies t f at af p a c k ok.ok g.ins e; fair = record { few = d.fair.few; sized = d.fair.sized; lies = tt } }, d)

-- the same function with another L
module _ (t : RegInfo) (f : Function) (l : ℕ) where
  abbrev F : Function
  F = with_limit t f l

  tested-within : (a : Sorted) → Tested t f a → Tested t F a
  unfolding value_bank remat_cost remat_class
  tested-within a g =
      record {
        ok =
            record {
              moves = λ i h.
                  let m = g.ok.moves i h in
                  record { source-named = m.source-named; dest-named = m.dest-named; value-named = m.value-named; source-bank = m.source-bank; dest-bank = m.dest-bank; differ = m.differ };
              remats = λ i h. let r = g.ok.remats i h in record { dest-named = r.dest-named; value-named = r.value-named; dest-bank = r.dest-bank; can = r.can; in-class = r.in-class };
              remats_with_scratch = λ i h.
                  let r = g.ok.remats_with_scratch i h in record { dest-named = r.dest-named; value-named = r.value-named; dest-bank = r.dest-bank; can = r.can; in-class = r.in-class };
              apart = g.ok.apart;
              sources = g.ok.sources;
            };
        kept = g.kept;
        most = g.most;
      }

  pub steady-within : (at : target.Accepted t) (af : Banked t f) (c : Cache) → Steady t f at af c → Steady t F at (banked-within t f l af) c
  unfolding value_bank
  steady-within at af c g =
      record {
        ins = record { listed = g.ins.listed; stacked = record { once = g.ins.stacked.once; sole = g.ins.stacked.sole; low = g.ins.stacked.low; below = g.ins.stacked.below } };
        fair = record { few = g.fair.few; sized = g.fair.sized; lies = tt };
      }

  pub same-sizes : num_sizes t F ≡ num_sizes t f
  unfolding value_bank
  same-sizes = refl

ran_out : (o : Option ScratchAllocator) → answer_of o ≡ refused 17 → o ≡ none
ran_out none e = refl
ran_out (some k) e = let z : ◌≡◌ {A = ℕ} 0 1 = cc in absurd (omega arith)

module _ (t : RegInfo) (f : Function) (at : target.Accepted t) (af : function.Accepted t f) where
  abbrev pub ab : Banked t f
  ab = banked t f af

  abbrev pub Quiet : Cache → Type 0
  Quiet = Steady t f at ab

  -- with slots enough the run makes no more than `most` of each size
  pub never-out : (127 + f.kept) * num_sizes t f ≤ f.limit → (p : Patch) (room : ℕ) (c : Cache) → Quiet c → resolve t f p room c ≡ refused 17 → ⊥
  never-out enough p room c g e =
      let q = tested t f p room c (refused 17) refl e in
      let a : Sorted = sorted t f p in
      let o = only-by-slots t f p a c in
      let l : ℕ = o.1.0 in
      let ab' : Banked t (with_limit t f l) = banked-within t f l ab in
      let d = ran-ended t (with_limit t f l) at ab' p a c o.0 (tested-within t f l a q.0) (steady-within t f l at ab c g) (o.1.1 l (omega arith)) in
      let out : f.limit < o.0.cache.made = (o.2.out.0 (ran_out (run t f p a c) q.1)).1 in
      omega (arith, out, enough, made-few t (with_limit t f l) at ab' o.0.cache d.0, ap (λ (n : ℕ). (127 + f.kept) * n) (same-sizes t f l))

  -- after each call
  module _ (p : Patch) (room : ℕ) (c : Cache) (g : Quiet c) where
    pub quiet-after : (r : Answer) → resolve t f p room c ≡ r → Quiet (cache_after c r) × Sized t f c r
    quiet-after (refused n) e = (g, tt)
    quiet-after (resolved es c' n) e =
        let q = tested t f p room c (resolved es c' n) tt e in
        let r = accepted t f p room c c' es n e in
        let d = ran-ended t f at ab p (sorted t f p) c r.allocator q.0 g r.ran in (
          subst Quiet (sym r.cache) d.0,
          record {
            lies = λ x m s low h.
                occurs-has s (c'.stacks (edit_size t f x))
                (subst (λ (y : Cache). 0 < occurs s (y.stacks (edit_size t f x))) (sym r.cache)
                (every_in (Names t f (stacked r.allocator.cache)) r.allocator.edits x d.1.fair.lies (subst (Memᴰ x) r.edits m) s low h));
            named = λ s lo hi.
                let k : s < f.slots + r.allocator.cache.made = subst (λ (y : Cache). s < f.slots + y.made) r.cache hi in
                subst (λ (y : List Edit). any_in (names_slot t f s) y ≡ true) (sym r.edits) (⊎_elim (λ w. w) (λ w. absurd w) (d.1.named s lo k));
          },
        )

    stay-there : (r : Answer) → resolve t f p room c ≡ r → Stays c (cache_after c r)
    stay-there (refused n) e = λ s z h. h
    stay-there (resolved es c' n) e = (slots-ok t f at af p room c c' es (accepted t f p room c c' es n e) g.ins).1

    -- the edits of the call beside those before it
    beside : (es : List Edit) → Between t f es c → (r : Answer) → resolve t f p room c ≡ r → Between t f (es ++ edits_of t f r) (cache_after c r)
    beside es b (refused n) e = rw (append-nil es) b
    beside es b (resolved es' c' n) e =
        let q = quiet-after (resolved es' c' n) e in
        let o = q.1 in
        record {
          once = q.0.ins;
          lies = λ x m s low h. ⊎_elim (λ q. stay-there (resolved es' c' n) e s (edit_size t f x) (b.lies x q s low h)) (λ q. o.lies x q s low h) (in_either es es' x m);
          named = λ s lo hi.
              ⊎_elim (λ q. any_left (names_slot t f s) es es' (b.named s lo q)) (λ q. any-right (names_slot t f s) es es' (o.named s q hi)) (less? s (f.slots + c.made));
        }

  pub quiet-fresh : Quiet empty_cache
  unfolding occurs
  quiet-fresh = record { ins = slots-empty f; fair = record { few = λ m z. omega (arith, sum-zero (λ s. 0) m (λ s h. refl)); sized = λ s z h. absurd (omega arith); lies = tt } }

  -- a request
  module _ (x : Request) (s : Served) (k : Previews t f s) (g : Quiet s.now.cache) where
    not-17 : (127 + f.kept) * num_sizes t f ≤ f.limit → answered t f x s ≡ some (refused 17) → ⊥
    not-17 enough e =
        ⊎_elim (λ h. let z : ◌≡◌ {A = ℕ} 17 20 = cc in absurd (omega arith)) (λ h. never-out enough h.0 h.1 s.now.cache g h.2) (answers t f x s k (refused 17) e)

    of-its-size : (o : Option Answer) → answered t f x s ≡ o → SizedIn t f s.now.cache o
    of-its-size none e = tt
    of-its-size (some r) e = ⊎_elim (λ h. rw h tt) (λ h. (quiet-after h.0 h.1 s.now.cache g r h.2).1) (answers t f x s k r e)

    quiet_then : (o : Option Standing) → standing t f x s ≡ o → Quiet (stamped_by s.now o).cache
    quiet_then none e = g
    quiet_then (some y) e = ⊎_elim (λ h. rw h g) (λ h. (quiet-after y.patch h.0 s.now.cache g y.answer h.1).0) (stands t f x s k y e)

    beside-then : (es : List Edit) → Between t f es s.now.cache → (o : Option Standing) → standing t f x s ≡ o → Between t f (es ++ edits_in t f o) (stamped_by s.now o).cache
    beside-then es b none e = rw (append-nil es) b
    beside-then es b (some y) e = ⊎_elim (λ h. rw h (rw (append-nil es) b)) (λ h. beside y.patch h.0 s.now.cache g es b y.answer h.1) (stands t f x s k y e)

  never : (127 + f.kept) * num_sizes t f ≤ f.limit → (requests : List Request) (s : Served) → Previews t f s → Quiet s.now.cache → RequestsNeverOut t f requests s
  never enough [] s k g = tt
  never enough (x ∷ l) s k g = (not-17 x s k g enough, never enough l (after t f x s) (previews-after t f x s k) (quiet_then x s k g (standing t f x s) refl))

  sizes : (requests : List Request) (es : List Edit) (s : Served) → Previews t f s → Quiet s.now.cache → Between t f es s.now.cache → RequestsSizes t f requests es s
  sizes [] es s k g b = b
  sizes (x ∷ l) es s k g b =
      let o : Option Standing = standing t f x s in (
        b,
        of-its-size x s k g (answered t f x s) refl,
        sizes l (es ++ edits_in t f o) (after t f x s) (previews-after t f x s k) (quiet_then x s k g o refl) (beside-then x s k g es b o refl),
      )

pub each-of-its-size : EachOfItsSize
each-of-its-size t f at af requests =
    sizes t f at af requests [] fresh (previews-fresh t f) (quiet-fresh t f at af)
    (record { once = slots-empty f; lies = λ e m. absurd (Memᴰ.not-nil m); named = λ s lo hi. absurd (omega arith) })

pub fewer-enough : FewerEnough
fewer-enough t f at af enough requests = never t f at af enough requests fresh (previews-fresh t f) (quiet-fresh t f at af)

pub enough : Enough
enough t f at af h requests = fewer-enough t f at af (omega arith) requests

-- of `resolve` calls alone
never-of-calls : (t : RegInfo) (f : Function) (calls : List Call) (s : Served) → RequestsNeverOut t f (map request calls) s → NeverOut t f calls s.now.cache
unfolding answered standing
never-of-calls t f [] s h = tt
never-of-calls t f (x ∷ l) s h = ((λ e. h.0 (ap some e)), never-of-calls t f l (after t f (request x) s) h.1)

sizes-of-calls : (t : RegInfo) (f : Function) (calls : List Call) (es : List Edit) (s : Served) → RequestsSizes t f (map request calls) es s → SizesClaim t f calls es s.now.cache
unfolding answered standing
sizes-of-calls t f [] es s h = h
sizes-of-calls t f (x ∷ l) es s h = (h.0, h.1, sizes-of-calls t f l (es ++ edits_in t f (standing t f (request x) s)) (after t f (request x) s) h.2)

pub each-of-its-size-in-calls : (t : RegInfo) (f : Function) → target.Accepted t → function.Accepted t f → (calls : List Call) → SizesClaim t f calls [] empty_cache
each-of-its-size-in-calls t f at af calls = sizes-of-calls t f calls [] fresh (each-of-its-size t f at af (map request calls))

pub enough-for-calls :
    (n : ℕ) → EnoughWith n → (t : RegInfo) (f : Function) → target.Accepted t → function.Accepted t f → (n + f.kept) * num_sizes t f ≤ f.limit → (calls : List Call) → NeverOut t f calls empty_cache
enough-for-calls n by t f at af h calls = never-of-calls t f calls fresh (by t f at af h (map request calls))

-- the sizes of the function's banks are among those of the target's
sizes-le : (p q : ℕ → Bool) → ((z : ℕ) → p z ≡ true → q z ≡ true) → sizes_that p ≤ sizes_that q
unfolding sizes_that
sizes-le p q h = omega (arith, filtered p 32, filtered q 32, sum-le (λ z. bit (p z)) (λ z. bit (q z)) 32 (λ z l. bit_le (p z) (q z) (h z)))

bank-size : (t : RegInfo) (f : Function) → Banked t f → (z : ℕ) → is_size t f z ≡ true → is_bank_size t z ≡ true
bank-size t f af z h =
    let q = any_some (λ v. eqb (spillslot_size t (value_bank f v)) z) (num_values f) h in
    any-index (λ b. eqb (spillslot_size t b) z) (num_banks t) (value_bank f q.0) (af.bank q.0 q.1) q.2

times-le : (b x y : ℕ) → x ≤ y → b * x ≤ b * y
times-le b x y h =
    let d : ℕ = y - x in
    let e : y ≡ x + d = omega arith in rw e (omega arith)

pub enough-for-target : EnoughForTarget
enough-for-target t f at af h requests = enough t f at af (omega (arith, times-le (128 + f.kept) (num_sizes t f) (num_bank_sizes t) (sizes-le (is_size t f) (is_bank_size t) (bank-size t f (banked t f af))))) requests

-- no more sizes than banks
sizes-few : (t : RegInfo) → num_bank_sizes t ≤ num_banks t
unfolding sizes_that bit
sizes-few t =
    let n : ℕ = num_banks t in
    omega (
      arith,
      filtered (is_bank_size t) 32,
      sum-le (λ z. bit (is_bank_size t z)) (λ z. sum (λ b. bit (eqb (spillslot_size t b) z)) n) 32 (λ z l. found z),
      sum-swap (λ z b. bit (eqb (spillslot_size t b) z)) 32 n,
      sum-le (λ b. sum (λ z. bit (eqb (spillslot_size t b) z)) 32) (λ b. 1) n (λ b l. once (spillslot_size t b)),
      sum_ones n,
    )
  where
    found : (z : ℕ) → bit (is_bank_size t z) ≤ sum (λ b. bit (eqb (spillslot_size t b) z)) (num_banks t)
    found z = go (is_bank_size t z) refl
      where
        go : (a : Bool) → is_bank_size t z ≡ a → bit a ≤ sum (λ b. bit (eqb (spillslot_size t b) z)) (num_banks t)
        go true e =
            let q = any_some (λ b. eqb (spillslot_size t b) z) (num_banks t) e in
            omega (arith, sum-part (λ b. bit (eqb (spillslot_size t b) z)) (num_banks t) q.0 q.1, bit-yes (eqb (spillslot_size t q.0) z) q.2)
        go false e = omega arith

    once : (y : ℕ) → sum (λ z. bit (eqb y z)) 32 ≤ 1
    once y = sum-once (λ z. bit (eqb y z)) y 32 (bit_le (eqb y y) true (λ _. refl)) (λ z d. rw (ne_eqb y z (λ e. d (sym e))) refl)

-- another L within 01's limit
counts-fit : (f : Function) → num_values f ≤ 4096 → f.slots ≤ 4096 → f.limit ≤ 2048 → function.counts_fit f ≡ true
unfolding function.counts_fit
counts-fit f a b c = rw (le-leb (num_values f) 4096 a, le-leb f.slots 4096 b, le-leb f.limit 2048 c)

setting-fits : (t : RegInfo) (f : Function) → function.Accepted t f → is_setting f.kept ≡ true
unfolding is_setting
setting-fits t f af = ⊎_elim (λ e. rw e) (λ e. rw e) (one-or-two t f af)

same-values : (t : RegInfo) (f : Function) (l : ℕ) (vs : List ℕ) → function.values_refusal t (with_limit t f l) vs ≡ function.values_refusal t f vs
unfolding function.values_refusal function.value_fits function.foreign_class value_bank remat_cost remat_class
same-values t f l [] = refl
same-values t f l (v ∷ vs) = rw (same-values t f l vs)

pub accepted-within : (t : RegInfo) (f : Function) (l : ℕ) → function.Accepted t f → l ≤ 2048 → function.Accepted t (with_limit t f l)
accepted-within t f l af h =
    let s = setting-fits t f af in
    values-left t (with_limit t f l) (counts-fit (with_limit t f l) (few-values t f af) (few-slots t f af) h) s
    ∙ same-values t f l (indices 0 (num_values f))
    ∙ sym (values-left t f (counts-fit f (few-values t f af) (few-slots t f af) (low-limit t f af)) s)
    ∙ af

pub plan : Plan
unfolding value_bank
plan t f at af =
    let n : num_sizes t f ≤ 8 = omega (arith, sizes-le (is_size t f) (is_bank_size t) (bank-size t f (banked t f af)), sizes-few t, (banks-fit t at).1) in
    let e : enough_slots t f ≤ 1040 = ⊎_elim (λ k. rw k (omega arith)) (λ k. rw k (omega arith)) (one-or-two t f af) in
    let a : function.Accepted t (planned t f) = accepted-within t f (enough_slots t f) af (omega arith) in (
      e,
      a,
      enough t (planned t f) at a (omega (arith, ap (λ (n : ℕ). (128 + f.kept) * n) (same-sizes t f (enough_slots t f)))),
    )
