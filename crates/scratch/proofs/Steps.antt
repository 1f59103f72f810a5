-- The steps of the rules, on the tables' contents.
use Prim.Native.Nat.{ℕ, zero, suc, pred, ◌+◌, ◌<◌}
use mathlib.Core.Path.{◌≡◌, refl, sym, ap, ◌∙◌}
use mathlib.Core.Bool.{Bool, true, false}
use mathlib.Core.List.{List, [], ◌∷◌}
use mathlib.Core.Option.{none, some}
use native.Mathlib.Omega.{arith}
use lib.Dec.{eqb}
use lib.ListN.{take, drop}
use borrow.Author.Tests.{eq-eqb, lt-ltb}
use Rattle.entity.specs.Logic.{pick, or, no, has}
use Rattle.entity.specs.Place.{Place, reg}
use Rattle.entity.proofs.Laws.{or-false}
use Rattle.reginfo.specs.RegInfo.{RegInfo, class_members}
use Rattle.function.specs.Function.{Function}
use Rattle.rules.specs.Edit.{find, filter}
use Rattle.rules.specs.Scratch.{Cache, Evicted, ScratchAllocator, with_evicted, acquire_from, unevict, unevict_all, unevict_but, overlaps_evicted, unevict_for_reg, make_room, reuse}
use Rattle.rules.proofs.Evictions.{unevict-evicted}
use Rattle.slots.specs.Steps.{top_of, without_top}

module _ (t : RegInfo) (f : Function) (z : ℕ) (c : Cache) where
  -- the top of a stack
  pub took : (l : List ℕ) (s : ℕ) (g : ℕ → List ℕ) → some s ≡ top_of l → g ≡ without_top l z c.stacks → acquire_from t f l z c ≡ some (record { slot = s; cache = record { stacks = g; made = c.made } })
  unfolding acquire_from
  took [] s g e q = absurd (let z : ◌≡◌ {A = ℕ} 0 1 = cc in omega arith)
  took (x ∷ l) s g e q = cc

  -- an empty stack
  pub made : (l : List ℕ) (g : ℕ → List ℕ) → none ≡ top_of l → g ≡ without_top l z c.stacks → c.made < f.limit → acquire_from t f l z c ≡ some (record { slot = f.slots + c.made; cache = record { stacks = g; made = c.made + 1 } })
  unfolding acquire_from
  made [] g e q h = rw (lt-ltb _ _ h, q)
  made (x ∷ l) g e q h = absurd (let z : ◌≡◌ {A = ℕ} 0 1 = cc in omega arith)

-- what is brought back of none, one or two evicted registers
module _ (t : RegInfo) (f : Function) (k : ScratchAllocator) where
  abbrev left : List Evicted → List Evicted → ScratchAllocator
  left es l = unevict t f es (with_evicted l k)

  stays : (l : List Evicted) → k.evicted ≡ l → left [] l ≡ k
  unfolding unevict
  stays l h = ap (λ (l : List Evicted). with_evicted l k) (sym h)

  abbrev all_of : List Evicted → ScratchAllocator
  all_of l = left l []

  pub all-is : (l : List Evicted) → k.evicted ≡ l → unevict_all t f k ≡ all_of l
  all-is l h = ap all_of h

  pub all_none : k.evicted ≡ [] → unevict_all t f k ≡ k
  all_none h = all-is [] h ∙ stays [] h

  abbrev but : ℕ → List Evicted → ScratchAllocator
  but n l = left (drop n l) (take n l)

  but-is : (n : ℕ) (l : List Evicted) → k.evicted ≡ l → unevict_but t f n k ≡ but n l
  unfolding unevict_but
  but-is n l h = ap (but n) h

  -- all but none
  pub but-all : unevict_but t f 0 k ≡ unevict_all t f k
  unfolding unevict_but
  but-all = refl

  -- where no more are held
  pub but-none : (n : ℕ) → k.evicted ≡ [] → unevict_but t f n k ≡ k
  but-none zero h = but-all ∙ all_none h
  but-none (suc n) h = but-is (suc n) [] h ∙ stays [] h

  pub but-one : (e : Evicted) → k.evicted ≡ e ∷ [] → unevict_but t f 1 k ≡ k
  but-one e h = but-is 1 (e ∷ []) h ∙ stays (e ∷ []) h

  pub but-two : (e o : Evicted) → k.evicted ≡ e ∷ o ∷ [] → unevict_but t f 1 k ≡ left (o ∷ []) (e ∷ [])
  but-two e o h = but-is 1 (e ∷ o ∷ []) h

  module _ (p : Place) where
    abbrev split : List Evicted → ScratchAllocator
    split l = left (filter (overlaps_evicted t f p) l) (filter (λ e. no (overlaps_evicted t f p e)) l)

    split-is : (l : List Evicted) → k.evicted ≡ l → unevict_for_reg t f p k ≡ split l
    unfolding unevict_for_reg
    split-is l h = ap split h

    -- an element kept if so
    abbrev kept : Bool → Evicted → List Evicted → List Evicted
    kept b e l = pick b (e ∷ l) l

    at : (e : Evicted) (b : Bool) → overlaps_evicted t f p e ≡ b → split (e ∷ []) ≡ left (kept b e []) (kept (no b) e [])
    unfolding filter
    at e b q = rw q

    at-two : (e o : Evicted) (b c : Bool) → overlaps_evicted t f p e ≡ b → overlaps_evicted t f p o ≡ c → split (e ∷ o ∷ []) ≡ left (kept b e (kept c o [])) (kept (no b) e (kept (no c) o []))
    unfolding filter
    at-two e o b c q r = rw (q, r)

    pub for-none : k.evicted ≡ [] → unevict_for_reg t f p k ≡ k
    unfolding filter
    for-none h = split-is [] h ∙ stays [] h

    pub for-apart : (e : Evicted) → k.evicted ≡ e ∷ [] → overlaps_evicted t f p e ≡ false → unevict_for_reg t f p k ≡ k
    for-apart e h o = split-is (e ∷ []) h ∙ at e false o ∙ stays (e ∷ []) h

    pub for-met : (e : Evicted) → k.evicted ≡ e ∷ [] → overlaps_evicted t f p e ≡ true → unevict_for_reg t f p k ≡ unevict_all t f k
    for-met e h o = split-is (e ∷ []) h ∙ at e true o ∙ sym (all-is (e ∷ []) h)

    module _ (e o : Evicted) (h : k.evicted ≡ e ∷ o ∷ []) where
      pub for-two : (b c : Bool) → overlaps_evicted t f p e ≡ b → overlaps_evicted t f p o ≡ c → unevict_for_reg t f p k ≡ left (kept b e (kept c o [])) (kept (no b) e (kept (no c) o []))
      for-two b c q r = split-is (e ∷ o ∷ []) h ∙ at-two e o b c q r

      pub for-both : overlaps_evicted t f p e ≡ true → overlaps_evicted t f p o ≡ true → unevict_for_reg t f p k ≡ unevict_all t f k
      for-both q r = for-two true true q r ∙ sym (all-is (e ∷ o ∷ []) h)

      pub for-older : overlaps_evicted t f p e ≡ false → overlaps_evicted t f p o ≡ true → unevict_for_reg t f p k ≡ unevict_but t f 1 k
      for-older q r = for-two false true q r ∙ sym (but-two e o h)

      pub for-neither : overlaps_evicted t f p e ≡ false → overlaps_evicted t f p o ≡ false → unevict_for_reg t f p k ≡ k
      for-neither q r = for-two false false q r ∙ stays (e ∷ o ∷ []) h

  -- for two places, where none or one is held
  module _ (p q : Place) where
    pub ends-none : k.evicted ≡ [] → unevict_for_reg t f q (unevict_for_reg t f p k) ≡ k
    ends-none h = ap (unevict_for_reg t f q) (for-none p h) ∙ for-none q h

    module _ (e : Evicted) (h : k.evicted ≡ e ∷ []) where
      pub ends-apart : or (overlaps_evicted t f p e) (overlaps_evicted t f q e) ≡ false → unevict_for_reg t f q (unevict_for_reg t f p k) ≡ k
      ends-apart o = let x = or-false _ _ o in ap (unevict_for_reg t f q) (for-apart p e h x.0) ∙ for-apart q e h x.1

  -- none is held: there is room
  pub room-none : (r : ℕ) → k.evicted ≡ [] → make_room t f r k ≡ k
  unfolding make_room
  room-none r h = ap (unevict_but t f (pred f.kept)) (for-none (reg r) h) ∙ but-none (pred f.kept) h

-- one is held, and is brought back for either place
pub ends-met : (t : RegInfo) (f : Function) (k : ScratchAllocator) (p q : Place) (e : Evicted) → k.evicted ≡ e ∷ [] → or (overlaps_evicted t f p e) (overlaps_evicted t f q e) ≡ true → unevict_for_reg t f q (unevict_for_reg t f p k) ≡ unevict_all t f k
ends-met t f k p q e h o = by (overlaps_evicted t f p e) refl o
  where
    by : (b : Bool) → overlaps_evicted t f p e ≡ b → or b (overlaps_evicted t f q e) ≡ true → unevict_for_reg t f q (unevict_for_reg t f p k) ≡ unevict_all t f k
    by true x y = ap (unevict_for_reg t f q) (for-met t f k p e h x) ∙ for-none t f (unevict_all t f k) q (unevict-evicted t f k.evicted (with_evicted [] k))
    by false x y = ap (unevict_for_reg t f q) (for-apart t f k p e h x) ∙ for-met t f k q e h y

module _ (t : RegInfo) (f : Function) (n b c : ℕ) (k : ScratchAllocator) (e : Evicted) (l : List Evicted) where
  pub reuse-member : has e.reg (class_members t c) ≡ true → reuse t f (e ∷ l) n b c k ≡ some (record { place = reg e.reg; position = n; scratch = k })
  unfolding reuse
  reuse-member m = rw m

  pub reuse-stranger : has e.reg (class_members t c) ≡ false → reuse t f (e ∷ l) n b c k ≡ reuse t f l n b c k
  unfolding reuse
  reuse-stranger m = rw m

-- what is found is listed
pub find-has : (p : ℕ → Bool) (l : List ℕ) (x : ℕ) → find p l ≡ some x → has x l ≡ true
unfolding find has
find-has p [] x e = absurd (let z : ◌≡◌ {A = ℕ} 0 1 = cc in omega arith)
find-has p (y ∷ l) x e = here (p y) e (find-has p l x)
  where
    or_right : (a : Bool) → or a true ≡ true
    or_right true = refl
    or_right false = refl

    here : (b : Bool) → pick b (some y) (find p l) ≡ some x → (find p l ≡ some x → has x l ≡ true) → or (eqb x y) (has x l) ≡ true
    here true q on = let i : x ≡ y = cc in rw (eq-eqb x y i)
    here false q on = rw (on q) (or_right (eqb x y))
