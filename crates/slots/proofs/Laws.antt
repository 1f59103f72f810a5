-- The stacks that two tables hold, after each store.
use Prim.Native.Nat.{ℕ, zero, suc, ◌+◌, ◌-◌, ◌*◌, ◌<◌, ◌≤◌}
use mathlib.Core.Path.{◌≡◌, refl, sym, ap, ◌∙◌, fun_ext}
use mathlib.Core.Bool.{Bool, true, false}
use mathlib.Core.List.{List, [], ◌∷◌, ◌++◌}
use native.Mathlib.Omega.{arith}
use native.Mathlib.Nat.{lt-suc_self}
use native.Mathlib.Numerals.{add-one}
use lib.ListN.{set, get_or, length, length-set, length-append}
use lib.Seq.{get_or-set_same, get_or-set_other}
use lib.Dec.{eqb, ltb}
use borrow.Author.Tests.{eqb-true, eqb-false, lt-ltb, le-ltb, ltb-true, ltb-false}
use Rattle.entity.specs.Logic.{pick}
use Rattle.rules.specs.Edit.{updated}
use Rattle.std.specs.Prelude.{Some, None}
use Rattle.slots.specs.Stacks.{top_first, depth_of, left_of, own_of, low_of, high_of, met_of, cache_of, stamp_of, raised, stacks_of, CacheFits, SlotsFit, Unchanged, Untouched}
use Rattle.slots.specs.Steps.{Cleared, Raised, Begun, Touched, Taken, PutBack, Meets, Settled, Committed}

-- ---- cells, the last first
pub top-step : (t : List ℕ) (at n : ℕ) → 0 < n → top_first t at n ≡ get_or t (at + (n - 1)) 0 ∷ top_first t at (n - 1)
unfolding top_first
top-step t at n h = let l : n ≡ suc (n - 1) = omega arith in ap (top_first t at) l

pub top-more : (t : List ℕ) (at n : ℕ) → top_first t at (n + 1) ≡ get_or t (at + n) 0 ∷ top_first t at n
unfolding top_first
top-more t at n = rw (add-one n)

pub length-top : (t : List ℕ) (at n : ℕ) → length (top_first t at n) ≡ n
unfolding top_first
length-top t at zero = refl
length-top t at (suc n) = ap suc (length-top t at n)

-- tables with the same cells there
pub top-same : (t u : List ℕ) (at n : ℕ) → ((j : ℕ) → j < n → get_or t (at + j) 0 ≡ get_or u (at + j) 0) → top_first t at n ≡ top_first u at n
unfolding top_first
top-same t u at zero e = refl
top-same t u at (suc n) e = rw (e n (lt-suc_self n), top-same t u at n (λ j h. e j (omega arith)))

-- a store elsewhere
pub top_set : (t : List ℕ) (i v at n : ℕ) → ((j : ℕ) → j < n → at + j ≡ i → ⊥) → top_first (set t i v) at n ≡ top_first t at n
top_set t i v at n h = top-same (set t i v) t at n (λ j l. get_or-set_other t i (at + j) v 0 (h j l))

-- ---- the stacks
pub stacks-in : (slots cache : List ℕ) (z : ℕ) → z < 32 → stacks_of slots cache z ≡ top_first slots (64 + z * 1024) (own_of slots z) ++ top_first cache (64 + z * 2048) (left_of slots z)
unfolding stacks_of
stacks-in slots cache z h = rw (lt-ltb z 32 h)

pub stacks-out : (slots cache : List ℕ) (z : ℕ) → 32 ≤ z → stacks_of slots cache z ≡ []
unfolding stacks_of
stacks-out slots cache z h = rw (le-ltb z 32 h)

pub length-stacks : (slots cache : List ℕ) (z : ℕ) → z < 32 → length (stacks_of slots cache z) ≡ own_of slots z + left_of slots z
length-stacks slots cache z h =
    ap length (stacks-in slots cache z h) ∙ length-append (top_first slots (64 + z * 1024) (own_of slots z)) (top_first cache (64 + z * 2048) (left_of slots z)) ∙ rw (length-top slots (64 + z * 1024) (own_of slots z), length-top cache (64 + z * 2048) (left_of slots z))

-- only the stacks below 32 can differ
stacks-by : (slots slots' cache : List ℕ) (y : ℕ) → (y < 32 → stacks_of slots cache y ≡ stacks_of slots' cache y) → stacks_of slots cache y ≡ stacks_of slots' cache y
stacks-by slots slots' cache y e = go (ltb y 32) refl
  where
    go : (b : Bool) → ltb y 32 ≡ b → stacks_of slots cache y ≡ stacks_of slots' cache y
    go true l = e (ltb-true y 32 l)
    go false l = let h : 32 ≤ y = ltb-false y 32 l in stacks-out slots cache y h ∙ sym (stacks-out slots' cache y h)

-- a store that is no part of stack y
stacks-set : (slots cache : List ℕ) (i v y : ℕ) → (y < 32 → (y ≡ i → ⊥) × (32 + y ≡ i → ⊥) × ((j : ℕ) → j < own_of slots y → 64 + y * 1024 + j ≡ i → ⊥)) → stacks_of (set slots i v) cache y ≡ stacks_of slots cache y
unfolding stacks_of
stacks-set slots cache i v y h =
    stacks-by (set slots i v) slots cache y
    (λ l. let n = h l in rw (get_or-set_other slots i (32 + y) v 0 n.1, get_or-set_other slots i y v 0 n.0, top_set slots i v (64 + y * 1024) (own_of slots y) n.2))

updated-by : (f g : ℕ → List ℕ) (z : ℕ) (l : List ℕ) → f z ≡ l → ((y : ℕ) → (y ≡ z → ⊥) → f y ≡ g y) → f ≡ updated z l g
unfolding updated
updated-by f g z l e n = fun_ext (λ y. go y (eqb y z) refl)
  where
    go : (y : ℕ) (b : Bool) → eqb y z ≡ b → f y ≡ pick b l (g y)
    go y true q = rw (eqb-true y z q) e
    go y false q = n y (eqb-false y z q)

-- ---- what fits
pub fits_more : (n m : ℕ) (slots : List ℕ) → n ≤ m → SlotsFit n slots → SlotsFit m slots
fits_more n m slots h f = record { left = f.left; own = λ y l. omega (arith, f.own y l) }

module _ (slots : List ℕ) (long : length slots ≡ 32835) (z : ℕ) (low : z < 32) (n : ℕ) (f : SlotsFit n slots) where
  fits-own : (v m : ℕ) → v ≤ m → n ≤ m → SlotsFit m (set slots (32 + z) v)
  fits-own v m a b =
      record {
        left = λ y l. rw (get_or-set_other slots (32 + z) y v 0 (λ e. omega arith)) (f.left y l);
        own = λ y l. go y l (eqb y z) refl;
      }
    where
      go : (y : ℕ) → y < 32 → (b : Bool) → eqb y z ≡ b → get_or (set slots (32 + z) v) (32 + y) 0 ≤ m
      go y l true e = rw (eqb-true y z e, get_or-set_same slots (32 + z) v 0 (omega arith)) a
      go y l false e =
          let q : y ≡ z → ⊥ = eqb-false y z e in
          rw (get_or-set_other slots (32 + z) (32 + y) v 0 (λ e. q (omega arith))) (omega (arith, f.own y l))

  fits-left : (v : ℕ) → v ≤ 2048 → SlotsFit n (set slots z v)
  fits-left v a =
      record {
        left = λ y l. go y l (eqb y z) refl;
        own = λ y l. rw (get_or-set_other slots z (32 + y) v 0 (λ e. omega arith)) (f.own y l);
      }
    where
      go : (y : ℕ) → y < 32 → (b : Bool) → eqb y z ≡ b → get_or (set slots z v) y 0 ≤ 2048
      go y l true e = rw (eqb-true y z e, get_or-set_same slots z v 0 (omega arith)) a
      go y l false e = rw (get_or-set_other slots z y v 0 (eqb-false y z e)) (f.left y l)

fits_word : (slots : List ℕ) (i v n : ℕ) → 64 ≤ i → SlotsFit n slots → SlotsFit n (set slots i v)
fits_word slots i v n h f =
    record {
      left = λ y l. rw (get_or-set_other slots i y v 0 (λ e. omega arith)) (f.left y l);
      own = λ y l. rw (get_or-set_other slots i (32 + y) v 0 (λ e. omega arith)) (f.own y l);
    }

-- ---- the range of stacks that the patch has changed
lesser-low : (a b : ℕ) → (pick (ltb a b) a b ≤ a) × (pick (ltb a b) a b ≤ b)
lesser-low a b = go (ltb a b) refl
  where
    go : (c : Bool) → ltb a b ≡ c → (pick c a b ≤ a) × (pick c a b ≤ b)
    go true e = let h : a < b = ltb-true a b e in (omega arith, omega arith)
    go false e = let h : b ≤ a = ltb-false a b e in (omega arith, omega arith)

greater-high : (a b n : ℕ) → a ≤ n → b ≤ n → (a ≤ pick (ltb a b) b a) × (b ≤ pick (ltb a b) b a) × (pick (ltb a b) b a ≤ n)
greater-high a b n p q = go (ltb a b) refl
  where
    go : (c : Bool) → ltb a b ≡ c → (a ≤ pick c b a) × (b ≤ pick c b a) × (pick c b a ≤ n)
    go true e = let h : a < b = ltb-true a b e in (omega arith, omega arith, omega arith)
    go false e = let h : b ≤ a = ltb-false a b e in (omega arith, omega arith, omega arith)

pub touched : (slots : List ℕ) (z a b : ℕ) → length slots ≡ 32835 → a ≡ pick (ltb (low_of slots) z) (low_of slots) z → b ≡ pick (ltb (high_of (set slots 32832 a)) (z + 1)) (z + 1) (high_of (set slots 32832 a)) → Touched slots (set (set slots 32832 a) 32833 b) z
touched slots z a b long p q =
    let u = set slots 32832 a in
    record {
      low = get_or-set_other u 32833 32832 b 0 (λ e. omega arith) ∙ get_or-set_same slots 32832 a 0 (omega arith) ∙ p;
      high = get_or-set_same u 32833 b 0 (omega (arith, length-set slots 32832 a)) ∙ rw (← get_or-set_other slots 32832 32833 a 0 (λ e. omega arith)) q;
      rest = λ i h. get_or-set_other u 32833 i b 0 (λ e. omega arith) ∙ get_or-set_other slots 32832 i a 0 (λ e. omega arith);
      met = get_or-set_other u 32833 32834 b 0 (λ e. omega arith) ∙ get_or-set_other slots 32832 32834 a 0 (λ e. omega arith);
    }

-- where the cells of the stacks have not changed
module _ (slots exit : List ℕ) (rest : (i : ℕ) → i < 32832 → get_or exit i 0 ≡ get_or slots i 0) where
  same-fits : (n : ℕ) → SlotsFit n slots → SlotsFit n exit
  same-fits n f = record { left = λ y l. rw (rest y (omega arith)) (f.left y l); own = λ y l. rw (rest (32 + y) (omega arith)) (f.own y l) }

  same-stacks : (cache : List ℕ) → SlotsFit 1024 slots → stacks_of exit cache ≡ stacks_of slots cache
  same-stacks cache f =
      fun_ext
      (λ y. stacks-by exit slots cache y
      (λ l. rw (stacks-in exit cache y l, stacks-in slots cache y l, rest (32 + y) (omega arith), rest y (omega arith), top-same exit slots (64 + y * 1024) (own_of slots y) (λ j h. rest (64 + y * 1024 + j) (omega (arith, f.own y l))))))

pub meets : (slots : List ℕ) (n m : ℕ) → length slots ≡ 32835 → m ≡ pick (ltb (met_of slots) n) n (met_of slots) → Meets slots (set slots 32834 m) n
meets slots n m long e =
    record {
      met = get_or-set_same slots 32834 m 0 (omega arith) ∙ e;
      stacks = same-stacks slots exit rest;
      fits = same-fits slots exit rest;
      untouched = λ cache u.
          record {
            high = rw (other 32833 (omega arith)) u.high;
            below = λ y l h. kept cache y l (u.below y l (omega (arith, other 32832 (omega arith))));
            above = λ y l h. kept cache y l (u.above y l (omega (arith, other 32833 (omega arith))));
          };
    }
  where
    exit : List ℕ
    exit = set slots 32834 m

    other : (i : ℕ) → i < 32834 → get_or exit i 0 ≡ get_or slots i 0
    other i h = get_or-set_other slots 32834 i m 0 (λ e. omega arith)

    rest : (i : ℕ) → i < 32832 → get_or exit i 0 ≡ get_or slots i 0
    rest i h = other i (omega arith)

    kept : (cache : List ℕ) (y : ℕ) → y < 32 → Unchanged cache slots y → Unchanged cache exit y
    kept cache y l k = (other y (omega arith) ∙ k.0, other (32 + y) (omega arith) ∙ k.1)

module _ (slots exit : List ℕ) (z : ℕ) (t : Touched slots exit z) where
  -- where only stack z has changed since
  touched-range : (cache first : List ℕ) → z < 32 → low_of slots ≡ low_of first → high_of slots ≡ high_of first → ((y : ℕ) → y < 32 → (y ≡ z → ⊥) → (left_of slots y ≡ left_of first y) × (own_of slots y ≡ own_of first y)) → Untouched cache first → Untouched cache exit
  touched-range cache first low p q same u =
      let a = lesser-low (low_of slots) z in
      let b = greater-high (high_of slots) (z + 1) 32 (omega (arith, u.high)) (omega arith) in
      record {
        high = rw t.high b.2;
        below = λ y l h. kept y l (λ e. omega (arith, t.low, a.1)) (u.below y l (omega (arith, t.low, a.0)));
        above = λ y l h. kept y l (λ e. omega (arith, t.high, b.1)) (u.above y l (omega (arith, t.high, b.0)));
      }
    where
      kept : (y : ℕ) → y < 32 → (y ≡ z → ⊥) → Unchanged cache first y → Unchanged cache exit y
      kept y l n k = let m = same y l n in (t.rest y (omega arith) ∙ m.0 ∙ k.0, t.rest (32 + y) (omega arith) ∙ m.1 ∙ k.1)

-- ---- a slot is taken
module _ (slots cache : List ℕ) (long : length slots ≡ 32835) (z : ℕ) (low : z < 32) where
  module _ (own : ℕ) (is : own ≡ own_of slots z) (some : 0 < own) where
    own-top : stacks_of slots cache z ≡ get_or slots (64 + z * 1024 + (own - 1)) 0 ∷ (top_first slots (64 + z * 1024) (own - 1) ++ top_first cache (64 + z * 2048) (left_of slots z))
    own-top = rw (stacks-in slots cache z low, ← is, top-step slots (64 + z * 1024) own some)

    own-here : stacks_of (set slots (32 + z) (own - 1)) cache z ≡ top_first slots (64 + z * 1024) (own - 1) ++ top_first cache (64 + z * 2048) (left_of slots z)
    own-here =
        rw (stacks-in (set slots (32 + z) (own - 1)) cache z low, get_or-set_same slots (32 + z) (own - 1) 0 (omega arith), get_or-set_other slots (32 + z) z (own - 1) 0 (λ e. omega arith))
        (ap (λ (l : List ℕ). l ++ top_first cache (64 + z * 2048) (left_of slots z)) (top_set slots (32 + z) (own - 1) (64 + z * 1024) (own - 1) (λ j h e. omega arith)))

    -- a stack on which something was put back lies in the range
    own_range : (v : ℕ) → Untouched cache slots → Untouched cache (set slots (32 + z) v)
    own_range v u =
        let l : low_of (set slots (32 + z) v) ≡ low_of slots = get_or-set_other slots (32 + z) 32832 v 0 (λ e. omega arith) in
        let h : high_of (set slots (32 + z) v) ≡ high_of slots = get_or-set_other slots (32 + z) 32833 v 0 (λ e. omega arith) in
        record {
          high = rw h u.high;
          below = λ y b q. kept y b (u.below y b (omega arith));
          above = λ y b q. kept y b (u.above y b (omega arith));
        }
      where
        kept : (y : ℕ) → y < 32 → Unchanged cache slots y → Unchanged cache (set slots (32 + z) v) y
        kept y b k =
            let q : y ≡ z → ⊥ = λ e. omega (arith, k.1, ap (λ (x : ℕ). own_of slots x) e) in
            (get_or-set_other slots (32 + z) y v 0 (λ e. omega arith) ∙ k.0, get_or-set_other slots (32 + z) (32 + y) v 0 (λ e. q (omega arith)) ∙ k.1)

    pub took-own : Taken slots cache (set slots (32 + z) (own - 1)) z (Some (record { 0 = get_or (set slots (32 + z) (own - 1)) (64 + z * 1024 + (own - 1)) 0 }))
    took-own =
        record {
          got = rw (own-top, get_or-set_other slots (32 + z) (64 + z * 1024 + (own - 1)) (own - 1) 0 (λ e. omega arith));
          stacks =
              rw own-top
              (updated-by (stacks_of (set slots (32 + z) (own - 1)) cache) (stacks_of slots cache) z (top_first slots (64 + z * 1024) (own - 1) ++ top_first cache (64 + z * 2048) (left_of slots z)) own-here
              (λ y q. stacks-set slots cache (32 + z) (own - 1) y (λ l. ((λ e. omega arith), (λ e. q (omega arith)), (λ j h e. omega arith)))));
          fits = λ n f. fits-own slots long z low n f (own - 1) n (omega (arith, f.own z low)) (omega arith);
          untouched = own_range (own - 1);
          met = get_or-set_other slots (32 + z) 32834 (own - 1) 0 (λ e. omega arith);
        }

  module _ (none : own_of slots z ≡ 0) (left : ℕ) (is : left ≡ left_of slots z) where
    left-stack : stacks_of slots cache z ≡ top_first cache (64 + z * 2048) left
    unfolding top_first
    left-stack = rw (stacks-in slots cache z low, none, is)

    left_here : stacks_of (set slots z (left - 1)) cache z ≡ top_first cache (64 + z * 2048) (left - 1)
    unfolding top_first
    left_here =
        rw (stacks-in (set slots z (left - 1)) cache z low, get_or-set_same slots z (left - 1) 0 (omega arith), get_or-set_other slots z (32 + z) (left - 1) 0 (λ e. omega arith), none)

    left-fits : (n : ℕ) → SlotsFit n slots → SlotsFit n (set slots z (left - 1))
    left-fits n f = fits-left slots long z low n f (left - 1) (omega (arith, f.left z low))

    pub took-left : (exit : List ℕ) → 0 < left → SlotsFit 1024 slots → Touched (set slots z (left - 1)) exit z → Taken slots cache exit z (Some (record { 0 = get_or cache (64 + z * 2048 + (left - 1)) 0 }))
    took-left exit some f t =
        let u = set slots z (left - 1) in
        let top : stacks_of slots cache z ≡ get_or cache (64 + z * 2048 + (left - 1)) 0 ∷ top_first cache (64 + z * 2048) (left - 1) = left-stack ∙ top-step cache (64 + z * 2048) left some in
        record {
          got = rw top;
          stacks =
              rw top
              (same-stacks u exit t.rest cache (left-fits 1024 f)
              ∙ updated-by (stacks_of u cache) (stacks_of slots cache) z (top_first cache (64 + z * 2048) (left - 1)) left_here
              (λ y q. stacks-set slots cache z (left - 1) y (λ l. (q, (λ e. omega arith), (λ j h e. omega arith)))));
          fits = λ n f. same-fits u exit t.rest n (left-fits n f);
          untouched =
              touched-range u exit z t cache slots low (get_or-set_other slots z 32832 (left - 1) 0 (λ e. omega arith)) (get_or-set_other slots z 32833 (left - 1) 0 (λ e. omega arith))
              (λ y l q. (get_or-set_other slots z y (left - 1) 0 q, get_or-set_other slots z (32 + y) (left - 1) 0 (λ e. omega arith)));
          met = t.met ∙ get_or-set_other slots z 32834 (left - 1) 0 (λ e. omega arith);
        }

    pub took-none : left ≡ 0 → Taken slots cache slots z None
    unfolding top_first
    took-none e =
        let top : stacks_of slots cache z ≡ [] = left-stack ∙ ap (top_first cache (64 + z * 2048)) e in
        record { got = rw top; stacks = rw top; fits = λ n f. f; untouched = λ u. u; met = refl }

-- ---- a slot is put back
module _ (slots : List ℕ) (long : length slots ≡ 32835) (z : ℕ) (low : z < 32) (f : SlotsFit 1024 slots) (own s : ℕ) (is : own ≡ own_of slots z) (room : own < 1024) where
  put-here : (cache : List ℕ) → stacks_of (set (set slots (64 + z * 1024 + own) s) (32 + z) (own + 1)) cache z ≡ s ∷ stacks_of slots cache z
  put-here cache =
      let base = 64 + z * 1024 in
      let u = set slots (base + own) s in
      rw (stacks-in (set u (32 + z) (own + 1)) cache z low, get_or-set_same u (32 + z) (own + 1) 0 (omega (arith, length-set slots (base + own) s)), get_or-set_other u (32 + z) z (own + 1) 0 (λ e. omega arith), get_or-set_other slots (base + own) z s 0 (λ e. omega arith), top-more (set u (32 + z) (own + 1)) base own, get_or-set_other u (32 + z) (base + own) (own + 1) 0 (λ e. omega arith), get_or-set_same slots (base + own) s 0 (omega arith), top_set u (32 + z) (own + 1) base own (λ j h e. omega arith), top_set slots (base + own) s base own (λ j h e. omega arith), stacks-in slots cache z low, ← is)

  put_other : (cache : List ℕ) (y : ℕ) → (y ≡ z → ⊥) → stacks_of (set (set slots (64 + z * 1024 + own) s) (32 + z) (own + 1)) cache y ≡ stacks_of slots cache y
  put_other cache y q =
      stacks-set (set slots (64 + z * 1024 + own) s) cache (32 + z) (own + 1) y (λ l. ((λ e. omega arith), (λ e. q (omega arith)), (λ j h e. omega arith)))
      ∙ stacks-set slots cache (64 + z * 1024 + own) s y (λ l. ((λ e. omega arith), (λ e. omega arith), (λ j h e. let m : own_of slots y ≤ 1024 = f.own y l in q (omega arith))))

  put-fits : (n m : ℕ) → own + 1 ≤ m → n ≤ m → SlotsFit n slots → SlotsFit m (set (set slots (64 + z * 1024 + own) s) (32 + z) (own + 1))
  put-fits n m a b g =
      fits-own (set slots (64 + z * 1024 + own) s) (length-set slots (64 + z * 1024 + own) s ∙ long) z low n (fits_word slots (64 + z * 1024 + own) s n (omega arith) g) (own + 1) m a b

  put-elsewhere : (i : ℕ) → (i ≡ 32 + z → ⊥) → (i ≡ 64 + z * 1024 + own → ⊥) → get_or (set (set slots (64 + z * 1024 + own) s) (32 + z) (own + 1)) i 0 ≡ get_or slots i 0
  put-elsewhere i a b = get_or-set_other (set slots (64 + z * 1024 + own) s) (32 + z) i (own + 1) 0 a ∙ get_or-set_other slots (64 + z * 1024 + own) i s 0 b

  pub put : (exit : List ℕ) → Touched (set (set slots (64 + z * 1024 + own) s) (32 + z) (own + 1)) exit z → PutBack slots exit z s
  put exit t =
      let u = set (set slots (64 + z * 1024 + own) s) (32 + z) (own + 1) in
      record {
        stacks = λ cache. same-stacks u exit t.rest cache (put-fits 1024 1024 (omega arith) (omega arith) f) ∙ updated-by (stacks_of u cache) (stacks_of slots cache) z (s ∷ stacks_of slots cache z) (put-here cache) (put_other cache);
        fits = λ n g. same-fits u exit t.rest (n + 1) (put-fits n (n + 1) (omega (arith, g.own z low)) (omega arith) g);
        untouched = λ cache.
            touched-range u exit z t cache slots low (put-elsewhere 32832 (λ e. omega arith) (λ e. omega arith)) (put-elsewhere 32833 (λ e. omega arith) (λ e. omega arith))
            (λ y l q. (put-elsewhere y (λ e. omega arith) (λ e. omega arith), put-elsewhere (32 + y) (λ e. q (omega arith)) (λ e. omega arith)));
        met = t.met ∙ put-elsewhere 32834 (λ e. omega arith) (λ e. omega arith);
      }

-- ---- cells copied: below n two tables have the same
abbrev pub Alike : List ℕ → List ℕ → ℕ → Type 0
Alike t u n = (y : ℕ) → y < n → get_or t y 0 ≡ get_or u y 0

pub alike-more : (t u : List ℕ) (n : ℕ) → n < length t → Alike t u n → Alike (set t n (get_or u n 0)) u (n + 1)
alike-more t u n low k y h = go (eqb y n) refl
  where
    go : (b : Bool) → eqb y n ≡ b → get_or (set t n (get_or u n 0)) y 0 ≡ get_or u y 0
    go true e = rw (eqb-true y n e) (get_or-set_same t n (get_or u n 0) 0 low)
    go false e = let q : y ≡ n → ⊥ = eqb-false y n e in let l : y < n = omega arith in get_or-set_other t n y (get_or u n 0) 0 q ∙ k y l

-- ---- a patch begins: the depths are copied, and of the cells after them those below z are 0
pub record Beginning (slots cache : List ℕ) (z : ℕ) : Type 0 where
  pub left : Alike slots cache 32
  pub blank : (y : ℕ) → 32 ≤ y → y < z → get_or slots y 0 ≡ 0

pub begin-start : (slots depths cache : List ℕ) → Alike slots depths 32 → Alike depths cache 32 → Beginning slots cache 32
begin-start slots depths cache k d = record { left = λ y h. k y h ∙ d y h; blank = λ y l h. absurd (omega arith) }

pub begin-more : (slots cache : List ℕ) (z : ℕ) → z < length slots → 32 ≤ z → Beginning slots cache z → Beginning (set slots z 0) cache (z + 1)
begin-more slots cache z low past k =
    record { left = λ y h. get_or-set_other slots z y 0 0 (λ e. omega arith) ∙ k.left y h; blank = λ y l h. go y l h (eqb y z) refl }
  where
    go : (y : ℕ) → 32 ≤ y → y < z + 1 → (b : Bool) → eqb y z ≡ b → get_or (set slots z 0) y 0 ≡ 0
    go y l h true e = rw (eqb-true y z e) (get_or-set_same slots z 0 0 low)
    go y l h false e = let q : y ≡ z → ⊥ = eqb-false y z e in get_or-set_other slots z y 0 0 q ∙ k.blank y l (omega arith)

begun : (slots cache : List ℕ) → CacheFits cache → Beginning slots cache 64 → low_of slots ≡ 32 → high_of slots ≡ 0 → met_of slots ≡ 0 → Begun cache slots
unfolding stacks_of cache_of top_first
begun slots cache f k p q m =
    record {
      stacks = fun_ext (λ y. go y (ltb y 32) refl);
      fits = record { left = λ y h. rw (k.left y h) (f.deep y h); own = λ y h. rw (own y h) (omega arith) };
      untouched = record { high = omega arith; below = λ y l h. (k.left y l, own y l); above = λ y l h. (k.left y l, own y l) };
      met = m;
    }
  where
    own : (y : ℕ) → y < 32 → own_of slots y ≡ 0
    own y h = k.blank (32 + y) (omega arith) (omega arith)

    go : (y : ℕ) (b : Bool) → ltb y 32 ≡ b → pick b (top_first slots (64 + y * 1024) (own_of slots y) ++ top_first cache (64 + y * 2048) (left_of slots y)) [] ≡ pick b (top_first cache (64 + y * 2048) (depth_of cache y)) []
    go y true e = let h : y < 32 = ltb-true y 32 e in rw (k.left y h, own y h)
    go y false e = refl

pub began : (slots cache : List ℕ) → length slots ≡ 32835 → CacheFits cache → Beginning slots cache 64 → Begun cache (set (set (set slots 32832 32) 32833 0) 32834 0)
began slots cache long f k =
    begun (set w 32834 0) cache f
    (record { left = λ y h. other y (omega arith) ∙ k.left y h; blank = λ y l h. other y (omega arith) ∙ k.blank y l h })
    (get_or-set_other w 32834 32832 0 0 (λ e. omega arith) ∙ get_or-set_other u 32833 32832 0 0 (λ e. omega arith) ∙ get_or-set_same slots 32832 32 0 (omega arith))
    (get_or-set_other w 32834 32833 0 0 (λ e. omega arith) ∙ get_or-set_same u 32833 0 0 (omega (arith, length-set slots 32832 32)))
    (get_or-set_same w 32834 0 0 (omega (arith, length-set slots 32832 32, length-set u 32833 0)))
  where
    u : List ℕ
    u = set slots 32832 32

    w : List ℕ
    w = set u 32833 0

    other : (y : ℕ) → y < 64 → get_or (set w 32834 0) y 0 ≡ get_or slots y 0
    other y h = get_or-set_other w 32834 y 0 0 (λ e. omega arith) ∙ get_or-set_other u 32833 y 0 0 (λ e. omega arith) ∙ get_or-set_other slots 32832 y 32 0 (λ e. omega arith)

-- ---- no depths below z
pub zero_more : (cache : List ℕ) (z : ℕ) → z < length cache → ((y : ℕ) → y < z → get_or cache y 0 ≡ 0) → (y : ℕ) → y < z + 1 → get_or (set cache z 0) y 0 ≡ 0
zero_more cache z low k y h = go (eqb y z) refl
  where
    go : (b : Bool) → eqb y z ≡ b → get_or (set cache z 0) y 0 ≡ 0
    go true e = rw (eqb-true y z e) (get_or-set_same cache z 0 0 low)
    go false e = let q : y ≡ z → ⊥ = eqb-false y z e in let l : y < z = omega arith in get_or-set_other cache z y 0 0 q ∙ k y l

-- ---- the stamp
-- a store that is no part of it
pub stamp-set : (cache : List ℕ) (i v : ℕ) → (33 ≤ i → i ≤ 36 → ⊥) → stamp_of (set cache i v) ≡ stamp_of cache
unfolding stamp_of
stamp-set cache i v n =
    rw (get_or-set_other cache i 33 v 0 (λ e. n (omega arith) (omega arith)), get_or-set_other cache i 34 v 0 (λ e. n (omega arith) (omega arith)), get_or-set_other cache i 35 v 0 (λ e. n (omega arith) (omega arith)), get_or-set_other cache i 36 v 0 (λ e. n (omega arith) (omega arith)))

-- ---- a cache with no depths, and its stamp raised
pub cleared : (cache₀ cache exit : List ℕ) → ((y : ℕ) → y < 32 → get_or cache y 0 ≡ 0) → stamp_of cache ≡ stamp_of cache₀ → Raised cache exit 0 → Cleared cache₀ exit
unfolding cache_of top_first
cleared cache₀ cache exit k same r =
    record {
      empty = r.is ∙ ap (λ (f : ℕ → List ℕ). record { stacks = f; made = 0 }) stacks;
      fits = r.fits (record { deep = λ y h. rw (k y h) (omega arith) });
      stamp = r.stamp ∙ ap raised same;
    }
  where
    go : (y : ℕ) (b : Bool) → ltb y 32 ≡ b → pick b (top_first cache (64 + y * 2048) (depth_of cache y)) [] ≡ []
    go y true e = let h : y < 32 = ltb-true y 32 e in rw (k y h)
    go y false e = refl

    stacks : (cache_of cache).stacks ≡ (λ (z : ℕ). [])
    stacks = fun_ext (λ y. go y (ltb y 32) refl)

-- ---- a stack is settled: i of those put back are copied
pub record Settling (slots cache exit : List ℕ) (z left i : ℕ) : Type 0 where
  pub here : top_first exit (64 + z * 2048) (left + i) ≡ top_first slots (64 + z * 1024) i ++ top_first cache (64 + z * 2048) left
  pub others : (y n : ℕ) → (y ≡ z → ⊥) → n ≤ 2048 → top_first exit (64 + y * 2048) n ≡ top_first cache (64 + y * 2048) n
  pub depths : (y : ℕ) → y < 32 → depth_of exit y ≡ depth_of cache y
  pub stamp : stamp_of exit ≡ stamp_of cache
  pub long : length exit ≡ length cache

module _ (slots cache : List ℕ) (z left : ℕ) where
  pub settle-start : Settling slots cache cache z left 0
  unfolding top_first
  settle-start =
      let e : left + 0 ≡ left = omega arith in
      record { here = ap (top_first cache (64 + z * 2048)) e; others = λ y n q h. refl; depths = λ y h. refl; stamp = refl; long = refl }

  module _ (exit : List ℕ) (i : ℕ) (room : left + i < 2048) (low : z < 32) (k : Settling slots cache exit z left i) where
    pub settle-more : length cache ≡ 65600 → Settling slots cache (set exit (64 + z * 2048 + (left + i)) (get_or slots (64 + z * 1024 + i) 0)) z left (i + 1)
    settle-more long =
        let at = 64 + z * 2048 + (left + i) in
        let v = get_or slots (64 + z * 1024 + i) 0 in
        let e : left + (i + 1) ≡ left + i + 1 = omega arith in
        record {
          here = rw (e, top-more (set exit at v) (64 + z * 2048) (left + i), get_or-set_same exit at v 0 (omega (arith, k.long)), top_set exit at v (64 + z * 2048) (left + i) (λ j h e. omega arith), k.here, top-more slots (64 + z * 1024) i);
          others = λ y n q h. top_set exit at v (64 + y * 2048) n (λ j l e. q (omega arith)) ∙ k.others y n q h;
          depths = λ y h. get_or-set_other exit at y v 0 (λ e. omega arith) ∙ k.depths y h;
          stamp = stamp-set exit at v (λ a b. omega arith) ∙ k.stamp;
          long = length-set exit at v ∙ k.long;
        }

  pub settled : (exit : List ℕ) (own : ℕ) → length cache ≡ 65600 → z < 32 → left ≡ left_of slots z → own ≡ own_of slots z → left + own ≤ 2048 → Settling slots cache exit z left own → Settled slots cache (set exit z (left + own)) z
  settled exit own long low is has h k =
      let depth : depth_of (set exit z (left + own)) z ≡ left + own = get_or-set_same exit z (left + own) 0 (omega (arith, k.long)) in
      record {
        here = rw (depth, top_set exit z (left + own) (64 + z * 2048) (left + own) (λ j h e. omega arith), k.here, stacks-in slots cache z low, is, has);
        deep = rw depth h;
        others = λ y n q h. top_set exit z (left + own) (64 + y * 2048) n (λ j l e. omega arith) ∙ k.others y n q h;
        depths = λ y q h. get_or-set_other exit z y (left + own) 0 q ∙ k.depths y h;
        stamp = stamp-set exit z (left + own) (λ a b. omega arith) ∙ k.stamp;
      }

-- ---- a patch is committed: the stacks below z are settled, and the others are as they were
abbrev Done : List ℕ → List ℕ → List ℕ → ℕ → Type 0
Done slots cache exit y = (top_first exit (64 + y * 2048) (depth_of exit y) ≡ stacks_of slots cache y) × (depth_of exit y ≤ 2048)

pub record Committing (slots cache exit : List ℕ) (z : ℕ) : Type 0 where
  pub done : (y : ℕ) → y < 32 → y < z → Done slots cache exit y
  pub rest : (y n : ℕ) → z ≤ y → n ≤ 2048 → top_first exit (64 + y * 2048) n ≡ top_first cache (64 + y * 2048) n
  pub depths : (y : ℕ) → y < 32 → z ≤ y → depth_of exit y ≡ depth_of cache y
  pub stamp : stamp_of exit ≡ stamp_of cache

module _ (slots cache : List ℕ) (f : SlotsFit 1024 slots) where
  -- a stack that the patch has not changed needs no settling
  unchanged-done : (y : ℕ) → y < 32 → Unchanged cache slots y → Done slots cache cache y
  unfolding top_first
  unchanged-done y l k = (rw (stacks-in slots cache y l, k.0, k.1), rw (← k.0) (f.left y l))

  pub commit-start : Untouched cache slots → Committing slots cache cache (low_of slots)
  commit-start u = record { done = λ y l h. unchanged-done y l (u.below y l h); rest = λ y n l h. refl; depths = λ y l h. refl; stamp = refl }

  pub commit-more : (now exit : List ℕ) (z : ℕ) → z < 32 → Committing slots cache now z → Settled slots now exit z → Committing slots cache exit (z + 1)
  commit-more now exit z low k s =
      record {
        done = λ y l h. go y l h (eqb y z) refl;
        rest = λ y n l h. s.others y n (λ e. omega arith) h ∙ k.rest y n (omega arith) h;
        depths = λ y l h. s.depths y (λ e. omega arith) l ∙ k.depths y l (omega arith);
        stamp = s.stamp ∙ k.stamp;
      }
    where
      same : stacks_of slots now z ≡ stacks_of slots cache z
      same = rw (stacks-in slots now z low, stacks-in slots cache z low, k.rest z (left_of slots z) (omega arith) (f.left z low))

      go : (y : ℕ) → y < 32 → y < z + 1 → (b : Bool) → eqb y z ≡ b → Done slots cache exit y
      go y l h true e = rw (eqb-true y z e) (s.here ∙ same, s.deep)
      go y l h false e =
          let q : y ≡ z → ⊥ = eqb-false y z e in
          let d = k.done y l (omega arith) in
          rw (s.depths y q l) (s.others y (depth_of now y) q d.1 ∙ d.0, d.1)

  pub committed : (now exit : List ℕ) (made z : ℕ) → Untouched cache slots → high_of slots ≤ z → Committing slots cache now z → Raised now exit made → Committed slots cache exit made
  unfolding cache_of
  committed now exit made z u past k r =
      record {
        is = r.is ∙ ap (λ (f : ℕ → List ℕ). record { stacks = f; made = made }) (fun_ext (λ y. go y (ltb y 32) refl));
        fits = r.fits (record { deep = λ y h. (done y h).1 });
        stamp = r.stamp ∙ ap raised k.stamp;
      }
    where
      done : (y : ℕ) → y < 32 → Done slots cache now y
      done y l = either (ltb y z) refl
        where
          either : (b : Bool) → ltb y z ≡ b → Done slots cache now y
          either true e = k.done y l (ltb-true y z e)
          either false e =
              let h : z ≤ y = ltb-false y z e in
              let d = unchanged-done y l (u.above y l (omega arith)) in
              rw (k.depths y l h) (k.rest y (depth_of cache y) h d.1 ∙ d.0, d.1)

      go : (y : ℕ) (b : Bool) → ltb y 32 ≡ b → pick b (top_first now (64 + y * 2048) (depth_of now y)) [] ≡ stacks_of slots cache y
      go y true e = (done y (ltb-true y 32 e)).0
      go y false e = sym (stacks-out slots cache y (ltb-false y 32 e))
