-- The classes of a target.
use Prim.Native.Nat.{ℕ, suc, ◌+◌, ◌-◌, ◌*◌, ◌<◌, ◌≤◌}
use mathlib.Core.Path.{◌≡◌, refl, ◌∙◌}
use mathlib.Core.Bool.{Bool, true, false}
use mathlib.Core.List.{List, [], ◌∷◌, map, append-nil}
use native.Mathlib.Omega.{arith}
use lib.Dec.{eqb, leb}
use lib.ListN.{get_or, length, drop}
use borrow.Author.Tests.{eqb-true, eqb-false, leb-true, leb-false, le-leb, lt-leb}
use Rattle.entity.specs.Logic.{and, indices, cells}
use Rattle.reginfo.specs.RegInfo.{Class}
use Rattle.reginfo.specs.Table.{class_at}
use Rattle.number.specs.Read.{Read, got, then}
use Rattle.number.specs.Number.{number}
use Rattle.number.specs.Answer.{NumberAt}
use Rattle.number.specs.declared.Number.{Number}
use Rattle.number.specs.declared.Number.TheVariants.{Is, Refused}
use Rattle.reading.specs.Reading.{tested, below, between, distinct}
use Rattle.reading.specs.Answer.{ReadAt, NextAt}
use Rattle.reading.specs.declared.Next as X
use Rattle.reading.proofs.Laws.{in-range, any-number, tested-same, number-refused, number-then, part-refused, part_then, restated, made}
use Rattle.reading.proofs.Lists.{behind, behind-nothing, behind-one}
use Rattle.job_target.specs.Target.{Counted, class, classes}
use Rattle.job_target.specs.Steps.{with_order, with_members, Put, Keeps, ListKept, Earlier, ClassKept, counted_at}
use Rattle.job_target.proofs.Table.{cells_same}
use Rattle.job_target.proofs.Rows.{row_more}

-- ---- what is kept
pub earlier-same : (t : List ℕ) (c : ℕ) → Earlier t t c
earlier-same t c = record { heads = λ k l. refl; counts = λ k a l. refl; orders = λ k a l. refl }

pub earlier-then : (t u v : List ℕ) (c : ℕ) → Earlier t u c → Earlier u v c → Earlier t v c
earlier-then t u v c f g = record {
  heads = λ k l. g.heads k l ∙ f.heads k l;
  counts = λ k a l. g.counts k a l ∙ f.counts k a l;
  orders = λ k a l. g.orders k a l ∙ f.orders k a l;
}

pub earlier-less : (t u : List ℕ) (c d : ℕ) → d ≤ c → Earlier t u c → Earlier t u d
earlier-less t u c d h f = record { heads = λ k l. f.heads k (omega arith); counts = λ k a l. f.counts k a (omega arith); orders = λ k a l. f.orders k a (omega arith) }

-- a cell of the head, and a list
pub earlier-put : (t u : List ℕ) (c at x : ℕ) → c < 64 → 8192 + c * 8 ≤ at → at < 8200 + c * 8 → Put t u at x → Earlier t u c
earlier-put t u c at x low a b p = record {
  heads = λ k l. p.other k (λ e. omega arith);
  counts = λ k m l. p.other k (λ e. omega arith);
  orders = λ k m l. p.other k (λ e. omega arith);
}

pub earlier-members : (t u : List ℕ) (c n : ℕ) → c < 64 → n ≤ 512 → Keeps t u (9216 + c * 512) n → Earlier t u c
earlier-members t u c n low few f = record { heads = λ k l. f.before k (omega arith); counts = λ k m l. f.before k (omega arith); orders = λ k m l. f.after k (omega arith) }

pub earlier-order : (t u : List ℕ) (c n : ℕ) → c < 64 → Keeps t u (41984 + c * 512) n → Earlier t u c
earlier-order t u c n low f = record { heads = λ k l. f.before k (omega arith); counts = λ k m l. f.before k (omega arith); orders = λ k m l. f.before k (omega arith) }

pub class-kept : (t u : List ℕ) (c k : ℕ) → c ≤ 64 → k < c → get_or t (8194 + k * 8) 0 ≤ 512 → get_or t (8195 + k * 8) 0 ≤ 512 → Earlier t u c → class_at u k ≡ class_at t k
unfolding class_at
class-kept t u c k low l a b f =
    rw (
      f.heads (8192 + k * 8) (omega arith),
      f.heads (8193 + k * 8) (omega arith),
      f.heads (8194 + k * 8) (omega arith),
      f.heads (8195 + k * 8) (omega arith),
      cells_same t u (9216 + k * 512) (get_or t (8194 + k * 8) 0) (λ j x y. f.counts j (omega arith) (omega arith)),
      cells_same t u (41984 + k * 512) (get_or t (8195 + k * 8) 0) (λ j x y. f.orders j (omega arith) (omega arith)),
    )

-- ---- the order
room-left : (total m : ℕ) → total ≤ 4096 → and (leb 0 m) (leb m (4096 - total)) ≡ leb (total + m) 4096
room-left total m h = rw (le-leb 0 m (omega arith)) (go (leb (total + m) 4096) refl)
  where
    go : (b : Bool) → leb (total + m) 4096 ≡ b → leb m (4096 - total) ≡ b
    go true e = let l : total + m ≤ 4096 = leb-true (total + m) 4096 e in le-leb m (4096 - total) (omega arith)
    go false e = let l : 4096 < total + m = leb-false (total + m) 4096 e in lt-leb m (4096 - total) (omega arith)

pub order-fits : (total : ℕ) (s : List ℕ) (at : ℕ) (r : Number) → total ≤ 4096 → ReadAt (between 0 (4096 - total)) s at r → ReadAt (tested (λ m. leb (total + m) 4096)) s at r
order-fits total s at r h g = record {
  reads = g.reads ∙ tested-same (λ x. and (leb 0 x) (leb x (4096 - total))) (λ m. leb (total + m) 4096) (drop at s) (λ m. room-left total m h);
  onward = g.onward;
}

-- what is left of an order
abbrev order_of : ℕ → ℕ → ℕ → ℕ → List ℕ → ℕ → List ℕ → Read Counted
order_of regs total b slots members m k =
    then (distinct m regs [] k) (λ order j. got (record { class = record { bank = b; slots = slots; members = members; order = order }; total = total + m }) j)

module _ (regs total b slots : ℕ) (members : List ℕ) (s : List ℕ) (at : ℕ) (small : total ≤ 4096) where
  pub no-order-count : (x : Counted) (kept : Type 0) (k : ℕ) → ReadAt (between 0 (4096 - total)) s at (Refused k) → NextAt (with_order regs total b slots members) s at x kept (X.TheVariants.Refused k)
  unfolding with_order
  no-order-count x kept k h = number-refused (tested (λ m. leb (total + m) 4096)) (order_of regs total b slots members) s at x kept k (order-fits total s at (Refused k) small h)

  module _ (m a : ℕ) (h : ReadAt (between 0 (4096 - total)) s at (Is m a)) where
    with-order-count : (x : Counted) (kept : Type 0) (r : X.Next) → NextAt (order_of regs total b slots members m) s a x kept r → NextAt (with_order regs total b slots members) s at x kept r
    unfolding with_order
    with-order-count x kept r g = number-then (tested (λ m. leb (total + m) 4096)) (order_of regs total b slots members) s at x kept m a r (order-fits total s at (Is m a) small h) g

    pub no-order : (y : List ℕ) (some : Type 0) (x : Counted) (kept : Type 0) (k : ℕ) → NextAt (distinct m regs []) s a y some (X.TheVariants.Refused k) → NextAt (with_order regs total b slots members) s at x kept (X.TheVariants.Refused k)
    no-order y some x kept k g =
        with-order-count x kept (X.TheVariants.Refused k)
        (part-refused (distinct m regs []) (λ order j. got (record { class = record { bank = b; slots = slots; members = members; order = order }; total = total + m }) j) s a y some x kept k g)

-- the cells of a class, its order read last
module _ (t u v : List ℕ) (c total m : ℕ) (low : c < 64) (few : get_or t (8194 + c * 8) 0 ≤ 512) (fits : total + m ≤ 4096) (list : ListKept t u (41984 + c * 512) m) (put : Put u v (8195 + c * 8) m) where
  head : (k : ℕ) → 8192 + c * 8 ≤ k → k < 8195 + c * 8 → get_or v k 0 ≡ get_or t k 0
  head k a b = put.other k (λ e. omega arith) ∙ list.keeps.before k (omega arith)

  order_row : record { class = record { bank = get_or t (8192 + c * 8) 0; slots = get_or t (8193 + c * 8) 0; members = cells t (9216 + c * 512) (get_or t (8194 + c * 8) 0); order = cells u (41984 + c * 512) m }; total = total + m } ≡ counted_at v c total
  unfolding counted_at class_at
  order_row =
      let same : cells v (9216 + c * 512) (get_or t (8194 + c * 8) 0) ≡ cells t (9216 + c * 512) (get_or t (8194 + c * 8) 0) = cells_same t v (9216 + c * 512) (get_or t (8194 + c * 8) 0) (λ k x y. put.other k (λ e. omega arith) ∙ list.keeps.before k (omega arith)) in
      let last : cells v (41984 + c * 512) m ≡ cells u (41984 + c * 512) m = cells_same u v (41984 + c * 512) m (λ k x y. put.other k (λ e. omega arith)) in
      rw (head (8192 + c * 8) (omega arith) (omega arith), head (8193 + c * 8) (omega arith) (omega arith), head (8194 + c * 8) (omega arith) (omega arith), put.here, same, last)

  order-kept : ClassKept t v c total
  order-kept = record {
    members = omega (arith, head (8194 + c * 8) (omega arith) (omega arith));
    order = omega (arith, put.here, list.few);
    sum = omega (arith, put.here);
    earlier = earlier-then t u v c (earlier-order t u c m low list.keeps) (earlier-put u v c (8195 + c * 8) m low (omega arith) (omega arith) put);
  }

pub order-read : (regs total c : ℕ) (s : List ℕ) (at m a next : ℕ) (t u v : List ℕ) → c < 64 → total ≤ 4096 → get_or t (8194 + c * 8) 0 ≤ 512 → ReadAt (between 0 (4096 - total)) s at (Is m a)
    → NextAt (distinct m regs []) s a (cells u (41984 + c * 512) m) (ListKept t u (41984 + c * 512) m) (X.TheVariants.At next) → Put u v (8195 + c * 8) m
    → NextAt (with_order regs total (get_or t (8192 + c * 8) 0) (get_or t (8193 + c * 8) 0) (cells t (9216 + c * 512) (get_or t (8194 + c * 8) 0))) s at (counted_at v c total) (ClassKept t v c total) (X.TheVariants.At next)
order-read regs total c s at m a next t u v low small few h l put =
    let fits : total + m ≤ 4096 = omega (arith, (in-range 0 (4096 - total) s at m a h).1) in
    with-order-count regs total (get_or t (8192 + c * 8) 0) (get_or t (8193 + c * 8) 0) (cells t (9216 + c * 512) (get_or t (8194 + c * 8) 0)) s at small m a h (counted_at v c total) (ClassKept t v c total) (X.TheVariants.At next)
    (made (distinct m regs []) (λ (order : List ℕ). record { class = record { bank = get_or t (8192 + c * 8) 0; slots = get_or t (8193 + c * 8) 0; members = cells t (9216 + c * 512) (get_or t (8194 + c * 8) 0); order = order }; total = total + m }) s a (cells u (41984 + c * 512) m) (counted_at v c total) (ListKept t u (41984 + c * 512) m) (ClassKept t v c total) (X.TheVariants.At next)
    (λ k. order_row t u v c total m low few fits k put)
    (λ k. order-kept t u v c total m low few fits k put)
    l)

-- ---- the members
abbrev members_of : ℕ → ℕ → ℕ → ℕ → ℕ → List ℕ → Read Counted
members_of regs total b slots n p = then (distinct n regs [] p) (λ members o. with_order regs total b slots members o)

module _ (regs total b slots : ℕ) (s : List ℕ) (at : ℕ) (x : Counted) (kept : Type 0) where
  pub no-member-count : (k : ℕ) → NumberAt s at (Refused k) → NextAt (with_members regs total b slots) s at x kept (X.TheVariants.Refused k)
  unfolding with_members
  no-member-count k h = number-refused number (members_of regs total b slots) s at x kept k (any-number s at (Refused k) h)

  module _ (n a : ℕ) (h : NumberAt s at (Is n a)) where
    with-member-count : (r : X.Next) → NextAt (members_of regs total b slots n) s a x kept r → NextAt (with_members regs total b slots) s at x kept r
    unfolding with_members
    with-member-count r g = number-then number (members_of regs total b slots) s at x kept n a r (any-number s at (Is n a) h) g

    pub no-members : (y : List ℕ) (some : Type 0) (k : ℕ) → NextAt (distinct n regs []) s a y some (X.TheVariants.Refused k) → NextAt (with_members regs total b slots) s at x kept (X.TheVariants.Refused k)
    no-members y some k g = with-member-count (X.TheVariants.Refused k) (part-refused (distinct n regs []) (with_order regs total b slots) s a y some x kept k g)

    pub with-members : (y : List ℕ) (some : Type 0) (d : ℕ) (r : X.Next) → NextAt (distinct n regs []) s a y some (X.TheVariants.At d) → NextAt (with_order regs total b slots y) s d x kept r → NextAt (with_members regs total b slots) s at x kept r
    with-members y some d r g o = with-member-count r (part_then (distinct n regs []) (with_order regs total b slots) s a y some x kept d r g (λ _. o))

module _ (t u v w : List ℕ) (c n total : ℕ) (low : c < 64) (list : ListKept t u (9216 + c * 512) n) (put : Put u v (8194 + c * 8) n) where
  pub members-few : get_or v (8194 + c * 8) 0 ≤ 512
  members-few = omega (arith, put.here, list.few)

  members-cells : cells v (9216 + c * 512) (get_or v (8194 + c * 8) 0) ≡ cells u (9216 + c * 512) n
  members-cells = rw put.here (cells_same u v (9216 + c * 512) n (λ k x y. put.other k (λ e. omega arith)))

  members-head : (k : ℕ) → 8192 + c * 8 ≤ k → k < 8194 + c * 8 → get_or v k 0 ≡ get_or t k 0
  members-head k a b = put.other k (λ e. omega arith) ∙ list.keeps.before k (omega arith)

  members_kept : ClassKept v w c total → ClassKept t w c total
  members_kept k = record {
    members = k.members;
    order = k.order;
    sum = k.sum;
    earlier = earlier-then t v w c (earlier-then t u v c (earlier-members t u c n low list.few list.keeps) (earlier-put u v c (8194 + c * 8) n low (omega arith) (omega arith) put)) k.earlier;
  }

pub members-read : (regs total c : ℕ) (s : List ℕ) (at n a d : ℕ) (t u v w : List ℕ) (r : X.Next) → c < 64 → NumberAt s at (Is n a)
    → NextAt (distinct n regs []) s a (cells u (9216 + c * 512) n) (ListKept t u (9216 + c * 512) n) (X.TheVariants.At d) → Put u v (8194 + c * 8) n
    → NextAt (with_order regs total (get_or v (8192 + c * 8) 0) (get_or v (8193 + c * 8) 0) (cells v (9216 + c * 512) (get_or v (8194 + c * 8) 0))) s d (counted_at w c total) (ClassKept v w c total) r
    → NextAt (with_members regs total (get_or t (8192 + c * 8) 0) (get_or t (8193 + c * 8) 0)) s at (counted_at w c total) (ClassKept t w c total) r
members-read regs total c s at n a d t u v w r low h l put o =
    let list = l.past.2 in
    let e : get_or v (8192 + c * 8) 0 ≡ get_or t (8192 + c * 8) 0 = members-head t u v w c n total low list put (8192 + c * 8) (omega arith) (omega arith) in
    let f : get_or v (8193 + c * 8) 0 ≡ get_or t (8193 + c * 8) 0 = members-head t u v w c n total low list put (8193 + c * 8) (omega arith) (omega arith) in
    let g : cells v (9216 + c * 512) (get_or v (8194 + c * 8) 0) ≡ cells u (9216 + c * 512) n = members-cells t u v w c n total low list put in
    with-members regs total (get_or t (8192 + c * 8) 0) (get_or t (8193 + c * 8) 0) s at (counted_at w c total) (ClassKept t w c total) n a h (cells u (9216 + c * 512) n) (ListKept t u (9216 + c * 512) n) d r l
    (restated (with_order regs total (get_or v (8192 + c * 8) 0) (get_or v (8193 + c * 8) 0) (cells v (9216 + c * 512) (get_or v (8194 + c * 8) 0))) (with_order regs total (get_or t (8192 + c * 8) 0) (get_or t (8193 + c * 8) 0) (cells u (9216 + c * 512) n)) s d (counted_at w c total) (counted_at w c total) (ClassKept v w c total) (ClassKept t w c total) r
    (λ l. rw (e, f, g))
    (λ k. refl)
    (members_kept t u v w c n total low list put)
    o)

-- ---- a class
abbrev slots_of : ℕ → ℕ → ℕ → List ℕ → Read Counted
slots_of regs total b r = then (below 2 r) (λ slots q. with_members regs total b slots q)

module _ (banks regs total : ℕ) (s : List ℕ) (at : ℕ) (x : Counted) (kept : Type 0) where
  pub no-class-bank : (k : ℕ) → ReadAt (below banks) s at (Refused k) → NextAt (class banks regs total) s at x kept (X.TheVariants.Refused k)
  unfolding class with_members with_order
  no-class-bank k h = number-refused (below banks) (slots_of regs total) s at x kept k h

  module _ (b a : ℕ) (h : ReadAt (below banks) s at (Is b a)) where
    with-class-bank : (r : X.Next) → NextAt (slots_of regs total b) s a x kept r → NextAt (class banks regs total) s at x kept r
    unfolding class with_members with_order
    with-class-bank r g = number-then (below banks) (slots_of regs total) s at x kept b a r h g

    pub no-slots : (k : ℕ) → ReadAt (below 2) s a (Refused k) → NextAt (class banks regs total) s at x kept (X.TheVariants.Refused k)
    no-slots k g = with-class-bank (X.TheVariants.Refused k) (number-refused (below 2) (with_members regs total b) s a x kept k g)

    pub with-slots : (slots d : ℕ) (r : X.Next) → ReadAt (below 2) s a (Is slots d) → NextAt (with_members regs total b slots) s d x kept r → NextAt (class banks regs total) s at x kept r
    with-slots slots d r g o = with-class-bank r (number-then (below 2) (with_members regs total b) s a x kept slots d r g o)

pub class-read : (banks regs total c : ℕ) (s : List ℕ) (at b a slots d : ℕ) (t u v w : List ℕ) (r : X.Next) → c < 64 → ReadAt (below banks) s at (Is b a) → ReadAt (below 2) s a (Is slots d)
    → Put t u (8192 + c * 8) b → Put u v (8193 + c * 8) slots
    → NextAt (with_members regs total (get_or v (8192 + c * 8) 0) (get_or v (8193 + c * 8) 0)) s d (counted_at w c total) (ClassKept v w c total) r
    → NextAt (class banks regs total) s at (counted_at w c total) (ClassKept t w c total) r
class-read banks regs total c s at b a slots d t u v w r low f g p q o =
    let e : get_or v (8192 + c * 8) 0 ≡ b = q.other (8192 + c * 8) (λ e. omega arith) ∙ p.here in
    with-slots banks regs total s at (counted_at w c total) (ClassKept t w c total) b a f slots d r g
    (restated (with_members regs total (get_or v (8192 + c * 8) 0) (get_or v (8193 + c * 8) 0)) (with_members regs total b slots) s d (counted_at w c total) (counted_at w c total) (ClassKept v w c total) (ClassKept t w c total) r
    (λ l. rw (e, q.here))
    (λ k. refl)
    (λ k. record {
      members = k.members;
      order = k.order;
      sum = k.sum;
      earlier = earlier-then t v w c (earlier-then t u v c (earlier-put t u c (8192 + c * 8) b low (omega arith) (omega arith) p) (earlier-put u v c (8193 + c * 8) slots low (omega arith) (omega arith) q)) k.earlier;
    })
    o)

-- ---- the rows
pub record ClassRows (banks regs : ℕ) (s : List ℕ) (from n : ℕ) (t₀ t : List ℕ) (at c left total : ℕ) : Type 0 where
  pub same : behind (map (class_at t) (indices 0 c)) (classes left banks regs total (drop at s)) ≡ classes n banks regs 0 (drop from s)
  pub ahead : from ≤ at
  pub within : from ≤ length s → at ≤ length s
  pub sum : c + left ≡ n
  pub small : total ≤ 4096
  pub few : (k : ℕ) → k < c → (get_or t (8194 + k * 8) 0 ≤ 512) × (get_or t (8195 + k * 8) 0 ≤ 512)
  pub earlier : Earlier t₀ t 0

module _ (banks regs : ℕ) (s : List ℕ) (from n : ℕ) (most : n ≤ 64) (t₀ : List ℕ) where
  pub classes-start : ClassRows banks regs s from n t₀ t₀ from 0 n 0
  unfolding indices
  classes-start = record {
    same = behind-nothing (classes n banks regs 0 (drop from s));
    ahead = omega arith;
    within = λ l. l;
    sum = omega arith;
    small = omega arith;
    few = λ k l. absurd (omega arith);
    earlier = earlier-same t₀ 0;
  }

  module _ (t : List ℕ) (at c left total : ℕ) (h : ClassRows banks regs s from n t₀ t at c left total) (t' : List ℕ) where
    one_class : 0 < left → behind (map (class_at t) (indices 0 c)) (then (class banks regs total (drop at s)) (λ x r. then (classes (left - 1) banks regs x.total r) (λ cs q. got (x.class ∷ cs) q))) ≡ classes n banks regs 0 (drop from s)
    unfolding classes
    one_class l = let e : left ≡ suc (left - 1) = omega arith in rw e at h.same

    few-more : ClassKept t t' c total → (k : ℕ) → k < c + 1 → (get_or t' (8194 + k * 8) 0 ≤ 512) × (get_or t' (8195 + k * 8) 0 ≤ 512)
    few-more w k l = go (eqb k c) refl
      where
        go : (b : Bool) → eqb k c ≡ b → (get_or t' (8194 + k * 8) 0 ≤ 512) × (get_or t' (8195 + k * 8) 0 ≤ 512)
        go true e = rw (eqb-true k c e) (w.members, w.order)
        go false e =
            let d : k ≡ c → ⊥ = eqb-false k c e in
            let m : k < c = omega (arith, d) in
            rw (w.earlier.heads (8194 + k * 8) (omega arith), w.earlier.heads (8195 + k * 8) (omega arith)) (h.few k m)

    pub classes-step : (next more : ℕ) → 0 < left → NextAt (class banks regs total) s at (counted_at t' c total) (ClassKept t t' c total) (X.TheVariants.At next) → more ≡ get_or t' (8195 + c * 8) 0 → ClassRows banks regs s from n t₀ t' next (c + 1) (left - 1) (total + more)
    unfolding counted_at
    classes-step next more l g e =
        let w = g.past.2 in
        let kept : (k : ℕ) → k < c → class_at t' k ≡ class_at t k = λ k z. class-kept t t' c k (omega (arith, h.sum)) z (h.few k z).0 (h.few k z).1 w.earlier in
        record {
          same = rw (row_more (class_at t) (class_at t') c kept, e) (behind-one (map (class_at t) (indices 0 c)) (class_at t' c) (classes (left - 1) banks regs (total + get_or t' (8195 + c * 8) 0) (drop next s)) ∙ rw (← g.reads) at (one_class l));
          ahead = omega (arith, h.ahead, g.past.0);
          within = λ z. g.past.1 (h.within z);
          sum = omega (arith, h.sum);
          small = rw e w.sum;
          few = few-more w;
          earlier = earlier-then t₀ t t' 0 h.earlier (earlier-less t t' c 0 (omega arith) w.earlier);
        }

    pub classes-refused : (k : ℕ) (y : List Class) (also : Type 0) → 0 < left → NextAt (class banks regs total) s at (counted_at t' c total) (ClassKept t t' c total) (X.TheVariants.Refused k) → NextAt (classes n banks regs 0) s from y also (X.TheVariants.Refused k)
    classes-refused k y also l g = record { reads = rw (← g.reads) at (one_class l); past = tt }

  pub classes-end : (t : List ℕ) (at c left total : ℕ) → ClassRows banks regs s from n t₀ t at c left total → left ≤ 0 → NextAt (classes n banks regs 0) s from (map (class_at t) (indices 0 n)) (Earlier t₀ t 0) (X.TheVariants.At at)
  unfolding classes
  classes-end t at c left total h z =
      let e : c ≡ n = omega (arith, h.sum) in
      let f : left ≡ 0 = omega arith in
      record { reads = rw (e, f, append-nil) at h.same; past = (h.ahead, h.within, h.earlier) }
