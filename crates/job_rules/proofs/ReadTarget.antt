-- A target that was read is within its limits and lists nothing twice: 2 and 3 were given as it was read.
use Prim.Native.Nat.{ℕ, zero, suc, ◌+◌, ◌<◌, ◌≤◌}
use mathlib.Core.Path.{◌≡◌, refl, sym, ap, ◌∙◌, subst}
use mathlib.Core.Bool.{Bool, true, false}
use mathlib.Core.List.{List, [], ◌∷◌}
use native.Mathlib.Omega.{arith}
use lib.Dec.{eqb, ltb, leb}
use lib.ListN.{length, get_or}
use borrow.Author.Tests.{ltb-true, leb-true, leb-false, eqb-true, lt-ltb, le-ltb, le-leb, eq-eqb, not-true}
use Rattle.entity.specs.Logic.{and, or, no, any_in, all_in, has, twice, indices}
use Rattle.entity.proofs.Laws.{or-false, and-true, all-has, any_at}
use Rattle.reginfo.specs.RegInfo.{Bank, Reg, Class, RegInfo, no_bank, no_reg, no_class, num_banks, num_regs, num_classes, spillslot_size, top_level_class, stack_to_stack_class, reg_memory, bank_for_reg, reg_units, bank_for_class, class_slots, class_members, allocation_order}
use Rattle.reginfo.specs.Refused.{some_below, within, all_below, order_total, counts_fit, bank_fits, reg_fits, class_fits, outside_limits, listed_twice}
use Rattle.slots.proofs.Pigeonhole.{pigeonhole}
use Rattle.number.specs.Read.{got}
use Rattle.number.specs.Number.{number}
use Rattle.reading.specs.Reading.{tested, below, between, times, distinct}
use Rattle.job_target.specs.Target.{Counted, bank, reg, class, classes, unknown_class, target}
use Rattle.job_function.proofs.Accepted.{then-got, tested-got, times-got}
use Rattle.job_rules.specs.Conditions.{TargetRead}
use Rattle.job_rules.proofs.WasRead.{unless-got}

-- ---- numbers below a limit, none twice and none listed before
record Fresh (n limit : ℕ) (before xs : List ℕ) : Type 0 where
  long : length xs ≡ n
  low : all_below limit xs ≡ true
  once : twice xs ≡ false
  new : (y : ℕ) → has y before ≡ true → has y xs ≡ false

or_right : (a b : Bool) → b ≡ true → or a b ≡ true
or_right true b h = refl
or_right false b h = h

fresh-more : (n limit x : ℕ) (before xs : List ℕ) → ltb x limit ≡ true → has x before ≡ false
    → Fresh n limit (x ∷ before) xs → Fresh (suc n) limit before (x ∷ xs)
unfolding all_in has twice
fresh-more n limit x before xs b h i = record {
  long = ap suc i.long;
  low = rw (b, i.low);
  once = rw (i.new x (rw (eq-eqb x x refl)), i.once);
  new = λ y e. other (eqb y x) y refl e (i.new y (or_right (eqb y x) (has y before) e));
}
  where
    other : (q : Bool) (y : ℕ) → eqb y x ≡ q → has y before ≡ true → has y xs ≡ false → or q (has y xs) ≡ false
    other true y q e z =
        let is : y ≡ x = eqb-true y x q in
        let w : true ≡ false = sym e ∙ rw is h in
        let z : ◌≡◌ {A = ℕ} 0 1 = cc in
        absurd (omega arith)
    other false y q e z = z

fresh : (n limit : ℕ) (before l xs r : List ℕ) → distinct n limit before l ≡ got xs r → Fresh n limit before xs
unfolding distinct all_in has twice
fresh zero limit before l xs r e =
    let is : [] ≡ xs = cc in
    subst (λ (xs : List ℕ). Fresh 0 limit before xs) is record { long = refl; low = refl; once = refl; new = λ y h. refl }
fresh (suc n) limit before l xs r e =
    let p = then-got (below limit l) _ xs r e in
    let u = unless-got (has p.0 before) 3 _ xs r p.3 in
    let q = then-got (distinct n limit (p.0 ∷ before) p.1) _ xs r u.1 in
    let is : p.0 ∷ q.0 ≡ xs = cc in
    subst (λ (xs : List ℕ). Fresh (suc n) limit before xs) is
    (fresh-more n limit p.0 before q.0 (tested-got (λ x. ltb x limit) l p.0 p.1 p.2) u.0
    (fresh n limit (p.0 ∷ before) p.1 q.0 q.1 q.2))

-- no more than there are
short : (n limit : ℕ) (before xs : List ℕ) → Fresh n limit before xs → length xs ≤ limit
short n limit before xs i =
    pigeonhole 0 limit xs i.once
    (λ x h. (omega arith, omega (arith, ltb-true x limit (all-has (λ x. ltb x limit) xs x i.low h))))

-- ---- banks, registers and classes
abbrev bank_right : Bank → Type 0
bank_right b = leb b.size 31 ≡ true

record RegRight (units banks : ℕ) (r : Reg) : Type 0 where
  memory : leb r.memory 1 ≡ true
  bank : ltb r.bank banks ≡ true
  count : within 1 8 (length r.units) ≡ true
  low : all_below units r.units ≡ true
  once : twice r.units ≡ false

record ClassRight (banks regs : ℕ) (c : Class) : Type 0 where
  bank : ltb c.bank banks ≡ true
  slots : leb c.slots 1 ≡ true
  members : (length c.members ≤ regs) × (all_below regs c.members ≡ true) × (twice c.members ≡ false)
  order : (length c.order ≤ regs) × (all_below regs c.order ≡ true) × (twice c.order ≡ false)

-- a flag
flag : (l : List ℕ) (n : ℕ) (r : List ℕ) → below 2 l ≡ got n r → leb n 1 ≡ true
flag l n r e = le-leb n 1 (omega (arith, ltb-true n 2 (tested-got (λ x. ltb x 2) l n r e)))

bank-right : (l : List ℕ) (b : Bank) (r : List ℕ) → bank l ≡ got b r → bank_right b
unfolding bank
bank-right l b r e =
    let p = then-got (between 0 31 l) _ b r e in
    let q = then-got (number p.1) _ b r p.3 in
    let o = then-got (number q.1) _ b r q.3 in
    go p.0 q.0 o.0 o.1
    (and-true (leb 0 p.0) (leb p.0 31) (tested-got (λ x. and (leb 0 x) (leb x 31)) l p.0 p.1 p.2)).1 o.3
  where
    go : (size top stack : ℕ) (k : List ℕ) → leb size 31 ≡ true → got (record { size = size; top = top; stack = stack }) k ≡ got b r → bank_right b
    go size top stack k h e = let is : record { size = size; top = top; stack = stack } ≡ b = cc in subst bank_right is h

module _ (units banks : ℕ) where
  reg-right : (l : List ℕ) (x : Reg) (r : List ℕ) → reg units banks l ≡ got x r → RegRight units banks x
  unfolding reg
  reg-right l x r e =
      let p = then-got (below 2 l) _ x r e in
      let q = then-got (below banks p.1) _ x r p.3 in
      let o = then-got (between 1 8 q.1) _ x r q.3 in
      let k = then-got (distinct o.0 units [] o.1) _ x r o.3 in
      go p.0 q.0 o.0 k.0 k.1 (flag l p.0 p.1 p.2) (tested-got (λ x. ltb x banks) p.1 q.0 q.1 q.2)
      (tested-got (λ x. and (leb 1 x) (leb x 8)) q.1 o.0 o.1 o.2) (fresh o.0 units [] o.1 k.0 k.1 k.2) k.3
    where
      go : (memory b n : ℕ) (us k : List ℕ) → leb memory 1 ≡ true → ltb b banks ≡ true → within 1 8 n ≡ true → Fresh n units [] us
          → got (record { memory = memory; bank = b; units = us }) k ≡ got x r → RegRight units banks x
      go memory b n us k hm hb hn i e =
          let is : record { memory = memory; bank = b; units = us } ≡ x = cc in
          subst (λ (x : Reg). RegRight units banks x) is record { memory = hm; bank = hb; count = rw i.long hn; low = i.low; once = i.once }

module _ (banks regs : ℕ) where
  -- a class, and the order entries with it
  record CountedRight (total : ℕ) (x : Counted) : Type 0 where
    right : ClassRight banks regs x.class
    more : x.total ≡ total + length x.class.order
    few : x.total ≤ 4096

  class-right : (total : ℕ) (l : List ℕ) (x : Counted) (r : List ℕ) → class banks regs total l ≡ got x r → CountedRight total x
  unfolding class
  class-right total l x r e =
      let p = then-got (below banks l) _ x r e in
      let q = then-got (below 2 p.1) _ x r p.3 in
      let o = then-got (number q.1) _ x r q.3 in
      let k = then-got (distinct o.0 regs [] o.1) _ x r o.3 in
      let j = then-got (tested (λ m. leb (total + m) 4096) k.1) _ x r k.3 in
      let i = then-got (distinct j.0 regs [] j.1) _ x r j.3 in
      go p.0 q.0 o.0 j.0 k.0 i.0 i.1
      (tested-got (λ x. ltb x banks) l p.0 p.1 p.2) (flag p.1 q.0 q.1 q.2)
      (fresh o.0 regs [] o.1 k.0 k.1 k.2)
      (leb-true (total + j.0) 4096 (tested-got (λ m. leb (total + m) 4096) k.1 j.0 j.1 j.2))
      (fresh j.0 regs [] j.1 i.0 i.1 i.2) i.3
    where
      go : (b slots n m : ℕ) (members order k : List ℕ) → ltb b banks ≡ true → leb slots 1 ≡ true → Fresh n regs [] members
          → total + m ≤ 4096 → Fresh m regs [] order
          → got (record { class = record { bank = b; slots = slots; members = members; order = order }; total = total + m }) k ≡ got x r → CountedRight total x
      go b slots n m members order k hb hs i h j e =
          let is : record { class = record { bank = b; slots = slots; members = members; order = order }; total = total + m } ≡ x = cc in
          subst (λ (x : Counted). CountedRight total x) is
          record {
            right = record {
              bank = hb;
              slots = hs;
              members = (short n regs [] members i, i.low, i.once);
              order = (short m regs [] order j, j.low, j.once);
            };
            more = rw j.long;
            few = h;
          }

  record ClassesRight (n total : ℕ) (cs : List Class) : Type 0 where
    long : length cs ≡ n
    right : (i : ℕ) → i < n → ClassRight banks regs (get_or cs i no_class)
    few : total + order_total cs ≤ 4096

  classes-right : (n total : ℕ) (l : List ℕ) (cs : List Class) (r : List ℕ) → total ≤ 4096
      → classes n banks regs total l ≡ got cs r → ClassesRight n total cs
  unfolding classes order_total
  classes-right zero total l cs r h e =
      let is : [] ≡ cs = cc in
      subst (λ (cs : List Class). ClassesRight 0 total cs) is record { long = refl; right = λ i b. absurd (omega arith); few = omega arith }
  classes-right (suc n) total l cs r h e =
      let p = then-got (class banks regs total l) _ cs r e in
      let q = then-got (classes n banks regs p.0.total p.1) _ cs r p.3 in
      let x = class-right total l p.0 p.1 p.2 in
      let is : p.0.class ∷ q.0 ≡ cs = cc in
      subst (λ (cs : List Class). ClassesRight (suc n) total cs) is
      (more p.0 q.0 x (classes-right n p.0.total p.1 q.0 q.1 x.few q.2))
    where
      more : (x : Counted) (cs : List Class) → CountedRight total x → ClassesRight n x.total cs → ClassesRight (suc n) total (x.class ∷ cs)
      more x cs a i = record { long = ap suc i.long; right = each; few = omega (arith, a.more, i.few) }
        where
          each : (k : ℕ) → k < suc n → ClassRight banks regs (get_or (x.class ∷ cs) k no_class)
          each zero b = a.right
          each (suc k) b = i.right k (omega arith)

-- ---- the whole
record Right (t : RegInfo) : Type 0 where
  units : within 1 512 t.units ≡ true
  banks : within 1 8 (num_banks t) ≡ true
  regs : within 1 512 (num_regs t) ≡ true
  classes : within 1 64 (num_classes t) ≡ true
  bank : (b : ℕ) → b < num_banks t → bank_right (get_or t.banks b no_bank)
  known : any_in (unknown_class (num_classes t)) t.banks ≡ false
  reg : (r : ℕ) → r < num_regs t → RegRight t.units (num_banks t) (get_or t.regs r no_reg)
  class : (c : ℕ) → c < num_classes t → ClassRight (num_banks t) (num_regs t) (get_or t.classes c no_class)
  few : order_total t.classes ≤ 4096

none_from : (p : ℕ → Bool) (a n : ℕ) → ((i : ℕ) → a ≤ i → i < a + n → p i ≡ false) → any_in p (indices a n) ≡ false
unfolding any_in indices
none_from p a zero h = refl
none_from p a (suc n) h = rw (h a (omega arith) (omega arith)) (none_from p (a + 1) n (λ i x y. h i (omega arith) (omega arith)))

none_below : (p : ℕ → Bool) (n : ℕ) → ((i : ℕ) → i < n → p i ≡ false) → some_below n p ≡ false
none_below p n h = none_from p 0 n (λ i x y. h i (omega arith))

neither : (a b : Bool) → a ≡ false → b ≡ false → or a b ≡ false
neither a b p q = rw (p, q)

module _ (t : RegInfo) (i : Right t) where
  counts-fit : no (counts_fit t) ≡ false
  unfolding counts_fit
  counts-fit = rw (i.units, i.banks, i.regs, i.classes)

  bank-fits : (b : ℕ) → b < num_banks t → no (bank_fits t b) ≡ false
  unfolding bank_fits spillslot_size top_level_class stack_to_stack_class
  bank-fits b h =
      let unknown = any_at (unknown_class (num_classes t)) t.banks b no_bank i.known h in
      let w = or-false (leb (num_classes t) (get_or t.banks b no_bank).top) (leb (num_classes t) (get_or t.banks b no_bank).stack) unknown in
      rw (i.bank b h, lt-ltb _ _ (leb-false (num_classes t) _ w.0), lt-ltb _ _ (leb-false (num_classes t) _ w.1))

  reg-fits : (r : ℕ) → r < num_regs t → no (reg_fits t r) ≡ false
  unfolding reg_fits reg_memory bank_for_reg reg_units
  reg-fits r h = let w = i.reg r h in rw (w.memory, w.bank, w.count, w.low)

  class-fits : (c : ℕ) → c < num_classes t → no (class_fits t c) ≡ false
  unfolding class_fits bank_for_class class_slots class_members allocation_order
  class-fits c h =
      let w = i.class c h in
      let m : num_regs t ≤ 512 = leb-true (num_regs t) 512 (and-true (leb 1 (num_regs t)) (leb (num_regs t) 512) i.regs).1 in
      let a = le-leb (length (get_or t.classes c no_class).members) 512 (omega (arith, w.members.0)) in
      let b = le-leb (length (get_or t.classes c no_class).order) 512 (omega (arith, w.order.0)) in
      rw (w.bank, w.slots, a, w.members.1, b, w.order.1)

  limits : outside_limits t ≡ false
  unfolding outside_limits
  limits =
      neither _ _ counts-fit
      (neither _ _ (none_below _ (num_banks t) bank-fits)
      (neither _ _ (none_below _ (num_regs t) reg-fits)
      (neither _ _ (none_below _ (num_classes t) class-fits) (le-ltb 4096 (order_total t.classes) i.few))))

  nothing-twice : listed_twice t ≡ false
  unfolding listed_twice reg_units class_members allocation_order
  nothing-twice =
      neither _ _ (none_below _ (num_regs t) (λ r h. (i.reg r h).once))
      (none_below _ (num_classes t) (λ c h. neither _ _ (i.class c h).members.2 (i.class c h).order.2))

target_right : (l : List ℕ) (t : RegInfo) (r : List ℕ) → target l ≡ got t r → Right t
unfolding target
target_right l t r e =
    let a = then-got (between 1 512 l) _ t r e in
    let b = then-got (between 1 8 a.1) _ t r a.3 in
    let c = then-got (times b.0 bank b.1) _ t r b.3 in
    let d = then-got (between 1 512 c.1) _ t r c.3 in
    let p = then-got (times d.0 (reg a.0 b.0) d.1) _ t r d.3 in
    let q = then-got (tested (λ n. and (and (leb 1 n) (leb n 64)) (no (any_in (unknown_class n) c.0))) p.1) _ t r p.3 in
    let s = then-got (classes q.0 b.0 d.0 0 q.1) _ t r q.3 in
    go a.0 b.0 d.0 q.0 c.0 p.0 s.0 s.1
    (tested-got (λ x. and (leb 1 x) (leb x 512)) l a.0 a.1 a.2)
    (tested-got (λ x. and (leb 1 x) (leb x 8)) a.1 b.0 b.1 b.2)
    (tested-got (λ x. and (leb 1 x) (leb x 512)) c.1 d.0 d.1 d.2)
    (tested-got (λ n. and (and (leb 1 n) (leb n 64)) (no (any_in (unknown_class n) c.0))) p.1 q.0 q.1 q.2)
    (times-got bank bank_right no_bank bank-right b.0 b.1 c.0 c.1 c.2)
    (times-got (reg a.0 b.0) (RegRight a.0 b.0) no_reg (reg-right a.0 b.0) d.0 d.1 p.0 p.1 p.2)
    (classes-right b.0 d.0 q.0 0 q.1 s.0 s.1 (omega arith) s.2)
    s.3
  where
    go : (units n m c : ℕ) (banks : List Bank) (regs : List Reg) (cs : List Class) (k : List ℕ)
        → within 1 512 units ≡ true → within 1 8 n ≡ true → within 1 512 m ≡ true → and (within 1 64 c) (no (any_in (unknown_class c) banks)) ≡ true
        → (length banks ≡ n) × ((i : ℕ) → i < n → bank_right (get_or banks i no_bank))
        → (length regs ≡ m) × ((i : ℕ) → i < m → RegRight units n (get_or regs i no_reg))
        → ClassesRight n m c 0 cs → got (record { units = units; banks = banks; regs = regs; classes = cs }) k ≡ got t r → Right t
    go units n m c banks regs cs k hu hn hm hc b g i e =
        let is : record { units = units; banks = banks; regs = regs; classes = cs } ≡ t = cc in
        let w = and-true (within 1 64 c) (no (any_in (unknown_class c) banks)) hc in
        subst (λ (t : RegInfo). Right t) is
        record {
          units = hu;
          banks = rw b.0 hn;
          regs = rw g.0 hm;
          classes = rw i.long w.0;
          bank = λ x h. b.1 x (omega (arith, b.0));
          known = rw i.long (not-true (any_in (unknown_class c) banks) w.1);
          reg = λ x h. rw b.0 (g.1 x (omega (arith, g.0)));
          class = λ x h. rw (b.0, g.0) (i.right x (omega (arith, i.long)));
          few = omega (arith, i.few);
        }

pub target-read : TargetRead
target-read l t r e = let i = target_right l t r e in (limits t i, nothing-twice t i)
