-- A target, part after part.
use Prim.Native.Nat.{ℕ, ◌+◌, ◌*◌, ◌<◌, ◌≤◌}
use mathlib.Core.Path.{◌≡◌, sym, ◌∙◌}
use mathlib.Core.Bool.{Bool, true, false}
use mathlib.Core.List.{List, map}
use native.Mathlib.Omega.{arith}
use lib.Dec.{leb}
use lib.ListN.{get_or, drop}
use Rattle.entity.specs.Logic.{pick, and, no, any_in, indices}
use Rattle.reginfo.specs.RegInfo.{Bank, Reg, Class, RegInfo}
use Rattle.reginfo.specs.Table.{bank_at, reg_at, class_at, reg_info_of}
use Rattle.number.specs.Read.{Read, got, refused, then}
use Rattle.number.specs.declared.Number.TheVariants.{Is, Refused}
use Rattle.reading.specs.Reading.{tested, between, times}
use Rattle.reading.specs.Answer.{ReadAt, NextAt, Past}
use Rattle.reading.specs.declared.Next as X
use Rattle.reading.proofs.Laws.{tested-both, number-refused, number-then, part-refused, part_then, made}
use Rattle.reading.proofs.Lists.{rows_same}
use Rattle.job_target.specs.Target.{reg, classes, unknown_class}
use Rattle.job_target.specs.Held.{bank_held}
use Rattle.job_target.specs.Steps.{with_classes, with_regs, with_banks, Put, Keeps, FewUnits, RegsKept, Earlier}
use Rattle.job_target.specs.Answer.{TargetAt, Onward}
use Rattle.job_target.proofs.Table.{cells_same}
use Rattle.job_target.proofs.Same.{target-held}

-- ---- rows whose cells are kept
same_rows : {A : Type 0} (f g : ℕ → A) (n : ℕ) → ((k : ℕ) → k < n → g k ≡ f k) → map g (indices 0 n) ≡ map f (indices 0 n)
same_rows f g n h = rows_same f g 0 n (λ k l. let e : 0 + k ≡ k = omega arith in rw e (h k l))

pub same-banks : (t u : List ℕ) (n : ℕ) → n ≤ 8 → ((k : ℕ) → 8704 ≤ k → k < 8736 → get_or u k 0 ≡ get_or t k 0) → map (bank_at u) (indices 0 n) ≡ map (bank_at t) (indices 0 n)
unfolding bank_at
same-banks t u n few h = same_rows (bank_at t) (bank_at u) n one
  where
    one : (b : ℕ) → b < n → bank_at u b ≡ bank_at t b
    one b l = rw (h (8704 + b * 4) (omega arith) (omega arith), h (8705 + b * 4) (omega arith) (omega arith), h (8706 + b * 4) (omega arith) (omega arith))

pub same_regs : (t u : List ℕ) (n : ℕ) → n ≤ 512 → FewUnits t n → ((k : ℕ) → k < 8192 → get_or u k 0 ≡ get_or t k 0) → map (reg_at u) (indices 0 n) ≡ map (reg_at t) (indices 0 n)
unfolding reg_at
same_regs t u n few short h = same_rows (reg_at t) (reg_at u) n one
  where
    one : (r : ℕ) → r < n → reg_at u r ≡ reg_at t r
    one r l =
        let w = short r l in
        rw (h (r * 16) (omega arith), h (1 + r * 16) (omega arith), h (2 + r * 16) (omega arith), cells_same t u (8 + r * 16) (get_or t (2 + r * 16) 0) (λ k a b. h k (omega arith)))

-- ---- the class count
abbrev counted : List Bank → ℕ → Bool
counted banks c = and (and (leb 1 c) (leb c 64)) (no (any_in (unknown_class c) banks))

module _ (banks : List Bank) (s : List ℕ) (at : ℕ) where
  both : tested (counted banks) (drop at s) ≡ then (between 1 64 (drop at s)) (λ c r. pick (no (any_in (unknown_class c) banks)) (got c r) (refused 2))
  both = tested-both (λ c. and (leb 1 c) (leb c 64)) (λ c. no (any_in (unknown_class c) banks)) (drop at s)

  count-refused : (k : ℕ) → ReadAt (between 1 64) s at (Refused k) → ReadAt (tested (counted banks)) s at (Refused k)
  count-refused k h = record { reads = rw (both, ← h.reads); onward = tt }

  count-unknown : (n a : ℕ) → ReadAt (between 1 64) s at (Is n a) → any_in (unknown_class n) banks ≡ true → ReadAt (tested (counted banks)) s at (Refused 2)
  count-unknown n a h e = record { reads = rw (both, ← h.reads, e); onward = tt }

  count-known : (n a : ℕ) → ReadAt (between 1 64) s at (Is n a) → any_in (unknown_class n) banks ≡ false → ReadAt (tested (counted banks)) s at (Is n a)
  count-known n a h e = record { reads = rw (both, ← h.reads, e); onward = h.onward }

-- ---- the classes
abbrev classes_of : ℕ → ℕ → List Bank → ℕ → List Reg → ℕ → List ℕ → Read RegInfo
classes_of units n banks m regs c j = then (classes c n m 0 j) (λ cs i. got (record { units = units; banks = banks; regs = regs; classes = cs }) i)

module _ (units n : ℕ) (banks : List Bank) (m : ℕ) (regs : List Reg) (s : List ℕ) (at : ℕ) where
  pub no-classes : (x : RegInfo) (kept : Type 0) (k : ℕ) → ReadAt (between 1 64) s at (Refused k) → NextAt (with_classes units n banks m regs) s at x kept (X.TheVariants.Refused k)
  unfolding with_classes
  no-classes x kept k h = number-refused (tested (counted banks)) (classes_of units n banks m regs) s at x kept k (count-refused banks s at k h)

  pub unknown-classes : (x : RegInfo) (kept : Type 0) (c a : ℕ) (b : Bool) → ReadAt (between 1 64) s at (Is c a) → b ≡ any_in (unknown_class c) banks → b ≡ true → NextAt (with_classes units n banks m regs) s at x kept (X.TheVariants.Refused 2)
  unfolding with_classes
  unknown-classes x kept c a b h e z = number-refused (tested (counted banks)) (classes_of units n banks m regs) s at x kept 2 (count-unknown banks s at c a h (sym e ∙ z))

  known-classes : (x : RegInfo) (kept : Type 0) (c a : ℕ) (b : Bool) (r : X.Next) → ReadAt (between 1 64) s at (Is c a) → b ≡ any_in (unknown_class c) banks → b ≡ false → NextAt (classes_of units n banks m regs c) s a x kept r → NextAt (with_classes units n banks m regs) s at x kept r
  unfolding with_classes
  known-classes x kept c a b r h e z g = number-then (tested (counted banks)) (classes_of units n banks m regs) s at x kept c a r (count-known banks s at c a h (sym e ∙ z)) g

-- the table with its classes
module _ (t u v : List ℕ) (n m c : ℕ) (banks : get_or t 8737 0 ≡ n) (regs : get_or t 8738 0 ≡ m) (low : n ≤ 8) (few : m ≤ 512) (short : FewUnits t m) (put : Put t u 8739 c) where
  all-kept : Earlier u v 0 → record { units = get_or t 8736 0; banks = map (bank_at t) (indices 0 n); regs = map (reg_at t) (indices 0 m); classes = map (class_at v) (indices 0 c) } ≡ reg_info_of v
  unfolding reg_info_of
  all-kept k =
      let a : get_or v 8736 0 ≡ get_or t 8736 0 = k.counts 8736 (omega arith) (omega arith) ∙ put.other 8736 (λ e. omega arith) in
      let b : get_or v 8737 0 ≡ n = k.counts 8737 (omega arith) (omega arith) ∙ put.other 8737 (λ e. omega arith) ∙ banks in
      let d : get_or v 8738 0 ≡ m = k.counts 8738 (omega arith) (omega arith) ∙ put.other 8738 (λ e. omega arith) ∙ regs in
      let e : get_or v 8739 0 ≡ c = k.counts 8739 (omega arith) (omega arith) ∙ put.here in
      let f : map (bank_at v) (indices 0 n) ≡ map (bank_at t) (indices 0 n) = same-banks t v n low (λ j x y. k.counts j x (omega arith) ∙ put.other j (λ e. omega arith)) in
      let g : map (reg_at v) (indices 0 m) ≡ map (reg_at t) (indices 0 m) = same_regs t v m few short (λ j x. k.heads j (omega arith) ∙ put.other j (λ e. omega arith)) in
      rw (a, b, d, e, f, g)

  pub classes-read : (s : List ℕ) (at a : ℕ) (b : Bool) (r : X.Next) → ReadAt (between 1 64) s at (Is c a) → b ≡ any_in (unknown_class c) (map (bank_at t) (indices 0 n)) → b ≡ false
      → NextAt (classes c n m 0) s a (map (class_at v) (indices 0 c)) (Earlier u v 0) r → NextAt (with_classes (get_or t 8736 0) n (map (bank_at t) (indices 0 n)) m (map (reg_at t) (indices 0 m))) s at (reg_info_of v) Unit r
  classes-read s at a b r h e z g =
      known-classes (get_or t 8736 0) n (map (bank_at t) (indices 0 n)) m (map (reg_at t) (indices 0 m)) s at (reg_info_of v) Unit c a b r h e z
      (made (classes c n m 0) (λ (cs : List Class). record { units = get_or t 8736 0; banks = map (bank_at t) (indices 0 n); regs = map (reg_at t) (indices 0 m); classes = cs }) s a (map (class_at v) (indices 0 c)) (reg_info_of v) (Earlier u v 0) Unit r all-kept (λ _. tt) g)

-- ---- the registers
abbrev regs_of : ℕ → ℕ → List Bank → ℕ → List ℕ → Read RegInfo
regs_of units n banks m o = then (times m (reg units n) o) (λ regs k. with_classes units n banks m regs k)

module _ (units n : ℕ) (banks : List Bank) (s : List ℕ) (at : ℕ) (x : RegInfo) (kept : Type 0) where
  pub no-reg-count : (k : ℕ) → ReadAt (between 1 512) s at (Refused k) → NextAt (with_regs units n banks) s at x kept (X.TheVariants.Refused k)
  unfolding with_regs
  no-reg-count k h = number-refused (between 1 512) (regs_of units n banks) s at x kept k h

  module _ (m a : ℕ) (h : ReadAt (between 1 512) s at (Is m a)) where
    with-reg-count : (r : X.Next) → NextAt (regs_of units n banks m) s a x kept r → NextAt (with_regs units n banks) s at x kept r
    unfolding with_regs
    with-reg-count r g = number-then (between 1 512) (regs_of units n banks) s at x kept m a r h g

    pub no_regs : (y : List Reg) (some : Type 0) (k : ℕ) → NextAt (times m (reg units n)) s a y some (X.TheVariants.Refused k) → NextAt (with_regs units n banks) s at x kept (X.TheVariants.Refused k)
    no_regs y some k g = with-reg-count (X.TheVariants.Refused k) (part-refused (times m (reg units n)) (with_classes units n banks m) s a y some x kept k g)

    with-regs : (y : List Reg) (some : Type 0) (d : ℕ) (r : X.Next) → NextAt (times m (reg units n)) s a y some (X.TheVariants.At d) → NextAt (with_classes units n banks m y) s d x kept r → NextAt (with_regs units n banks) s at x kept r
    with-regs y some d r g o = with-reg-count r (part_then (times m (reg units n)) (with_classes units n banks m) s a y some x kept d r g (λ _. o))

module _ (t u v : List ℕ) (units n m : ℕ) (is : get_or t 8736 0 ≡ units) (banks : get_or t 8737 0 ≡ n) (low : n ≤ 8) (put : Put t u 8738 m) (kept : RegsKept u v m) where
  pub regs-banks : get_or v 8737 0 ≡ n
  regs-banks = kept.keeps.after 8737 (omega arith) ∙ put.other 8737 (λ e. omega arith) ∙ banks

  pub regs_count : get_or v 8738 0 ≡ m
  regs_count = kept.keeps.after 8738 (omega arith) ∙ put.here

  pub regs-units : get_or v 8736 0 ≡ units
  regs-units = kept.keeps.after 8736 (omega arith) ∙ put.other 8736 (λ e. omega arith) ∙ is

  pub regs-same-banks : map (bank_at v) (indices 0 n) ≡ map (bank_at t) (indices 0 n)
  regs-same-banks = same-banks t v n low (λ k a b. kept.keeps.after k (omega arith) ∙ put.other k (λ e. omega arith))

pub regs_read : (t u v : List ℕ) (units n m : ℕ) (s : List ℕ) (at a d : ℕ) (x : RegInfo) (r : X.Next) → get_or t 8736 0 ≡ units → get_or t 8737 0 ≡ n → n ≤ 8 → ReadAt (between 1 512) s at (Is m a) → Put t u 8738 m
    → NextAt (times m (reg units n)) s a (map (reg_at v) (indices 0 m)) (RegsKept u v m) (X.TheVariants.At d)
    → NextAt (with_classes (get_or v 8736 0) n (map (bank_at v) (indices 0 n)) m (map (reg_at v) (indices 0 m))) s d x Unit r
    → NextAt (with_regs units n (map (bank_at t) (indices 0 n))) s at x Unit r
regs_read t u v units n m s at a d x r is banks low h put g o =
    let kept = g.past.2 in
    with-regs units n (map (bank_at t) (indices 0 n)) s at x Unit m a h (map (reg_at v) (indices 0 m)) (RegsKept u v m) d r g
    (rw (regs-units t u v units n m is banks low put kept, regs-same-banks t u v units n m is banks low put kept) at o)

-- ---- the banks
abbrev banks_of : ℕ → ℕ → List ℕ → Read RegInfo
banks_of units n q = then (times n bank_held q) (λ banks p. with_regs units n banks p)

module _ (units : ℕ) (s : List ℕ) (at : ℕ) (x : RegInfo) (kept : Type 0) where
  pub no-bank-count : (k : ℕ) → ReadAt (between 1 8) s at (Refused k) → NextAt (with_banks units) s at x kept (X.TheVariants.Refused k)
  unfolding with_banks
  no-bank-count k h = number-refused (between 1 8) (banks_of units) s at x kept k h

  module _ (n a : ℕ) (h : ReadAt (between 1 8) s at (Is n a)) where
    with-bank-count : (r : X.Next) → NextAt (banks_of units n) s a x kept r → NextAt (with_banks units) s at x kept r
    unfolding with_banks
    with-bank-count r g = number-then (between 1 8) (banks_of units) s at x kept n a r h g

    pub no-banks : (y : List Bank) (some : Type 0) (k : ℕ) → NextAt (times n bank_held) s a y some (X.TheVariants.Refused k) → NextAt (with_banks units) s at x kept (X.TheVariants.Refused k)
    no-banks y some k g = with-bank-count (X.TheVariants.Refused k) (part-refused (times n bank_held) (with_regs units n) s a y some x kept k g)

    pub banks-read : (y : List Bank) (some : Type 0) (d : ℕ) (r : X.Next) → NextAt (times n bank_held) s a y some (X.TheVariants.At d) → NextAt (with_regs units n y) s d x kept r → NextAt (with_banks units) s at x kept r
    banks-read y some d r g o = with-bank-count r (part_then (times n bank_held) (with_regs units n) s a y some x kept d r g (λ _. o))

module _ (t u v : List ℕ) (units n : ℕ) (is : get_or t 8736 0 ≡ units) (put : Put t u 8737 n) (kept : Keeps u v 8704 32) where
  pub banks-count : get_or v 8737 0 ≡ n
  banks-count = kept.after 8737 (omega arith) ∙ put.here

  pub banks-units : get_or v 8736 0 ≡ units
  banks-units = kept.after 8736 (omega arith) ∙ put.other 8736 (λ e. omega arith) ∙ is

-- ---- all
module _ (s : List ℕ) (at : ℕ) (t : List ℕ) where
  pub no-units : (k : ℕ) → ReadAt (between 1 512) s at (Refused k) → TargetAt s at t (X.TheVariants.Refused k)
  no-units k h = record { reads = rw (← h.reads) at (target-held (drop at s)); onward = tt }

  pub target-read : (units a : ℕ) (r : X.Next) → ReadAt (between 1 512) s at (Is units a) → NextAt (with_banks units) s a (reg_info_of t) Unit r → TargetAt s at t r
  target-read units a r h g = record { reads = g.reads ∙ rw (← h.reads) at (target-held (drop at s)); onward = on r g.past }
    where
      on : (r : X.Next) → Past s a Unit r → Onward s at r
      on (X.TheVariants.At next) p = (omega (arith, h.onward.0, p.0), p.1 h.onward.1)
      on (X.TheVariants.Refused k) p = tt
