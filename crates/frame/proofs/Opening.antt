-- A frame and its formulas are opened as they are read.
use Prim.Native.Nat.{ℕ, ◌+◌, ◌-◌, ◌<◌, ◌≤◌}
use mathlib.Core.Path.{◌≡◌, refl, ap}
use mathlib.Core.List.{List}
use mathlib.Core.Logic.{inl, inr}
use native.Mathlib.Omega.{arith}
use lib.Dec.{ltb}
use lib.ListN.{length, take, drop, length-drop}
use lib.Seq.{drop-drop}
use borrow.Author.Tests.{lt-leb, le-leb, lt-ltb, le-ltb}
use Rattle.number.specs.Read.{Read, got, refused, then}
use Rattle.number.specs.Answer.{NumberAt}
use Rattle.number.specs.declared.Number.{Number}
use Rattle.number.specs.declared.Number.TheVariants as N
use Rattle.reading.specs.declared.Next.{Next}
use Rattle.reading.specs.declared.Next.TheVariants as X
use Rattle.job_rules.specs.Job as job
use Rattle.calls.specs.declared.Opened.{Opened}
use Rattle.calls.specs.declared.Opened.TheVariants as O
use Rattle.frame_table.specs.declared.FrameOpened.{FrameOpened}
use Rattle.frame_table.specs.declared.FrameOpened.TheVariants as F
use Rattle.frame_table.specs.Table.{number_of}
use Rattle.frame_table.specs.Opening.{FrameAs}
use Rattle.frame_calls.specs.Given.{opened_in, OpenedAs}
use Rattle.schedule.specs.Lists.{ListAt}
use Rattle.frame.specs.Opening.{shares_of, FrameAt, SharesAt, part_of, formula_of, FormulaAt, IfThere}

-- ---- a frame of these shares
module _ (limit : ℕ) (shares frame frame' : List ℕ) (next : ℕ) (r : FrameOpened) (h : FrameAs limit shares r frame frame') where
  pub refused-frame : (k : ℕ) → r ≡ F.Refused k → FrameAt (record { limit = limit; shares = shares }) frame' next (X.Refused k)
  refused-frame k e = let a : FrameAs limit shares (F.Refused k) frame frame' = rw e at h in inl a.0

  pub many-formulas : 2 < length shares → FrameAt (record { limit = limit; shares = shares }) frame' next (X.Refused 0)
  many-formulas l = inr (refl, l)

  pub few-formulas : r ≡ F.Yes → length shares ≤ 2 → FrameAt (record { limit = limit; shares = shares }) frame' next (X.At next)
  few-formulas e l = let a : FrameAs limit shares F.Yes frame frame' = rw e at h in (refl, (a.0, a.1, l))

-- ---- the frame that a schedule begins with
module _ (s : List ℕ) (r : Number) (h : NumberAt s 0 r) (frame' : List ℕ) where
  pub no-limit : (k : ℕ) → r ≡ N.Refused k → SharesAt s frame' (X.Refused k)
  unfolding shares_of
  no-limit k e = let a : NumberAt s 0 (N.Refused k) = rw e at h in inl (rw (← a.reads) refl)

  module _ (limit at : ℕ) (e : r ≡ N.Is limit at) (shares : List ℕ) (q : Number) (g : ListAt s at shares q) where
    limited : NumberAt s 0 (N.Is limit at)
    limited = rw e at h

    pub no-shares : (k : ℕ) → q ≡ N.Refused k → SharesAt s frame' (X.Refused k)
    unfolding shares_of
    no-shares k z = let b : ListAt s at shares (N.Refused k) = rw z at g in inl (rw (← limited.reads, b) refl)

    module _ (n next : ℕ) (z : q ≡ N.Is n next) (m : ℕ) (same : m ≡ n) where
      listed-so : ListAt s at shares (N.Is n next)
      listed-so = rw z at g

      pub few-shares : (m ≤ 1024) × (length shares ≡ 1024)
      few-shares = (omega (arith, same, listed-so.3), listed-so.4)

      read-so : shares_of s ≡ got (record { limit = limit; shares = take m shares }) (drop next s)
      unfolding shares_of
      read-so = rw (← limited.reads, listed-so.0, same) refl

      pub a-frame : (y : Next) → FrameAt (record { limit = limit; shares = take m shares }) frame' next y → SharesAt s frame' y
      a-frame (X.At j) f = (record { limit = limit; shares = take m shares }, rw f.0 read-so, f.1, rw f.0 listed-so.2)
      a-frame (X.Refused k) f = inr (record { limit = limit; shares = take m shares }, drop next s, read-so, f)

-- ---- a formula whose opening has n bytes
module _ (frame frame' : List ℕ) (i kept n : ℕ) (s : List ℕ) (at : ℕ) (t f cache cache' : List ℕ) where
  pub too_short : length s - at < n → FormulaAt frame frame i s at (part_of frame i kept n (drop at s)) (X.Refused 1) t f cache cache
  unfolding part_of
  too_short l = rw (lt-leb n (length (drop at s)) (rw (length-drop at s) l)) (refl, refl, refl)

  module _ (enough : n ≤ length s - at) (low : at ≤ length s) (o : Opened) (h : OpenedAs frame frame' i (opened_in frame i kept (take (at + n - at) (drop at s))) o t f cache cache') where
    given_so : OpenedAs frame frame' i (opened_in frame i kept (take n (drop at s))) o t f cache cache'
    given_so = let e : at + n - at ≡ n = omega arith in rw e at h

    abbrev left-of : Read job.Opened → Read job.Opened
    left-of x = then x (λ a q. got a (drop n (drop at s)))

    pub not-open : (k : ℕ) → o ≡ O.Refused k → FormulaAt frame frame' i s at (part_of frame i kept n (drop at s)) (X.Refused k) t f cache cache'
    unfolding part_of
    not-open k e = rw (le-leb n (length (drop at s)) (rw (length-drop at s) enough)) (go (opened_in frame i kept (take n (drop at s))) (rw e at given_so))
      where
        go : (x : Read job.Opened) → OpenedAs frame frame' i x (O.Refused k) t f cache cache' → FormulaAt frame frame' i s at (left-of x) (X.Refused k) t f cache cache'
        go (refused j) y = let w = y.0 in let z : k ≡ j = cc in (ap X.Refused z, y.3, y.4)
        go (got a q) y = let w = y.0 in absurd (let z : ◌≡◌ {A = ℕ} 0 1 = cc in omega arith)

    pub is_open : o ≡ O.Yes → FormulaAt frame frame' i s at (part_of frame i kept n (drop at s)) (X.At (at + n)) t f cache cache'
    unfolding part_of
    is_open e = rw (le-leb n (length (drop at s)) (rw (length-drop at s) enough)) (go (opened_in frame i kept (take n (drop at s))) (rw e at given_so))
      where
        go : (x : Read job.Opened) → OpenedAs frame frame' i x O.Yes t f cache cache' → FormulaAt frame frame' i s at (left-of x) (X.At (at + n)) t f cache cache'
        go (refused j) y = let w = y.0 in absurd (let z : ◌≡◌ {A = ℕ} 0 1 = cc in omega arith)
        go (got a q) y = (at + n, refl, drop-drop n at s, omega arith, omega arith, y)

-- ---- a formula
module _ (frame frame' : List ℕ) (i : ℕ) (s : List ℕ) (at : ℕ) (t f cache cache' : List ℕ) (r : Number) (h : NumberAt s at r) where
  pub no-setting : (k : ℕ) → r ≡ N.Refused k → FormulaAt frame frame i s at (formula_of frame i (drop at s)) (X.Refused k) t f cache cache
  unfolding formula_of
  no-setting k e = let a : NumberAt s at (N.Refused k) = rw e at h in rw (← a.reads) (refl, refl, refl)

  module _ (kept next : ℕ) (e : r ≡ N.Is kept next) (q : Number) (g : NumberAt s next q) where
    set_so : NumberAt s at (N.Is kept next)
    set_so = rw e at h

    pub no_length : (k : ℕ) → q ≡ N.Refused k → FormulaAt frame frame i s at (formula_of frame i (drop at s)) (X.Refused k) t f cache cache
    unfolding formula_of
    no_length k z = let b : NumberAt s next (N.Refused k) = rw z at g in rw (← set_so.reads, ← b.reads) (refl, refl, refl)

    module _ (n from : ℕ) (z : q ≡ N.Is n from) where
      long-so : NumberAt s next (N.Is n from)
      long-so = rw z at g

      pub within-bytes : from ≤ length s
      within-bytes = long-so.onward.1

      pub a-formula : (m : ℕ) → m ≡ n → (y : Next) → FormulaAt frame frame' i s from (part_of frame i kept m (drop from s)) y t f cache cache' → FormulaAt frame frame' i s at (formula_of frame i (drop at s)) y t f cache cache'
      unfolding formula_of
      a-formula m same y p =
          let p' : FormulaAt frame frame' i s from (part_of frame i kept n (drop from s)) y t f cache cache' = rw same at p in
          rw (← set_so.reads, ← long-so.reads) (go (part_of frame i kept n (drop from s)) p')
        where
          go : (x : Read job.Opened) → FormulaAt frame frame' i s from x y t f cache cache' → FormulaAt frame frame' i s at x y t f cache cache'
          go (refused k) w = w
          go (got a rest) w = (w.0, w.1, w.2, omega (arith, w.3, set_so.onward.0, long-so.onward.0), w.4, w.5)

-- ---- where there is one
module _ (frame frame' : List ℕ) (i n : ℕ) (is : n ≡ number_of frame) (s : List ℕ) (at : ℕ) (r : Next) (t f cache cache' : List ℕ) where
  pub there-is : i < n → FormulaAt frame frame' i s at (formula_of frame i (drop at s)) r t f cache cache' → IfThere (ltb i (number_of frame)) frame frame' i s at r t f cache cache'
  there-is l h = rw (lt-ltb i (number_of frame) (omega (arith, is, l))) h

  pub there-is-none : n ≤ i → IfThere (ltb i (number_of frame)) frame frame i s at (X.At at) t f cache cache
  there-is-none l = rw (le-ltb i (number_of frame) (omega (arith, is, l))) (refl, refl, refl)
