-- What the calls of a frame answer, as counts and numbers.
use Prim.Native.Nat.{ℕ, ◌<◌}
use mathlib.Core.Path.{◌≡◌, refl, sym, ap, ◌∙◌}
use mathlib.Core.Bool.{Bool, true, false}
use mathlib.Core.List.{List}
use mathlib.Core.Option.{Option, none, some}
use mathlib.Core.Logic.{⊎_elim}
use native.Mathlib.Omega.{arith}
use lib.Dec.{ltb}
use borrow.Author.Tests.{ltb-true}
use Rattle.entity.proofs.Laws.{and-true}
use Rattle.reginfo.specs.Refused.{first_of}
use Rattle.rules.specs.Patch.{Answer, refused, resolved}
use Rattle.number.specs.Read as read
use Rattle.number.specs.Read.{Read}
use Rattle.parallel_moves.specs.declared.Resolved.TheVariants as R
use Rattle.parallel_moves.specs.declared.asking.TakeAnswer.TheVariants as K
use Rattle.job_rules.specs.Job as job
use Rattle.calls.specs.declared.Opened.TheVariants as O
use Rattle.frame_table.specs.declared.FrameOpened.TheVariants as Q
use Rattle.frame_table.specs.Opening.{share_conditions, FrameAs}
use Rattle.frame_calls.specs.declared.FrameAsked.TheVariants as A
use Rattle.frame_calls.specs.declared.FramePreview.{FramePreview}
use Rattle.frame_table.specs.Table.{number_of, opens_next}
use Rattle.frame_table.specs.Steps.{OneOpened}
use Rattle.frame_table.specs.Held.{FrameOk}
use Rattle.frame_table.proofs.Held.{open-ok}
use Rattle.frame_calls.specs.Given.{OpenedAs, InFrame}
use Rattle.frame_calls.specs.Answers.{GivesIn, preview_in, AsksIn, TakesIn}
use Rattle.frame_c.specs.Called.{FrameBy, FormulaBy, FormulaIf, ResolvedBy, AskedBy, preview_of, TakenBy}

module _ (limit : ℕ) (shares frame frame' : List ℕ) where
  pub frame-open : FrameAs limit shares Q.Yes frame frame' → FrameBy limit shares (first_of (share_conditions limit shares)) 0 frame frame'
  frame-open h = rw h.0 (refl, h.1)

  pub frame_refused : (k : ℕ) → FrameAs limit shares (Q.Refused k) frame frame' → FrameBy limit shares (first_of (share_conditions limit shares)) k frame frame'
  frame_refused k h = rw h.0 (refl, h.1)

-- the next formula is below the 16
pub next_low : (frame : List ℕ) (i : ℕ) → FrameOk frame → opens_next frame i ≡ true → i < 16
unfolding opens_next
next_low frame i k e = let l = ltb-true i (number_of frame) (and-true (ltb i (number_of frame)) _ e).0 in omega (arith, k.number, l)

module _ (frame frame' : List ℕ) (i : ℕ) (x : Read job.Opened) (t t' f f' cache cache' : List ℕ) where
  pub formula-late : opens_next frame i ≡ false → frame' ≡ frame → t' ≡ t → f' ≡ f → cache' ≡ cache → FormulaIf (opens_next frame i) frame frame' i x 2 t t' f f' cache cache'
  formula-late e fe te fne ce = rw e (refl, te, fne, ce, fe)

  pub formula-open : opens_next frame i ≡ true → (frame'' : List ℕ) → OpenedAs frame frame'' i x O.Yes t' f' cache cache' → OneOpened frame'' i frame' → FormulaIf (opens_next frame i) frame frame' i x 0 t t' f f' cache cache'
  formula-open e frame'' h o = rw e (go x h)
    where
      go : (x : Read job.Opened) → OpenedAs frame frame'' i x O.Yes t' f' cache cache' → FormulaBy frame frame' i x 0 t' f' cache cache'
      go (read.refused k) h = let e = h.0 in absurd (let z : ◌≡◌ {A = ℕ} 0 1 = cc in omega arith)
      go (read.got x rest) h =
          let stands : InFrame frame' f' cache' = record { fits = h.5.fits; stacks = rw (o.rest 2 (λ q. omega arith)) h.5.stacks } in
          (refl, h.1, h.2, h.3, h.4, stands, record { noted = frame''; slots = h.6; one = o }, open-ok frame'' i frame' h.7 o)

  pub formula-refused : opens_next frame i ≡ true → (k : ℕ) → OpenedAs frame frame' i x (O.Refused k) t' f' cache cache' → FormulaIf (opens_next frame i) frame frame' i x k t t' f f' cache cache'
  formula-refused e k h = rw e (go x h)
    where
      go : (x : Read job.Opened) → OpenedAs frame frame' i x (O.Refused k) t' f' cache cache' → FormulaBy frame frame' i x k t' f' cache cache'
      go (read.refused j) h = let e = h.0 in let z : k ≡ j = cc in (z, tt, tt, h.3, h.4)
      go (read.got x rest) h = let e = h.0 in absurd (let z : ◌≡◌ {A = ℕ} 0 1 = cc in omega arith)

module _ (frame frame' : List ℕ) (i : ℕ) where
  module _ (f : List ℕ) (position : ℕ) (list list' cache cache' : List ℕ) where
    pub gave-edits : (a : Answer) (n m : ℕ) → GivesIn frame frame' i f a (R.Edits n m) list list' cache cache' → ResolvedBy frame frame' i f a n 0 position m list list' cache cache'
    gave-edits (refused k) n m h = let e = h.0 in absurd (let z : ◌≡◌ {A = ℕ} 0 1 = cc in omega arith)
    gave-edits (resolved es c j) n m h = (h.1, refl, h.5, h.2, h.3, h.4, h.6, h.7, h.8, h.9, h.10)

    pub gave-number : (a : Answer) (k : ℕ) → GivesIn frame frame' i f a (R.Refused k) list list' cache cache' → ResolvedBy frame frame' i f a 0 k position position list list' cache cache'
    gave-number (refused n) k h = let q = h.0 in let e : k ≡ n = cc in (refl, e, refl, h.1, h.2, h.3)
    gave-number (resolved es c j) k h = let e = h.0 in absurd (let z : ◌≡◌ {A = ℕ} 0 1 = cc in omega arith)

module _ (frame : List ℕ) (i : ℕ) (f : List ℕ) (old : FramePreview) (list list' cache slots' : List ℕ) where
  pub gave-preview : (r : Answer) (n : ℕ) (a : FramePreview) → AsksIn frame i f r (A.Ready n a) list list' cache slots' → AskedBy frame i f r n 0 old a list list' cache slots'
  gave-preview (refused k) n a h = let q = h.0 in absurd (let z : ◌≡◌ {A = ℕ} 0 1 = cc in omega arith)
  gave-preview (resolved es c j) n a h = let q = h.0 in let e : ◌≡◌ {A = FramePreview} a (preview_in frame i c j cache) = cc in (cc, refl, e, h.1, h.2, h.3, h.4)

  pub gave-refusal : (r : Answer) (k : ℕ) → AsksIn frame i f r (A.Refused k) list list' cache slots' → AskedBy frame i f r 0 k old old list list' cache slots'
  gave-refusal (refused n) k h = let q = h.0 in let e : k ≡ n = cc in (refl, e, refl, h.1, h.2)
  gave-refusal (resolved es c j) k h = let q = h.0 in absurd (let z : ◌≡◌ {A = ℕ} 0 1 = cc in omega arith)

module _ (frame frame' : List ℕ) (i : ℕ) (a : FramePreview) (slots cache cache' : List ℕ) where
  pub was-taken : TakesIn frame frame' i a slots cache K.Yes cache' → TakenBy frame frame' i a.to a.stamp a.counter slots cache 0 cache'
  was-taken h =
      record {
        same = λ e u. let q = h.same e u in (refl, q.1, q.2, q.3);
        other = λ n. absurd (let q = (h.other n).0 in let z : ◌≡◌ {A = ℕ} 0 1 = cc in omega arith);
      }

  pub was-late : (k : ℕ) → TakesIn frame frame' i a slots cache (K.Refused k) cache' → TakenBy frame frame' i a.to a.stamp a.counter slots cache k cache'
  was-late k h =
      record {
        same = λ e u. absurd (let q = (h.same e u).0 in let z : ◌≡◌ {A = ℕ} 0 1 = cc in omega arith);
        other = λ n. let d = h.other n in let q = d.0 in let z : k ≡ 20 = cc in (z, d.1, d.2);
      }
