-- From the opening on both formulas stand, call by call.
use Prim.Native.Nat.{ℕ, ◌+◌, ◌<◌, ◌≤◌}
use mathlib.Core.Path.{◌≡◌, refl, ap}
use mathlib.Core.Bool.{Bool, true, false}
use mathlib.Core.List.{List}
use native.Mathlib.Omega.{arith}
use lib.Dec.{ltb}
use lib.ListN.{length, drop}
use borrow.Author.Tests.{ltb-false}
use Rattle.std.specs.Prelude.{Option, None}
use Rattle.number.specs.Read.{Read, got, refused}
use Rattle.reading.specs.declared.Next.{Next}
use Rattle.reading.specs.declared.Next.TheVariants as X
use Rattle.number.specs.declared.Number.{Number}
use Rattle.number.specs.declared.Number.TheVariants as N
use Rattle.reading.specs.Reading.{between}
use Rattle.reading.specs.Answer.{ReadAt}
use Rattle.reading.proofs.Laws.{in-range}
use Rattle.job_rules.specs.Job as job
use Rattle.slots.specs.Stacks.{stamp_of}
use Rattle.slots.proofs.Stamps.{fresh-cleared, stamp-first}
use Rattle.frame_table.specs.Table.{number_of}
use Rattle.frame_table.specs.Held.{FrameOk}
use Rattle.frame_table.proofs.Held.{filled_ok}
use Rattle.frame_calls.specs.declared.FramePreview.{FramePreview}
use Rattle.schedule.specs.Standing.{Stands, FrameOn}
use Rattle.schedule.proofs.Standing.{stays_on, noted-on, other-stands}
use Rattle.frame.specs.Opening.{SharesAt, formula_of, FormulaAt, IfThere}
use Rattle.frame.specs.Running.{StandsIf, BothOpen, AllAt, Both, Goes}

-- ---- opened
pub record FrameOpen (s frame : List ℕ) (at : ℕ) : Type 0 where
  pub ok : FrameOk frame
  pub few : number_of frame ≤ 2
  pub within : at ≤ length s

pub frame-open : (s frame : List ℕ) (r : Next) (at : ℕ) → r ≡ X.At at → SharesAt s frame r → FrameOpen s frame at
frame-open s frame r at e h =
    let a : SharesAt s frame (X.At at) = rw e at h in
    let x = a.0 in
    let g = a.2 in
    record { ok = filled_ok x.limit x.shares frame g.0 g.1; few = omega (arith, g.1.number, g.2); within = a.3 }

-- a formula that is open stands, whatever its table of slots holds
module _ (frame frame' : List ℕ) (i : ℕ) (s : List ℕ) (at next : ℕ) (t f cache cache' : List ℕ) (ok : FrameOk frame) (low : at ≤ length s) where
  pub record Opens : Type 0 where
    pub fine : FrameOk frame'
    pub on : FrameOn frame frame'
    pub stands : (slots : List ℕ) → StandsIf frame' i t f cache' slots None next
    pub ahead : at ≤ next
    pub within : next ≤ length s

  formula-open : FormulaAt frame frame' i s at (formula_of frame i (drop at s)) (X.At next) t f cache cache' → Opens
  formula-open h = go (formula_of frame i (drop at s)) h
    where
      go : (x : Read job.Opened) → FormulaAt frame frame' i s at x (X.At next) t f cache cache' → Opens
      go (refused k) y = let w = y.0 in absurd (let z : ◌≡◌ {A = ℕ} 0 1 = cc in omega arith)
      go (got a rest) y =
          let w = y.1 in
          let e : next ≡ y.0 = cc in
          let o = y.5 in
          record {
            fine = o.7;
            on = noted-on frame i a.function.slots frame' o.6;
            stands = λ slots l. record { checked = o.3; in_frame = o.5; start = stamp_of cache'; count = 0; stamp = stamp-first (stamp_of cache') (fresh-cleared cache' o.4).stamp; low = omega arith; waits = tt };
            ahead = omega (arith, e, y.3);
            within = omega (arith, e, y.4);
          }

  pub opens : (r : Next) → r ≡ X.At next → IfThere (ltb i (number_of frame)) frame frame' i s at r t f cache cache' → Opens
  opens r e h = go (ltb i (number_of frame)) refl (rw e at h)
    where
      go : (b : Bool) → ltb i (number_of frame) ≡ b → IfThere b frame frame' i s at (X.At next) t f cache cache' → Opens
      go true q y = formula-open y
      go false q y =
          let w = y.0 in
          let z : next ≡ at = cc in
          let n = ltb-false i (number_of frame) q in
          let same : frame' ≡ frame = y.2 in
          record {
            fine = rw same ok;
            on = rw same (stays_on frame);
            stands = λ slots l. absurd (omega (arith, n, l, ap number_of same));
            ahead = omega (arith, z);
            within = omega (arith, z, low);
          }

-- ---- a formula that made no call
pub other-if : (frame frame' : List ℕ) (i : ℕ) (t f cache slots : List ℕ) (left : Option FramePreview) (n m : ℕ) → FrameOn frame frame' → n ≤ m → StandsIf frame i t f cache slots left n → StandsIf frame' i t f cache slots left m
other-if frame frame' i t f cache slots left n m o l h = λ there. let k : i < number_of frame = omega (arith, o.number, there) in other-stands frame frame' i t f cache slots left n m o k l (h k)

-- both are open
pub both-open : (frame frame₁ frame₂ s : List ℕ) (at next : ℕ) (t₁ f₁ cache₁ cache₁' t₂ f₂ cache₂ cache₂' : List ℕ) (start : FrameOpen s frame at)
    (a : Opens frame frame₁ 0 s at next t₁ f₁ cache₁ cache₁' start.ok start.within) (r : Next)
    → IfThere (ltb 1 (number_of frame₁)) frame₁ frame₂ 1 s next r t₂ f₂ cache₂ cache₂' → AllAt frame₂ t₁ f₁ cache₁' t₂ f₂ cache₂' s r
both-open frame frame₁ frame₂ s at next t₁ f₁ cache₁ cache₁' t₂ f₂ cache₂ cache₂' start a (X.Refused k) h = tt
both-open frame frame₁ frame₂ s at next t₁ f₁ cache₁ cache₁' t₂ f₂ cache₂ cache₂' start a (X.At end) h =
    let b = opens frame₁ frame₂ 1 s next end t₂ f₂ cache₂ cache₂' a.fine a.within (X.At end) refl h in
    record {
      ok = b.fine;
      few = omega (arith, b.on.number, a.on.number, start.few);
      one = λ slots. other-if frame₁ frame₂ 0 t₁ f₁ cache₁' slots None next end b.on b.ahead (a.stands slots);
      two = b.stands;
      within = b.within;
    }

-- ---- between the calls
pub goes_first : (frame t₁ f₁ cache₁ slots₁ t₂ f₂ cache₂ slots₂ s : List ℕ) (at : ℕ) → BothOpen frame t₁ f₁ cache₁ t₂ f₂ cache₂ s at
    → Goes frame t₁ f₁ cache₁ slots₁ t₂ f₂ cache₂ slots₂ s (record { at = at; calls = 0; one = None; two = None })
goes_first frame t₁ f₁ cache₁ slots₁ t₂ f₂ cache₂ slots₂ s at b =
    record { ok = b.ok; few = b.few; own = b.one slots₁; other = b.two slots₂; counted = omega arith; within = b.within }

module _ (frame s : List ℕ) (at calls : ℕ) (i : ℕ) (t f cache slots : List ℕ) (left : Option FramePreview) (j : ℕ) (t' f' cache' slots' : List ℕ) (left' : Option FramePreview)
    (g : Both frame s at calls i t f cache slots left j t' f' cache' slots' left') where
  -- either of the two can make the next call
  pub exchanged : Both frame s at calls j t' f' cache' slots' left' i t f cache slots left
  exchanged = record { ok = g.ok; few = g.few; own = g.other; other = g.own; counted = g.counted; within = g.within }

  -- it stands at the offset past its number
  pub own-stands : (next : ℕ) → at < next → i < number_of frame → Stands frame i t f cache slots left next
  own-stands next over there = other-if frame frame i t f cache slots left at next (stays_on frame) (omega arith) g.own there

  -- after its call both stand
  pub called : (next : ℕ) → at < next → (frame'' cache'' slots'' : List ℕ) (left'' : Option FramePreview) (at'' : ℕ)
      → FrameOk frame'' × FrameOn frame frame'' × Stands frame'' i t f cache'' slots'' left'' at'' × (next ≤ at'') × (at'' ≤ length s)
      → Both frame'' s at'' (calls + 1) i t f cache'' slots'' left'' j t' f' cache' slots' left' × (at < at'')
  called next over frame'' cache'' slots'' left'' at'' c =
      let ahead : at < at'' = omega (arith, over, c.3) in (
        record {
          ok = c.0;
          few = omega (arith, g.few, c.1.number);
          own = λ _. c.2;
          other = other-if frame frame'' j t' f' cache' slots' left' at at'' c.1 (omega (arith, ahead)) g.other;
          counted = omega (arith, g.counted, ahead);
          within = c.4;
        },
        ahead,
      )

  -- what is no call ends the schedule
  pub ended : (at'' : ℕ) → at < length s → at'' ≡ length s → Both frame s at'' calls i t f cache slots left j t' f' cache' slots' left' × (at < at'')
  ended at'' l e = (
    record {
      ok = g.ok;
      few = g.few;
      own = other-if frame frame i t f cache slots left at at'' (stays_on frame) (omega (arith, e)) g.own;
      other = other-if frame frame j t' f' cache' slots' left' at at'' (stays_on frame) (omega (arith, e)) g.other;
      counted = omega (arith, e, g.counted);
      within = omega (arith, e);
    },
    omega (arith, e),
  )

-- the formula that a call names
pub record Names (s : List ℕ) (at n formula next : ℕ) : Type 0 where
  pub low : 1 ≤ formula
  pub high : formula ≤ n
  pub ahead : at < next
  pub within : next ≤ length s

pub named : (s : List ℕ) (at n : ℕ) (r : Number) → ReadAt (between 1 n) s at r → (formula next : ℕ) → r ≡ N.Is formula next → Names s at n formula next
named s at n r h formula next e =
    let a : ReadAt (between 1 n) s at (N.Is formula next) = rw e at h in
    let w = in-range 1 n s at formula next a in
    record { low = w.0; high = w.1; ahead = a.onward.0; within = a.onward.1 }
