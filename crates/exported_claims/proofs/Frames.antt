-- What the numbers set by a frame's exported calls say is what Rattle's own calls promise; so all that is claimed of these holds of them.
use Prim.Native.Nat.{ℕ}
use mathlib.Core.Path.{◌≡◌, refl, sym, ap, ◌∙◌}
use mathlib.Core.Bool.{Bool, true, false}
use mathlib.Core.List.{List, [], ◌∷◌}
use mathlib.Core.Option.{Option, none, some}
use native.Mathlib.Omega.{arith}
use lib.Dec.{eqb}
use lib.ListN.{length, get_or, length-map}
use borrow.Author.Tests.{eqb-true, eqb-false}
use Rattle.reginfo.specs.Table.{reg_info_of}
use Rattle.function.specs.Table.{function_of}
use Rattle.rules.specs.Patch.{Answer, refused, resolved}
use Rattle.rules.specs.Refusals.{with_limit}
use Rattle.slots.specs.Stacks.{cache_of}
use Rattle.parallel_moves.specs.declared.asking.TakeAnswer as K
use Rattle.parallel_moves.specs.Given.{with_made}
use Rattle.frame_table.specs.Table.{counter_of, reach_of}
use Rattle.frame_calls.specs.declared.FramePreview.{FramePreview}
use Rattle.frame_calls.specs.declared.FrameAsked as A
use Rattle.frame_calls.specs.Answers.{GivesIn, AsksIn, TakesIn}
use Rattle.frame_c.specs.Called.{ResolvedBy, AskedBy, TakenBy}
use Rattle.frame_claim.specs.Claim as claim
use Rattle.frame_claim.specs.Claim.{State, Left}
use Rattle.frame_claim.specs.Opening.{inlined_of, formulas_of, targets_of, functions_of, caches_of, frame_after}
use Rattle.frame_claim.proofs.Claimed.{shared-frame}
use Rattle.exported_claims.specs.Frames.{Kind, resolves, groups, asks, takes, Made, resolved_if, asked_if, taken_if, kind_said, said_of, said, TookAs, DidAs, Called, SharedFrame}
use Rattle.exported_claims.proofs.Numbers.{of-call, of-call-by-groups}
use Rattle.exported_claims.proofs.Openings.{frame-begun}

module _ (frame frame' : List ℕ) (i : ℕ) (f list list' cache cache' : List ℕ) where
  gives : (a : Answer) → (a ≡ refused 0 → ⊥) → (count refusal position position' : ℕ)
      → ResolvedBy frame frame' i f a count refusal position position' list list' cache cache'
      → GivesIn frame frame' i f a (resolved_if (eqb refusal 0) count refusal position') list list' cache cache'
  gives (refused n) h count refusal position position' g = go (eqb refusal 0) refl
    where
      go : (b : Bool) → eqb refusal 0 ≡ b → GivesIn frame frame' i f (refused n) (resolved_if b count refusal position') list list' cache cache'
      go true e = absurd (h (ap refused (sym g.1 ∙ eqb-true refusal 0 e)))
      go false e = (ap some g.1, g.3, g.4, g.5)
  gives (resolved es c n) h count refusal position position' g = go (eqb refusal 0) refl
    where
      go : (b : Bool) → eqb refusal 0 ≡ b → GivesIn frame frame' i f (resolved es c n) (resolved_if b count refusal position') list list' cache cache'
      go true e = (refl, g.0, g.3, g.4, g.5, g.2, g.6, g.7, g.8, g.9, g.10)
      go false e = absurd (eqb-false refusal 0 e g.1)

  asked : (slots : List ℕ) (a : Answer) → (a ≡ refused 0 → ⊥) → (count refusal : ℕ) (before left : FramePreview)
      → AskedBy frame i f a count refusal before left list list' cache slots
      → AsksIn frame i f a (asked_if (eqb refusal 0) count refusal left) list list' cache slots
  asked slots (refused n) h count refusal before left g = go (eqb refusal 0) refl
    where
      go : (b : Bool) → eqb refusal 0 ≡ b → AsksIn frame i f (refused n) (asked_if b count refusal left) list list' cache slots
      go true e = absurd (h (ap refused (sym g.1 ∙ eqb-true refusal 0 e)))
      go false e = (ap A.TheVariants.Refused g.1, g.3, g.4)
  asked slots (resolved es c n) h count refusal before left g = go (eqb refusal 0) refl
    where
      go : (b : Bool) → eqb refusal 0 ≡ b → AsksIn frame i f (resolved es c n) (asked_if b count refusal left) list list' cache slots
      go true e = (rw (g.0, g.2) refl, g.3, g.4, g.5, g.6)
      go false e = absurd (eqb-false refusal 0 e g.1)

took : (frame frame' : List ℕ) (i : ℕ) (a : FramePreview) (slots cache : List ℕ) (answer : ℕ) (cache' : List ℕ)
    → TakenBy frame frame' i a.to a.stamp a.counter slots cache answer cache' → TakesIn frame frame' i a slots cache (taken_if (eqb answer 0) answer) cache'
took frame frame' i a slots cache answer cache' g =
    record {
      same = λ e q. let y = g.same e q in (yes y.0 (eqb answer 0) refl, y.1, y.2, y.3);
      other = λ e. let y = g.other e in (late y.0 (eqb answer 0) refl, y.1, y.2);
    }
  where
    yes : answer ≡ 0 → (b : Bool) → eqb answer 0 ≡ b → taken_if b answer ≡ K.TheVariants.Yes
    yes h true e = refl
    yes h false e = absurd (eqb-false answer 0 e h)

    late : answer ≡ 20 → (b : Bool) → eqb answer 0 ≡ b → taken_if b answer ≡ K.TheVariants.Refused 20
    late h true e = absurd (let z = eqb-true answer 0 e in omega (arith, z, h))
    late h false e = ap K.TheVariants.Refused h

module _ (t f : ℕ → List ℕ) where
  took-as : (k : State) (i : ℕ) (o : Option Left) (answer : ℕ) (frame cache : List ℕ) → TookAs t f k i o answer frame cache
      → claim.TookAs t f k i o (taken_if (eqb answer 0) answer) frame cache
  took-as k i none answer frame cache h = h
  took-as k i (some a) answer frame cache h =
      λ ok low can. took k.frame frame i a.preview a.slots (k.cache i) answer cache
      (h ok low (λ e q. let c = can e q in record { can = c.can; on = c.on; within = c.within }))

  did : (k : State) (i : ℕ) (x : Kind) (frame cache : List ℕ) → DidAs t f k i x frame cache → claim.DidAs t f k i (kind_said x) frame cache
  did k i (resolves free numbers list position count refusal position' after) frame cache h =
      λ ok. gives k.frame frame i (f i) list after (k.cache i) cache _
      (of-call (reg_info_of (t i)) (with_limit (reg_info_of (t i)) (function_of (f i)) (reach_of k.frame i)) free numbers (length list) (with_made (counter_of k.frame) (cache_of (k.cache i))))
      count refusal position position' (h ok)
  did k i (groups free numbers list position count refusal position' after) frame cache h =
      λ ok. gives k.frame frame i (f i) list after (k.cache i) cache _
      (of-call-by-groups (reg_info_of (t i)) (with_limit (reg_info_of (t i)) (function_of (f i)) (reach_of k.frame i)) ok.0.target free numbers (length list)
      (with_made (counter_of k.frame) (cache_of (k.cache i))))
      count refusal position position' (h ok)
  did k i (asks free numbers list before count refusal left after slots) frame cache h =
      λ ok. let g = h ok in (
        asked k.frame frame i (f i) list after (k.cache i) cache slots _
            (of-call (reg_info_of (t i)) (with_limit (reg_info_of (t i)) (function_of (f i)) (reach_of k.frame i)) free numbers (length list) (with_made (counter_of k.frame) (cache_of (k.cache i))))
            count refusal before left g.0,
        g.1,
        g.2,
      )
  did k i (takes n answer) frame cache h = took-as k i (get_or (k.asked i) n none) answer frame cache h

  all-did : (made : List Made) (k : State) → Called t f made k → claim.Called t f (said made) k
  all-did [] k h = tt
  all-did (x ∷ l) k h = (did k x.formula x.kind x.frame x.cache h.0, all-did l (claim.after t f k (said_of x)) h.1)

pub shared : SharedFrame
shared limit before frame l o made named h =
    let many : length (formulas_of l) ≡ length l = length-map l inlined_of in
    shared-frame (targets_of l) (functions_of l) limit (formulas_of l) (frame_after frame l) (caches_of l) (frame-begun limit before frame l o) (said made) (rw many named)
    (all-did (targets_of l) (functions_of l) made (claim.begun (targets_of l) (functions_of l) (frame_after frame l) (caches_of l)) h)
