-- A call of a formula beside the frame's table.
use Prim.Native.Nat.{ℕ, ◌+◌, ◌-◌, ◌<◌, ◌≤◌}
use mathlib.Core.Path.{◌≡◌, refl, sym, ap, subst, ◌∙◌}
use mathlib.Core.List.{List}
use mathlib.Core.Option.{Option, none, some}
use mathlib.Core.Logic.{⊎_elim}
use native.Mathlib.Omega.{arith}
use lib.ListN.{length}
use Rattle.reginfo.specs.RegInfo.{RegInfo}
use Rattle.reginfo.specs.Table.{reg_info_of}
use Rattle.function.specs.Function.{Function}
use Rattle.function.specs.Table.{function_of}
use Rattle.rules.specs.Edit.{Edit}
use Rattle.rules.specs.Scratch.{Cache}
use Rattle.rules.specs.Patch.{Answer, refused, resolved, unless_refused, resolve}
use Rattle.rules.specs.Refusals.{with_limit}
use Rattle.rules.proofs.Steps.{same?}
use Rattle.frame_rules.proofs.EnoughShare.{grows}
use Rattle.slots.specs.Stacks.{cache_of, stamp_of}
use Rattle.parallel_moves.specs.declared.asking.Asked as P
use Rattle.parallel_moves.specs.declared.asking.Asked.{Asked}
use Rattle.parallel_moves.specs.declared.asking.Preview.{Preview}
use Rattle.parallel_moves.specs.declared.Grant.{Grant}
use Rattle.parallel_moves.specs.declared.Resolved as R
use Rattle.parallel_moves.specs.declared.Resolved.{Resolved}
use Rattle.parallel_moves.specs.declared.asking.TakeAnswer as K
use Rattle.parallel_moves.specs.declared.asking.TakeAnswer.{TakeAnswer}
use Rattle.parallel_moves.specs.Given.{with_made, GrantOk}
use Rattle.parallel_moves.specs.Answers.{GivesGranted, Asks, Takes}
use Rattle.calls.specs.Call.{free_refusal, patch_of, call_of}
use Rattle.frame_table.specs.Table.{number_of, counter_of, made_of, reach_of}
use Rattle.frame_table.specs.Steps.{WentOn}
use Rattle.frame_table.specs.Held.{FrameOk}
use Rattle.frame_table.proofs.Held.{reach-low, went-ok}
use Rattle.frame_calls.specs.declared.FramePreview.{FramePreview}
use Rattle.frame_calls.specs.declared.FrameAsked as A
use Rattle.frame_calls.specs.Given.{grant_of, InFrame}
use Rattle.frame_calls.specs.Answers.{answer_of, GivesIn, AsksIn, CanTakeIn, TakesIn}
use Rattle.frame_calls.proofs.Under.{refused-under, led-under, accepted-under}

-- a call that is not refused: its free units pass, and its patch is resolved
pub called : (t : RegInfo) (f : Function) (free numbers : List ℕ) (room : ℕ) (c c' : Cache) (es : List Edit) (n : ℕ) → call_of t f free numbers room c ≡ resolved es c' n
    → (free_refusal t.units free ≡ none) × (resolve t f (patch_of free numbers) room c ≡ resolved es c' n)
unfolding call_of
called t f free numbers room c c' es n e = go (free_refusal t.units free) e
  where
    go : (o : Option ℕ) → unless_refused o (resolve t f (patch_of free numbers) room c) ≡ resolved es c' n → (o ≡ none) × (resolve t f (patch_of free numbers) room c ≡ resolved es c' n)
    go none e = (refl, e)
    go (some k) e = let z : ◌≡◌ {A = ℕ} 0 1 = cc in absurd (omega arith)

module _ (frame : List ℕ) (ok : FrameOk frame) (i : ℕ) (there : i < number_of frame) (t f cache : List ℕ) (g : Grant) (is : g ≡ grant_of frame i) where
  pub granted-ok : InFrame frame f cache → GrantOk f g cache
  granted-ok k =
      let r = reach-low frame ok i there in
      subst (λ (x : Grant). GrantOk f x cache) (sym is) (record { fits = k.fits; stacks = k.stacks; made = r.0; limit = omega (arith, r.1, ok.limit) })

  pub few : i < 16
  few = omega (arith, there, ok.number)

  module _ (free numbers list list' : List ℕ) where
    -- under a grant, and under formula i's
    abbrev under : Grant → Answer
    under g = call_of (reg_info_of t) (with_limit (reg_info_of t) (function_of f) g.limit) free numbers (length list) (with_made g.made (cache_of cache))

    abbrev answer : Answer
    answer = answer_of frame i t f free numbers (length list) cache

    -- the counter goes no way back
    goes_on : (es : List Edit) (c : Cache) (n : ℕ) → answer ≡ resolved es c n → counter_of frame ≤ c.made
    goes_on es c n e =
        grows (reg_info_of t) (with_limit (reg_info_of t) (function_of f) (reach_of frame i)) (patch_of free numbers) (length list) (with_made (counter_of frame) (cache_of cache)) c es n (reach-low frame ok i there).0
        (called (reg_info_of t) (with_limit (reg_info_of t) (function_of f) (reach_of frame i)) free numbers (length list) (with_made (counter_of frame) (cache_of cache)) c es n e).1

    -- ---- resolving
    module _ (cache' : List ℕ) (r : Resolved) (h : GivesGranted f g (under g) r list list' cache cache') where
      pub refused-call : (k : ℕ) → r ≡ R.TheVariants.Refused k → GivesIn frame frame i f answer (R.TheVariants.Refused k) list list' cache cache'
      refused-call = refused-under frame ok i there f cache g is under goes_on list list' cache' r h

      module _ (m n : ℕ) (eq : r ≡ R.TheVariants.Edits m n) where
        -- the cache has the counter after it
        pub led_on : counter_of frame ≤ (cache_of cache').made
        led_on = led-under frame ok i there f cache g is under goes_on list list' cache' r h m n eq

        pub accepted-call : (frame' : List ℕ) → WentOn frame i (cache_of cache').made frame' → GivesIn frame frame' i f answer (R.TheVariants.Edits m n) list list' cache cache'
        accepted-call = accepted-under frame ok i there f cache g is under goes_on list list' cache' r h m n eq

    -- ---- asking
    module _ (slots' : List ℕ) (r : Asked) (h : Asks f g.limit (under g) r list list' cache slots') where
      pub refused-asking : (k : ℕ) → r ≡ P.TheVariants.Refused k → AsksIn frame i f answer (A.TheVariants.Refused k) list list' cache slots'
      refused-asking k e = go answer (rw (is, e) at h)
        where
          go : (a : Answer) → Asks f (reach_of frame i) a (P.TheVariants.Refused k) list list' cache slots' → AsksIn frame i f a (A.TheVariants.Refused k) list list' cache slots'
          go (refused n) h = let e = h.0 in let z : k ≡ n = cc in (ap A.TheVariants.Refused z, h.1, h.2)
          go (resolved es c n) h = let e = h.0 in let z : ◌≡◌ {A = ℕ} 0 1 = cc in absurd (omega arith)

      module _ (m : ℕ) (a : Preview) (eq : r ≡ P.TheVariants.Ready m a) where
        pub asked-on : counter_of frame ≤ a.made
        asked-on = go answer refl (rw (is, eq) at h)
          where
            go : (x : Answer) → answer ≡ x → Asks f (reach_of frame i) x (P.TheVariants.Ready m a) list list' cache slots' → counter_of frame ≤ a.made
            go (refused k) e y = let q = y.0 in let z : ◌≡◌ {A = ℕ} 0 1 = cc in absurd (omega arith)
            go (resolved es c k) e y =
                let q = y.0 in
                let p : a ≡ record { made = c.made; position = k; stamp = stamp_of cache } = cc in
                rw p (goes_on es c k e)

        pub accepted-asking : (b : FramePreview)
            → b ≡ record { to = a.made; made = made_of frame i + (a.made - counter_of frame); position = a.position; stamp = a.stamp; counter = counter_of frame }
            → AsksIn frame i f answer (A.TheVariants.Ready m b) list list' cache slots'
        accepted-asking b bi = go answer refl (rw (is, eq) at h)
          where
            go : (x : Answer) → answer ≡ x → Asks f (reach_of frame i) x (P.TheVariants.Ready m a) list list' cache slots' → AsksIn frame i f x (A.TheVariants.Ready m b) list list' cache slots'
            go (refused k) e y = let q = y.0 in let z : ◌≡◌ {A = ℕ} 0 1 = cc in absurd (omega arith)
            go (resolved es c k) e y =
                let q = y.0 in
                let p : a ≡ record { made = c.made; position = k; stamp = stamp_of cache } = cc in
                let n : m ≡ length es = cc in
                (rw (bi, p, n) refl, y.1, y.2, y.3, goes_on es c k e)

-- ---- taking
pub same-counter : (frame : List ℕ) (a : FramePreview) (n : ℕ) → n ≡ counter_of frame → n ≡ a.counter → a.counter ≡ counter_of frame
same-counter frame a n e h = sym h ∙ e

module _ (frame : List ℕ) (i : ℕ) (a : FramePreview) (slots cache : List ℕ) where
  abbrev own : Preview
  own = record { made = a.to; position = a.position; stamp = a.stamp }

  pub counter-other : (counter_of frame ≡ a.counter → ⊥) → TakesIn frame frame i a slots cache (K.TheVariants.Refused 20) cache
  counter-other d = record { same = λ s e. absurd (d (sym e)); other = λ _. (refl, refl, refl) }

  module _ (cache' : List ℕ) (r : TakeAnswer) (h : Takes own slots cache r cache') where
    pub stamp-other : (k : ℕ) → r ≡ K.TheVariants.Refused k → TakesIn frame frame i a slots cache (K.TheVariants.Refused k) cache'
    stamp-other k e = ⊎_elim yes no (same? a.stamp (stamp_of cache))
      where
        yes : a.stamp ≡ stamp_of cache → TakesIn frame frame i a slots cache (K.TheVariants.Refused k) cache'
        yes s = let q = (h.same s).0 in let z : ◌≡◌ {A = ℕ} 0 1 = cc in absurd (omega arith)

        no : (a.stamp ≡ stamp_of cache → ⊥) → TakesIn frame frame i a slots cache (K.TheVariants.Refused k) cache'
        no d = let q = h.other d in record { same = λ s c. absurd (d s); other = λ _. (sym e ∙ q.0, q.1, refl) }

    module _ (eq : r ≡ K.TheVariants.Yes) where
      pub stamp-same : a.stamp ≡ stamp_of cache
      stamp-same = ⊎_elim (λ s. s) (λ d. let q = (h.other d).0 in let z : ◌≡◌ {A = ℕ} 0 1 = cc in absurd (omega arith)) (same? a.stamp (stamp_of cache))

      pub taken : FrameOk frame → i < number_of frame → a.counter ≡ counter_of frame → CanTakeIn frame i a slots cache → (frame' : List ℕ) → WentOn frame i a.to frame'
          → TakesIn frame frame' i a slots cache K.TheVariants.Yes cache'
      taken ok there c can frame' w =
          record {
            same = λ s e. (refl, (h.same s).1, w, went-ok frame i a.to frame' ok there can.on can.within w);
            other = λ d. absurd (⊎_elim (λ x. x stamp-same) (λ x. x c) d);
          }
