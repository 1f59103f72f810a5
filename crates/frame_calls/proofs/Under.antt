-- A call under a formula's grant, whatever the rules answer to it: the frame goes on with the slots that it made.
use Prim.Native.Nat.{ℕ, ◌<◌, ◌≤◌}
use mathlib.Core.Path.{◌≡◌, refl}
use mathlib.Core.List.{List}
use native.Mathlib.Omega.{arith}
use Rattle.rules.specs.Edit.{Edit}
use Rattle.rules.specs.Scratch.{Cache}
use Rattle.rules.specs.Patch.{Answer, refused, resolved}
use Rattle.slots.specs.Stacks.{cache_of}
use Rattle.parallel_moves.specs.declared.Grant.{Grant}
use Rattle.parallel_moves.specs.declared.Resolved as R
use Rattle.parallel_moves.specs.declared.Resolved.{Resolved}
use Rattle.parallel_moves.specs.Answers.{GivesGranted}
use Rattle.frame_table.specs.Table.{number_of, counter_of}
use Rattle.frame_table.specs.Steps.{WentOn}
use Rattle.frame_table.specs.Held.{FrameOk}
use Rattle.frame_table.proofs.Held.{went-ok}
use Rattle.frame_calls.specs.Given.{grant_of}
use Rattle.frame_calls.specs.Answers.{GivesIn}

module _ (frame : List ℕ) (ok : FrameOk frame) (i : ℕ) (there : i < number_of frame) (f cache : List ℕ) (g : Grant) (is : g ≡ grant_of frame i) (under : Grant → Answer)
    (on : (es : List Edit) (c : Cache) (n : ℕ) → under (grant_of frame i) ≡ resolved es c n → counter_of frame ≤ c.made) (list list' cache' : List ℕ) (r : Resolved)
    (h : GivesGranted f g (under g) r list list' cache cache') where
  abbrev answer : Answer
  answer = under (grant_of frame i)

  pub refused-under : (k : ℕ) → r ≡ R.TheVariants.Refused k → GivesIn frame frame i f answer (R.TheVariants.Refused k) list list' cache cache'
  refused-under k e = go answer (rw (is, e) at h)
    where
      go : (a : Answer) → GivesGranted f (grant_of frame i) a (R.TheVariants.Refused k) list list' cache cache' → GivesIn frame frame i f a (R.TheVariants.Refused k) list list' cache cache'
      go (refused n) h = (h.0, h.1, h.2, refl)
      go (resolved es c n) h = let e = h.0 in let z : ◌≡◌ {A = ℕ} 0 1 = cc in absurd (omega arith)

  module _ (m n : ℕ) (eq : r ≡ R.TheVariants.Edits m n) where
    -- the cache has the counter after it
    pub led-under : counter_of frame ≤ (cache_of cache').made
    led-under = go answer refl (rw (is, eq) at h)
      where
        go : (a : Answer) → answer ≡ a → GivesGranted f (grant_of frame i) a (R.TheVariants.Edits m n) list list' cache cache' → counter_of frame ≤ (cache_of cache').made
        go (refused k) e x = let y = x.0 in let z : ◌≡◌ {A = ℕ} 0 1 = cc in absurd (omega arith)
        go (resolved es c k) e x = rw x.4 (on es c k e)

    pub accepted-under : (frame' : List ℕ) → WentOn frame i (cache_of cache').made frame' → GivesIn frame frame' i f answer (R.TheVariants.Edits m n) list list' cache cache'
    accepted-under frame' w = go answer refl (rw (is, eq) at h)
      where
        go : (a : Answer) → answer ≡ a → GivesGranted f (grant_of frame i) a (R.TheVariants.Edits m n) list list' cache cache' → GivesIn frame frame' i f a (R.TheVariants.Edits m n) list list' cache cache'
        go (refused k) e x = let y = x.0 in let z : ◌≡◌ {A = ℕ} 0 1 = cc in absurd (omega arith)
        go (resolved es c k) e x =
            let low = on es c k e in
            let w' : WentOn frame i c.made frame' = rw x.4 at w in
            let to : counter_of frame' ≡ c.made = w'.counter in
            (x.0, x.1, x.2, x.3, x.4, x.6, x.7, w', went-ok frame i c.made frame' ok there low x.5.made w', record { fits = x.5.fits; stacks = rw to x.5.stacks }, low)
