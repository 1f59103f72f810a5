-- A call by groups of a formula: no slot fewer is made, and the frame goes on with it.
use Prim.Native.Nat.{ℕ, ◌<◌, ◌≤◌}
use mathlib.Core.Path.{◌≡◌}
use mathlib.Core.List.{List}
use mathlib.Core.Option.{Option, none, some}
use native.Mathlib.Omega.{arith}
use lib.ListN.{length}
use Rattle.reginfo.specs.RegInfo.{RegInfo}
use Rattle.reginfo.specs.Table.{reg_info_of}
use Rattle.function.specs.Function.{Function}
use Rattle.function.specs.Table.{function_of}
use Rattle.rules.specs.Edit.{Edit}
use Rattle.rules.specs.Scratch.{Cache}
use Rattle.rules.specs.Patch.{Answer, resolved, unless_refused}
use Rattle.rules.specs.Refusals.{with_limit}
use Rattle.slots.specs.Stacks.{cache_of}
use Rattle.parallel_moves.specs.declared.Grant.{Grant}
use Rattle.parallel_moves.specs.declared.Resolved as R
use Rattle.parallel_moves.specs.declared.Resolved.{Resolved}
use Rattle.parallel_moves.specs.Given.{with_made}
use Rattle.parallel_moves.specs.Answers.{GivesGranted}
use Rattle.calls.specs.Call.{free_refusal, patch_of}
use Rattle.group_rules.specs.Groups.{parts, resolve_by_groups}
use Rattle.group_rules.proofs.Joined.{passed-whole}
use Rattle.group_rules.proofs.Lifted.{parts-make}
use Rattle.group_calls.specs.Call.{call_by_groups}
use Rattle.frame_table.specs.Table.{number_of, counter_of, reach_of}
use Rattle.frame_table.specs.Steps.{WentOn}
use Rattle.frame_table.specs.Held.{FrameOk}
use Rattle.frame_table.proofs.Held.{reach-low}
use Rattle.frame_calls.specs.Given.{grant_of}
use Rattle.frame_calls.specs.Answers.{GivesIn}
use Rattle.frame_calls.proofs.Under.{refused-under, led-under, accepted-under}
use Rattle.frame_groups.specs.Answer.{groups_answer}

-- a resolved call by groups makes no slot fewer
grows : (t : RegInfo) (f : Function) (l : ℕ) (free numbers : List ℕ) (room : ℕ) (c c' : Cache) (es : List Edit) (n : ℕ) → c.made ≤ l → call_by_groups t (with_limit t f l) free numbers room c ≡ resolved es c' n
    → c.made ≤ c'.made
unfolding call_by_groups
grows t f l free numbers room c c' es n h e = go (free_refusal t.units free) e
  where
    go : (o : Option ℕ) → unless_refused o (resolve_by_groups t (with_limit t f l) (patch_of free numbers) room c) ≡ resolved es c' n → c.made ≤ c'.made
    go none e = parts-make t f l (parts t (patch_of free numbers)) room c c' es n h (passed-whole t (with_limit t f l) (patch_of free numbers) room c c' es n e).1
    go (some k) e = let z : ◌≡◌ {A = ℕ} 0 1 = cc in absurd (omega arith)

module _ (frame : List ℕ) (ok : FrameOk frame) (i : ℕ) (there : i < number_of frame) (t f cache : List ℕ) (g : Grant) (is : g ≡ grant_of frame i) (free numbers list list' : List ℕ) where
  abbrev under : Grant → Answer
  under g = call_by_groups (reg_info_of t) (with_limit (reg_info_of t) (function_of f) g.limit) free numbers (length list) (with_made g.made (cache_of cache))

  abbrev answer : Answer
  answer = groups_answer frame i t f free numbers (length list) cache

  goes_on : (es : List Edit) (c : Cache) (n : ℕ) → answer ≡ resolved es c n → counter_of frame ≤ c.made
  goes_on es c n e = grows (reg_info_of t) (function_of f) (reach_of frame i) free numbers (length list) (with_made (counter_of frame) (cache_of cache)) c es n (reach-low frame ok i there).0 e

  module _ (cache' : List ℕ) (r : Resolved) (h : GivesGranted f g (under g) r list list' cache cache') where
    pub refused-call : (k : ℕ) → r ≡ R.TheVariants.Refused k → GivesIn frame frame i f answer (R.TheVariants.Refused k) list list' cache cache'
    refused-call = refused-under frame ok i there f cache g is under goes_on list list' cache' r h

    module _ (m n : ℕ) (eq : r ≡ R.TheVariants.Edits m n) where
      pub led_on : counter_of frame ≤ (cache_of cache').made
      led_on = led-under frame ok i there f cache g is under goes_on list list' cache' r h m n eq

      pub accepted-call : (frame' : List ℕ) → WentOn frame i (cache_of cache').made frame' → GivesIn frame frame' i f answer (R.TheVariants.Edits m n) list list' cache cache'
      accepted-call = accepted-under frame ok i there f cache g is under goes_on list list' cache' r h m n eq
