-- 02 m in a shared frame: every list of ours gets a yes by its formula's own target and function.
use Prim.Native.Nat.{ℕ, ◌<◌}
use mathlib.Core.Path.{◌≡◌, refl, sym, ap, ap₂, ◌∙◌}
use mathlib.Core.List.{List, [], ◌∷◌, ◌++◌, map}
use mathlib.Core.Option.{Option, none, some}
use mathlib.Core.Logic.{⊎_elim}
use native.Mathlib.Omega.{arith}
use lib.ListN.{length, get_or}
use Rattle.reginfo.specs.RegInfo.{RegInfo}
use Rattle.reginfo.specs.Refused as target
use Rattle.reginfo.specs.Refused.{first_of}
use Rattle.function.specs.Function.{Function, value_bank, remat_cost, remat_class}
use Rattle.function.specs.Refused as function
use Rattle.rules.specs.Edit.{Edit}
use Rattle.rules.specs.Patch.{Entry, move, remat, Patch, Sorted, nothing_sorted, add, sorted, bound, entry_conditions, patch_conditions, Answer, refused, resolved}
use Rattle.rules.specs.Refusals.{with_limit, entries_conditions}
use Rattle.rules.specs.Take.{resolving, asking, taking}
use Rattle.machine.specs.Claim.{Accepted}
use Rattle.machine.proofs.Cache.{CacheOk}
use Rattle.machine.proofs.Demand.{called}
use Rattle.machine.proofs.Tests.{of-yes}
use Rattle.frame_rules.specs.Frame.{Inlined, open_refusal, first_slots, Asked, Frame, opened, reach, cache_in, function_in, resolve_in, take_in, taken_in}
use Rattle.frame_rules.specs.Claim.{FrameStacks}
use Rattle.frame_rules.proofs.Calls.{reach_far, take-now, take-late, fresh-or-late}
use Rattle.frame_rules.proofs.Given.{Known, is-target, is-function, is-slots, is-promised, is_within}
use Rattle.frame_rules.proofs.Promise.{low-limit}
use Rattle.frame_rules.proofs.Unread.{add_same, sorted-same, answered-same}
use Rattle.group_rules.specs.Requests.{Request, single, grouping}
use Rattle.group_rules.specs.Frame.{groups_in, after_calls}
use Rattle.group_rules.proofs.Frame.{sim, known-here, stacks}
use Rattle.group_rules.proofs.Joined.{passed-whole, grouped}
use Rattle.edit.specs.Word.{word_of}
use Rattle.examine_rules.specs.Examine.{Yes, patch_refusal}
use Rattle.examine_rules.specs.Examined.{AllNamed}
use Rattle.examine_rules.specs.Words.{examine_patch}
use Rattle.examine_rules.specs.Ours.{Passes, AllPass, handed_in, OursInFrame}
use Rattle.examine_rules.proofs.Given.{once-distinct, accepted-whole, accepted-of}
use Rattle.examine_rules.proofs.Ours.{Held, named_more, named-same, passes, call-names, groups-name}

-- ---- L is not read by a patch's tests
module _ (t : RegInfo) (f : Function) (l : ℕ) where
  abbrev F : Function
  F = with_limit t f l

  entry-same : (a : Sorted) (e : Entry) → entry_conditions t f a e ≡ entry_conditions t F a e
  unfolding entry_conditions value_bank remat_cost remat_class
  entry-same a (move s d v) = refl
  entry-same a (remat d v) = refl

  entries-same : (es : List Entry) (a : Sorted) → entries_conditions t f es a ≡ entries_conditions t F es a
  unfolding entries_conditions
  entries-same [] a = refl
  entries-same (e ∷ es) a = ap₂ ◌++◌ (entry-same a e) (ap (entries_conditions t f es) (add_same t f l e a) ∙ entries-same es (add t F e a))

  patch-same : (p : Patch) (room : ℕ) (a : Sorted) → patch_conditions t f p room a ≡ patch_conditions t F p room a
  unfolding patch_conditions remat_class
  patch-same p room a = refl

  refusal-same : (p : Patch) → patch_refusal t f p ≡ patch_refusal t F p
  unfolding patch_refusal
  refusal-same p =
      ap first_of (ap₂ ◌++◌ (entries-same p.entries nothing_sorted)
      (ap (λ (a : Sorted). patch_conditions t f p (bound a) a) (sorted-same t f l p.entries nothing_sorted) ∙ patch-same p (bound (sorted t F p)) (sorted t F p)))

module _ (limit : ℕ) (l : List Inlined) (e : open_refusal limit l ≡ none) (s : Frame) (k : Known limit l s) (fs : FrameStacks (first_slots l) s) (i : ℕ) (h : i < length l) where
  abbrev t : RegInfo
  t = (s.formulas i).target

  abbrev f : Function
  f = (s.formulas i).function

  inside : i < s.number
  inside = omega (arith, k.sound.number, h)

  cache-ok : CacheOk t (function_in s i) (cache_in s i)
  cache-ok =
      record {
        once = λ z. once-distinct ((s.formulas i).stacks z) (fs.once i inside z);
        sole = λ x y z a b. (fs.sole z i i x y inside inside (of-yes _ a) (of-yes _ b)).1;
        low = λ z x a. omega (arith, is-slots limit l e s k i h, fs.low x i z inside (of-yes _ a));
        made = λ z x a. omega (arith, is-slots limit l e s k i h, fs.below x i z inside (of-yes _ a));
      }

  ta : target.Accepted t
  ta = is-target limit l e s k i h

  fi : function.Accepted t (function_in s i)
  fi = is_within limit l e s k i h

  held : Held t (function_in s i) ta fi (cache_in s i)
  held = (cache-ok, reach_far s i)

  -- an answer by the function with another L
  answer-passes : (p : Patch) (es : List Edit) → patch_refusal t (function_in s i) p ≡ none → AllNamed t (function_in s i) (reach s i) es → Accepted t f p es → examine_patch t f p limit (map word_of es) ≡ Yes
  answer-passes p es acc n a =
      passes t f ta (is-function limit l e s k i h) p (refusal-same t f (reach s i) p ∙ acc) limit (low-limit limit l e) es
      (λ x m. named_more t f (reach s i) limit (omega (arith, (is-promised limit l e s k i h).within, k.given.limit_is)) x (named-same t f (reach s i) (reach s i) x (n x m))) a

  call_passes : (p : Patch) (room : ℕ) (r : Answer) → resolve_in s i p room ≡ r → Passes t f limit p r
  unfolding resolve_in
  call_passes p room (refused n) q = tt
  call_passes p room (resolved es c n) q =
      answer-passes p es (accepted-of t (function_in s i) p room (cache_in s i) c es n q) (call-names t (function_in s i) ta fi p room (cache_in s i) c es n q held).0
      (answered-same t f (reach s i) p (resolved es c n) (called t (function_in s i) ta fi (record { patch = p; room = room }) (cache_in s i) cache-ok (resolved es c n) q).0)

  groups-pass : (p : Patch) (room : ℕ) (r : Answer) → groups_in s i p room ≡ r → Passes t f limit p r
  unfolding groups_in
  groups-pass p room (refused n) q = tt
  groups-pass p room (resolved es c n) q =
      answer-passes p es (accepted-whole t (function_in s i) p room (passed-whole t (function_in s i) p room (cache_in s i) c es n q).0)
      (groups-name t (function_in s i) ta fi p room (cache_in s i) c es n q held).0
      (answered-same t f (reach s i) p (resolved es c n) (grouped t (function_in s i) ta fi p room (cache_in s i) cache-ok (resolved es c n) q).0)

  requests-pass : (x : Request) → AllPass t f limit (handed_in s i x)
  unfolding handed_in
  requests-pass (single (resolving p room)) = call_passes p room (resolve_in s i p room) refl
  requests-pass (single (asking p room)) = call_passes p room (resolve_in s i p room) refl
  requests-pass (grouping p room) = groups-pass p room (groups_in s i p room) refl
  requests-pass (single (taking n)) = go (get_or (s.formulas i).asked n none) refl
    where
      go : (o : Option Asked) → get_or (s.formulas i).asked n none ≡ o → AllPass t f limit (taken_in o s i)
      go none q = tt
      go (some a) q =
          ⊎_elim
          (λ w. call_passes a.preview.patch a.preview.room (take_in a s i) ((k.sound.previews i n a q).same w.0 w.1 ∙ sym (take-now s i a w.0 w.1)))
          (λ w. rw (take-late s i a w) tt) (fresh-or-late s i a)

pub ours-in-frame : OursInFrame
ours-in-frame limit l e calls nm x h =
    let s : Frame = after_calls calls (opened limit l) in
    let g = sim limit l e calls nm in
    let k = known-here limit l e s g in
    let y = requests-pass limit l e s k (stacks limit l e s g) x.formula h x.request in
    rw (k.given.target_is x.formula, k.given.function-is x.formula) at y
