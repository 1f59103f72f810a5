-- A patch whose groups need no more than the share gets no 17.
use Prim.Native.Nat.{ℕ, ◌+◌, ◌<◌, ◌≤◌}
use mathlib.Core.Path.{◌≡◌, sym, ap, subst, ◌∙◌}
use mathlib.Core.List.{List, [], ◌∷◌}
use mathlib.Core.Option.{some}
use mathlib.Core.Logic.{inl, inr, ⊎_elim}
use native.Mathlib.Omega.{arith}
use Rattle.reginfo.specs.RegInfo.{RegInfo}
use Rattle.function.specs.Function.{Function}
use Rattle.rules.specs.Scratch.{Cache, ScratchAllocator}
use Rattle.rules.specs.Patch.{Patch, Sorted, sorted, run}
use Rattle.rules.specs.Refusals.{with_limit, EndsWithSlots, ByLimit}
use Rattle.rules.proofs.Accepted.{accepted}
use Rattle.rules.proofs.Enough.{only-by-slots}
use Rattle.rules.proofs.Limit.{made-within}
use Rattle.machine.proofs.SlotCounts.{less?}
use Rattle.frame_rules.specs.Frame.{Frame, opened, cache_in, function_in}
use Rattle.group_rules.specs.Groups.{parts}
use Rattle.group_rules.specs.Frame.{after_calls, OutAbove, ShareEnough, WithinShare}
use Rattle.group_rules.proofs.Frame.{promised}

module _ (t : RegInfo) (f : Function) (p : Patch) (a : Sorted) (c : Cache) where
  -- a run ends with slots enough in one allocator
  one_end : (k k' : ScratchAllocator) → EndsWithSlots t f p a c k → EndsWithSlots t f p a c k' → k ≡ k'
  one_end k k' w y =
      let x = w.1 (w.0 + y.0) (omega arith) in
      let z = y.1 (w.0 + y.0) (omega arith) in
      cc

  -- where it is not out of slots it ends there
  ends_there : (k k' : ScratchAllocator) → run t f p a c ≡ some k → EndsWithSlots t f p a c k' → k ≡ k'
  ends_there k k' e w =
      let o = only-by-slots t f p a c in
      let same : o.0 ≡ k' = one_end o.0 k' o.1 w in
      let lo : c.made ≤ o.0.cache.made = (made-within t (with_limit t f (o.1.0 + c.made)) p a c o.0 (omega arith) (o.1.1 (o.1.0 + c.made) (omega arith))).0 in
      let is : run t f p a c ≡ some o.0 = ⊎_elim (λ h. high o.0 o.2 lo h) (λ h. o.2.same (inl h)) (less? f.limit o.0.cache.made) in
      cc
    where
      high : (x : ScratchAllocator) → ByLimit t f p a c x → c.made ≤ x.cache.made → f.limit < x.cache.made → run t f p a c ≡ some x
      high x b lo h =
          ⊎_elim (λ m. let out = b.out.1 (m, h) in let z : ◌≡◌ {A = ℕ} 0 1 = cc in absurd (omega arith)) (λ m. b.same (inr (omega arith))) (less? c.made x.cache.made)

-- no group is out of slots
none_out : (s : Frame) (i room : ℕ) (l : List Patch) (c : Cache) → ShareEnough s i l c → OutAbove s i room l c → ⊥
none_out s i room [] c h o = o
none_out s i room (q ∷ l) c h (inl o) =
    let same = one_end (s.formulas i).target (function_in s i) q (sorted (s.formulas i).target (function_in s i) q) c h.0 o.0 h.1 o.1 in
    let m : h.0.cache.made ≡ o.0.cache.made = ap (λ (x : ScratchAllocator). x.cache.made) same in
    omega (arith, h.2, o.2, m)
none_out s i room (q ∷ l) c h (inr o) =
    let t = (s.formulas i).target in
    let r = accepted t (function_in s i) q room c o.1 o.0 o.2 o.3 in
    let same = ends_there t (function_in s i) q (sorted t (function_in s i) q) c r.allocator h.0 r.ran h.1 in
    let d : o.1 ≡ h.0.cache = r.cache ∙ ap (λ (x : ScratchAllocator). x.cache) same in
    none_out s i room l o.1 (subst (ShareEnough s i l) (sym d) h.3) o.4

pub within-share : WithinShare
within-share limit l ok calls k i il p room h e =
    let s = after_calls calls (opened limit l) in
    none_out s i room (parts (s.formulas i).target p) (cache_in s i) h (((promised limit l ok calls k).1 i il).above p room e)
