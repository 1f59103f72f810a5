use Prim.Native.Nat.{ℕ, ◌+◌, ◌-◌}
use mathlib.Core.Path.{◌≡◌, refl, ap, ◌∙◌}
use native.Mathlib.Omega.{arith}
use lib.ListN.{drop}
use Rattle.reginfo.specs.Table.{reg_info_of}
use Rattle.function.specs.Table.{function_of}
use Rattle.job_patch.specs.Patches.{accepted}
use Rattle.job_examine.specs.Job.{patch_at}
use Rattle.job_examine.proofs.Laws.{read-refused, read-got, patch-first, skip-refused, skip-got}
use Rattle.job_examine.proofs.read_numbered.Goals as goal

pub returns-in-Refused : goal.returns-in-Refused
returns-in-Refused c = let s = c in let l = c.loop-done in let k = read-refused s.args.t.now s.args.f.now s.args.s.now _ _ _ (accepted (reg_info_of s.args.t.now) (function_of s.args.f.now) (drop l.q s.args.s.now)) _ _ c.read_accepted.ensures c.in-Refused.is in rw (l.invariant ∙ skip-refused (reg_info_of s.args.t.now) (function_of s.args.f.now) (c.args.n - l._done) _ (drop l.q s.args.s.now) (omega arith) k) (refl, tt, tt, tt)

pub loop-done-preserved : goal.loop-done-preserved
loop-done-preserved c = let s = c in let l = c.loop-done in let g = read-got s.args.t.now s.args.f.now s.args.s.now _ _ _ (accepted (reg_info_of s.args.t.now) (function_of s.args.f.now) (drop l.q s.args.s.now)) _ _ c.read_accepted.ensures c.in-At.is in let e : c.args.n - (l._done + 1) ≡ c.args.n - l._done - 1 = omega arith in rw e (l.invariant ∙ skip-got (reg_info_of s.args.t.now) (function_of s.args.f.now) (c.args.n - l._done) (drop l.q s.args.s.now) g.rest g.p (omega arith) g.is ∙ ap (patch_at (reg_info_of s.args.t.now) (function_of s.args.f.now) ((c.args.n - l._done) - 1)) g.on)

pub returns : goal.returns
returns c = let s = c in let l = c.loop-done in let z : (c.args.n - l._done) ≡ 0 = omega arith in rw (l.invariant ∙ ap (λ (n : ℕ). patch_at (reg_info_of s.args.t.now) (function_of s.args.f.now) n (drop l.q s.args.s.now)) z ∙ patch-first (reg_info_of s.args.t.now) (function_of s.args.f.now) (drop l.q s.args.s.now)) c.read_patch.ensures
