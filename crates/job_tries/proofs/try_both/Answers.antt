-- `try_both` meets its contract.
use Prim.Native.Nat.{ℕ}
use mathlib.Core.Path.{refl, ◌∙◌}
use borrow.Author.Rules.{rules}
use lib.ListN.{length-replicate}
use Rattle.function.specs.Function.{is_setting}
use Rattle.job_tries.proofs.Opened.{both-tried}
use Rattle.job_tries.proofs.try_both.Goals as goal

pub try_setting-requires : goal.try_setting-requires
unfolding is_setting
try_setting-requires c = let s = c in (s.requires.0, refl, s.requires.1, s.requires.2, length-replicate {A = ℕ} 64 0, length-replicate {A = ℕ} 1024 0)

pub try_setting-requires-2 : goal.try_setting-requires-2
unfolding is_setting
try_setting-requires-2 c =
    let s = c in
    let o = c.try_setting in
    (o.ensures.setting_tried.checked, refl, s.requires.1, s.requires.2, o.auto.numbers ∙ length-replicate {A = ℕ} 64 0, o.auto.list ∙ length-replicate {A = ℕ} 1024 0)

pub returns : goal.returns
returns c =
    let s = c in
    let o = c.try_setting in
    let u = c.try_setting-2 in
    record { both = both-tried s.args.t.now s.args.f.now o.new.f u.new.f s.args.p s.args.seed s.args.patches o.new.tally u.new.tally o.ensures.setting_tried u.ensures.setting_tried; anything = (tt, tt, tt, tt, tt, tt, tt, tt, tt, tt, tt) }
