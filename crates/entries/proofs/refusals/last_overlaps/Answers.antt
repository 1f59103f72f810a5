use mathlib.Core.Path.{◌≡◌, refl, sym, ap, ◌∙◌}
use mathlib.Core.Bool.{true, false}
use native.Mathlib.Omega.{arith}
use lib.ListN.{drop_of_length-le}
use Rattle.entity.specs.Logic.{any_in}
use Rattle.reginfo.specs.Table.{reg_info_of}
use Rattle.function.specs.Function.{remat_class}
use Rattle.function.specs.Table.{function_of}
use Rattle.rules.specs.Order.{Remat, no_remat}
use Rattle.entries.specs.Table.{remat_at, sorted_of}
use Rattle.entries.specs.Known.{last_clashes}
use Rattle.entries.proofs.Lists.{any_step}
use Rattle.entries.proofs.Table.{scratch-count, scratch-is}
use Rattle.entries.proofs.refusals.last_overlaps.Goals as goal

pub loop-i-init : goal.loop-i-init
loop-i-init c = let e = c.args.e.now in (refl, omega arith, c.from-n.ensures ∙ sym (scratch-count e), omega (arith, scratch-count e, c.requires.2))

pub remat_clashes-requires : goal.remat_clashes-requires
unfolding remat_at
remat_clashes-requires c =
    let s = c in
    let l = c.loop-i in
    (s.requires.0, rw (scratch-is s.args.e.now l.i no_remat (omega arith)) at (s.requires.1.remats_with_scratch l.i (omega arith)))

pub returns-then-remat_clashes : goal.returns-then-remat_clashes
unfolding remat_at
returns-then-remat_clashes c =
    let s = c in
    let l = c.loop-i in
    let h : last_clashes (reg_info_of s.args.t.now) (remat_class (function_of s.args.f.now) (remat_at 768 s.args.e.now l.i).value) (remat_at 768 s.args.e.now l.i).dest ≡ true = sym c.remat_clashes.ensures ∙ c.if-remat_clashes.true in
    sym (l.invariant.0 ∙ any_step (λ (r : Remat). last_clashes (reg_info_of s.args.t.now) (remat_class (function_of s.args.f.now) r.value) r.dest) (sorted_of s.args.e.now).remats_with_scratch l.i no_remat (omega arith) ∙ rw (scratch-is s.args.e.now l.i no_remat (omega arith), h))

pub loop-i-preserved : goal.loop-i-preserved
unfolding remat_at
loop-i-preserved c =
    let s = c in
    let l = c.loop-i in
    let h : last_clashes (reg_info_of s.args.t.now) (remat_class (function_of s.args.f.now) (remat_at 768 s.args.e.now l.i).value) (remat_at 768 s.args.e.now l.i).dest ≡ false = sym c.remat_clashes.ensures ∙ c.if-remat_clashes.false in
    (l.invariant.0 ∙ any_step (λ (r : Remat). last_clashes (reg_info_of s.args.t.now) (remat_class (function_of s.args.f.now) r.value) r.dest) (sorted_of s.args.e.now).remats_with_scratch l.i no_remat (omega arith) ∙ rw (scratch-is s.args.e.now l.i no_remat (omega arith), h), omega arith, l.invariant.2, l.invariant.3)

pub returns : goal.returns
unfolding any_in
returns c =
    let s = c in
    let l = c.loop-i in
    sym (l.invariant.0 ∙ ap (any_in (λ (r : Remat). last_clashes (reg_info_of s.args.t.now) (remat_class (function_of s.args.f.now) r.value) r.dest)) (drop_of_length-le (sorted_of s.args.e.now).remats_with_scratch {i = l.i} (omega arith)))
