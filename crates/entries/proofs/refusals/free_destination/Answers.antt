use mathlib.Core.Path.{◌≡◌, sym, ap, ◌∙◌}
use mathlib.Core.Bool.{true, false}
use native.Mathlib.Omega.{arith}
use lib.ListN.{get_or, drop_of_length-le}
use borrow.Author.Tests.{not-true, not-false}
use Rattle.entity.specs.Logic.{any_in}
use Rattle.sparse.specs.Map.{keys_of}
use Rattle.entries.specs.Known.{is_free}
use Rattle.entries.proofs.Lists.{any_step}
use Rattle.entries.proofs.Free.{none_free}
use Rattle.entries.proofs.refusals.free_destination.Goals as goal

pub returns-then-not-given : goal.returns-then-not-given
returns-then-not-given c =
    let q : c.args.given ≡ false = not-true _ c.if-not-given.true-raw in
    rw q (sym (none_free (keys_of c.args.w.now)))

pub returns-then-is_free : goal.returns-then-is_free
returns-then-is_free c =
    let s = c in
    let l = c.loop-j in
    let h : is_free s.args.free.now (get_or (keys_of s.args.w.now) l.j 0) ≡ true = rw (← c.key_at.ensures) (sym c.is_free.ensures ∙ c.if-is_free.true) in
    let q : s.args.given ≡ true = not-false _ c.if-not-given.false-raw in
    rw q (sym (l.invariant.0 ∙ any_step (is_free s.args.free.now) (keys_of s.args.w.now) l.j 0 (omega arith) ∙ rw h))

pub loop-j-preserved : goal.loop-j-preserved
loop-j-preserved c =
    let s = c in
    let l = c.loop-j in
    let h : is_free s.args.free.now (get_or (keys_of s.args.w.now) l.j 0) ≡ false = rw (← c.key_at.ensures) (sym c.is_free.ensures ∙ c.if-is_free.false) in
    (l.invariant.0 ∙ any_step (is_free s.args.free.now) (keys_of s.args.w.now) l.j 0 (omega arith) ∙ rw h, omega arith, l.invariant.2)

pub returns : goal.returns
unfolding any_in
returns c =
    let s = c in
    let l = c.loop-j in
    let q : s.args.given ≡ true = not-false _ c.if-not-given.false-raw in
    rw q (sym (l.invariant.0 ∙ ap (any_in (is_free s.args.free.now)) (drop_of_length-le (keys_of s.args.w.now) {i = l.j} (omega arith))))
