use Prim.Native.Nat.{◌+◌, ◌-◌}
use native.Mathlib.Omega.{arith}
use lib.ListN.{length}
use borrow.Author.Rules.{rules}
use mathlib.Core.Path.{◌≡◌, refl, ◌∙◌}
use Rattle.print.proofs.Putting.{same_length as put-length}
use Rattle.group_rules.specs.Groups.{resolve_by_groups}
use Rattle.answer.specs.Whole.{rest_in}
use Rattle.answer.proofs.Going.{Going, begun, room, refused-here, goes_on, left_over_lem, all_read}
use Rattle.answer_groups.proofs.answer_patches.Goals as goal

pub loop-done-init : goal.loop-done-init
loop-done-init c = let s = c in let z : s.args.count - 0 ≡ s.args.count = omega arith in rw z (begun resolve_by_groups s.args.t.now s.args.f.now s.args.s.now _ s.args.words.now s.args.cache.now s.args.from _ refl s.requires.1)

pub answer_next-requires : goal.answer_next-requires
answer_next-requires c = let s = c in let l = c.loop-done in (s.requires.0, l.invariant.cached, room resolve_by_groups s.args.t.now s.args.f.now s.args.s.now _ s.args.words.now l.cache l.words l.at l.n (s.args.count - l._done) l.invariant)

pub shape_of-words-in-Refused : goal.shape_of-words-in-Refused
shape_of-words-in-Refused c = c.answer_next.auto.words ∙ put-length c.loop-done.invariant.put

pub returns-in-Refused : goal.returns-in-Refused
returns-in-Refused c =
    let s = c in
    let l = c.loop-done in
    let p = c.answer_next in
    record { wholly = refused-here resolve_by_groups s.args.t.now s.args.f.now s.args.s.now _ s.args.words.now l.cache l.words l.at l.n (s.args.count - l._done) l.invariant p.new.cache p.new.words _ (omega (arith, c.loop-done-test.true)) (rw c.in-Refused.is at p.ensures.next_as); anything = (tt, tt, tt, tt, tt, tt, tt, tt, tt, tt, tt); anything_2 = (tt, tt, tt, tt, tt, tt, tt) }

pub loop-done-preserved : goal.loop-done-preserved
loop-done-preserved c =
    let s = c in
    let l = c.loop-done in
    let p = c.answer_next in
    let e : s.args.count - (l._done + 1) ≡ s.args.count - l._done - 1 = omega arith in
    rw e (goes_on resolve_by_groups s.args.t.now s.args.f.now s.args.s.now _ s.args.words.now l.cache l.words l.at l.n (s.args.count - l._done) l.invariant p.new.cache p.new.words _ _ (omega (arith, c.loop-done-test.true)) (rw c.in-At.is at p.ensures.next_as))

pub shape_of-words-then-at-s : goal.shape_of-words-then-at-s
shape_of-words-then-at-s c = put-length c.loop-done.invariant.put

pub returns-then-at-s : goal.returns-then-at-s
returns-then-at-s c =
    let s = c in
    let l = c.loop-done in
    record { wholly = left_over_lem resolve_by_groups s.args.t.now s.args.f.now s.args.s.now _ s.args.words.now l.cache l.words l.at l.n (s.args.count - l._done) l.invariant (omega (arith, c.loop-done-test.false)) c.if-at-s.true; anything = (tt, tt, tt, tt, tt, tt, tt, tt, tt, tt, tt); anything_2 = (tt, tt, tt, tt, tt, tt, tt) }

pub shape_of-words : goal.shape_of-words
shape_of-words c = put-length c.loop-done.invariant.put

pub returns : goal.returns
returns c =
    let s = c in
    let l = c.loop-done in
    record { wholly = all_read resolve_by_groups s.args.t.now s.args.f.now s.args.s.now _ s.args.words.now l.cache l.words l.at l.n (s.args.count - l._done) l.invariant (omega (arith, c.loop-done-test.false)) c.if-at-s.false; anything = (tt, tt, tt, tt, tt, tt, tt, tt, tt, tt, tt); anything_2 = (tt, tt, tt, tt, tt, tt, tt) }
