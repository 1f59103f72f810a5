use mathlib.Core.Path.{sym, ◌∙◌}
use native.Mathlib.Omega.{arith}
use lib.ListN.{drop}
use Rattle.print.proofs.Putting.{same_length as put-length}
use Rattle.edges.specs.Patches.{headed}
use Rattle.edges.proofs.Laws.{no_word, head-fits, is-count, no-count}
use Rattle.price_text.proofs.Laws.{none-listed, ending-room, ending, none_left, stopped-here, line-room, one-listed}
use Rattle.price_text.proofs.put_edges.Goals as goal

pub loop-at-init : goal.loop-at-init
loop-at-init c =
    let s = c in
    none-listed s.args.out.now s.args.p s.args.runs.now s.args.words.now s.args.refusal s.requires.2

pub put_refusal-requires : goal.put_refusal-requires
put_refusal-requires c =
    let s = c in
    let l = c.loop-at in
    let h = no-count (headed (drop l.at s.args.words.now)) (sym c.count_at.ensures ∙ c.in_default.is) in
    ending-room s.args.out.now s.args.p s.args.runs.now s.args.words.now s.args.refusal s.requires.2 l.out l.n l.i l.at l.invariant _ (none_left s.args.out.now s.args.p s.args.runs.now s.args.words.now s.args.refusal s.requires.2 l.out l.n l.i l.at l.invariant h)

pub returns-in_default : goal.returns-in_default
returns-in_default c =
    let s = c in
    let l = c.loop-at in
    let h = no-count (headed (drop l.at s.args.words.now)) (sym c.count_at.ensures ∙ c.in_default.is) in
    ending s.args.out.now s.args.p s.args.runs.now s.args.words.now s.args.refusal s.requires.2 l.out l.n l.i l.at l.invariant _ _ _ (none_left s.args.out.now s.args.p s.args.runs.now s.args.words.now s.args.refusal s.requires.2 l.out l.n l.i l.at l.invariant h) c.put_refusal.ensures

pub shape_of-out-in_default : goal.shape_of-out-in_default
shape_of-out-in_default c = put-length (returns-in_default c)

pub put_refused-requires : goal.put_refused-requires
put_refused-requires c =
    let s = c in
    let l = c.loop-at in
    let n = c.in-Some.count in
    let h = is-count (headed (drop l.at s.args.words.now)) n (sym c.count_at.ensures ∙ c.in-Some.is) in
    ending-room s.args.out.now s.args.p s.args.runs.now s.args.words.now s.args.refusal s.requires.2 l.out l.n l.i l.at l.invariant _ (stopped-here s.args.out.now s.args.p s.args.runs.now s.args.words.now s.args.refusal s.requires.2 l.out l.n l.i l.at l.invariant n h (sym c.stops.ensures ∙ c.if-stops.true))

pub returns-then-stops : goal.returns-then-stops
returns-then-stops c =
    let s = c in
    let l = c.loop-at in
    let n = c.in-Some.count in
    let h = is-count (headed (drop l.at s.args.words.now)) n (sym c.count_at.ensures ∙ c.in-Some.is) in
    ending s.args.out.now s.args.p s.args.runs.now s.args.words.now s.args.refusal s.requires.2 l.out l.n l.i l.at l.invariant _ _ _ (stopped-here s.args.out.now s.args.p s.args.runs.now s.args.words.now s.args.refusal s.requires.2 l.out l.n l.i l.at l.invariant n h (sym c.stops.ensures ∙ c.if-stops.true)) c.put_refused.ensures

pub shape_of-out-then-stops : goal.shape_of-out-then-stops
shape_of-out-then-stops c = put-length (returns-then-stops c)

pub overflow_add-at : goal.overflow_add-at
overflow_add-at c =
    let s = c in
    let l = c.loop-at in
    let n = c.in-Some.count in
    let h = is-count (headed (drop l.at s.args.words.now)) n (sym c.count_at.ensures ∙ c.in-Some.is) in
    omega (arith, (head-fits s.args.words.now l.at n h).1)

pub put_edge_at-n-requires : goal.put_edge_at-n-requires
put_edge_at-n-requires c =
    let s = c in
    let l = c.loop-at in
    let n = c.in-Some.count in
    let h = is-count (headed (drop l.at s.args.words.now)) n (sym c.count_at.ensures ∙ c.in-Some.is) in
    let f = head-fits s.args.words.now l.at n h in
    let on = sym c.stops.ensures ∙ c.if-stops.false in
    (f.1, f.0, omega (arith, l.invariant.counted, l.invariant.within, s.requires.1), s.requires.0, on, line-room s.args.out.now s.args.p s.args.runs.now s.args.words.now s.args.refusal s.requires.2 l.out l.n l.i l.at l.invariant n h on)

pub overflow_add-at-in-loop-at : goal.overflow_add-at-in-loop-at
overflow_add-at-in-loop-at c =
    let s = c in
    let l = c.loop-at in
    let n = c.in-Some.count in
    let h = is-count (headed (drop l.at s.args.words.now)) n (sym c.count_at.ensures ∙ c.in-Some.is) in
    omega (arith, (head-fits s.args.words.now l.at n h).0)

pub overflow_add-at-in-loop-at-2 : goal.overflow_add-at-in-loop-at-2
overflow_add-at-in-loop-at-2 c =
    let s = c in
    let l = c.loop-at in
    let n = c.in-Some.count in
    let h = is-count (headed (drop l.at s.args.words.now)) n (sym c.count_at.ensures ∙ c.in-Some.is) in
    omega (arith, (head-fits s.args.words.now l.at n h).1)

pub overflow_add-i : goal.overflow_add-i
overflow_add-i c =
    let s = c in
    let l = c.loop-at in
    omega (arith, l.invariant.counted, l.invariant.within, s.requires.1)

pub loop-at-preserved : goal.loop-at-preserved
loop-at-preserved c =
    let s = c in
    let l = c.loop-at in
    let n = c.in-Some.count in
    let h = is-count (headed (drop l.at s.args.words.now)) n (sym c.count_at.ensures ∙ c.in-Some.is) in
    one-listed s.args.out.now s.args.p s.args.runs.now s.args.words.now s.args.refusal s.requires.2 l.out l.n l.i l.at l.invariant n h _ _ (sym c.stops.ensures ∙ c.if-stops.false) c.put_edge_at-n.ensures

pub put_refusal-requires-2 : goal.put_refusal-requires-2
put_refusal-requires-2 c =
    let s = c in
    let l = c.loop-at in
    ending-room s.args.out.now s.args.p s.args.runs.now s.args.words.now s.args.refusal s.requires.2 l.out l.n l.i l.at l.invariant _ (none_left s.args.out.now s.args.p s.args.runs.now s.args.words.now s.args.refusal s.requires.2 l.out l.n l.i l.at l.invariant (no_word s.args.words.now l.at c.loop-at-test.false))

pub returns : goal.returns
returns c =
    let s = c in
    let l = c.loop-at in
    ending s.args.out.now s.args.p s.args.runs.now s.args.words.now s.args.refusal s.requires.2 l.out l.n l.i l.at l.invariant _ _ _ (none_left s.args.out.now s.args.p s.args.runs.now s.args.words.now s.args.refusal s.requires.2 l.out l.n l.i l.at l.invariant (no_word s.args.words.now l.at c.loop-at-test.false)) c.put_refusal-2.ensures

pub shape_of-out : goal.shape_of-out
shape_of-out c = put-length (returns c)
