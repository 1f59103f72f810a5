-- `ask_granted` meets its contract: refused, the rebuilds as they stand where there is nothing else, or the run shown.
use mathlib.Core.Path.{sym, ◌∙◌}
use Rattle.scratch.specs.Promises.{tables}
use Rattle.entries.specs.Known.{free_in}
use Rattle.remats.proofs.Known.{remats-fit}
use Rattle.parallel_moves.proofs.Resolving.{asked-away, remats-room, asks-remats, can-hand-over, asks}
use borrow.Author.Rules.{rules}
use Rattle.parallel_moves.proofs.asking.ask_granted.Goals as goal

pub returns-in-Refused : goal.returns-in-Refused
returns-in-Refused c =
    let args = c.args in
    let pre = c.requires in
    record { asks_granted = asked-away args.t.now args.f.now args.cache.now args.e.now args.w.now args.list.now pre.0 pre.1 args.g pre.2 (free_in args.given args.available.now) _ _ (λ p q. rw c.in-Refused.is at (c.refusal.ensures p q)); anything = search rules }

pub begin-requires : goal.begin-requires
begin-requires c =
    let pre = c.requires in
    pre.2.fits

pub hand_out-n-requires : goal.hand_out-n-requires
hand_out-n-requires c =
    let args = c.args in
    let pre = c.requires in
    let refusal = c.refusal in
    (remats-fit args.t.now args.f.now pre.0 args.e.now args.w.now pre.1, remats-room args.t.now args.f.now args.cache.now args.e.now args.w.now args.list.now pre.0 pre.1 args.g pre.2 (free_in args.given args.available.now) (λ p q. rw c.in_default.is at (refusal.ensures p q)))

pub returns-then-only_remats : goal.returns-then-only_remats
returns-then-only_remats c =
    let args = c.args in
    let pre = c.requires in
    let refusal = c.refusal in
    let only-remats = c.only_remats in
    let if1 = c.if-only_remats in
    record { asks_granted = λ p q. asks-remats args.t.now args.f.now args.cache.now args.e.now args.w.now args.list.now pre.0 pre.1 args.g pre.2 (free_in args.given args.available.now) (λ p q. rw c.in_default.is at (refusal.ensures p q)) (sym only-remats.ensures ∙ if1.true) _ _ _ _ c.hand_out-n.ensures c.stamp-stamp.ensures.0 c.begin.ensures p q; anything = search rules }

pub run_given-k-requires : goal.run_given-k-requires
run_given-k-requires c =
    let pre = c.requires in
    (pre.0, pre.1, pre.2)

pub show-requires : goal.show-requires
show-requires c =
    let args = c.args in
    let pre = c.requires in
    let refusal = c.refusal in
    let run = c.run_given-k in
    can-hand-over args.t.now args.f.now args.cache.now args.e.now args.w.now args.list.now pre.0 pre.1 args.g pre.2 (free_in args.given args.available.now) (λ p q. rw c.in_default.is at (refusal.ensures p q)) run.result (tables run.new.edits run.new.available run.new.slots) run.ensures.ran

pub returns : goal.returns
returns c =
    let args = c.args in
    let pre = c.requires in
    let refusal = c.refusal in
    let run = c.run_given-k in
    record { asks_granted = λ p q. asks args.t.now args.f.now args.cache.now args.e.now args.w.now args.list.now pre.0 pre.1 args.g pre.2 (free_in args.given args.available.now) (λ p q. rw c.in_default.is at (refusal.ensures p q)) run.result (tables run.new.edits run.new.available run.new.slots) run.ensures.ran _ _ c.show.ensures p q; anything = search rules }
