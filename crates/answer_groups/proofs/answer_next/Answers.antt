-- `answer_next` meets its contract, by the laws of crate answer.
use native.Mathlib.Omega.{arith}
use mathlib.Core.Path.{◌∙◌}
use borrow.Author.Rules.{rules}
use lib.ListN.{drop}
use Rattle.reginfo.specs.Table.{reg_info_of}
use Rattle.function.specs.Table.{function_of}
use Rattle.group_rules.specs.Groups.{resolve_by_groups}
use Rattle.job_patch.specs.Patches.{patch}
use Rattle.answer.proofs.Called.{called, few}
use Rattle.answer.proofs.Placing.{from-within, one_left, edits-fit, back-length, next-refused, no-head, next-put}
use Rattle.answer_groups.proofs.Groups.{groups-bounded}
use Rattle.answer_groups.proofs.answer_next.Goals as goal

pub offset_bounds-words-from : goal.offset_bounds-words-from
offset_bounds-words-from c =
    let s = c in
    omega (arith, from-within s.args.words.now s.args.n c.behind-from.result s.requires.2 c.behind-from.ensures, s.well_formed.1.1.1.1.1.1.1.1.1.1.1.1.1.1.1.1.1.1.1.1.1.1.0)

pub slice_bounds-answer_patch-count : goal.slice_bounds-answer_patch-count
slice_bounds-answer_patch-count c =
    let s = c in
    omega (arith, from-within s.args.words.now s.args.n c.behind-from.result s.requires.2 c.behind-from.ensures)

pub slice_bounds-answer_patch-start : goal.slice_bounds-answer_patch-start
slice_bounds-answer_patch-start c =
    let s = c in
    from-within s.args.words.now s.args.n c.behind-from.result s.requires.2 c.behind-from.ensures

pub returns-then-from-n : goal.returns-then-from-n
returns-then-from-n c =
    let s = c in
    let b = c.behind-from in
    let p = c.answer_patch in
    let g = called resolve_by_groups s.args.t.now s.args.f.now s.args.s.now _ s.args.cache.now p.new.list p.new.cache _ _ _ _ (rw c.in-Edits.is at p.ensures.step_at) in
    record { next_as = no-head resolve_by_groups s.args.t.now s.args.f.now s.args.s.now s.args.at s.args.words.now s.args.n b.result s.requires.2 b.ensures s.args.cache.now p.new.list p.new.cache _ _ _ g p.auto.list c.if-from-n.true; anything = (tt, tt, tt, tt, tt, tt, tt, tt, tt, tt); anything_2 = (tt, tt, tt, tt, tt, tt, tt) }

pub head-requires : goal.head-requires
head-requires c =
    let s = c in
    let p = c.answer_patch in
    let g = called resolve_by_groups s.args.t.now s.args.f.now s.args.s.now _ s.args.cache.now p.new.list p.new.cache _ _ _ _ (rw c.in-Edits.is at p.ensures.step_at) in
    (few resolve_by_groups s.args.t.now s.args.f.now s.args.s.now _ s.args.cache.now p.new.list p.new.cache groups-bounded s.args.at _ _ _ s.requires.0 g, omega arith, omega arith)

pub offset_bounds-words-n : goal.offset_bounds-words-n
offset_bounds-words-n c =
    let s = c in
    let b = c.behind-from in
    let o = one_left s.args.words.now s.args.n b.result s.requires.2 b.ensures c.if-from-n.false in
    omega (arith, o.1, s.well_formed.1.1.1.1.1.1.1.1.1.1.1.1.1.1.1.1.1.1.1.1.1.1.0)

pub bounds-words-n : goal.bounds-words-n
bounds-words-n c =
    let s = c in
    let b = c.behind-from in
    let p = c.answer_patch in
    let o = one_left s.args.words.now s.args.n b.result s.requires.2 b.ensures c.if-from-n.false in
    omega (arith, o.1, back-length s.args.words.now s.args.n b.result p.new.list (from-within s.args.words.now s.args.n b.result s.requires.2 b.ensures) p.auto.list)

pub overflow_add-result : goal.overflow_add-result
overflow_add-result c =
    let s = c in
    let b = c.behind-from in
    let p = c.answer_patch in
    let o = one_left s.args.words.now s.args.n b.result s.requires.2 b.ensures c.if-from-n.false in
    let g = called resolve_by_groups s.args.t.now s.args.f.now s.args.s.now _ s.args.cache.now p.new.list p.new.cache (patch (reg_info_of s.args.t.now) (function_of s.args.f.now) (drop s.args.at s.args.s.now)) _ _ _ (rw c.in-Edits.is at p.ensures.step_at) in
    omega (arith, edits-fit s.args.words.now s.args.n b.result o.0 o.1 g.es 0 0 p.new.list g.listed p.auto.list, g.counted, s.well_formed.1.1.1.1.1.1.1.1.1.1.1.1.1.1.1.1.1.1.1.1.1.1.0)

pub returns-in-Refused : goal.returns-in-Refused
returns-in-Refused c =
    let s = c in
    let b = c.behind-from in
    let p = c.answer_patch in
    record { next_as = next-refused resolve_by_groups s.args.t.now s.args.f.now s.args.s.now s.args.at s.args.words.now s.args.n b.result s.requires.2 b.ensures s.args.cache.now p.new.list p.new.cache _ (rw c.in-Refused.is at p.ensures.step_at); anything = (tt, tt, tt, tt, tt, tt, tt, tt, tt, tt); anything_2 = (tt, tt, tt, tt, tt, tt, tt) }

pub returns-else-from-n : goal.returns-else-from-n
returns-else-from-n c =
    let s = c in
    let b = c.behind-from in
    let p = c.answer_patch in
    let g = called resolve_by_groups s.args.t.now s.args.f.now s.args.s.now _ s.args.cache.now p.new.list p.new.cache _ _ _ _ (rw c.in-Edits.is at p.ensures.step_at) in
    record { next_as = next-put resolve_by_groups s.args.t.now s.args.f.now s.args.s.now s.args.at s.args.words.now s.args.n b.result s.requires.2 b.ensures s.args.cache.now p.new.list p.new.cache _ _ _ g p.auto.list c.if-from-n.false (few resolve_by_groups s.args.t.now s.args.f.now s.args.s.now _ s.args.cache.now p.new.list p.new.cache groups-bounded s.args.at _ _ _ s.requires.0 g) _ _ _ (omega arith) (c.from.ensures ∙ c.made.ensures) (omega arith) c.from-in-Edits.ensures c.head.ensures; anything = (tt, tt, tt, tt, tt, tt, tt, tt, tt, tt); anything_2 = (tt, tt, tt, tt, tt, tt, tt) }
