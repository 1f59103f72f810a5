-- `width_agrees` meets its contract: a memory register, or the first of a bank that isn't, or a later one.
use mathlib.Core.Path.{sym, ◌∙◌}
use mathlib.Core.Bool.{true≢false}
use native.Mathlib.Omega.{arith}
use lib.ListN.{get_or}
use borrow.Author.Tests.{eqb-true, eqb-false}
use Rattle.reginfo.specs.Table.{reg_info_of}
use Rattle.target_limits.proofs.Limits.{reg_known}
use Rattle.target_rules.proofs.Widths.{bank-low, widths-next, widths-wide, widths-first, widths-other}
use Rattle.target_rules.proofs.width_agrees.Goals as goal

pub num_reg_units-n-requires : goal.num_reg_units-n-requires
num_reg_units-n-requires c = reg_known (reg_info_of c.args.t.now) c.requires.0 c.args.r.0 c.requires.1

pub is_memory_reg-memory-requires : goal.is_memory_reg-memory-requires
is_memory_reg-memory-requires c =
    let s = c in
    reg_known (reg_info_of s.args.t.now) s.requires.0 s.args.r.0 s.requires.1

pub returns-then-memory : goal.returns-then-memory
returns-then-memory c =
    let s = c in
    let memory = sym c.is_memory_reg-memory.ensures ∙ c.if-memory.true in
    let n = c.num_reg_units-n.ensures in
    let width = c.num_reg_units-n.result in
    let next = widths-next (reg_info_of s.args.t.now) s.requires.0 s.args.widths.now s.args.r.0 s.requires.1 s.requires.2 in
    let wide = widths-wide (reg_info_of s.args.t.now) s.requires.0 s.args.widths.now s.args.r.0 s.requires.1 s.requires.2 memory in
    record { same = λ e. next (λ _. rw n at (eqb-true width 1 e)) (λ o. absurd (true≢false (sym memory ∙ o))); other = λ e. wide (rw n at (eqb-false width 1 e)) }

pub bank_for_reg-b-requires : goal.bank_for_reg-b-requires
bank_for_reg-b-requires c =
    let s = c in
    reg_known (reg_info_of s.args.t.now) s.requires.0 s.args.r.0 s.requires.1

pub bounds-widths-at : goal.bounds-widths-at
bounds-widths-at c =
    let s = c in
    omega (arith, bank-low (reg_info_of s.args.t.now) s.requires.0 s.args.r.0 s.requires.1)

pub bounds-widths-at-then-widths-at-eq0 : goal.bounds-widths-at-then-widths-at-eq0
bounds-widths-at-then-widths-at-eq0 c =
    let s = c in
    omega (arith, bank-low (reg_info_of s.args.t.now) s.requires.0 s.args.r.0 s.requires.1)

pub returns-then-widths-at-eq0 : goal.returns-then-widths-at-eq0
returns-then-widths-at-eq0 c =
    let m = c in
    let s = m in
    let plain = sym m.is_memory_reg-memory.ensures ∙ m.if-memory.false in
    let b = c.from-at.ensures ∙ c.bank_for_reg-b.ensures in
    let n = m.num_reg_units-n.ensures in
    let first = widths-first (reg_info_of s.args.t.now) s.requires.0 s.args.widths.now s.args.r.0 s.requires.1 s.requires.2 plain (rw b at c.if-widths-at-eq0.true) in
    record { same = λ e. rw (b, n) first; other = λ e. absurd (true≢false e) }

pub bounds-widths-at-2 : goal.bounds-widths-at-2
bounds-widths-at-2 c =
    let s = c in
    omega (arith, bank-low (reg_info_of s.args.t.now) s.requires.0 s.args.r.0 s.requires.1)

pub returns : goal.returns
returns c =
    let m = c in
    let s = m in
    let plain = sym m.is_memory_reg-memory.ensures ∙ m.if-memory.false in
    let b = c.from-at.ensures ∙ c.bank_for_reg-b.ensures in
    let n = m.num_reg_units-n.ensures in
    let noted = get_or s.args.widths.now c.from-at.result 0 in
    let width = m.num_reg_units-n.result in
    let next = widths-next (reg_info_of s.args.t.now) s.requires.0 s.args.widths.now s.args.r.0 s.requires.1 s.requires.2 in
    let other = widths-other (reg_info_of s.args.t.now) s.requires.0 s.args.widths.now s.args.r.0 s.requires.1 s.requires.2 plain (rw b at c.if-widths-at-eq0.false) in
    record { same = λ e. next (λ o. absurd (true≢false (sym o ∙ plain))) (λ _. rw (b, n) at (eqb-true noted width e)); other = λ e. other (rw (b, n) at (eqb-false noted width e)) }
