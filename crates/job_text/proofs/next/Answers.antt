use mathlib.Core.Path.{refl, ◌∙◌}
use Rattle.job_text.proofs.Standing.{refused-here, ends-here, ended-stands, ended-less, next-stands}
use Rattle.answer.proofs.Nexting.{next-refused, resolved}
use native.Mathlib.Omega.{arith}
use Rattle.job_text.proofs.next.Goals as goal

pub returns-then-left-eq0 : goal.returns-then-left-eq0
returns-then-left-eq0 c =
    let s = c in
    let p = s.args.p in
    let T = s.args.t.now in
    let F = s.args.f.now in
    let S = s.args.s.now in
    let C = s.args.cache.now in
    let O = s.args.out.now in
    let h = s.requires.0 in
    let e = s.requires.1 in
    let end = c.finish in
    record { stands = (ended-stands T F S C O p e _ h T F C end.new.out _ end.result (ends-here T F S C O p e (omega (arith, c.if-left-eq0.true))) end.ensures.0 end.ensures.1, end.ensures.0.kept, ended-less T F S C O p e _ h end.result end.ensures.0); anything = (tt, tt, tt, tt, tt, tt, tt, tt, tt, tt, tt) }

pub returns-in-Refused : goal.returns-in-Refused
returns-in-Refused c =
    let s = c in
    let p = s.args.p in
    let T = s.args.t.now in
    let F = s.args.f.now in
    let S = s.args.s.now in
    let C = s.args.cache.now in
    let O = s.args.out.now in
    let h = s.requires.0 in
    let e = s.requires.1 in
    let a = c.answer_patch in
    let end = c.refuse in
    let r = next-refused T F S p.at s.args.list.now c.told-list C a.new.list a.new.cache _ (rw c.in-Refused.is at a.ensures.step_at) in
    record { stands = (ended-stands T F S C O p e _ h T F a.new.cache end.new.out _ end.result (refused-here T F S C O p e _ (omega (arith, c.if-left-eq0.false)) r) end.ensures.0 end.ensures.1, end.ensures.0.kept, ended-less T F S C O p e _ h end.result end.ensures.0); anything = (tt, tt, tt, tt, tt, tt, tt, tt, tt, tt, tt) }

pub returns-in-Edits : goal.returns-in-Edits
returns-in-Edits c =
    let s = c in
    let p = s.args.p in
    let T = s.args.t.now in
    let F = s.args.f.now in
    let S = s.args.s.now in
    let C = s.args.cache.now in
    let O = s.args.out.now in
    let h = s.requires.0 in
    let e = s.requires.1 in
    let a = c.answer_patch in
    let put = c.put_patch-held in
    let len = c.told-list in
    let g = resolved T F S p.at s.args.list.now len C a.new.list a.new.cache _ _ _ (rw c.in-Edits.is at a.ensures.step_at) in
    record { stands = (next-stands T F S C O p e _ h s.args.list.now len a.new.list a.new.cache _ _ _ (omega (arith, c.if-left-eq0.false)) g _ put.result put.new.out put.ensures.1 (c.from-made.ensures ∙ c.made.ensures) put.ensures.0, refl, rw e (omega (arith, c.if-left-eq0.false))); anything = (tt, tt, tt, tt, tt, tt, tt, tt, tt, tt, tt) }
