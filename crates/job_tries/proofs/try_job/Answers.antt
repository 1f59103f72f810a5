-- `try_job` meets its contract: 2, the function, then both settings.
use borrow.Author.Rules.{rules}
use Rattle.job_tries.specs.Tries.{function_asked}
use Rattle.job_tries.proofs.Opened.{too_few, too_many, not_opened, known, opened}
use Rattle.job_tries.proofs.try_job.Goals as goal

pub returns-then-patches-lt1 : goal.returns-then-patches-lt1
returns-then-patches-lt1 c = let a = c.args in record { tried_by = too_few a.p a.s.now a.seed a.patches a.one.now a.two.now c.if-patches-lt1.true; anything = (tt, tt, tt, tt, tt, tt, tt, tt, tt, tt, tt, tt) }

pub returns-then-patches-gt1024 : goal.returns-then-patches-gt1024
returns-then-patches-gt1024 c = let a = c.args in record { tried_by = too_many a.p a.s.now a.seed a.patches a.one.now a.two.now c.if-patches-lt1.false c.if-patches-gt1024.true; anything = (tt, tt, tt, tt, tt, tt, tt, tt, tt, tt, tt, tt) }

pub try_both-requires : goal.try_both-requires
try_both-requires c =
    let a = c.args in
    let o = c.read_function in
    let k = known a.p (function_asked a.p a.s.now) o.new.t o.new.f (rw c.in-Yes.is at o.ensures.function_at) in
    (k.0, k.1, c.if-patches-gt1024.false)

pub returns-in-Refused : goal.returns-in-Refused
returns-in-Refused c =
    let a = c.args in
    let o = c.read_function in
    record { tried_by = not_opened a.p a.s.now a.seed a.patches a.one.now a.two.now _ o.new.t o.new.f c.if-patches-lt1.false c.if-patches-gt1024.false (rw c.in-Refused.is at o.ensures.function_at); anything = (tt, tt, tt, tt, tt, tt, tt, tt, tt, tt, tt, tt) }

pub returns-in-Yes : goal.returns-in-Yes
returns-in-Yes c =
    let a = c.args in
    let o = c.read_function in
    let b = c.try_both in
    record { tried_by = opened a.p a.s.now a.seed a.patches a.one.now a.two.now o.new.t o.new.f b.new.one b.new.two c.if-patches-lt1.false c.if-patches-gt1024.false (rw c.in-Yes.is at o.ensures.function_at) b.ensures.both; anything = (tt, tt, tt, tt, tt, tt, tt, tt, tt, tt, tt, tt) }
