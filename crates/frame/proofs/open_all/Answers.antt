-- The first formula stands beside the opening of the second.
use Rattle.frame.proofs.Running.{frame-open, opens, both-open}
use Rattle.frame.proofs.open_all.Goals as goal

pub open_if_there-requires : goal.open_if_there-requires
open_if_there-requires c =
    let a = c.args in
    let o = c.open_shares in
    let b = frame-open a.s.now o.new.frame o.result _ c.in-At.is o.ensures in
    b.ok

pub open_if_there-requires-in-At-open_if_there : goal.open_if_there-requires-in-At-open_if_there
open_if_there-requires-in-At-open_if_there c =
    let a = c.args in
    let o = c.open_shares in
    let b = frame-open a.s.now o.new.frame o.result _ c.in-At.is o.ensures in
    let x = c.open_if_there in
    let p = opens o.new.frame x.new.frame 0 a.s.now _ _ x.new.t x.new.f a.cache1.now x.new.cache b.ok b.within x.result c.in-At-open_if_there.is x.ensures in
    p.fine

pub returns-in-At-open_if_there : goal.returns-in-At-open_if_there
returns-in-At-open_if_there c =
    let a = c.args in
    let o = c.open_shares in
    let b = frame-open a.s.now o.new.frame o.result _ c.in-At.is o.ensures in
    let x = c.open_if_there in
    let p = opens o.new.frame x.new.frame 0 a.s.now _ _ x.new.t x.new.f a.cache1.now x.new.cache b.ok b.within x.result c.in-At-open_if_there.is x.ensures in
    let y = c.open_if_there-in-At-open_if_there in
    both-open o.new.frame x.new.frame y.new.frame a.s.now _ _ x.new.t x.new.f a.cache1.now x.new.cache y.new.t y.new.f a.cache2.now y.new.cache b p y.result y.ensures
