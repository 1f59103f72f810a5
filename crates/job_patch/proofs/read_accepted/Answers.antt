-- `read_accepted` meets its contract: a patch that is read has the tests of a call before it is resolved.
use Rattle.job_patch.proofs.Accepted.{unread, held, turned-away, passed}
use Rattle.job_patch.proofs.read_accepted.Goals as goal

pub refusal-requires : goal.refusal-requires
refusal-requires c =
    let pre = c.requires in
    let args = c.args in
    let read-patch = c.read_patch in
    (pre, held args.t.now args.f.now args.s.now read-patch.new.free read-patch.new.e read-patch.new.w args.at read-patch.result read-patch.ensures _ c.in-At.is)

pub returns-in-Refused : goal.returns-in-Refused
returns-in-Refused c =
    let args = c.args in
    let read-patch = c.read_patch in
    unread args.t.now args.f.now args.s.now read-patch.new.free read-patch.new.e read-patch.new.w args.at read-patch.result read-patch.ensures _ c.in-Refused.is

pub returns-in-Refused-refusal : goal.returns-in-Refused-refusal
returns-in-Refused-refusal c =
    let args = c.args in
    let read-patch = c.read_patch in
    let refusal = c.refusal in
    turned-away args.t.now args.f.now args.s.now read-patch.new.free read-patch.new.e read-patch.new.w args.at read-patch.result read-patch.ensures _ refusal.result _ c.in-At.is refusal.ensures c.in-Refused-refusal.is

pub returns-in-Yes : goal.returns-in-Yes
returns-in-Yes c =
    let args = c.args in
    let read-patch = c.read_patch in
    let refusal = c.refusal in
    passed args.t.now args.f.now args.s.now read-patch.new.free read-patch.new.e read-patch.new.w args.at read-patch.result read-patch.ensures _ refusal.result c.in-At.is refusal.ensures c.in-Yes.is
