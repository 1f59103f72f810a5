-- `unit_clashes` meets its contract: a cell of another patch tells nothing.
use Prim.Native.Nat.{◌+◌}
use mathlib.Core.Path.{◌≡◌, sym, ◌∙◌}
use native.Mathlib.Omega.{arith}
use lib.ListN.{get_or}
use Rattle.reginfo.specs.Table.{reg_info_of}
use Rattle.entries.proofs.Sources.{older}
use Rattle.entries.proofs.index.unit_clashes.Goals as goal

pub returns-then-c-stamp : goal.returns-then-c-stamp
returns-then-c-stamp c =
    let s = c in
    let t = reg_info_of s.args.t.now in
    let e = s.args.e.now in
    let z : c.from-c.result ≡ get_or e (1028 + s.args.u.0) 0 = c.from-c.ensures ∙ rw c.from.ensures in
    sym (older t e s.args.r.0 s.args.u.0 s.requires.1 s.requires.0 (λ h. c.if-c-stamp.true (omega arith)))
