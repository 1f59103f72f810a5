-- `class_has_reg` meets its contract: the index points at the only place where the register can stand.
use Prim.Native.Nat.{ℕ}
use mathlib.Core.Path.{sym, ap, ◌∙◌}
use native.Mathlib.Omega.{arith}
use borrow.Author.Tests.{lt-ltb, le-ltb}
use lib.ListN.{length}
use lib.Dec.{eqb}
use Rattle.reginfo.specs.RegInfo.{class_members}
use Rattle.reginfo.specs.Table.{reg_info_of}
use Rattle.reginfo.proofs.Laws.{member-at}
use Rattle.reginfo.proofs.class_has_reg.Goals as goal

pub returns-then-p-num_members : goal.returns-then-p-num_members
returns-then-p-num_members c =
    let n = length (class_members (reg_info_of c.args.t.now) c.args.c.0) in
    c.eq.ensures ∙ ap (λ (m : ℕ). eqb m c.args.r.0) c.class_member-m.ensures ∙ sym (member-at c.args.t.now c.args.c.0 c.args.r.0 c.from-p.result c.requires.0 (c.from-p.ensures ∙ rw (c.from-i.ensures, c.from-j.ensures)) ∙ rw (lt-ltb c.from-p.result n (omega arith)))

pub returns : goal.returns
returns c =
    let n = length (class_members (reg_info_of c.args.t.now) c.args.c.0) in
    sym (member-at c.args.t.now c.args.c.0 c.args.r.0 c.from-p.result c.requires.0 (c.from-p.ensures ∙ rw (c.from-i.ensures, c.from-j.ensures)) ∙ rw (le-ltb c.from-p.result n (omega arith)))
