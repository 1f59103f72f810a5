-- `last_clashes` meets its contract: a class without slots has a last register.
use mathlib.Core.Path.{sym, ◌∙◌}
use Rattle.reginfo.specs.Table.{reg_info_of}
use Rattle.reginfo.proofs.Accepted.{known-class, known-units, order-fits, ordered-fits, order-some, last-ordered}
use Rattle.entries.proofs.refusals.last_clashes.Goals as goal

pub class_includes_spillslots-requires : goal.class_includes_spillslots-requires
class_includes_spillslots-requires c = known-class (reg_info_of c.args.t.now) c.requires.0 c.args.c.0 c.requires.1

pub returns-then-class_includes_spillslots : goal.returns-then-class_includes_spillslots
returns-then-class_includes_spillslots c = rw (← c.class_includes_spillslots.ensures, c.if-class_includes_spillslots.true)

pub order_last-last-requires : goal.order_last-last-requires
order_last-last-requires c =
    let s = c in
    let T = reg_info_of s.args.t.now in
    let n = sym c.class_includes_spillslots.ensures ∙ c.if-class_includes_spillslots.false in
    (known-class T s.requires.0 s.args.c.0 s.requires.1, order-some T s.requires.0 s.args.c.0 s.requires.1 n, order-fits T s.requires.0 s.args.c.0 s.requires.1)

pub overlaps_reg-requires : goal.overlaps_reg-requires
overlaps_reg-requires c =
    let s = c in
    let T = reg_info_of s.args.t.now in
    let n = sym c.class_includes_spillslots.ensures ∙ c.if-class_includes_spillslots.false in
    (s.requires.2, rw c.order_last-last.ensures (known-units T s.requires.0 _ (ordered-fits T s.requires.0 s.args.c.0 s.requires.1 _ (last-ordered T s.requires.0 s.args.c.0 s.requires.1 n))))

pub returns : goal.returns
returns c =
    let s = c in
    let T = reg_info_of s.args.t.now in
    rw (← c.class_includes_spillslots.ensures, c.if-class_includes_spillslots.false, ← c.order_last-last.ensures) c.overlaps_reg.ensures.1
