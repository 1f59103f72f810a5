-- A class's members are cells of the table.
use native.Mathlib.Omega.{arith}
use Rattle.reginfo.specs.RegInfo.{class_members}
use Rattle.reginfo.specs.Table.{reg_info_of}
use Rattle.target_limits.proofs.Laws.{members-cells}
use Rattle.target_limits.proofs.Limits.{list-few, list-known, class-known, members-listed}
use Rattle.target_rules.proofs.members_foreign.Goals as goal

pub bank_for_class-b-requires : goal.bank_for_class-b-requires
bank_for_class-b-requires c = class-known (reg_info_of c.args.t.now) c.requires.0 c.args.c.0 c.requires.1

pub members_from-at-requires : goal.members_from-at-requires
members_from-at-requires c = omega (arith, class-known (reg_info_of c.args.t.now) c.requires.0 c.args.c.0 c.requires.1)

pub num_members-n-requires : goal.num_members-n-requires
num_members-n-requires c =
    let start = c in
    class-known (reg_info_of start.args.t.now) start.requires.0 start.args.c.0 start.requires.1

pub regs_foreign-requires : goal.regs_foreign-requires
regs_foreign-requires c =
    let start = c in (
      start.requires.0,
      omega (arith, list-few (reg_info_of start.args.t.now) (class_members (reg_info_of start.args.t.now) start.args.c.0) (members-listed (reg_info_of start.args.t.now) start.requires.0 start.args.c.0 start.requires.1), class-known (reg_info_of start.args.t.now) start.requires.0 start.args.c.0 start.requires.1),
      rw (c.members_from-at.ensures, c.num_members-n.ensures, ← members-cells start.args.t.now start.args.c.0 start.requires.1) (list-known (reg_info_of start.args.t.now) (class_members (reg_info_of start.args.t.now) start.args.c.0) (members-listed (reg_info_of start.args.t.now) start.requires.0 start.args.c.0 start.requires.1)),
    )

pub returns : goal.returns
returns c =
    let start = c in
    rw (c.bank_for_class-b.ensures, c.members_from-at.ensures, c.num_members-n.ensures, ← members-cells start.args.t.now start.args.c.0 start.requires.1) at c.regs_foreign.ensures
