-- `order_last` meets its contract: the last stands one before the length.
use Prim.Native.Nat.{ℕ, ◌-◌}
use mathlib.Core.Path.{sym, ap, ◌∙◌}
use lib.ListN.{get_or}
use Rattle.entity.proofs.Laws.{last-get_d}
use Rattle.reginfo.specs.RegInfo.{allocation_order}
use Rattle.reginfo.specs.Table.{reg_info_of}
use Rattle.reginfo.proofs.order_last.Goals as goal

pub returns : goal.returns
returns c =
    let l = allocation_order (reg_info_of c.args.t.now) c.args.c.0 in
    c.order_at.ensures ∙ ap (λ (n : ℕ). get_or l (n - 1) 0) c.order_len-n.ensures ∙ sym (last-get_d 0 l c.requires.1)
