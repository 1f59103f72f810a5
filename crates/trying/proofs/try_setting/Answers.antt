-- `try_setting` meets its contract.
use native.Mathlib.Omega.{arith}
use mathlib.Core.Path.{sym, ◌∙◌}
use Rattle.reginfo.specs.Table.{reg_info_of}
use Rattle.function.specs.Table.{function_of}
use Rattle.function.proofs.Laws.{few-values}
use Rattle.parallel_moves.proofs.Resolving.{fresh}
use Rattle.trying.proofs.Setting.{checked-at, room_at, untried, tried-out}
use Rattle.trying.proofs.try_setting.Goals as goal

pub set_kept-requires : goal.set_kept-requires
set_kept-requires c = let s = c in few-values (reg_info_of s.args.t.now) (function_of s.args.f.now) s.requires.0.function

pub returns-then-num_values-eq0 : goal.returns-then-num_values-eq0
returns-then-num_values-eq0 c =
    let s = c in
    let k = c.set_kept in
    record { setting_tried = untried s.args.t.now s.args.f.now k.new.f s.args.kept s.args.p s.args.seed s.args.count c.clear-2.new.tally s.requires.0 s.requires.1 k.ensures (sym c.num_values.ensures ∙ c.if-num_values-eq0.true) c.clear-2.ensures; anything = (tt, tt, tt, tt, tt, tt, tt, tt, tt, tt, tt, tt) }

pub try_patches-requires : goal.try_patches-requires
try_patches-requires c =
    let s = c in
    let k = c.set_kept in (
      record {
        checked = checked-at s.args.t.now s.args.f.now k.new.f s.args.kept s.requires.0 s.requires.1 k.ensures;
        some-values = omega (arith, c.num_values.ensures, c.if-num_values-eq0.false);
        ok = fresh k.new.f c.clear.new.cache c.clear.ensures;
        priced = s.requires.2;
        numbers-long = s.requires.4;
        list-long = s.requires.5;
      },
      room_at c.clear-2.new.tally s.args.count s.requires.3 c.clear-2.ensures,
    )

pub returns : goal.returns
returns c =
    let s = c in
    let k = c.set_kept in
    let o = c.try_patches in record {
      setting_tried = tried-out s.args.t.now s.args.f.now k.new.f s.args.kept s.args.p s.args.seed s.args.count c.clear.new.cache o.new.cache c.clear-2.new.tally o.new.tally c.count_evictions.new.tally
          s.requires.0 s.requires.1 k.ensures (omega (arith, c.num_values.ensures, c.if-num_values-eq0.false)) c.clear-2.ensures c.clear.ensures.empty o.ensures.many
          c.count_evictions.ensures.0 c.count_evictions.ensures.1;
      anything = (tt, tt, tt, tt, tt, tt, tt, tt, tt, tt, tt, tt);
    }
