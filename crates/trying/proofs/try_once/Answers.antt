-- `try_once` meets its contract: the patch drawn is resolved, and what the call gave is counted.
use Prim.Native.Nat.{◌*◌}
use mathlib.Core.Path.{◌∙◌}
use mathlib.Core.List.{[]}
use lib.ListN.{take}
use Rattle.reginfo.specs.Table.{reg_info_of}
use Rattle.function.specs.Table.{function_of}
use Rattle.trying.specs.Drawing.{draw_patch, patch_of}
use Rattle.trying.proofs.Trying.{patch-numbered, tested-call, once-tried}
use Rattle.trying.proofs.try_once.Goals as goal

pub count-requires : goal.count-requires
count-requires c =
    let s = c in
    let d = c.draw_patch-drawn in
    let r = c.resolve_patch-r in
    let n = patch-numbered s.args.t.now s.args.f.now s.args.seed s.args.numbers.now d.new.numbers d.result d.ensures in
    let w = tested-call s.args.t.now s.args.f.now (patch_of (draw_patch (reg_info_of s.args.t.now) (function_of s.args.f.now) s.args.seed)) []
    (take (d.result.count * 4) d.new.numbers) r.result s.args.list.now r.new.list s.args.cache.now r.new.cache r.ensures.resolves_patch n s.requires.0.list-long r.auto.list s.requires.0.ok in
    (s.requires.0.priced, r.auto.list ∙ s.requires.0.list-long, w.within, s.requires.1)

pub returns : goal.returns
returns c =
    let s = c in
    let d = c.draw_patch-drawn in
    let r = c.resolve_patch-r in
    let n = patch-numbered s.args.t.now s.args.f.now s.args.seed s.args.numbers.now d.new.numbers d.result d.ensures in
    let w = tested-call s.args.t.now s.args.f.now (patch_of (draw_patch (reg_info_of s.args.t.now) (function_of s.args.f.now) s.args.seed)) []
    (take (d.result.count * 4) d.new.numbers) r.result s.args.list.now r.new.list s.args.cache.now r.new.cache r.ensures.resolves_patch n s.requires.0.list-long r.auto.list s.requires.0.ok in record {
      once = once-tried s.args.t.now s.args.f.now s.args.p s.args.seed s.args.tally.now c.count.new.tally s.args.cache.now r.new.cache r.new.list d.result
          s.args.numbers.now d.new.numbers r.result c.count.result s.requires.0.priced d.ensures w c.count.ensures;
      anything = (tt, tt, tt, tt, tt, tt, tt, tt, tt, tt, tt);
    }
