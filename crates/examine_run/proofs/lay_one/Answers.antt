-- `lay_one` meets its contract: its content is written to its source.
use Prim.Native.Nat.{ℕ}
use mathlib.Core.Path.{◌≡◌, sym, ap, ap₂, ◌∙◌}
use mathlib.Core.List.{List}
use lib.ListN.{get_or}
use Rattle.entity.specs.Place.{Place, place_at}
use Rattle.reginfo.specs.Table.{reg_info_of}
use Rattle.function.specs.Table.{function_of}
use Rattle.rules.specs.Order.{no_move}
use Rattle.machine.specs.Machine.{write}
use Rattle.entries.specs.Table.{sorted_of}
use Rattle.examine_rules.specs.Examine.{generic_content}
use Rattle.cells.specs.Cells.{memory_of}
use Rattle.ties.proofs.Laws.{source_is, value-is}
use Rattle.examine_run.proofs.Laws.{value_there, source-celled, source-takes}
use Rattle.examine_run.proofs.lay_one.Goals as goal

pub content-requires : goal.content-requires
content-requires c = let s = c in (s.requires.0, s.requires.1, rw c.value_at-v.ensures (value_there s.args.t.now s.args.f.now s.requires.0 s.args.e.now s.requires.2 s.args.m s.requires.4))

pub write-requires : goal.write-requires
write-requires c = let s = c in let k = c.content.ensures in (s.requires.3, rw c.source_at-p.ensures (source-celled s.args.t.now s.args.f.now s.requires.0 s.args.e.now s.requires.2 s.args.m s.requires.4), k.2, rw (c.source_at-p.ensures, k.1, c.value_at-v.ensures) (source-takes s.args.t.now s.args.f.now s.requires.0 s.args.e.now s.requires.2 s.args.m s.requires.4))

pub returns : goal.returns
returns c = let s = c in let t = reg_info_of s.args.t.now in let f = function_of s.args.f.now in let e = s.args.e.now in let ms = (sorted_of e).moves in let k = c.content.ensures in let p : place_at c.source_at-p.result.0 ≡ (get_or ms s.args.m no_move).source = ap place_at c.source_at-p.ensures ∙ sym (source_is e s.args.m s.requires.4) in let v : c.value_at-v.result.0 ≡ (get_or ms s.args.m no_move).value = c.value_at-v.ensures ∙ sym (value-is e s.args.m s.requires.4) in (c.write.ensures.0 f ∙ ap₂ (λ (q : Place) (l : List ℕ). write t f q l (memory_of s.args.c.now)) p (k.0 ∙ ap (generic_content t f ms) v), c.write.ensures.1, tt)
