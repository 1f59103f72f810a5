use native.Mathlib.Omega.{arith}
use mathlib.Core.Path.{◌≡◌, refl, sym, ◌∙◌}
use Rattle.carried.specs.Carried.{move_at}
use Rattle.closing.proofs.LettingGo.{row-skipped, undivertible, row-undiverted}
use Rattle.closing.proofs.undivert_row.Goals as goal

pub row_move-requires : goal.row_move-requires
row_move-requires c = let pre = c.requires in omega (arith, pre.5.within, pre.5.stands.room)

pub returns-then-row_move-m : goal.returns-then-row_move-m
returns-then-row_move-m c = λ e marks p n ok h. row-skipped _ _ _ e _ _ n p _ _ h (λ q. c.if-row_move-m.true (c.row_move.ensures ∙ q))

pub row_value-v-requires : goal.row_value-v-requires
row_value-v-requires c = let pre = c.requires in omega (arith, pre.5.within, pre.5.stands.room)

pub undivert-requires : goal.undivert-requires
undivert-requires c =
    let a = c.args in
    let pre = c.requires in
    let here : move_at a.c.now a.i ≡ a.m = sym c.row_move.ensures ∙ c.if-row_move-m.false in
    rw c.row_value-v.ensures (undivertible _ _ _ pre.0 pre.4 _ _ pre.3 pre.2 _ _ pre.5 here)

pub returns : goal.returns
returns c =
    let a = c.args in
    let here : move_at a.c.now a.i ≡ a.m = sym c.row_move.ensures ∙ c.if-row_move-m.false in
    λ e marks p n ok h. row-undiverted a.t.now a.f.now a.cache.now e ok a.m a.i n p _ _ h here _ _ _ _ refl (rw (← c.row_value-v.ensures) c.undivert.ensures)
