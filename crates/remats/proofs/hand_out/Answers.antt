use Prim.Native.Nat.{ℕ, suc, ◌+◌, ◌-◌}
use mathlib.Core.Path.{◌≡◌, sym, ap, ◌∙◌}
use mathlib.Core.List.{◌++◌, ◌∷◌, map}
use native.Mathlib.Omega.{arith}
use lib.ListN.{get_or, take, drop, length-set, take-append-drop}
use Rattle.rules.specs.Order.{no_remat}
use Rattle.rules.specs.Edit.{Rematerialize}
use Rattle.edit.specs.Word.{word_of}
use Rattle.visits.specs.Marks.{remats_of}
use Rattle.remats.specs.Remats.{last_first}
use Rattle.remats.proofs.Known.{read_fits}
use Rattle.remats.proofs.Handing.{handed-on, last_step}
use Rattle.remats.proofs.hand_out.Goals as goal

pub remat_word-requires : goal.remat_word-requires
remat_word-requires c =
    let s = c in
    let fits = s.requires.0.fits (c.num_remats-n.result - 1 - c.loop-at.at) (omega (arith, c.num_remats-n.ensures)) in
    record { to-small = (read_fits _ _ _ c.remat_dest-to.ensures fits).small; from-small = omega arith; value-small = omega (arith, c.remat_value-v.ensures, fits.value) }

pub loop-at-preserved : goal.loop-at-preserved
loop-at-preserved c =
    let s = c in
    let l = c.loop-at in
    let rs = remats_of s.args.e.now in
    let n = c.num_remats-n.result in
    let m = n - 1 - l.at in
    let up : n - l.at ≡ suc m = omega arith in
    let down : n - (l.at + 1) ≡ m = omega arith in
    let word : c.remat_word.result ≡ word_of (Rematerialize (get_or rs m no_remat).dest (get_or rs m no_remat).value) = rw (c.remat_word.ensures, c.remat_dest-to.ensures, c.remat_value-v.ensures) in
    let words : map word_of (last_first rs (n - l.at)) ≡ c.remat_word.result ∷ map word_of (last_first rs m) = ap (λ (k : ℕ). map word_of (last_first rs k)) up ∙ ap (map word_of) (last_step rs m) ∙ ap (λ (w : ℕ). w ∷ map word_of (last_first rs m)) (sym word) in
    (l.invariant.0 ∙ rw (words, down) (handed-on c.remat_word.result (map word_of (last_first rs m)) l.list n l.at (omega arith) (omega (arith, c.num_remats-n.ensures, l.invariant.1, s.requires.1))), simp length-set l.invariant.1)

pub returns : goal.returns
unfolding last_first
returns c =
    let l = c.loop-at in
    let n = c.num_remats-n in
    let rs = remats_of c.args.e.now in
    let z : n.result - l.at ≡ 0 = omega arith in
    let full : l.at ≡ n.result = omega arith in
    (n.ensures, rw (← n.ensures) (sym (l.invariant.0 ∙ ap (λ (m : ℕ). take l.at l.list ++ (map word_of (last_first rs m) ++ drop n.result l.list)) z ∙ rw full (take-append-drop n.result l.list))))
