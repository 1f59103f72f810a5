use Prim.Native.Nat.{ℕ, ◌+◌, ◌-◌, ◌<◌}
use mathlib.Core.Path.{◌≡◌, sym, ap, ◌∙◌}
use native.Mathlib.Omega.{arith}
use lib.ListN.{length, get_or, drop}
use lib.ListN.{length-set}
use Rattle.rules.specs.Edit.{updated}
use Rattle.entity.proofs.Laws.{has_get_d}
use Rattle.reginfo.specs.RegInfo.{reg_units}
use Rattle.reginfo.specs.Table.{reg_info_of}
use Rattle.machine.specs.Machine.{Memory, put}
use Rattle.cells.specs.Cells.{memory_of, words_in}
use Rattle.cells.proofs.Laws.{mem, word-put, word-short, words-length, words-at, put_step, put-none}
use Rattle.cells.proofs.set_units.Goals as goal

pub loop-j-init : goal.loop-j-init
loop-j-init c = let s = c in let us = reg_units (reg_info_of s.args.t.now) s.args.r.0 in (ap (λ (w : ℕ → ℕ). mem w (memory_of s.args.c.now).lists) (sym (put-none us (words_in s.args.b.now) (memory_of s.args.c.now).word c.from-j.result (omega (arith, c.from-j.ensures, s.requires.2)))), s.requires.0, c.told-c, omega (arith, c.from-j.ensures, s.requires.2))

pub bounds-c-from : goal.bounds-c-from
bounds-c-from c = let s = c in let l = c.loop-j in let us = reg_units (reg_info_of s.args.t.now) s.args.r.0 in omega (arith, c.from.ensures, c.reg_unit-u.ensures, s.requires.1.low (get_or us (l.j - 1) 0) (has_get_d us (l.j - 1) (omega (arith, l.invariant.3, c.loop-j-test.true))))

pub loop-j-preserved : goal.loop-j-preserved
loop-j-preserved c = let s = c in let l = c.loop-j in let us = reg_units (reg_info_of s.args.t.now) s.args.r.0 in let b = s.args.b.now in let w = (memory_of s.args.c.now).word in let j = l.j - 1 in let h : j < length us = omega (arith, l.invariant.3, c.loop-j-test.true) in let u : c.from.result ≡ get_or us j 0 = c.from.ensures ∙ c.reg_unit-u.ensures in let low : get_or us j 0 < 512 = s.requires.1.low (get_or us j 0) (has_get_d us j h) in rw u (word-put l.c (get_or us j 0) (get_or b (1 + j) 0) l.invariant.2 low ∙ ap (λ (z : Memory). mem (updated (get_or us j 0) (get_or b (1 + j) 0) z.word) z.lists) l.invariant.0 ∙ ap (λ (z : ℕ → ℕ). mem z (memory_of s.args.c.now).lists) (ap (λ (n : ℕ). updated (get_or us j 0) (get_or b (1 + j) 0) (put (drop n us) (drop n (words_in b)) w)) (let z : l.j ≡ j + 1 = omega (arith, c.loop-j-test.true) in z) ∙ ap (λ (x : ℕ). updated (get_or us j 0) x (put (drop (j + 1) us) (drop (j + 1) (words_in b)) w)) (sym (words-at b j (omega (arith, s.requires.2)))) ∙ put_step us (words_in b) w j h (omega (arith, words-length b, s.requires.2))), word-short l.c (get_or us j 0) (get_or b (1 + j) 0) l.invariant.2 low l.invariant.1, length-set l.c _ _ ∙ l.invariant.2, omega arith)
