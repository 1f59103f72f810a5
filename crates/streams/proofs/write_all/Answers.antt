-- What a write takes follows what was written before.
use Rattle.std.proofs.Common.{◌≡◌, ◌-◌, ◌++◌, rules, length, take, drop, sym, ap, ◌∙◌, subst}
use Rattle.std.proofs.lemmas.List.{take_rest}
use Rattle.std.specs.Io.KnownBytes.{Appends}
use Rattle.std.proofs.KnownBytes.{Appends-trans}
use lib.Seq.{take-add}
use Rattle.streams.proofs.write_all.Goals as goal

pub loop-done-preserved-in-Ok : goal.loop-done-preserved-in-Ok
loop-done-preserved-in-Ok g c =
    let l = c.loop-done in
    let b = c.args.buf.now in
    let n = c.in-Ok.n in
    let part : take n (take (length b - l.done) (drop l.done b)) ≡ take n (drop l.done b) = ap (take n) (take_rest b l.done) in
    (search rules, subst (Appends _ _) (ap (λ r. take l.done b ++ r) part ∙ sym (take-add l.done n b)) (Appends-trans _ _ _ _ _ l.invariant.1 c.in-Ok.ensures.bytes))
