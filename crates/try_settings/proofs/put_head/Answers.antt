-- `put_head` meets its contract: the words one after the other.
use native.Mathlib.Omega.{arith}
use borrow.Author.Rules.{rules}
use Rattle.print.proofs.Lengths.{number_short}
use Rattle.print.proofs.Putting.{then-put}
use Rattle.print.proofs.Putting as putting
use Rattle.try_settings.proofs.put_head.Goals as goal

pub put_number-b-requires : goal.put_number-b-requires
put_number-b-requires c = let s = c in let a = c.put_text-a.ensures in record { fits = omega (arith, s.requires, a.next, putting.same_length a, number_short s.args.seed (omega arith)) }

pub put_text-c-requires : goal.put_text-c-requires
put_text-c-requires c =
    let s = c in
    let a = c.put_text-a.ensures in
    let b = c.put_number-b.ensures in
    record { fits = omega (arith, s.requires, a.next, putting.same_length a, b.next, putting.same_length b, number_short s.args.seed (omega arith)) }

pub put_number-d-requires : goal.put_number-d-requires
put_number-d-requires c =
    let s = c in
    let a = c.put_text-a.ensures in
    let b = c.put_number-b.ensures in
    let d = c.put_text-c.ensures in
    record { fits = omega (arith, s.requires, a.next, putting.same_length a, b.next, putting.same_length b, d.next, putting.same_length d, number_short s.args.seed (omega arith), number_short s.args.patches (omega arith)) }

pub put_text-requires : goal.put_text-requires
put_text-requires c =
    let s = c in
    let a = c.put_text-a.ensures in
    let b = c.put_number-b.ensures in
    let d = c.put_text-c.ensures in
    let e = c.put_number-d.ensures in
    record { fits = omega (arith, s.requires, a.next, putting.same_length a, b.next, putting.same_length b, d.next, putting.same_length d, e.next, putting.same_length e, number_short s.args.seed (omega arith), number_short s.args.patches (omega arith)) }

pub returns : goal.returns
returns c =
    let s = c in
    let a = c.put_text-a.ensures in
    let b = c.put_number-b.ensures in
    let d = c.put_text-c.ensures in
    let e = c.put_number-d.ensures in
    let f = c.put_text.ensures in
    (then-put a (then-put b (then-put d (then-put e f))), omega (arith, a.next, b.next, d.next, e.next, f.next, number_short s.args.seed (omega arith), number_short s.args.patches (omega arith)))
