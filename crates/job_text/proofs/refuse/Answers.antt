use Rattle.job_text.proofs.Standing.{one-refused}
use Rattle.answer_text.specs.Lines.{refusal_text}
use Rattle.print.specs.Put.{Put}
use Rattle.print.specs.Text.{refused_line}
use mathlib.Core.List.{List}
use mathlib.Core.Path.{◌≡◌, subst}
use Prim.Native.Nat.{ℕ}
use Rattle.print.proofs.Lengths.{refused-short}
use native.Mathlib.Omega.{arith}
use Rattle.job_text.proofs.refuse.Goals as goal

pub put_refused-requires : goal.put_refused-requires
put_refused-requires c = record { fits = omega (arith, refused-short c.from.result (omega (arith, c.from.ensures)), c.requires) }

pub returns : goal.returns
returns c =
    let s = c in
    let put = c.put_refused in
    let x = c.end-2.ensures.0 in
    let n : c.from.result ≡ s.args.number = c.from.ensures in
    let e : refused_line c.from.result ≡ refusal_text s.args.number = rw n (one-refused s.args.number (λ z. omega (arith, c.if-number-eq0.false))) in
    (record { over = x.over; kept = x.kept; short = omega (arith, c.end-2.ensures.1, put.ensures.next, refused-short c.from.result (omega (arith, c.from.ensures))) }, rw c.end-2.ensures.1 (subst (λ (l : List ℕ). Put s.args.out.now put.new.out s.args.p.held l put.result) e put.ensures))
