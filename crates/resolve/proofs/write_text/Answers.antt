use Rattle.std.proofs.lemmas.Result.{err_from_is_err_and}
use Rattle.resolve.proofs.Writing.{part, less, not_yet, by-now, part-all, then-piece, then-some}
use Rattle.std.specs.Io.KnownBytes.{Appends}
use Rattle.std.proofs.KnownBytes.{Appends-nil}
use Rattle.job_rules.specs.Job.{job}
use Rattle.answer.specs.Words.{job_text}
use Rattle.job_text.proofs.Standing.{same-setting, piece, written_stands, all-written}
use Rattle.job_text.specs.Standing.{written_out, to_go, Stands}
use Rattle.job_text.specs.declared.Progress.{Progress}
use lib.ListN.{length, take, drop}
use mathlib.Core.Path.{◌≡◌, refl, sym, ap, subst, ◌∙◌}
use Prim.Native.Nat.{ℕ, ◌+◌, ◌-◌, ◌*◌}
use borrow.Author.Rules.{rules}
use native.Mathlib.Omega.{arith}
use Rattle.resolve.proofs.write_text.Goals as goal

pub loop-p-init : goal.loop-p-init
loop-p-init g c =
    let a = c.args in
    let none : a.from.written - a.from.written ≡ 0 = omega arith in (
      c.requires.0,
      c.requires.1,
      omega arith,
      subst (Appends _ _) (sym (ap (λ (n : ℕ). take n (drop a.from.written (job_text (job a.kept_evictions a.s.now)))) none)) (Appends-nil _),
    )

pub next-p-requires : goal.next-p-requires
next-p-requires g c =
    let l = c.loop-p in
    let a = c.args in
    let e = not_yet _ c.loop-p-test.true in
    (same-setting a.t.now a.f.now a.s.now l.cache l.out l.p (sym (l.invariant.0.going e).setting) l.invariant.0, e, omega (arith, l.invariant.1, c.if-p-le65536.true))

pub loop-p-smaller-then-p-le65536 : goal.loop-p-smaller-then-p-le65536
loop-p-smaller-then-p-le65536 g c =
    let l = c.loop-p in
    let r = c.next-p in
    less (to_go r.result) (to_go l.p) r.result.held l.p.held r.ensures.stands.2 (omega (arith, r.ensures.stands.0.room, r.auto.out, l.invariant.1))

pub loop-p-preserved-then-p-le65536 : goal.loop-p-preserved-then-p-le65536
loop-p-preserved-then-p-le65536 g c =
    let l = c.loop-p in
    let a = c.args in
    let r = c.next-p in
    let e = not_yet _ c.loop-p-test.true in (
      same-setting a.t.now a.f.now a.s.now r.new.cache r.new.out r.result (l.invariant.0.going e).setting r.ensures.stands.0,
      r.auto.out ∙ l.invariant.1,
      omega (arith, r.ensures.stands.1, l.invariant.2),
      rw r.ensures.stands.1 l.invariant.3,
    )

pub write_piece-requires : goal.write_piece-requires
write_piece-requires g c =
    let a = c.args in
    let l = c.loop-p in
    piece a.kept_evictions a.t.now a.f.now a.s.now l.cache l.out l.p l.invariant.0

pub returns-in_err-p : goal.returns-in_err-p
returns-in_err-p g c =
    let a = c.args in
    let l = c.loop-p in
    let next = piece a.kept_evictions a.t.now a.f.now a.s.now l.cache l.out l.p l.invariant.0 in
    let r = err_from_is_err_and c.from_residual.result c.from_residual.ensures.1 in
    record {
      all_written = rw r.1 tt;
      written = rw r.1 (then-some _ _ _ a.from.written l.p.written l.p.held (job_text (job a.kept_evictions a.s.now)) l.out l.invariant.2 next.within next.room next.next l.invariant.3
          (rw c.in_err-p.was at c.write_piece.ensures.written));
      anything = (tt, tt, tt, tt, tt, tt, tt, tt, tt, tt, tt, tt, tt);
    }

pub loop-p-smaller : goal.loop-p-smaller
loop-p-smaller g c =
    let e = rw c.in_ok-p.was at c.write_piece.ensures.emptied in
    rw e (omega (arith, c.if-p-le65536.false))

pub loop-p-preserved : goal.loop-p-preserved
loop-p-preserved g c =
    let a = c.args in
    let l = c.loop-p in
    let e = rw c.in_ok-p.was at c.write_piece.ensures.emptied in (
      rw e (written_stands a.kept_evictions a.t.now a.f.now a.s.now l.cache l.out l.p l.invariant.0),
      l.invariant.1,
      rw e (omega (arith, l.invariant.2)),
      rw e (then-piece _ _ _ a.from.written l.p.written l.p.held (job_text (job a.kept_evictions a.s.now)) l.out l.invariant.2
          (piece a.kept_evictions a.t.now a.f.now a.s.now l.cache l.out l.p l.invariant.0).next l.invariant.3 (rw c.in_ok-p.was at c.write_piece.ensures.written)),
    )

pub write_piece-requires-2 : goal.write_piece-requires-2
write_piece-requires-2 g c =
    let a = c.args in
    let l = c.loop-p in
    piece a.kept_evictions a.t.now a.f.now a.s.now l.cache l.out l.p l.invariant.0

pub returns : goal.returns
returns g c =
    let a = c.args in
    let l = c.loop-p in
    let e = rw c.in_ok-q.was at c.write_piece-2.ensures.emptied in
    let next = piece a.kept_evictions a.t.now a.f.now a.s.now l.cache l.out l.p l.invariant.0 in
    let full = all-written a.kept_evictions a.t.now a.f.now a.s.now l.cache l.out (written_out l.p) (written_stands a.kept_evictions a.t.now a.f.now a.s.now l.cache l.out l.p l.invariant.0)
    (by-now _ c.loop-p-test.false) refl in
    record {
      all_written = ap (λ (p : Progress). p.written) e ∙ full;
      written = subst (Appends _ _) (part-all a.from.written (l.p.written + l.p.held) (job_text (job a.kept_evictions a.s.now)) full)
          (then-piece _ _ _ a.from.written l.p.written l.p.held (job_text (job a.kept_evictions a.s.now)) l.out l.invariant.2 next.next l.invariant.3
          (rw c.in_ok-q.was at c.write_piece-2.ensures.written));
      anything = (tt, tt, tt, tt, tt, tt, tt, tt, tt, tt, tt, tt, tt);
    }

pub returns-in_err-q : goal.returns-in_err-q
returns-in_err-q g c =
    let a = c.args in
    let l = c.loop-p in
    let next = piece a.kept_evictions a.t.now a.f.now a.s.now l.cache l.out l.p l.invariant.0 in
    let r = err_from_is_err_and c.from_residual-in_err-q.result c.from_residual-in_err-q.ensures.1 in
    record {
      all_written = rw r.1 tt;
      written = rw r.1 (then-some _ _ _ a.from.written l.p.written l.p.held (job_text (job a.kept_evictions a.s.now)) l.out l.invariant.2 next.within next.room next.next l.invariant.3
          (rw c.in_err-q.was at c.write_piece-2.ensures.written));
      anything = (tt, tt, tt, tt, tt, tt, tt, tt, tt, tt, tt, tt, tt);
    }
