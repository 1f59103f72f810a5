use Rattle.resolve.proofs.Writing.{part}
use Rattle.std.specs.Io.KnownBytes.{Appends}
use Rattle.job_rules.specs.Job.{job}
use Rattle.answer.specs.Words.{job_text}
use Prim.Native.Nat.{◌≤◌}
use Rattle.job_text.proofs.Standing.{same-setting, piece, written_stands, all-written}
use Rattle.job_text.specs.Standing.{written_out, to_go, Stands}
use Rattle.job_text.specs.declared.Progress.{Progress}
use lib.ListN.{length}
use mathlib.Core.Path.{◌≡◌, refl, sym, ap, ◌∙◌}
use Prim.Native.Nat.{◌+◌, ◌*◌}
use borrow.Author.Rules.{rules}
use native.Mathlib.Omega.{arith}
use Rattle.resolve.proofs.write_text.Given as goal

abbrev pub invariant-loop-p : goal.invariant-loop-p
invariant-loop-p g l =
    Stands l.kept_evictions l.t l.f l.s l.cache l.out l.p × (length l.out ≡ 86016) × (l.fn.from.written ≤ l.p.written)
    × Appends (g.W.Write.contents l.initial.to) (g.W.Write.contents l.to) (part l.fn.from.written l.p.written (job_text (job l.kept_evictions l.s)))

abbrev pub decreases-loop-p : goal.decreases-loop-p
decreases-loop-p g l =
    to_go l.p * 86017 + l.p.held
