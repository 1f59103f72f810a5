-- The texts of the writes joined are the job's text.
use Prim.Native.Nat.{ℕ, ◌+◌}
use mathlib.Core.Path.{◌≡◌, sym}
use mathlib.Core.List.{List, [], ◌∷◌}
use lib.ListN.{length, drop, take-append-drop}
use lib.Seq.{drop-drop, drop-length}
use Rattle.job_rules.specs.Job.{job}
use Rattle.answer.specs.Words.{job_text}
use Rattle.job_text.specs.Joined.{Made, Wrote, joined, WholeText}

from-there : (kept : ℕ) (s : List ℕ) (l : List Made) (written : ℕ) → Wrote kept s l written (length (job_text (job kept s))) → joined l ≡ drop written (job_text (job kept s))
unfolding joined
from-there kept s [] written h = rw h (sym (drop-length (job_text (job kept s))))
from-there kept s (x ∷ l) written h =
    let n : ℕ = x.at.held in
    rw (from-there kept s l (written + n) h.2, h.1.next, h.0, ← drop-drop n written (job_text (job kept s))) (take-append-drop n (drop written (job_text (job kept s))))

pub whole-text : WholeText
whole-text kept s writes h = from-there kept s writes 0 h
